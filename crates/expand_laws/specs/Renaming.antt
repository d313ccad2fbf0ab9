-- What it is for two units to be the same up to a renaming of their variables. This much is left free: the variables' numbers, the order
-- of a form's nodes, the places of names, strings and pairs, and such of them as nothing names.
use Rattle.std.specs.Prelude.{◌≡◌, ◌⊎◌, ℕ, ℤ, Bool, false, List, [], ◌∷◌, map, slice_get, Contains, Some}
use Rattle.std.specs.List.{AllZip}
use Rattle.t_base.specs.declared.basics.Name.{Name}
use Rattle.t_base.specs.declared.basics.Span.{Span}
use Rattle.t_base.specs.declared.basics.Var.{Var}
use Rattle.t_base.specs.declared.shared_parts.Const.{Const}
use Rattle.t_base.specs.declared.shared_parts.Const.TheVariants as Constant
use Rattle.t_base.specs.declared.shared_parts.Global1.{Global1}
use Rattle.t_base.specs.declared.shared_parts.OpInfo.{OpInfo}
use Rattle.t_base.specs.declared.shared_parts.Shared.{Shared}
use Rattle.t_core.specs.declared.forms.Core.{Core}
use Rattle.t_core.specs.declared.forms.Core.TheVariants as Node
use Rattle.t_core.specs.declared.forms.Form.{Form}
use Rattle.t_core.specs.declared.forms.UnitCore.{UnitCore}
use Rattle.t_core.specs.Nodes.{Part, parts_of}
use Rattle.t_core.specs.Whole.{binders}
use Rattle.expansion.specs.Meaning.{Nodes}

-- ---- renamings

-- a variable with the one that stands for it in the other unit
abbrev pub Renaming : Type 0
Renaming = List (Var × Var)

abbrev pub Renames : Renaming → Var → Var → Type 0
Renames renaming v w = Contains renaming (v, w)

-- Each of these variables has one of the others, each of which is had by one of these.
pub record IsOneToOne (renaming : Renaming) (vars others : List Var) : Type 0 where
  pub within : (v w : Var) → Renames renaming v w → Contains vars v × Contains others w
  pub each : (v : Var) → Contains vars v → (w : Var) × Renames renaming v w
  pub every : (w : Var) → Contains others w → (v : Var) × Renames renaming v w
  pub one : (v w x : Var) → Renames renaming v w → Renames renaming v x → w ≡ x
  pub apart : (v w x : Var) → Renames renaming v x → Renames renaming w x → v ≡ w

-- ---- constants

-- the same datum: symbols by their texts, strings by their bytes, and pairs by their parts
pub data IsSameConst (shared other : Shared) : Const → Const → Type 0 where
  fix : (z : ℤ) → IsSameConst shared other (Constant.Fix z) (Constant.Fix z)
  char : (b : ℕ) → IsSameConst shared other (Constant.Char b) (Constant.Char b)
  nil : IsSameConst shared other Constant.Nil Constant.Nil
  truth : IsSameConst shared other Constant.True Constant.True
  symbol : (m n : Name) (text : List ℕ) → slice_get shared.names m.0 ≡ Some text → slice_get other.names n.0 ≡ Some text
      → IsSameConst shared other (Constant.Sym m) (Constant.Sym n)
  string : (j k : ℕ) (bytes : List ℕ) → slice_get shared.strings.items j ≡ Some bytes → slice_get other.strings.items k ≡ Some bytes
      → IsSameConst shared other (Constant.Str j) (Constant.Str k)
  pair : (j k : ℕ) (p q : Const × Const) → slice_get shared.pairs.items j ≡ Some p → slice_get other.pairs.items k ≡ Some q
      → IsSameConst shared other p.0 q.0 → IsSameConst shared other p.1 q.1 → IsSameConst shared other (Constant.Pair j) (Constant.Pair k)

-- ---- nodes

-- nodes of one kind, with the same in them but for their parts and the variables that they bind, where variables are related
abbrev pub IsSameNode : Shared → Shared → (Var → Var → Type 0) → Core → Core → Type 0
IsSameNode shared other related (Node.Const c) (Node.Const d) = IsSameConst shared other c d
IsSameNode shared other related (Node.Local v) (Node.Local w) = related v w
IsSameNode shared other related (Node.Global g) (Node.Global h) = g ≡ h
IsSameNode shared other related (Node.Builtin p) (Node.Builtin q) = p ≡ q
IsSameNode shared other related (Node.Op o) (Node.Op p) = o ≡ p
IsSameNode shared other related (Node.Lambda params body) (Node.Lambda others place) = Unit {0}
IsSameNode shared other related (Node.If test a b) (Node.If c d e) = Unit {0}
IsSameNode shared other related (Node.Block items) (Node.Block others) = Unit {0}
IsSameNode shared other related (Node.Let vars values body) (Node.Let others places place) = Unit {0}
IsSameNode shared other related (Node.Labels vars lambdas body) (Node.Labels others places place) = Unit {0}
IsSameNode shared other related (Node.SetLocal v value) (Node.SetLocal w place) = related v w
IsSameNode shared other related (Node.SetGlobal g value) (Node.SetGlobal h place) = g ≡ h
IsSameNode shared other related (Node.Catch v body) (Node.Catch w place) = Unit {0}
IsSameNode shared other related (Node.Object proc methods) (Node.Object place others) = map (λ m. m.op) methods ≡ map (λ m. m.op) others
IsSameNode shared other related (Node.Call operator operands tail) (Node.Call place places last) = tail ≡ last
IsSameNode shared other related (Node.Prim p operands) (Node.Prim q places) = p ≡ q
IsSameNode shared other related _ _ = ⊥

-- The node at a place of one form and that at a place of the other are the same up to the renaming: the nodes themselves, their spans,
-- and one by one their parts, with the variables that are bound around them.
mutual
  pub data Alike (renaming : Renaming) (shared other : Shared) (n m : Nodes) : Bool → ℕ → ℕ → Type 0 where
    alike : (tail : Bool) (k j : ℕ) (c d : Core) (s : Span) → slice_get n.nodes k ≡ Some c → slice_get m.nodes j ≡ Some d → slice_get n.spans k ≡ Some s
        → slice_get m.spans j ≡ Some s → IsSameNode shared other (Renames renaming) c d
        → AllAlike renaming shared other n m (parts_of c tail) (parts_of d tail) → Alike renaming shared other n m tail k j

  pub data AllAlike (renaming : Renaming) (shared other : Shared) (n m : Nodes) : List Part → List Part → Type 0 where
    no_parts : AllAlike renaming shared other n m [] []
    one_part : (p q : Part) (ps qs : List Part) → AllZip (Renames renaming) p.binds q.binds → p.tail ≡ q.tail
        → Alike renaming shared other n m p.tail p.at q.at → AllAlike renaming shared other n m ps qs → AllAlike renaming shared other n m (p ∷ ps) (q ∷ qs)

-- ---- forms

abbrev pub nodes_of : Form → List Span → Nodes
nodes_of form spans = record { nodes = form.nodes.items; spans = spans }

-- neither form has nodes, and one number is the root of both, or their roots are alike
abbrev pub RootsAlike : Renaming → Shared → Shared → Form → List Span → Form → List Span → Type 0
RootsAlike renaming shared other f spans g others =
    ((f.nodes.items ≡ []) × (g.nodes.items ≡ []) × (f.root ≡ g.root)) ⊎ Alike renaming shared other (nodes_of f spans) (nodes_of g others) false f.root g.root

abbrev pub FormsAlike : Renaming → Shared → Shared → List Form → List (List Span) → List Form → List (List Span) → Type 0
FormsAlike renaming shared other [] [] [] [] = Unit {0}
FormsAlike renaming shared other (f ∷ fs) (spans ∷ rest) (g ∷ gs) (others ∷ more) =
    (f.kind ≡ g.kind) × RootsAlike renaming shared other f spans g others × FormsAlike renaming shared other fs rest gs more
FormsAlike renaming shared other _ _ _ _ = ⊥

-- ---- units

abbrev pub IsSameGlobal : Shared → Shared → Global1 → Global1 → Type 0
IsSameGlobal shared other g h = (g.kind ≡ h.kind) × (slice_get shared.names g.name.0 ≡ slice_get other.names h.name.0)

abbrev pub IsSameOp : Shared → Shared → OpInfo → OpInfo → Type 0
IsSameOp shared other o p = (o.default ≡ p.default) × (slice_get shared.names o.name.0 ≡ slice_get other.names p.name.0)

-- one unit is the other up to a one-to-one renaming of the variables
pub record IsRenamed (unit : UnitCore) (spans : List (List Span)) (other : UnitCore) (others : List (List Span)) : Type 0 where
  pub renaming : Renaming
  pub one_to_one : IsOneToOne renaming (binders unit) (binders other)
  pub forms : FormsAlike renaming unit.shared other.shared unit.forms.items spans other.forms.items others
  pub globals : AllZip (IsSameGlobal unit.shared other.shared) unit.shared.globals.items other.shared.globals.items
  pub ops : AllZip (IsSameOp unit.shared other.shared) unit.shared.ops.items other.shared.ops.items
  pub size : unit.shared.size ≡ other.shared.size
