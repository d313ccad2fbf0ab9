-- What holds of every whole unit, in five groups: places, scope, shapes, definitions and shared parts. Each pass needs it of
-- its argument.
use Rattle.std.specs.Prelude.{◌≡◌, ◌≢◌, ℕ, zero, suc, ◌<◌, ◌≤◌, ◌==◌, Bool, true, false, if◌then◌else◌, IsTrue, List, [], ◌∷◌, ◌++◌, length, slice_get, All, AllPairs, EachIndex, Contains, count_by, Some, IsSomeAnd}
use Rattle.std.specs.List.{flat_map, AllByRecursion}
use Rattle.std.specs.Option.{option_map, option_map_or}
use Rattle.t_base.specs.declared.basics.Var.{Var}
use Rattle.t_base.specs.declared.shared_parts.Const.{Const}
use Rattle.t_base.specs.declared.shared_parts.Const.TheVariants as Constant
use Rattle.t_base.specs.declared.shared_parts.GlobalKind.{GlobalKind}
use Rattle.t_base.specs.declared.shared_parts.GlobalKind.TheVariants.{Proc, Value, Variable}
use Rattle.t_base.specs.declared.shared_parts.Shared.{Shared}
use Rattle.t_prim.specs.Table.{arity_of}
use Rattle.t_prim.specs.SharedParts.{IsConst, IsWholeShared, builtin_ops}
use Rattle.t_core.specs.declared.forms.Core.{Core}
use Rattle.t_core.specs.declared.forms.Core.TheVariants as Node
use Rattle.t_core.specs.declared.forms.FormKind.{FormKind}
use Rattle.t_core.specs.declared.forms.FormKind.TheVariants.{Define, Lset, Operation, Plain}
use Rattle.t_core.specs.declared.forms.Form.{Form}
use Rattle.t_core.specs.declared.forms.UnitCore.{UnitCore}
use Rattle.t_core.specs.Nodes.{parts_of, places_of, binders_of, is_lambda, has_self}
use Rattle.t_core.specs.Counts.{form_count}
use Rattle.t_core.specs.Limits.{greatest}

-- ---- places: what is named is there

-- what a node names outside its form is there
abbrev pub NamesAreThere : Shared → Core → Type 0
NamesAreThere shared (Node.Const c) = IsConst shared c
NamesAreThere shared (Node.Global g) = g < length shared.globals.items
NamesAreThere shared (Node.SetGlobal g value) = g < length shared.globals.items
NamesAreThere shared (Node.Op o) = o < length shared.ops.items
NamesAreThere shared (Node.Object proc methods) = All (λ m. m.op < length shared.ops.items) methods
NamesAreThere shared _ = Unit {0}

-- the nodes make one tree: parts stand before the node that names them, and each node is named exactly once, but for the root,
-- which isn't named
pub record IsTree (nodes : List Core) (root : ℕ) : Type 0 where
  pub root_there : root < length nodes
  pub parts_before : (k : ℕ) (node : Core) → slice_get nodes k ≡ Some node → All (λ place. place < k) (places_of node)
  pub named_once : EachIndex nodes (λ k. count_by (λ place. place == k) (flat_map places_of nodes) ≡ (if k == root then 0 else 1))

pub record HasPlaces (shared : Shared) (form : Form) : Type 0 where
  pub names : All (NamesAreThere shared) form.nodes.items
  pub tree : 0 < length form.nodes.items → IsTree form.nodes.items form.root

-- ---- scope: a variable is used where it is bound, and a call says whether it stands in a tail place

abbrev pub IsInPlace : List Var → Bool → Core → Type 0
IsInPlace scope tail (Node.Local v) = Contains scope v
IsInPlace scope tail (Node.SetLocal v value) = Contains scope v
IsInPlace scope tail (Node.Call operator operands last) = last ≡ tail
IsInPlace scope tail _ = Unit {0}

-- the same of the node at a place and of all that it is made of, nested at most so deep
unfoldable pub IsScopedWithin : List Core → ℕ → List Var → Bool → ℕ → Type 0
IsScopedWithin nodes zero scope tail k = ⊥
IsScopedWithin nodes (suc depth) scope tail k =
    IsSomeAnd (slice_get nodes k) (λ node. IsInPlace scope tail node × AllByRecursion (λ p. IsScopedWithin nodes depth (p.binds ++ scope) p.tail p.at) (parts_of node tail))

-- the root of a form stands in no scope and in no tail place; nodes that make a tree nest less deep than there are nodes
abbrev pub IsScoped : Form → Type 0
IsScoped form = 0 < length form.nodes.items → IsScopedWithin form.nodes.items (length form.nodes.items) [] false form.root

abbrev pub binders : UnitCore → List Var
binders unit = flat_map (λ form. flat_map binders_of form.nodes.items) unit.forms.items

pub record HasScopes (unit : UnitCore) : Type 0 where
  pub bound_once : AllPairs (λ v w. v ≢ w) (binders unit)
  pub used : All IsScoped unit.forms.items

-- ---- shapes: a node's lists fit each other and what they are for

abbrev pub is_lambda_at : List Core → ℕ → Bool
is_lambda_at nodes k = option_map_or is_lambda (slice_get nodes k) false

abbrev pub IsShaped : Shared → List Core → Core → Type 0
IsShaped shared nodes (Node.Block items) = 0 < length items
IsShaped shared nodes (Node.Let vars values body) = length vars ≡ length values
IsShaped shared nodes (Node.Labels vars lambdas body) = (length vars ≡ length lambdas) × All (λ k. IsTrue (is_lambda_at nodes k)) lambdas
IsShaped shared nodes (Node.SetGlobal g value) = option_map (λ info. info.kind) (slice_get shared.globals.items g) ≡ Some Variable
IsShaped shared nodes (Node.Object proc methods) = All (λ m. 0 < length m.params) methods
IsShaped shared nodes (Node.Prim p operands) = length operands ≡ arity_of p
IsShaped shared nodes _ = Unit {0}

abbrev pub HasShapes : Shared → Form → Type 0
HasShapes shared form = All (IsShaped shared form.nodes.items) form.nodes.items

-- ---- definitions: each global and each operation but the builtin ones has exactly one form

-- a global's DEFINE has a LAMBDA as root exactly where the global is a procedure
abbrev pub DefinesAs : List Core → ℕ → GlobalKind → Type 0
DefinesAs nodes root Proc = IsTrue (is_lambda_at nodes root)
DefinesAs nodes root Value = is_lambda_at nodes root ≡ false
DefinesAs nodes root Variable = ⊥

-- an operation's form has nodes exactly where there is a default, a LAMBDA with its self parameter
abbrev pub IsDefault : List Core → ℕ → Bool → Type 0
IsDefault nodes root true = (0 < length nodes) × IsTrue (option_map_or has_self (slice_get nodes root) false)
IsDefault nodes root false = (nodes ≡ []) × (root ≡ 0)

abbrev pub IsDefinition : Shared → FormKind → List Core → ℕ → Type 0
IsDefinition shared (Define g) nodes root = (0 < length nodes) × IsSomeAnd (slice_get shared.globals.items g) (λ info. DefinesAs nodes root info.kind)
IsDefinition shared (Lset g) nodes root = (0 < length nodes) × IsSomeAnd (slice_get shared.globals.items g) (λ info. info.kind ≡ Variable)
IsDefinition shared (Operation o) nodes root = (builtin_ops ≤ o) × IsSomeAnd (slice_get shared.ops.items o) (λ info. IsDefault nodes root info.default)
IsDefinition shared Plain nodes root = 0 < length nodes

abbrev pub defines_global : ℕ → FormKind → Bool
defines_global g (Define h) = g == h
defines_global g (Lset h) = g == h
defines_global g (Operation o) = false
defines_global g Plain = false

abbrev pub defines_op : ℕ → FormKind → Bool
defines_op o (Define g) = false
defines_op o (Lset g) = false
defines_op o (Operation p) = o == p
defines_op o Plain = false

pub record HasDefinitions (unit : UnitCore) : Type 0 where
  pub forms : All (λ form. IsDefinition unit.shared form.kind form.nodes.items form.root) unit.forms.items
  pub globals_once : EachIndex unit.shared.globals.items (λ g. count_by (λ form. defines_global g form.kind) unit.forms.items ≡ 1)
  pub ops_once : (o : ℕ) → builtin_ops ≤ o → o < length unit.shared.ops.items → count_by (λ form. defines_op o form.kind) unit.forms.items ≡ 1

-- ---- shared parts: besides what holds of them in every form of a program, their size, and who names a quoted pair

abbrev pub pair_in : Const → List ℕ
pair_in (Constant.Pair k) = k ∷ []
pair_in _ = []

abbrev pub pair_of : Core → List ℕ
pair_of (Node.Const c) = pair_in c
pair_of _ = []

-- the places of quoted pairs that pairs and nodes name
abbrev pub named_pairs : UnitCore → List ℕ
named_pairs unit = flat_map (λ p. pair_in p.0 ++ pair_in p.1) unit.shared.pairs.items ++ flat_map (λ form. flat_map pair_of form.nodes.items) unit.forms.items

pub record HasSharedParts (unit : UnitCore) : Type 0 where
  pub parts : IsWholeShared unit.shared
  pub pairs_once : AllPairs (λ k l. k ≢ l) (named_pairs unit)
  pub size : unit.shared.size ≡ greatest (form_count unit.shared.pairs.items) unit.forms.items

-- ---- the whole

pub record IsWhole (unit : UnitCore) : Type 0 where
  pub places : All (HasPlaces unit.shared) unit.forms.items
  pub scopes : HasScopes unit
  pub shapes : All (HasShapes unit.shared) unit.forms.items
  pub definitions : HasDefinitions unit
  pub shared : HasSharedParts unit
