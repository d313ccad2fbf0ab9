-- The core of a unit: what it is for nodes to be what forms stand for.
use Rattle.std.specs.Prelude.{◌≡◌, ◌≢◌, ℕ, Bool, true, false, List, [], ◌∷◌, ◌++◌, map, length, slice_get, AllPairs, Option, Some, None}
use Rattle.t_base.specs.declared.basics.Span.{Span}
use Rattle.t_base.specs.declared.basics.Name.{Name as NamePlace}
use Rattle.t_base.specs.declared.basics.Var.{Var}
use Rattle.t_base.specs.declared.shared_parts.Const.{Const}
use Rattle.t_base.specs.declared.shared_parts.Const.TheVariants as Constant
use Rattle.t_base.specs.declared.shared_parts.Shared.{Shared}
use Rattle.t_reader.specs.Grammar.{Tree, fix, char, nil, truth, string, symbol}
use Rattle.t_core.specs.declared.forms.Core.{Core}
use Rattle.t_core.specs.declared.forms.Core.TheVariants as Node
use Rattle.t_core.specs.declared.forms.FormKind.{FormKind}
use Rattle.t_core.specs.declared.forms.FormKind.TheVariants as kind
use Rattle.t_core.specs.declared.forms.Form.{Form}
use Rattle.t_core.specs.declared.forms.UnitCore.{UnitCore}
use Rattle.t_core.specs.Nodes.{parts_of}
use Rattle.t_core.specs.Nodes.{Part as NodePart}
use Rattle.t_core.specs.Whole.{IsWhole}
use Rattle.expansion.specs.Strings.{named_strings}
use Rattle.t_forms.specs.Data.{Datum, atom, cons, given, span_of, datum_of, Binder}
use Rattle.t_forms.specs.Names.{Scope, Bound, within, Meaning, a_global, an_op}
use Rattle.t_rows.specs.Rows.{Definition, define, lset, operation_form, stands_for, node, Shape, constant, local, global, builtin_value, op_value, lambda, if_, block, let_, labels, set_local, set_global, catch_, object, call, primitive, Part, row, twice}
use Rattle.expansion.specs.Units.{Top, defining, broken, expression, tops_of, definitions_of, meaning_of, global_texts, op_texts}

-- ---- constants

-- the constant is the datum
abbrev pub IsQuoted : Shared → Datum → Const → Type 0
IsQuoted shared (atom s (given (fix z))) c = c ≡ Constant.Fix z
IsQuoted shared (atom s (given (char b))) c = c ≡ Constant.Char b
IsQuoted shared (atom s (given nil)) c = c ≡ Constant.Nil
IsQuoted shared (atom s (given truth)) c = c ≡ Constant.True
IsQuoted shared (atom s (given (string bytes))) c =
    (place : ℕ) × (c ≡ Constant.Str place) × (slice_get shared.strings.items place ≡ Some bytes)
IsQuoted shared (atom s (given (symbol text))) c =
    (name : NamePlace) × (c ≡ Constant.Sym name) × (slice_get shared.names name.0 ≡ Some text)
IsQuoted shared (atom s _) c = ⊥
IsQuoted shared (cons s head tail) c =
    (place : ℕ) × (p : Const × Const) × (c ≡ Constant.Pair place) × (slice_get shared.pairs.items place ≡ Some p) × IsQuoted shared head p.0
    × IsQuoted shared tail p.1

-- ---- nodes

-- the node is of this shape, in a tail place or not, where the local names mean these variables
abbrev pub Fits : Shared → List Var → Bool → Shape → Core → Type 0
Fits shared vars tail (constant d) (Node.Const c) = IsQuoted shared d c
Fits shared vars tail (local i) (Node.Local w) = slice_get vars i ≡ Some w
Fits shared vars tail (global g) (Node.Global h) = g ≡ h
Fits shared vars tail (builtin_value p) (Node.Builtin q) = p ≡ q
Fits shared vars tail (op_value o) (Node.Op p) = o ≡ p
Fits shared vars tail lambda (Node.Lambda params body) = Unit {0}
Fits shared vars tail if_ (Node.If test a b) = Unit {0}
Fits shared vars tail block (Node.Block items) = Unit {0}
Fits shared vars tail let_ (Node.Let bound values body) = Unit {0}
Fits shared vars tail labels (Node.Labels bound lambdas body) = Unit {0}
Fits shared vars tail (set_local i) (Node.SetLocal w value) = slice_get vars i ≡ Some w
Fits shared vars tail (set_global g) (Node.SetGlobal h value) = g ≡ h
Fits shared vars tail catch_ (Node.Catch v body) = Unit {0}
Fits shared vars tail (object ops) (Node.Object proc methods) = map (λ m. m.op) methods ≡ ops
Fits shared vars tail call (Node.Call operator operands last) = last ≡ tail
Fits shared vars tail (primitive p) (Node.Prim q operands) = p ≡ q
Fits shared vars tail _ _ = ⊥

-- the nodes of a form, with the spans of the data that they stand for
pub record Nodes : Type 0 where
  pub nodes : List Core
  pub spans : List Span

-- The node at a place is what the form stands for in a scope whose local names mean these variables: what the form of its row stands for,
-- or a node of the row's shape with the row's span, nothing being refused at the form, whose parts are in order what the row's parts
-- stand for. The names of a part mean the variables that the node binds around it.
mutual
  pub data Means (shared : Shared) (n : Nodes) : List Var → Scope → Datum → Bool → ℕ → Type 0 where
    as_form : (vars : List Var) (scope : Scope) (d e : Datum) (tail : Bool) (k : ℕ) → row scope d ≡ stands_for e → Means shared n vars scope e tail k
        → Means shared n vars scope d tail k
    as_node : (vars : List Var) (scope : Scope) (d : Datum) (tail : Bool) (k : ℕ) (shape : Shape) (parts : List Part) (c : Core)
        → row scope d ≡ node shape [] parts → slice_get n.nodes k ≡ Some c → slice_get n.spans k ≡ Some (span_of d) → Fits shared vars tail shape c
        → AllMean shared n vars scope parts (parts_of c tail) → Means shared n vars scope d tail k

  pub data AllMean (shared : Shared) (n : Nodes) : List Var → Scope → List Part → List NodePart → Type 0 where
    no_parts : (vars : List Var) (scope : Scope) → AllMean shared n vars scope [] []
    one_part : (vars : List Var) (scope : Scope) (p : Part) (q : NodePart) (ps : List Part) (qs : List NodePart) → length p.binds ≡ length q.binds
        → Means shared n (q.binds ++ vars) (within scope p.binds) p.form q.tail q.at → AllMean shared n vars scope ps qs
        → AllMean shared n vars scope (p ∷ ps) (q ∷ qs)

-- ---- forms

-- the scope at top level
abbrev pub top_scope : List Bound → Scope
top_scope defined = record { locals = []; defined = defined }

-- what the root stands for, in no tail place
abbrev pub RootMeans : List Bound → Shared → Nodes → Datum → ℕ → Type 0
RootMeans defined shared n d root = Means shared n [] (top_scope defined) d false root

-- an operation without a default has no body, in which a name twice among its parameters would be refused
abbrev pub DefaultMeans : List Bound → Shared → Nodes → List Binder → Option Datum → ℕ → Type 0
DefaultMeans defined shared n ps None root = (twice ps ≡ []) × (n.nodes ≡ []) × (root ≡ 0)
DefaultMeans defined shared n ps (Some d) root = RootMeans defined shared n d root

abbrev pub ValueMeans : List Bound → Shared → Nodes → Definition → ℕ → Type 0
ValueMeans defined shared n (define b d) root = RootMeans defined shared n d root
ValueMeans defined shared n (lset b d) root = RootMeans defined shared n d root
ValueMeans defined shared n (operation_form b ps d) root = DefaultMeans defined shared n ps d root

-- the definition is kept as what its name means
abbrev pub IsKind : FormKind → Definition → Option Meaning → Type 0
IsKind k (define b d) (Some (a_global g false)) = k ≡ kind.Define g
IsKind k (lset b d) (Some (a_global g true)) = k ≡ kind.Lset g
IsKind k (operation_form b ps d) (Some (an_op o)) = k ≡ kind.Operation o
IsKind k _ _ = ⊥

abbrev pub TopMeans : List Bound → Shared → Nodes → FormKind → ℕ → Top → Type 0
TopMeans defined shared n k root (defining d) = IsKind k d (meaning_of defined d) × ValueMeans defined shared n d root
TopMeans defined shared n k root (broken s) = ⊥
TopMeans defined shared n k root (expression d) = (k ≡ kind.Plain) × RootMeans defined shared n d root

abbrev pub FormMeans : List Bound → Shared → Form → List Span → Top → Type 0
FormMeans defined shared form spans top =
    (length spans ≡ length form.nodes.items)
    × TopMeans defined shared (record { nodes = form.nodes.items; spans = spans }) form.kind form.root top

abbrev pub FormsMean : List Bound → Shared → List Form → List (List Span) → List Top → Type 0
FormsMean defined shared [] [] [] = Unit {0}
FormsMean defined shared (form ∷ forms) (spans ∷ others) (top ∷ tops) = FormMeans defined shared form spans top × FormsMean defined shared forms others tops
FormsMean defined shared _ _ _ = ⊥

-- ---- units

-- The unit is the core of the data: whole, which it isn't where a name is defined twice, each form what its datum stands for, each string
-- literal a string of its own, and the names of globals and operations those that the data define. This much is free: the numbers of the
-- variables, the order of a form's nodes, the places of names, strings and pairs, and such of them as nothing names.
pub record IsCoreOf (data_ : List Tree) (unit : UnitCore) (spans : List (List Span)) : Type 0 where
  pub whole : IsWhole unit
  pub forms : FormsMean (definitions_of (tops_of (map datum_of data_))) unit.shared unit.forms.items spans (tops_of (map datum_of data_))
  pub globals : map (λ text. Some text) (global_texts (tops_of (map datum_of data_))) ≡ map (λ g. slice_get unit.shared.names g.name.0) unit.shared.globals.items
  pub ops : map (λ text. Some text) (op_texts (tops_of (map datum_of data_))) ≡ map (λ o. slice_get unit.shared.names o.name.0) unit.shared.ops.items
  pub strings_once : AllPairs (λ k l. k ≢ l) (named_strings unit)
