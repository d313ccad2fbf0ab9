-- What the code's row is to the table's.
use Rattle.std.specs.Prelude.{◌≡◌, ◌⊎◌, ℕ, List, [], ◌∷◌, slice_get, Some}
use Rattle.std.specs.Global.{Vec}
use Rattle.t_base.specs.declared.basics.Var.{Var}
use Rattle.t_forms.specs.declared.arena.Cell.{Cell}
use Rattle.t_forms.specs.Data.{Datum, Name, span_of}
use Rattle.t_forms.specs.Names.{Scope}
use Rattle.t_forms.specs.Held.{Held, AreNames}
use Rattle.t_rows.specs.declared.refusal.Refusal.{Refusal}
use Rattle.t_rows.specs.declared.rows.Shape.{Shape as CodeShape}
use Rattle.t_rows.specs.declared.rows.Shape.TheVariants as code
use Rattle.t_rows.specs.declared.rows.Binds.{Binds}
use Rattle.t_rows.specs.declared.rows.Binds.TheVariants as binds
use Rattle.t_rows.specs.declared.rows.Part.{Part as CodePart}
use Rattle.t_rows.specs.declared.rows.Row.{Row as CodeRow}
use Rattle.t_rows.specs.declared.rows.Row.TheVariants as coded
use Rattle.t_rows.specs.Rows.{Shape, constant, local, global, builtin_value, op_value, lambda, if_, block, let_, labels, set_local, set_global, catch_, object, call, primitive, nothing, Part, Row, stands_for, node, row}

abbrev pub IsShape : List (List ℕ) → List Cell → List Var → CodeShape → Shape → Type 0
IsShape names cells vars c (constant d) = (k : ℕ) × (c ≡ code.Constant k) × Held names cells k d
IsShape names cells vars c (local i) = (v : Var) × (c ≡ code.Local v) × (slice_get vars i ≡ Some v)
IsShape names cells vars c (global g) = c ≡ code.Global g
IsShape names cells vars c (builtin_value p) = c ≡ code.BuiltinValue p
IsShape names cells vars c (op_value o) = c ≡ code.OpValue o
IsShape names cells vars c lambda = c ≡ code.Lambda
IsShape names cells vars c if_ = c ≡ code.If
IsShape names cells vars c block = c ≡ code.Block
IsShape names cells vars c let_ = c ≡ code.Let
IsShape names cells vars c labels = c ≡ code.Labels
IsShape names cells vars c (set_local i) = (v : Var) × (c ≡ code.SetLocal v) × (slice_get vars i ≡ Some v)
IsShape names cells vars c (set_global g) = c ≡ code.SetGlobal g
IsShape names cells vars c catch_ = c ≡ code.Catch
IsShape names cells vars c (object ops) = c ≡ code.Object ops
IsShape names cells vars c call = c ≡ code.Call
IsShape names cells vars c (primitive p) = c ≡ code.Primitive p
IsShape names cells vars c nothing = c ≡ code.Nothing

-- the names around a part are these, where those around the part before are the names before
abbrev pub AreBinds : List (List ℕ) → List Name → Binds → List Name → Type 0
AreBinds names before (binds.Names ks) ns = AreNames names ks.items ns
AreBinds names before binds.AsBefore ns = ns ≡ before

-- the names around a part are these, and no others
abbrev pub AreOwn : List (List ℕ) → Binds → List Name → Type 0
AreOwn names (binds.Names ks) ns = AreNames names ks.items ns
AreOwn names binds.AsBefore ns = ⊥

-- a part with names of its own
abbrev pub IsPart : List (List ℕ) → List Cell → CodePart → Part → Type 0
IsPart names cells c p = AreOwn names c.binds p.binds × Held names cells c.form p.form

-- a part behind one with the names before
abbrev pub IsPartBehind : List (List ℕ) → List Cell → List Name → CodePart → Part → Type 0
IsPartBehind names cells before c p = AreBinds names before c.binds p.binds × Held names cells c.form p.form

-- parts behind one with the names before
abbrev pub AreParts : List (List ℕ) → List Cell → List Name → List CodePart → List Part → Type 0
AreParts names cells before cs [] = cs ≡ []
AreParts names cells before cs (p ∷ ps) =
    (c : CodePart) × (others : List CodePart) × (cs ≡ c ∷ others) × IsPartBehind names cells before c p × AreParts names cells p.binds others ps

-- the code's row is the table's, over these cells and variables
abbrev pub IsRow : List (List ℕ) → List Cell → List Var → CodeRow → Row → Type 0
IsRow names cells vars c (stands_for d) = (k : ℕ) × (c ≡ coded.StandsFor k) × Held names cells k d
IsRow names cells vars c (node shape refusals parts) =
    (s : CodeShape) × (rs : Vec Refusal) × (ps : Vec CodePart) × (c ≡ coded.Node s rs ps) × IsShape names cells vars s shape × (rs.items ≡ refusals)
    × AreParts names cells [] ps.items parts

-- the form stands for another one with its span, and the code's row is the row of that
pub record IsRowOfNext (names : List (List ℕ)) (cells : List Cell) (vars : List Var) (around : Scope) (d : Datum) (r : CodeRow) : Type 0 where
  pub form : Datum
  pub stands : row around d ≡ stands_for form
  pub span : span_of form ≡ span_of d
  pub is : IsRow names cells vars r (row around form)

-- the code's row is the row of the form, or of one that it stands for
abbrev pub IsRowOrNext : List (List ℕ) → List Cell → List Var → Scope → Datum → CodeRow → Type 0
IsRowOrNext names cells vars around d r = IsRow names cells vars r (row around d) ⊎ IsRowOfNext names cells vars around d r
