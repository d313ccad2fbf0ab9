-- That the table of forms comes to an end on a form.
use Rattle.std.specs.Prelude.{◌≡◌, List, [], ◌∷◌}
use Rattle.t_forms.specs.Data.{Datum}
use Rattle.t_forms.specs.Names.{Scope, within}
use Rattle.t_rows.specs.declared.refusal.Refusal.{Refusal}
use Rattle.t_rows.specs.Rows.{stands_for, node, Shape, Part, row}

-- The form stands for a form on which the table ends, or for a node, or it is refused; and so it is with all parts of the node.
mutual
  pub data Ends : Scope → Datum → Type 0 where
    as_form : (scope : Scope) (d e : Datum) → row scope d ≡ stands_for e → Ends scope e → Ends scope d
    as_node : (scope : Scope) (d : Datum) (shape : Shape) (refusals : List Refusal) (parts : List Part) → row scope d ≡ node shape refusals parts
        → AllEnd scope parts → Ends scope d

  pub data AllEnd : Scope → List Part → Type 0 where
    no_parts : (scope : Scope) → AllEnd scope []
    one_part : (scope : Scope) (p : Part) (ps : List Part) → Ends (within scope p.binds) p.form → AllEnd scope ps → AllEnd scope (p ∷ ps)
