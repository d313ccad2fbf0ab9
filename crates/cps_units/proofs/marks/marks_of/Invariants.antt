use Rattle.std.proofs.Common.{◌≡◌, take}
use Rattle.std.specs.List.{list_any}
use Rattle.t_base.specs.declared.basics.Var.{Var}
use Rattle.t_meaning.specs.Costs.{assigns}
use Rattle.cps_walk.specs.Marked.{is_marked}
use Rattle.cps_units.proofs.marks.marks_of.Given as goal

abbrev pub invariant-forms : goal.invariant-forms
invariant-forms l = (v : Var) → is_marked l.marks.items v.0 ≡ list_any (λ form. list_any (assigns v) form.nodes.items) (take l.form-index l.unit.forms.items)
