use Rattle.std.proofs.Common.{take, All}
use Rattle.cps_units.specs.Numbers.{IsPastNode}
use Rattle.cps_units.proofs.numbers.first_new.Given as goal

abbrev pub invariant-forms : goal.invariant-forms
invariant-forms l = All (λ form. All (IsPastNode l.past) form.nodes.items) (take l.form-index l.unit.forms.items)
