use Rattle.std.proofs.Common.{◌≤◌, length}
use Rattle.cps_convert.specs.Claims.{HasMarks}
use Rattle.cps_convert.specs.Forms.{FormsConverted}
use Rattle.cps_convert.proofs.top_forms.forms.Given as goal

abbrev pub invariant-forms : goal.invariant-forms
invariant-forms l = record {
  within : l.at ≤ length l.unit.forms.items;
  end : HasMarks l.unit l.marks → FormsConverted l.unit l.marks l.fn.made l.made l.at l.value l.place;
}

abbrev pub decreases-forms : goal.decreases-forms
decreases-forms l = l.at
