use Rattle.std.proofs.Common.{◌≤◌, ◌-◌, length}
use Rattle.unit_conversion.proofs.sites.sites_of.Given as goal

abbrev pub invariant-forms : goal.invariant-forms
invariant-forms l = l.at ≤ length l.unit.forms.items

abbrev pub decreases-forms : goal.decreases-forms
decreases-forms l = length l.unit.forms.items - l.at
