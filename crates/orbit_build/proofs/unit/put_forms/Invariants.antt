use Rattle.std.proofs.Common.{List, drop, ◌++◌}
use Rattle.orbit_build.specs.Sums.{Term, AreTerms}
use Rattle.orbit_build.specs.Code.{terms_code}
use Rattle.orbit_build.proofs.FormsPut.{FormsLead}
use Rattle.orbit_build.proofs.unit.put_forms.Given as goal

abbrev pub invariant-loop-form : goal.invariant-loop-form
invariant-loop-form l = (ts : List Term) → AreTerms l.forms ts → FormsLead (drop l.form-index l.forms) l.out.items (l.initial.out.items ++ terms_code ts)
