use Rattle.std.proofs.Common.{sum_by, ◌++◌}
use Rattle.orbit_build.specs.Sums.{Term, IsTermAt}
use Rattle.orbit_build.specs.Code.{term_code}
use Rattle.orbit_build.specs.Tasks.{Leads, steps}
use Rattle.orbit_build.proofs.term.put_term.Given as goal

abbrev pub invariant-tasks : goal.invariant-tasks
invariant-tasks l = (t : Term) → IsTermAt l.nodes l.root t → Leads l.nodes l.waiting.items l.out.items (l.initial.out.items ++ term_code 0 t)

abbrev pub decreases-tasks : goal.decreases-tasks
decreases-tasks l = sum_by steps l.waiting.items
