use Rattle.std.proofs.Common.{subst, ◌≤◌, length}
use Rattle.layout_tables.specs.Sketches.{vars_at}
use Rattle.layout_tables.proofs.SmallNeeds.{small_taken}
use Rattle.layout_tables.proofs.tables.are_small.Goals as goal

pub returns : goal.returns
returns c = λ t l. subst (λ xs. length (vars_at xs l) ≤ c.args.cps.now.shared.size) c.deref-vars-items.ensures.value (small_taken c.deref-vars-items.result.now c.loop-vars.vars-index c.args.cps.now.shared.size l c.loop-vars-test.false c.loop-vars.invariant)
