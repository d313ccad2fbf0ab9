use Rattle.std.specs.Prelude.{All}
use Rattle.std.proofs.Common.{◌<◌, subst, arith}
use Rattle.std.proofs.lemmas.List.{take_all}
use Rattle.cps_known.proofs.Below.{one_var_more}
use Rattle.cps_known.proofs.binders.above_all.Goals as goal

pub loop-x-preserved : goal.loop-x-preserved
loop-x-preserved c =
    let before = c.loop-x.invariant.more in
    let step = c.above-most.ensures.more in
    record { more = omega (arith, before, step); below = one_var_more c.args.vars.now c.loop-x.x-index c.loop-x.most c.above-most.result _ step c.loop-x-test.true c.loop-x.invariant.below c.above-most.ensures.above }

pub returns-clause-above : goal.returns-clause-above
returns-clause-above c = subst (All (λ x. x.0 < c.loop-x.most)) (take_all c.loop-x.x-index c.args.vars.now c.loop-x-test.false) c.loop-x.invariant.below
