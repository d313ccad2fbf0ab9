use Rattle.std.specs.Prelude.{All}
use Rattle.std.proofs.Common.{subst, arith}
use Rattle.std.proofs.lemmas.List.{take_all}
use Rattle.cps_known.specs.Binders.{value_binders, AreBelow}
use Rattle.cps_known.proofs.Below.{one_term_more}
use Rattle.cps_known.proofs.binders.above_terms.Goals as goal

pub loop-term-preserved : goal.loop-term-preserved
loop-term-preserved c =
    let before = c.loop-term.invariant.more in
    let step = c.above_term-most.ensures.more in
    record { more = omega (arith, before, step); below = one_term_more c.args.terms.now c.loop-term.term-index c.loop-term.most c.above_term-most.result _ step c.loop-term-test.true c.loop-term.invariant.below (subst (λ t. AreBelow c.above_term-most.result (value_binders t)) c.term-item.is c.above_term-most.ensures.above) }

pub returns-clause-above : goal.returns-clause-above
returns-clause-above c = subst (All (λ t. AreBelow c.loop-term.most (value_binders t))) (take_all c.loop-term.term-index c.args.terms.now c.loop-term-test.false) c.loop-term.invariant.below
