use Rattle.std.proofs.Common.{◌∙◌, ◌++◌, get_or, [], ◌∷◌, ap}
use Rattle.cps_live.specs.Gathered.{seen_in_lambdas}
use Rattle.cps_live.proofs.Joined.{seen_more}
use Rattle.cps_live.proofs.gathering.push_lambdas.Goals as goal

pub loop-l-preserved : goal.loop-l-preserved
loop-l-preserved c = record {
  wanted = seen_more c.args.cps.now c.args.lists.now c.args.hidden.now.outer c.args.wanted.now.items c.loop-l.wanted.items c.push_lambda.new.wanted.items c.args.lams.now c.loop-l.l-index 0 c.loop-l-test.true
      c.loop-l.invariant.wanted
      (c.in_ok-push_lambda.ensures.wanted ∙ ap (λ ns. c.loop-l.wanted.items ++ seen_in_lambdas c.args.cps.now c.args.lists.now ns (get_or c.args.lams.now c.loop-l.l-index 0 ∷ [])) c.loop-l.invariant.outer);
  inner = c.in_ok-push_lambda.ensures.inner;
  outer = c.in_ok-push_lambda.ensures.outer ∙ c.loop-l.invariant.outer;
}
