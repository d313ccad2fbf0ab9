use Rattle.std.proofs.Common.{◌∙◌, ◌++◌, ap}
use Rattle.cps_known.specs.LiveVariables.{join_k}
use Rattle.cps_live.proofs.Joined.{join_ks_more}
use Rattle.cps_live.proofs.continuations.push_join_ks.Goals as goal

pub loop-place-preserved : goal.loop-place-preserved
loop-place-preserved c =
    join_ks_more c.args.cps.now.terms.items c.args.ks.now.items c.loop-place.ks.items c.push_join_k.new.ks.items c.args.places.now c.loop-place.place-index 0 c.index.result.now c.loop-place-test.true
    (c.requires c.loop-place.place-index 0 c.loop-place-test.true) c.loop-place.invariant (c.in_ok-push_join_k.ensures ∙ ap (λ t. c.loop-place.ks.items ++ join_k t) c.index.ensures)
