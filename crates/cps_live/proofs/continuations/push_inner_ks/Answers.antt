use Rattle.std.proofs.Common.{◌∙◌, ◌++◌, map, ap}
use Rattle.cps_ir.specs.Parts.{lambdas_of}
use Rattle.cps_live.proofs.Joined.{inner_ks_more}
use Rattle.cps_live.proofs.continuations.push_inner_ks.Goals as goal

pub loop-place-preserved : goal.loop-place-preserved
loop-place-preserved c =
    inner_ks_more c.args.cps.now c.args.ks.now.items c.loop-place.ks.items c.push_term_ks.new.ks.items c.args.places.now c.loop-place.place-index 0 c.index.result.now c.loop-place-test.true
    (c.requires.there c.loop-place.place-index 0 c.loop-place-test.true) c.loop-place.invariant
    (c.in_ok-push_term_ks.ensures ∙ ap (λ t. c.loop-place.ks.items ++ map (λ lam. lam.k.0) (lambdas_of c.args.cps.now t)) c.index.ensures)
