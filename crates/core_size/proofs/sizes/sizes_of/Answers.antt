use Rattle.core_size.proofs.PairSizes.{one_more}
use Rattle.core_size.proofs.sizes.sizes_of.Goals as goal

pub pairs-preserved : goal.pairs-preserved
pairs-preserved c =
    rw c.in_ok-push-in-Some.ensures.items
    (one_more c.args.pairs.now c.pairs.sizes.items c.pairs.pair-index c.in-Some.size _ c.requires.lower c.pairs.invariant c.pairs-test.true
    (rw c.as_slice.ensures.value at c.in-Some.ensures))
