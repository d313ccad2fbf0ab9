use Rattle.core_size.specs.Sizes.{AreSizes}
use Rattle.core_size.proofs.sizes.sizes_of.Given as goal

abbrev pub invariant-pairs : goal.invariant-pairs
invariant-pairs l = AreSizes l.sizes.items l.pair-index l.pairs
