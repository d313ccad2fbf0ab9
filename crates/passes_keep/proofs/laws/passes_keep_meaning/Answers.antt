use Rattle.passes_keep.specs.Chains.{room_at, factor_at}
use Rattle.t_meaning.specs.Units.{meaning_at_most}
use Rattle.passes_keep.proofs.Composed.{items_keep_meaning, factor_within}
use Rattle.passes_keep.proofs.laws.passes_keep_meaning.Goals as goal

pub returns-clause-items : goal.returns-clause-items
returns-clause-items c = items_keep_meaning c.conversion_keeps.ensures.at_most c.laid_out_keeps.ensures

pub returns-clause-image : goal.returns-clause-image
returns-clause-image c unit chain sizes are =
    c.images_keep_too.ensures.within chain.placed.words chain.assembled sizes chain.can (room_at unit.shared.size sizes) (factor_at unit.shared.size) (factor_at unit.shared.size) (meaning_at_most unit)
    (items_keep_meaning c.conversion_keeps.ensures.at_most c.laid_out_keeps.ensures unit chain sizes are)

pub returns-clause-factor : goal.returns-clause-factor
returns-clause-factor c = factor_within
