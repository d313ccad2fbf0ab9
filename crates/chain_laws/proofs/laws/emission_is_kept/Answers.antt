use Rattle.chain_laws.proofs.Emitted.{emitted_is_kept}
use Rattle.chain_laws.proofs.laws.emission_is_kept.Goals as goal

pub returns : goal.returns
returns c = emitted_is_kept c.emitted_items_keep.ensures
