use Rattle.chain_laws.proofs.Chained.{passed_keeps_meaning}
use Rattle.chain_laws.proofs.laws.passed_keeps_meaning.Goals as goal

pub returns : goal.returns
returns c =
    passed_keeps_meaning c.passes_keep_meaning.ensures.image c.selection_is_kept.ensures c.emission_is_kept.ensures c.laid_out_is_small.ensures c.laid_out_is_on_heap.ensures c.homes_keep_meaning.ensures.keeps
