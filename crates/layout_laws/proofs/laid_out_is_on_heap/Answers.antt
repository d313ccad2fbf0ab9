use Rattle.layout_laws.proofs.OwnArms.{on_heap}
use Rattle.layout_laws.proofs.laid_out_is_on_heap.Goals as goal

pub returns : goal.returns
returns c = on_heap
