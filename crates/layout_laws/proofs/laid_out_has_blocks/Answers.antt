use Rattle.layout_laws.proofs.Shapely.{has_blocks}
use Rattle.layout_laws.proofs.laid_out_has_blocks.Goals as goal

pub returns : goal.returns
returns c = has_blocks
