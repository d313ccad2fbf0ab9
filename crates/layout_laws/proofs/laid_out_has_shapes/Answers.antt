use Rattle.layout_laws.proofs.Shapely.{has_shapes}
use Rattle.layout_laws.proofs.laid_out_has_shapes.Goals as goal

pub returns : goal.returns
returns c = has_shapes
