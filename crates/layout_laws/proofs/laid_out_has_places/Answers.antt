use Rattle.layout_laws.proofs.Shapely.{has_places}
use Rattle.layout_laws.proofs.laid_out_has_places.Goals as goal

pub returns : goal.returns
returns c = has_places
