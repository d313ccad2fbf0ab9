use Rattle.conversion_laws.proofs.Shaped.{converted_is_shaped}
use Rattle.conversion_laws.proofs.converted_is_shaped.Goals as goal

pub returns : goal.returns
returns c = converted_is_shaped
