use Rattle.conversion_scopes.proofs.Formed.{converted_is_formed}
use Rattle.conversion_scopes.proofs.converted_is_formed.Goals as goal

pub returns : goal.returns
returns c = converted_is_formed
