use Rattle.layout_laws.proofs.Scopes.{has_scopes}
use Rattle.layout_laws.proofs.laid_out_has_scopes.Goals as goal

pub returns : goal.returns
returns c = has_scopes
