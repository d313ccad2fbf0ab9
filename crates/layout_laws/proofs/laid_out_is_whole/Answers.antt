use Rattle.layout_laws.proofs.Scopes.{is_whole}
use Rattle.layout_laws.proofs.laid_out_is_whole.Goals as goal

pub returns : goal.returns
returns c = is_whole
