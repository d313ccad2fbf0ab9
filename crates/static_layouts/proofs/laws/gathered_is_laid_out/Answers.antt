use Rattle.static_layouts.proofs.Layouts.{gathered_is_set_out}
use Rattle.static_layouts.proofs.laws.gathered_is_laid_out.Goals as goal

pub returns : goal.returns
returns c = gathered_is_set_out
