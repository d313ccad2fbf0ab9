use Rattle.t_meaning.proofs.EscapeLaws.{escaping_is_least}
use Rattle.t_meaning.proofs.laws.escape.marks_are_least.Goals as goal

pub returns : goal.returns
returns c = escaping_is_least
