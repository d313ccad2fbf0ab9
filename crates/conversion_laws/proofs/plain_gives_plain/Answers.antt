use Rattle.conversion_laws.proofs.Plain.{plain_gives_plain}
use Rattle.conversion_laws.proofs.plain_gives_plain.Goals as goal

pub returns : goal.returns
returns c = plain_gives_plain
