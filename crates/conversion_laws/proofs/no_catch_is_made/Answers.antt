use Rattle.conversion_laws.proofs.Plain.{no_catch_is_made}
use Rattle.conversion_laws.proofs.no_catch_is_made.Goals as goal

pub returns : goal.returns
returns c = no_catch_is_made
