use Rattle.cps_conversion.proofs.Follow.{conversion_keeps, conversion_keeps_most}
use Rattle.cps_conversion.proofs.conversion_keeps.Goals as goal

pub returns-clause-marked : goal.returns-clause-marked
returns-clause-marked c = conversion_keeps

pub returns-clause-at_most : goal.returns-clause-at_most
returns-clause-at_most c = conversion_keeps_most
