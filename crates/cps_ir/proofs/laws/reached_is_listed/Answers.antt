use Rattle.cps_ir.proofs.Listed.{terms_are_listed, lams_are_listed}
use Rattle.cps_ir.proofs.laws.reached_is_listed.Goals as goal

pub returns-clause-terms : goal.returns-clause-terms
returns-clause-terms c = terms_are_listed

pub returns-clause-lams : goal.returns-clause-lams
returns-clause-lams c = lams_are_listed
