use Rattle.lap_operations.proofs.Lines.{tests_come}
use Rattle.lap_operations.proofs.laws.tests_come.Goals as goal

pub returns : goal.returns
returns c = tests_come
