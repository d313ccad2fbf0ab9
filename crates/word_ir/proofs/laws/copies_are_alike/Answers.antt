use Rattle.word_ir.proofs.CopiesWeigh.{copies_weigh_alike, homes_weigh_nothing}
use Rattle.word_ir.proofs.CopiesRun.{copies_run_alike}
use Rattle.word_ir.proofs.laws.copies_are_alike.Goals as goal

pub returns-clause-runs : goal.returns-clause-runs
returns-clause-runs c = copies_run_alike

pub returns-clause-weights : goal.returns-clause-weights
returns-clause-weights c = copies_weigh_alike

pub returns-clause-homes : goal.returns-clause-homes
returns-clause-homes c = homes_weigh_nothing
