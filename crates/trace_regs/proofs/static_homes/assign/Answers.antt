use Rattle.trace_regs.proofs.Serving.{assigned_serves}
use Rattle.trace_regs.proofs.Promising.{keeps_bulk, keeps_runs, keeps_stamped_runs}
use Rattle.trace_regs.proofs.static_homes.assign.Goals as goal

pub returns-clause-serves : goal.returns-clause-serves
returns-clause-serves c = assigned_serves c.args.words.now c.in_ok-placed.placed c.requires.whole c.requires.few c.in_ok-placed.ensures

pub returns-clause-keeps : goal.returns-clause-keeps
returns-clause-keeps c = keeps_runs c.args.words.now c.in_ok-placed.placed c.requires.whole c.requires.few c.in_ok-placed.ensures

pub returns-clause-stamped : goal.returns-clause-stamped
returns-clause-stamped c = keeps_stamped_runs c.args.words.now c.in_ok-placed.placed c.requires.whole c.requires.few c.in_ok-placed.ensures

pub returns-clause-bulk : goal.returns-clause-bulk
returns-clause-bulk c = keeps_bulk c.args.words.now c.in_ok-placed.placed c.requires.whole c.requires.few c.in_ok-placed.ensures
