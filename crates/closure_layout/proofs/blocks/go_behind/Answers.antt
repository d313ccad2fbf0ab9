use Rattle.closure_layout.proofs.Walking.{gone_here, gone_to}
use Rattle.closure_layout.proofs.blocks.go_behind.Goals as goal

pub returns-in_ok-last-in-Some : goal.returns-in_ok-last-in-Some
returns-in_ok-last-in-Some c = gone_to c.args.cps.now c.args.tables.now c.args.work.now c.args.line.now c.args.body c.in_ok-last-in-Some.last c.in_ok-last-in-Some.ensures

pub returns-in_ok-last-in-None : goal.returns-in_ok-last-in-None
returns-in_ok-last-in-None c = gone_here c.args.cps.now c.args.tables.now c.args.work.now c.lay_line.new.work c.args.line.now c.lay_line.new.line c.args.body c.in_ok-last-in-None.last c.in_ok-last-in-None.ensures
