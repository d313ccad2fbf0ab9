use Rattle.closure_layout.proofs.Walking.{OnItsWay}
use Rattle.closure_layout.proofs.blocks.lay_line.Given as goal

abbrev pub invariant-loop-count : goal.invariant-loop-count
invariant-loop-count l = OnItsWay l.cps l.tables l.fn.work l.work l.fn.line l.line l.fn.start l.place
