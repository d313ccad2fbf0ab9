use Rattle.closure_layout.proofs.Finishing.{BlocksSoFar}
use Rattle.closure_layout.proofs.layouts.lay_blocks.Given as goal

abbrev pub invariant-loop-place : goal.invariant-loop-place
invariant-loop-place l = BlocksSoFar l.cps l.tables l.fn.work l.work l.blocks.items l.place
