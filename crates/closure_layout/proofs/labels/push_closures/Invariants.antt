use Rattle.closure_layout.proofs.Labelling.{MakesSoFar}
use Rattle.closure_layout.proofs.labels.push_closures.Given as goal

abbrev pub invariant-loop-place : goal.invariant-loop-place
invariant-loop-place l = MakesSoFar l.tables l.scope l.fn.work l.work l.fn.ops.items l.ops.items l.lams l.tos l.place
