use Rattle.closure_layout.proofs.Fetching.{FetchedSoFar}
use Rattle.closure_layout.proofs.blocks.fetch_all.Given as goal

abbrev pub invariant-loop-place : goal.invariant-loop-place
invariant-loop-place l = FetchedSoFar l.fn.work l.work l.fn.scope l.scope l.fn.ops.items l.ops.items l.needs l.place l.from
