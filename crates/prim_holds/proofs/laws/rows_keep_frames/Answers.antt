use Rattle.prim_holds.proofs.Keeping.{store_kept}
use Rattle.prim_holds.proofs.laws.rows_keep_frames.Goals as goal

pub returns : goal.returns
returns c = store_kept
