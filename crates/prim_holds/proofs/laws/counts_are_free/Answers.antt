use Rattle.prim_holds.proofs.Keeping.{count_free}
use Rattle.prim_holds.proofs.laws.counts_are_free.Goals as goal

pub returns : goal.returns
returns c = count_free
