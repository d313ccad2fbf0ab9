use Rattle.layout_relation.proofs.laid_out_is_small.Goals as goal
use Rattle.layout_relation.proofs.Smallness.{laid_out_is_small}

pub returns : goal.returns
returns c = laid_out_is_small
