use Rattle.layout_relation.proofs.laid_out_keeps.Goals as goal
use Rattle.layout_relation.proofs.Keeping.{laid_out_keeps}

pub returns : goal.returns
returns c = laid_out_keeps
