use Rattle.layout_relation.proofs.a_catch_is_laid_out.Goals as goal
use Rattle.layout_relation.proofs.ExampleLaid.{catch_is_laid_out}

pub returns : goal.returns
returns c = catch_is_laid_out
