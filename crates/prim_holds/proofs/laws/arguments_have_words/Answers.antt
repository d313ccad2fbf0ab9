use Rattle.prim_holds.proofs.Arguments.{operand_has}
use Rattle.prim_holds.proofs.laws.arguments_have_words.Goals as goal

pub returns : goal.returns
returns c = λ words sizes l e g t s env core shared a v h named is. operand_has words sizes l e g t s env core h shared a v named is
