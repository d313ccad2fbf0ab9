use Rattle.prim_holds.proofs.Prims.{prim_performs}
use Rattle.prim_holds.proofs.laws.builtins_are_performed.Goals as goal

pub returns : goal.returns
returns c = λ words sizes l e g t s env core shared p args vs to rest h named given many below. prim_performs words sizes l e g t s env core shared to rest h below p args vs named given many
