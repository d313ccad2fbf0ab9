use Rattle.std.proofs.Common.{subst}
use Rattle.t_expand.specs.Expanding.{IsFirst}
use Rattle.t_expand.proofs.RefusalLemmas.{first_alone, first_of_two}
use Rattle.t_expand.proofs.driver_first.including.Goals as goal

pub returns-in-None : goal.returns-in-None
returns-in-None c before seen f = first_alone before seen c.args.other (subst (λ o. IsFirst before seen o) c.in-None.is f)

pub returns-in-Some : goal.returns-in-Some
returns-in-Some c before seen f =
    first_of_two before seen c.in-Some.refusal c.args.other c.earlier.result c.earlier.ensures.one c.earlier.ensures.first c.earlier.ensures.other
    (subst (λ o. IsFirst before seen o) c.in-Some.is f)
