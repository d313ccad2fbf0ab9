use Rattle.std.proofs.Common.{subst, sym, take, Some}
use Rattle.std.proofs.lemmas.List.{take_more}
use Rattle.t_expand.specs.Expanding.{IsFirst}
use Rattle.t_expand.proofs.RefusalLemmas.{first_of_none}
use Rattle.t_expand.proofs.driver_first.noted.Goals as goal

pub refusals-init : goal.refusals-init
refusals-init c = first_of_none c.args.first

pub refusals-preserved : goal.refusals-preserved
refusals-preserved c =
    subst (λ l. IsFirst c.args.first l (Some c.including.result)) (sym (take_more c.args.refusals.now c.refusals.refusal-index _ c.refusals-test.true))
    (c.including.ensures c.args.first (take c.refusals.refusal-index c.args.refusals.now) c.refusals.invariant)
