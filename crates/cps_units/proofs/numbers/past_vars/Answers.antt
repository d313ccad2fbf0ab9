use Rattle.std.proofs.Common.{subst}
use Rattle.std.proofs.lemmas.List.{take_all}
use Rattle.cps_units.specs.Numbers.{IsPast}
use Rattle.cps_units.proofs.Walked.{past_none, past_step}
use Rattle.cps_units.proofs.numbers.past_vars.Goals as goal

pub vars-init : goal.vars-init
vars-init c = past_none c.args.least

pub vars-preserved : goal.vars-preserved
vars-preserved c =
    past_step c.args.least c.vars.past c.in_ok-past.past c.args.vars.now c.vars.var-index _ c.vars-test.true c.vars.invariant c.in_ok-past.ensures

pub returns : goal.returns
returns c = subst (IsPast c.args.least c.vars.past) (take_all c.vars.var-index c.args.vars.now c.vars-test.false) c.vars.invariant
