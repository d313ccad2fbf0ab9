use Rattle.layout_steps.proofs.Preparing.{global_is, global_isnt}
use Rattle.layout_steps.proofs.arguments.is_procedure.Goals as goal

pub returns-in-Proc : goal.returns-in-Proc
returns-in-Proc c = global_is c.args.cps.now.shared c.deref.result.now c.args.global c.in-Some.info.now c.deref.ensures.value c.in-Some.ensures.lookup.3.0 c.in-Some.ensures.lookup.1 c.in-Proc.is

pub returns-in_default : goal.returns-in_default
returns-in_default c = global_isnt c.args.cps.now.shared c.deref.result.now c.args.global c.in-Some.info.now c.deref.ensures.value c.in-Some.ensures.lookup.3.0 c.in-Some.ensures.lookup.1 c.in_default.not-Proc
