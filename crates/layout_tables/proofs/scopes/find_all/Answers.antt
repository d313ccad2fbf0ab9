use Rattle.std.proofs.Common.{sym, subst}
use Rattle.layout_relation.specs.Laid.{AreHeld, numbers}
use Rattle.layout_relation.specs.Links.{zip_none}
use Rattle.layout_tables.proofs.Basics.{zipped_more_held}
use Rattle.std.proofs.Common.{take, ◌+◌, []}
use Rattle.layout_tables.proofs.scopes.find_all.Goals as goal

pub loop-var-init : goal.loop-var-init
loop-var-init c = subst (λ ys. AreHeld c.args.scope.now [] ys) (sym c.new-ats.ensures.items) zip_none

pub loop-var-preserved : goal.loop-var-preserved
loop-var-preserved c = subst (λ ys. AreHeld c.args.scope.now (numbers (take (c.loop-var.var-index + 1) c.args.vars.now)) ys) (sym c.in_ok-push.ensures.items)
    (zipped_more_held c.args.scope.now c.args.vars.now c.loop-var.ats.items c.loop-var.var-index _ c.in-Some.at c.loop-var-test.true c.loop-var.invariant c.in-Some.ensures)
