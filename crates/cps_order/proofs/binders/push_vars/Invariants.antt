use Rattle.std.proofs.Common.{◌≡◌, ◌++◌, take}
use Rattle.cps_order.specs.Order.{numbers_of}
use Rattle.cps_order.proofs.binders.push_vars.Given as goal

abbrev pub invariant-loop-var : goal.invariant-loop-var
invariant-loop-var l = l.out.items ≡ l.fn.out.items ++ numbers_of (take l.var-index l.vars)
