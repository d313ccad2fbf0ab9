use Rattle.std.proofs.Common.{◌≡◌, ◌++◌, take}
use Rattle.cps_live.specs.Gathered.{lambda_ks}
use Rattle.cps_live.proofs.continuations.push_lambda_ks.Given as goal

abbrev pub invariant-loop-l : goal.invariant-loop-l
invariant-loop-l l = l.ks.items ≡ l.fn.ks.items ++ lambda_ks l.cps (take l.l-index l.lams)
