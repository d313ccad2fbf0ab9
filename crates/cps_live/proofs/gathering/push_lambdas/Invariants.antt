use Rattle.std.proofs.Common.{◌≡◌, ◌++◌, [], take}
use Rattle.cps_live.specs.Gathered.{seen_in_lambdas}
use Rattle.cps_live.proofs.gathering.push_lambdas.Given as goal

abbrev pub invariant-loop-l : goal.invariant-loop-l
invariant-loop-l l = record {
  wanted : l.wanted.items ≡ l.fn.wanted.items ++ seen_in_lambdas l.cps l.lists l.fn.hidden.outer (take l.l-index l.lams);
  inner : l.hidden.inner ≡ [];
  outer : l.hidden.outer ≡ l.fn.hidden.outer;
}
