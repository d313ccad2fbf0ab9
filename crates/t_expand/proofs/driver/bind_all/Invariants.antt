use Rattle.std.proofs.Common.{◌≡◌, ◌+◌, ◌-◌, ◌≤◌, ◌++◌, map, drop, length}
use Rattle.expansion.specs.Lists.{numbered}
use Rattle.t_expand.proofs.driver.bind_all.Given as goal

abbrev pub invariant-names : goal.invariant-names
invariant-names l = record {
  within : l.at ≤ length l.names;
  names : map (λ b. b.name) l.scope.locals ≡ drop l.at l.names ++ map (λ b. b.name) l.initial.scope.locals;
  vars : map (λ b. b.var) l.scope.locals ≡ numbered (l.first + l.at) (length l.names - l.at) ++ map (λ b. b.var) l.initial.scope.locals;
  outer : drop (length l.names - l.at) l.scope.locals ≡ l.initial.scope.locals;
  table : l.scope.table ≡ l.initial.scope.table;
}

abbrev pub decreases-names : goal.decreases-names
decreases-names l = l.at
