use Rattle.std.proofs.Common.{◌≡◌, drop}
use Rattle.t_expand.proofs.driver.unbind_all.Given as goal

abbrev pub invariant-bindings : goal.invariant-bindings
invariant-bindings l = record {
  locals : l.scope.locals ≡ drop l.k l.initial.scope.locals;
  table : l.scope.table ≡ l.initial.scope.table;
}
