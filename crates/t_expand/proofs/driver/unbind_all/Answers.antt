use Rattle.std.proofs.Common.{◌∙◌, ap}
use Rattle.t_expand.proofs.ScopeLemmas.{drop-without_first}
use Rattle.t_expand.proofs.driver.unbind_all.Goals as goal

pub bindings-preserved : goal.bindings-preserved
bindings-preserved c = record {
  locals = ap (λ s. s.locals) c.unbind.ensures ∙ drop-without_first c.bindings.k c.bindings.scope.locals c.args.scope.now.locals c.bindings.invariant.locals;
  table = ap (λ s. s.table) c.unbind.ensures ∙ c.bindings.invariant.table;
}
