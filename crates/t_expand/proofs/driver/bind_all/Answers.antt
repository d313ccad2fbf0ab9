use Rattle.std.proofs.Common.{◌∙◌, ◌-◌, ap, drop, map, length, refl, arith}
use Rattle.t_expand.proofs.ScopeLemmas.{one_more_name, one_more_var, one_more_local}
use Rattle.t_expand.proofs.driver.bind_all.Goals as goal

pub names-preserved : goal.names-preserved
names-preserved c =
    let e = ap (λ s. s.locals) c.in_ok-bind.ensures in
    let before = c.names.invariant in
    record {
      within = omega arith;
      names = ap (map (λ b. b.name)) e
          ∙ one_more_name c.args.names.now c.names.at _ (map (λ b. b.name) c.names.scope.locals) (map (λ b. b.name) c.args.scope.now.locals) (omega arith) before.within _ refl before.names;
      vars = ap (map (λ b. b.var)) e
          ∙ one_more_var c.args.first (length c.args.names.now) c.names.at (map (λ b. b.var) c.names.scope.locals) (map (λ b. b.var) c.args.scope.now.locals) (omega arith) before.within before.vars;
      outer = ap (drop (length c.args.names.now - (c.names.at - 1))) e
          ∙ one_more_local (length c.args.names.now) c.names.at _ c.names.scope.locals c.args.scope.now.locals (omega arith) before.within before.outer;
      table = ap (λ s. s.table) c.in_ok-bind.ensures ∙ before.table;
    }
