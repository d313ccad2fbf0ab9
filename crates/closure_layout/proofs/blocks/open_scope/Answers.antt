use Rattle.std.proofs.Common.{ap, ◌∙◌, length, ◌++◌}
use Rattle.layout_relation.specs.Contexts.{paired}
use Rattle.layout_relation.specs.Laid.{numbers}
use Rattle.closure_layout.proofs.Walking.{opened_made}
use Rattle.closure_layout.proofs.blocks.open_scope.Goals as goal

pub returns : goal.returns
returns c = opened_made c.args.work.now c.variables.new.self c.args.vars.now c.from_vec.result c.in_ok-params.params.items c.hold_all.new.self c.new-scope.result c.deref.result.now (length c.as_slice-count.result.now)
    (c.in_ok-hold_all.ensures ∙ ap (λ (vs : _). paired (numbers vs) c.deref.result.now ++ c.new-scope.result) c.as_slice.ensures) c.new-scope.ensures c.deref.ensures.value c.from_vec.ensures c.in_ok-params.ensures.variables (ap length c.as_slice-count.ensures) c.in_ok-params.ensures.next c.variables.ensures.requests c.variables.ensures.templates
