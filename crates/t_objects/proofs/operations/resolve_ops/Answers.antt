use Rattle.std.proofs.Common.{◌<◌, length, get_or, take, add-one}
use Rattle.std.proofs.Math.Seq.{take-suc}
use Rattle.t_objects.proofs.TableLemmas.{table-init, table-next}
use Rattle.t_objects.proofs.operations.resolve_ops.Goals as goal

pub forms-init : goal.forms-init
forms-init c = table-init _ _ _ _ c.in_ok-ops.ensures (rw (← c.count.ensures.count) c.in_ok-found.ensures)

pub forms-preserved : goal.forms-preserved
forms-preserved c =
    let below : c.forms.form-index < length c.args.unit.now.forms.items = rw c.deref-form-items.ensures.value at c.forms-test.true in
    rw (add-one, take-suc c.args.unit.now.forms.items c.forms.form-index 0 below)
    (table-next c.args.unit.now.names c.args.unit.now.nodes.items (take c.forms.form-index c.args.unit.now.forms.items)
    (get_or c.args.unit.now.forms.items c.forms.form-index 0) _ _ _ _ _ c.forms.invariant
    (λ t h. c.operation_of-op.ensures t (rw c.deref-form-items.ensures.value h))
    c.in_ok-add_found.ensures.added c.in_ok-add_found.ensures.room)
