use Rattle.std.proofs.Common.{◌∷◌, ◌∙◌, map}
use Rattle.form_rows.specs.Methods.{method_part}
use Rattle.t_rows.specs.Rows.{plain}
use Rattle.form_rows.proofs.MethodLemmas.{one_method}
use Rattle.form_rows.proofs.object.add_method.Goals as goal

pub returns : goal.returns
returns c around m ms p apart s h o =
    let texts = c.args.names.now in
    let cells = c.args.forms.now in
    one_method texts cells around p c.args.object.now.ops.items c.add_body.new.object.ops.items c.args.object.now.refusals.items c.add_operation.new.object.refusals.items
    c.add_body.new.object.refusals.items c.args.object.now.parts.items c.add_body.new.object.parts.items ms m c.operation_of-operation.result c.span_of.result o
    (c.operation_of-operation.ensures m.op around apart h.0 s) (c.span_of.ensures texts m.op h.0) (c.in_ok-add_body.ensures.ops ∙ c.in_ok-add_operation.ensures.ops)
    c.in_ok-add_operation.ensures.refusals (c.in_ok-add_body.ensures.refusals texts m.params apart (rw c.as_slice.ensures.value h.1))
    (c.in_ok-add_body.ensures.parts texts cells m.params (plain p ∷ map method_part ms) m.form (rw c.as_slice.ensures.value h.1)
    (rw c.in_ok-add_operation.ensures.parts o.parts) h.2)
