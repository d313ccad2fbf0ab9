use Rattle.std.proofs.Common.{◌≡◌, slice_get, Some, false, sym, ◌∙◌, ap}
use Rattle.t_objects.proofs.TableLemmas.{put}
use Rattle.t_objects.proofs.operations.add.Goals as goal

pub returns-in_ok-push-in-Some-false-clause-added : goal.returns-in_ok-push-in-Some-false-clause-added
returns-in_ok-push-in-Some-false-clause-added c infos table marks below =
    let unmarked : slice_get c.args.found.now.items c.args.op.name.0 ≡ Some false =
    ap (λ xs. slice_get xs c.args.op.name.0) (sym c.as_slice.ensures.value) ∙ sym c.mark_at.ensures ∙ c.in-Some-false.is
    ∙ ap (λ b. Some b) c.in-Some-false.field-0-test in
    rw c.in_ok-push-in-Some-false.ensures.items (put c.args.ops.now.items infos c.args.found.now.items c.args.op table marks below unmarked)
