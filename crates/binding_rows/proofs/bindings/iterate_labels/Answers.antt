use Rattle.std.proofs.Common.{refl}
use Rattle.binding_rows.proofs.bindings.iterate_labels.Goals as goal

pub returns : goal.returns
returns c names vars n p q is h k = (
  _,
  _,
  _,
  refl,
  refl,
  c.new.ensures.items,
  rw (c.in_ok-push-4.ensures.items, c.in_ok-push-3.ensures.items, c.new-parts.ensures.items)
      (_, _, refl, (rw (c.in_ok-push.ensures.items, c.new-binds.ensures.items) (is, tt), h), (_, _, refl, (rw (c.in_ok-push-2.ensures.items, c.new-starts.ensures.items) (refl, tt), k), refl)),
)
