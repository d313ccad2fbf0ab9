use Rattle.form_rows.proofs.object.no_methods.Goals as goal

pub returns : goal.returns
returns c names around p h = record {
  ops = c.new-2.ensures.items;
  refusals = c.new-3.ensures.items;
  parts = rw (c.in_ok-push.ensures.items, c.new-parts.ensures.items) ((rw c.new.ensures.items tt, h), tt);
}
