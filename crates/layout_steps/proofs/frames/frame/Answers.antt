use Rattle.std.proofs.Common.{rules, sym, ap, subst, ◌∙◌}
use Rattle.layout_relation.specs.Laid.{AreHeld, AreDistinct, numbers}
use Rattle.layout_tables.specs.declared.requests.Request.TheVariants as For
use Rattle.layout_tables.specs.Sketches.{needs_behind}
use Rattle.layout_tables.proofs.Growing.{grows_asked, asked}
use Rattle.layout_tables.proofs.Adding.{adds_asked}
use Rattle.layout_steps.proofs.frames.frame.Goals as goal

pub returns : goal.returns
returns c = record {
  runs = asked c.args.tables.now c.args.work.now c.request.new.self (For.Resumes c.args.param c.args.body c.args.site c.args.join) c.in_ok-back.back c.in_ok-back.ensures.requests c.in_ok-back.ensures.place;
  holds = subst (AreHeld c.args.scope.now (needs_behind c.args.tables.now c.args.param c.args.body)) (sym c.from_vec.ensures)
      (subst (λ xs. AreHeld c.args.scope.now xs c.in_ok-kept.kept.items) (ap numbers c.deref.ensures.value ∙ c.in_ok-needs.ensures) c.in_ok-kept.ensures);
  once = subst (λ xs. AreDistinct (numbers xs)) (c.deref-2.ensures.value ∙ sym c.from_vec.ensures) (search rules);
  grows = grows_asked c.args.tables.now c.args.work.now c.request.new.self (For.Resumes c.args.param c.args.body c.args.site c.args.join) c.in_ok-back.ensures.requests c.in_ok-back.ensures.templates c.in_ok-back.ensures.next;
  next = c.in_ok-back.ensures.next;
  adds = adds_asked c.args.work.now c.request.new.self (For.Resumes c.args.param c.args.body c.args.site c.args.join) c.in_ok-back.ensures.requests c.in_ok-back.ensures.next tt;
}
