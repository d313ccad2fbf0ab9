use Rattle.std.proofs.Common.{refl, sym, subst}
use Rattle.layout_steps.proofs.Preparing.{not_less}
use Rattle.layout_relation.specs.Laid.{AreHeld}
use Rattle.layout_tables.specs.declared.requests.Request.TheVariants as For
use Rattle.layout_tables.proofs.Growing.{grows_asked, asked}
use Rattle.layout_tables.proofs.Adding.{adds_asked}
use Rattle.layout_steps.proofs.arguments.closure.Goals as goal

pub returns : goal.returns
returns c = record {
  code = c.in_ok-code.code;
  kept = c.from_vec.result;
  is = refl;
  lambda = not_less c.args.l c.args.tables.now.first c.if-l-tables.false;
  holds = subst (AreHeld c.args.scope.now _) (sym c.from_vec.ensures) (subst (λ xs. AreHeld c.args.scope.now xs c.in_ok-kept.kept.items) c.lam_needs.ensures c.in_ok-kept.ensures);
  runs = asked c.args.tables.now c.args.work.now c.request.new.self (For.CodeOf c.args.l) c.in_ok-code.code c.in_ok-code.ensures.requests c.in_ok-code.ensures.place;
  grows = grows_asked c.args.tables.now c.args.work.now c.request.new.self (For.CodeOf c.args.l) c.in_ok-code.ensures.requests c.in_ok-code.ensures.templates c.in_ok-code.ensures.next;
  next = c.in_ok-code.ensures.next;
  adds = adds_asked c.args.work.now c.request.new.self (For.CodeOf c.args.l) c.in_ok-code.ensures.requests c.in_ok-code.ensures.next tt;
}
