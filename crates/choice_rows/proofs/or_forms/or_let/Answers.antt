use Rattle.std.proofs.Common.{refl}
use Rattle.choice_rows.specs.Ors.{or_test}
use Rattle.t_rows.specs.declared.rows.Shape.TheVariants as shape
use Rattle.t_rows.proofs.Growth.{held_grows}
use Rattle.choice_rows.proofs.OrLemmas.{one_pushed, two_pushed, let_parts}
use Rattle.choice_rows.proofs.or_forms.or_let.Goals as goal

pub returns-clause-row : goal.returns-clause-row
returns-clause-row c names vars a ds value others = (
  shape.Let,
  c.new-2.result,
  c.push-3.new.self,
  refl,
  refl,
  c.new-2.ensures.items,
  let_parts names c.or_test.new.forms c.push-3.new.self.items c.new.result c.push.new.self c.args.first c.in_ok-form.form a (or_test c.args.span ds)
      (two_pushed c.in_ok-parts.parts.items c.push-2.new.self.items c.push-3.new.self.items _ _ c.in_ok-parts.ensures.items c.in_ok-push-2.ensures.items c.in_ok-push-3.ensures.items)
      c.new.ensures.items (one_pushed c.in_ok-names.names.items c.push.new.self.items _ c.in_ok-names.ensures.items c.in_ok-push.ensures.items)
      (held_grows c.in_ok-form.ensures.grown names c.args.first a value) (c.in_ok-form.ensures.made names ds others),
)
