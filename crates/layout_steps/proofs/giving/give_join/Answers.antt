use Rattle.std.proofs.Common.{refl}
use Rattle.std.proofs.Common.{ap, ◌∙◌, ◌∷◌}
use Rattle.frame_ir.specs.declared.forms.FrameEnd.TheVariants as Last
use Rattle.layout_relation.specs.Laid.{variables}
use Rattle.layout_steps.proofs.Handing.{begins_asked}
use Rattle.layout_steps.proofs.giving.give_join.Goals as goal

pub returns : goal.returns
returns c = record {
  ats = c.in_ok-ats.ats.items;
  is = c.in_ok-last.ensures ∙ ap (λ xs. Last.Jump c.args.join.block (c.args.value ∷ variables xs)) c.deref.ensures.value;
  arrives = c.in_ok-ats.ensures;
  begins = begins_asked c.args.tables.now c.args.work.now c.args.join.block c.in_ok-vars.vars c.args.site.now c.args.join.param c.args.join.body (c.if-not-is_asked_for.ensures refl) c.in_ok-vars.ensures;
}
