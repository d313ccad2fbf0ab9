use Rattle.std.proofs.Common.{ap, ◌∙◌, ◌∷◌}
use Rattle.frame_ir.specs.declared.forms.FrameEnd.TheVariants as Last
use Rattle.layout_relation.specs.Laid.{variables}
use Rattle.layout_tables.specs.declared.requests.Request.TheVariants as For
use Rattle.layout_tables.proofs.Growing.{asked, grows_asked}
use Rattle.layout_steps.proofs.Handing.{begins_new}
use Rattle.layout_tables.proofs.Adding.{adds_asked}
use Rattle.layout_steps.proofs.giving.give_block.Goals as goal

pub returns : goal.returns
returns c = record {
  block = c.in_ok-block.block;
  jumps = record {
    ats = c.in_ok-ats.ats.items;
    is = c.in_ok-last.ensures ∙ ap (λ xs. Last.Jump c.in_ok-block.block (c.args.value ∷ variables xs)) c.deref.ensures.value;
    arrives = c.in_ok-ats.ensures;
    begins = begins_new c.args.tables.now c.request.new.self c.in_ok-block.block c.in_ok-vars.vars c.args.site.now c.in_ok-same.same c.args.param c.args.body
        (asked c.args.tables.now c.args.work.now c.request.new.self (For.Begins c.in_ok-vars.vars c.in_ok-same.same c.args.body) c.in_ok-block.block c.in_ok-block.ensures.requests c.in_ok-block.ensures.place) c.in_ok-same.ensures c.in_ok-vars.ensures;
  };
  grows = grows_asked c.args.tables.now c.args.work.now c.request.new.self (For.Begins c.in_ok-vars.vars c.in_ok-same.same c.args.body) c.in_ok-block.ensures.requests c.in_ok-block.ensures.templates c.in_ok-block.ensures.next;
  next = c.in_ok-block.ensures.next;
  adds = adds_asked c.args.work.now c.request.new.self (For.Begins c.in_ok-vars.vars c.in_ok-same.same c.args.body) c.in_ok-block.ensures.requests c.in_ok-block.ensures.next tt;
}
