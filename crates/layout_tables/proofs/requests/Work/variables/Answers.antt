use Rattle.std.proofs.Common.{refl, ap, sym, ◌∙◌, arith, ◌++◌, ◌∷◌, []}
use Rattle.std.proofs.lemmas.List.{map-append}
use Rattle.layout_relation.specs.Laid.{numbers}
use Rattle.layout_tables.specs.Sketches.{counted}
use Rattle.layout_tables.proofs.Basics.{counted_more}
use Rattle.layout_tables.proofs.requests.Work.variables.Goals as goal

pub loop-step-init : goal.loop-step-init
loop-step-init c = record { vars = ap numbers c.new-vars.ensures.items; next = omega arith; requests = refl; templates = refl }

pub loop-step-preserved : goal.loop-step-preserved
loop-step-preserved c = record {
  vars = ap numbers c.in_ok-push.ensures.items ∙ map-append (λ x. x.0) c.loop-step.vars.items (c.in_ok-var.var ∷ []) ∙ ap (λ ns. ns ++ c.in_ok-var.var.0 ∷ []) c.loop-step.invariant.vars ∙ ap (λ n. counted c.args.self.now.next c.loop-step.step ++ n ∷ []) (c.in_ok-var.ensures.variable ∙ c.loop-step.invariant.next) ∙ sym (counted_more c.args.self.now.next c.loop-step.step);
  next = omega (arith, c.in_ok-var.ensures.next, c.loop-step.invariant.next);
  requests = c.variable.ensures.requests ∙ c.loop-step.invariant.requests;
  templates = c.variable.ensures.templates ∙ c.loop-step.invariant.templates;
}
