use Rattle.std.proofs.Common.{false, refl, subst}
use Rattle.cps_ir.specs.declared.terms.Term.TheVariants as Node
use Rattle.frame_ir.specs.declared.forms.FrameOp.TheVariants as Op
use Rattle.layout_relation.specs.Laid.{lays_global_set}
use Rattle.layout_tables.specs.Sketches.{context_of}
use Rattle.layout_steps.specs.Steps.{IsGlobalKind}
use Rattle.layout_steps.proofs.Laying.{laid_value}
use Rattle.layout_steps.proofs.terms.lay_global_set.Goals as goal

pub returns : goal.returns
returns c =
    let b = c.in_ok-value.value in
    let kind = subst (λ p. IsGlobalKind c.args.cps.now.shared c.args.global p) c.in-Some-false.field-0-test c.in-Some-false.ensures in
    laid_value c.args.cps.now c.args.tables.now c.args.work.now c.prepare.new.work c.give_value.new.work c.args.line.now (record { ops = c.push.new.self; scope = c.args.line.now.scope; site = c.args.line.now.site }) c.give_value.new.line c.args.term (Node.GlobalSet c.args.global c.args.value c.args.k) _ b c.args.k (Op.GlobalPut c.args.global b false) c.prepare.new.ops.items c.in_ok-step.step
    (λ v same ms ops last prep gives. lays_global_set (context_of c.args.tables.now c.args.line.now) c.args.term c.args.global c.args.value c.args.k ms b ops last kind.there kind.code prep gives)
    c.in_ok-value.ensures refl c.in_ok-push.ensures.items c.give_value.ensures.same c.in_ok-step.ensures.leads
