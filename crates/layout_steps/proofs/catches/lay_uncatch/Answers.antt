use Rattle.std.proofs.Common.{refl, ap, ◌∙◌, ◌++◌, ◌∷◌, [], append_assoc}
use Rattle.frame_ir.specs.declared.forms.FrameOp.TheVariants as Op
use Rattle.layout_steps.proofs.Laying.{laid_bare_uncatch, laid_framed_uncatch}
use Rattle.layout_steps.proofs.catches.lay_uncatch.Goals as goal

pub returns-in_ok-step-in-Some-Bare : goal.returns-in_ok-step-in-Some-Bare
returns-in_ok-step-in-Some-Bare c = laid_bare_uncatch c.args.cps.now c.args.tables.now c.args.work.now c.prepare.new.work c.give_value.new.work c.args.line.now (record { ops = c.push.new.self; scope = c.args.line.now.scope; site = c.close.new.self }) c.give_value.new.line c.args.term c.args.value c.in_ok-given.given c.args.k c.prepare.new.ops.items c.in_ok-step-in-Some-Bare.step
    c.in_ok-given.ensures c.in_ok-push-in-Some-Bare.ensures.items refl (c.in-Some-Bare.ensures.catch ∙ ap (λ o. o ∷ c.close.new.self.catches) c.in-Some-Bare.field-0-is) c.close.ensures.joins c.close.ensures.own c.give_value.ensures.same c.in_ok-step-in-Some-Bare.ensures.leads

pub returns-in_ok-step-in-Some-Framed : goal.returns-in_ok-step-in-Some-Framed
returns-in_ok-step-in-Some-Framed c = laid_framed_uncatch c.args.cps.now c.args.tables.now c.args.work.now c.prepare.new.work c.give_value-in-Some-Framed.new.work c.args.line.now (record { ops = c.push-in-Some-Framed-2.new.self; scope = c.args.line.now.scope; site = c.close.new.self }) c.give_value-in-Some-Framed.new.line c.args.term c.args.value c.in_ok-given.given c.args.k c.prepare.new.ops.items c.in_ok-step-in-Some-Framed.step
    c.in_ok-given.ensures (c.in_ok-push-in-Some-Framed-2.ensures.items ∙ ap (λ zs. zs ++ Op.Pop ∷ []) c.in_ok-push-in-Some-Framed.ensures.items ∙ append_assoc c.prepare.new.ops.items (Op.CatchClose ∷ []) (Op.Pop ∷ [])) refl (c.in-Some-Framed.ensures.catch ∙ ap (λ o. o ∷ c.close.new.self.catches) c.in-Some-Framed.field-0-is) c.close.ensures.joins c.close.ensures.own c.give_value-in-Some-Framed.ensures.same c.in_ok-step-in-Some-Framed.ensures.leads
