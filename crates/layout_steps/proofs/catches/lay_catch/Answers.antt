use Rattle.std.proofs.Common.{refl, sym, arith, ap, ◌++◌, ◌∷◌, [], ◌∙◌, append_assoc}
use Rattle.frame_ir.specs.declared.forms.FrameOp.TheVariants as Op
use Rattle.layout_tables.specs.declared.requests.Request.TheVariants as For
use Rattle.layout_tables.proofs.Growing.{grows_same, grows_asked, asked}
use Rattle.layout_steps.proofs.Laying.{laid_tail_catch, laid_catch}
use Rattle.layout_tables.proofs.Adding.{adds_variable, adds_asked}
use Rattle.layout_steps.proofs.catches.lay_catch.Goals as goal

pub returns-in-Some : goal.returns-in-Some
returns-in-Some c = laid_tail_catch c.args.cps.now c.args.tables.now c.args.work.now c.request.new.self c.variable.new.self c.args.line.now (record { ops = c.push.new.self; scope = c.hold.new.self; site = c.open.new.self }) c.args.term c.args.var c.in_ok-to.to c.in-Some._own c.args.k c.args.body c.in_ok-back.back
    c.requires c.in-Some.ensures (grows_asked c.args.tables.now c.args.work.now c.request.new.self For.PassesOn c.in_ok-back.ensures.requests c.in_ok-back.ensures.templates c.in_ok-back.ensures.next)
    (adds_asked c.args.work.now c.request.new.self For.PassesOn c.in_ok-back.ensures.requests c.in_ok-back.ensures.next tt) c.in_ok-back.ensures.next
    (asked c.args.tables.now c.args.work.now c.request.new.self For.PassesOn c.in_ok-back.back c.in_ok-back.ensures.requests c.in_ok-back.ensures.place)
    c.in_ok-to.ensures.variable c.in_ok-to.ensures.next (grows_same c.args.tables.now c.request.new.self c.variable.new.self c.variable.ensures.requests c.variable.ensures.templates (let e = c.in_ok-to.ensures.next in omega (arith, e)))
    (adds_variable c.request.new.self c.variable.new.self c.in_ok-to.to.0 c.variable.ensures.requests c.in_ok-to.ensures.variable c.in_ok-to.ensures.next) c.in_ok-push.ensures.items c.in_ok-hold.ensures c.in_ok-open.ensures (c.if-not-is_fresh.ensures refl) (sym c.if-is_celled.ensures)

pub returns : goal.returns
returns c = laid_catch c.args.cps.now c.args.tables.now c.args.work.now c.await_return.new.work c.variable-2.new.self c.args.line.now (record { ops = c.push-3.new.self; scope = c.hold-2.new.self; site = c.open-2.new.self }) c.args.term c.args.var c.in_ok-to-2.to c.args.k c.args.body c.in_ok-frame.frame
    c.requires c.in_ok-frame.ensures c.in_ok-to-2.ensures.variable c.in_ok-to-2.ensures.next (grows_same c.args.tables.now c.await_return.new.work c.variable-2.new.self c.variable-2.ensures.requests c.variable-2.ensures.templates (let e = c.in_ok-to-2.ensures.next in omega (arith, e)))
    (adds_variable c.await_return.new.work c.variable-2.new.self c.in_ok-to-2.to.0 c.variable-2.ensures.requests c.in_ok-to-2.ensures.variable c.in_ok-to-2.ensures.next)
    (c.in_ok-push-3.ensures.items ∙ ap (λ zs. zs ++ Op.CatchOpen c.in_ok-to-2.to c.in_ok-frame.frame.back ∷ []) c.in_ok-push-2.ensures.items ∙ append_assoc c.args.line.now.ops.items (Op.Push c.in_ok-frame.frame.kept c.in_ok-frame.frame.back ∷ []) (Op.CatchOpen c.in_ok-to-2.to c.in_ok-frame.frame.back ∷ []))
    c.in_ok-hold-2.ensures c.in_ok-open-2.ensures (c.if-not-is_fresh.ensures refl) (sym c.if-is_celled.ensures)
