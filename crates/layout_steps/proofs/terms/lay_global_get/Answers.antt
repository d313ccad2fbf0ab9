use Rattle.std.proofs.Common.{arith, [], ◌∷◌, ◌++◌, ◌<◌, sym, subst, ◌∙◌}
use Rattle.cps_ir.specs.declared.terms.Term.TheVariants as Node
use Rattle.frame_ir.specs.declared.forms.FrameOp.TheVariants as Op
use Rattle.layout_relation.specs.Laid.{LaysTerm, lays_global_get}
use Rattle.layout_tables.specs.Sketches.{context_of}
use Rattle.layout_tables.proofs.Growing.{grows_same}
use Rattle.layout_steps.proofs.Preparing.{prepared_none}
use Rattle.layout_steps.proofs.Laying.{laid_new, none_made}
use Rattle.layout_tables.proofs.Adding.{adds_variable}
use Rattle.layout_steps.proofs.terms.lay_global_get.Goals as goal

pub returns : goal.returns
returns c =
    let to = c.in_ok-to.to in
    let t = c.args.term in
    let term = Node.GlobalGet c.args.global c.args.k in
    let context = context_of c.args.tables.now c.args.line.now in
    let there = subst (λ n. c.args.global < n) (c.len.ensures ∙ c.args.cps.now.shared.globals.ok.0) c.if-global-len.false in
    laid_new c.args.cps.now c.args.tables.now c.args.work.now c.args.work.now c.variable.new.self c.give_new.new.work c.args.line.now (record { ops = c.push.new.self; scope = c.args.line.now.scope; site = c.args.line.now.site }) c.give_new.new.line t term [] [] c.args.k to (Op.GlobalGet to c.args.global) c.args.line.now.ops.items c.in_ok-step.step
    (λ v same ms ops last prep unused gives. subst (λ zs. LaysTerm c.args.cps.now v context t term (zs ++ Op.GlobalGet to c.args.global ∷ ops) last) (sym (none_made c.args.cps.now v c.args.line.now.scope ms [] prep)) (lays_global_get context t c.args.global c.args.k to ops last there unused gives))
    c.requires (prepared_none c.args.cps.now c.args.tables.now c.args.line.now.scope c.args.work.now c.args.line.now.ops.items) c.in_ok-to.ensures.variable (grows_same c.args.tables.now c.args.work.now c.variable.new.self c.variable.ensures.requests c.variable.ensures.templates (let e = c.in_ok-to.ensures.next in omega (arith, e))) (adds_variable c.args.work.now c.variable.new.self to.0 c.variable.ensures.requests c.in_ok-to.ensures.variable c.in_ok-to.ensures.next)
    c.in_ok-push.ensures.items c.give_new.ensures.same c.in_ok-step.ensures.leads
