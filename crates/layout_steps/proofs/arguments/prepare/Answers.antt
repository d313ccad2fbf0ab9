use Rattle.std.proofs.Common.{sym, subst, arith, ◌∷◌, []}
use Rattle.cps_ir.specs.declared.args.Arg.TheVariants as Argument
use Rattle.layout_steps.specs.Steps.{IsPrepared}
use Rattle.layout_tables.proofs.Growing.{grows_same}
use Rattle.layout_tables.proofs.Adding.{adds_variable}
use Rattle.layout_steps.proofs.Preparing.{prepared_same, prepared_closure}
use Rattle.layout_steps.proofs.arguments.prepare.Goals as goal

pub returns-in-Proc : goal.returns-in-Proc
returns-in-Proc c = subst (λ a. IsPrepared c.args.cps.now c.args.tables.now c.args.scope.now c.args.work.now c.closure.new.work (a ∷ []) c.args.ops.now.items c.push.new.self.items (Argument.Var c.in_ok-to.to ∷ [])) (sym c.in-Proc.is)
    (prepared_closure c.args.cps.now c.args.tables.now c.args.scope.now c.args.work.now c.variable.new.self c.closure.new.work c.in-Proc.l c.in_ok-to.to c.in_ok-made.made c.args.ops.now.items c.push.new.self.items c.requires.first c.requires.below
    (grows_same c.args.tables.now c.args.work.now c.variable.new.self c.variable.ensures.requests c.variable.ensures.templates (let e = c.in_ok-to.ensures.next in omega (arith, e)))
    (adds_variable c.args.work.now c.variable.new.self c.in_ok-to.to.0 c.variable.ensures.requests c.in_ok-to.ensures.variable c.in_ok-to.ensures.next)
    c.in_ok-to.ensures.variable c.in_ok-to.ensures.next c.in_ok-made.ensures c.in_ok-push.ensures.items)

pub returns-in-Some : goal.returns-in-Some
returns-in-Some c = prepared_same c.args.cps.now c.args.tables.now c.args.scope.now c.args.work.now c.args.arg c.in-Some.same c.args.ops.now.items c.in-Some.ensures
