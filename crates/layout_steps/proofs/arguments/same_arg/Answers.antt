use Rattle.layout_relation.specs.Laid.{SameArg, same_const, same_var, same_global, same_builtin, same_op}
use Rattle.std.proofs.Common.{sym, subst}
use Rattle.cps_ir.specs.declared.args.Arg.TheVariants as Argument
use Rattle.layout_tables.specs.Sketches.{sketch_of}
use Rattle.layout_steps.specs.Steps.{IsGlobalKind}
use Rattle.layout_steps.proofs.arguments.same_arg.Goals as goal

pub returns-in-Const : goal.returns-in-Const
returns-in-Const c = λ ps ts. subst (λ a. SameArg c.args.cps.now (sketch_of c.args.tables.now ps ts) c.args.scope.now a (Argument.Const c.in-Const.constant)) (sym c.in-Const.is) (same_const c.in-Const.constant)

pub returns-in-Builtin : goal.returns-in-Builtin
returns-in-Builtin c = λ ps ts. subst (λ a. SameArg c.args.cps.now (sketch_of c.args.tables.now ps ts) c.args.scope.now a (Argument.Builtin c.in-Builtin.builtin)) (sym c.in-Builtin.is) (same_builtin c.in-Builtin.builtin)

pub returns-in-Op : goal.returns-in-Op
returns-in-Op c = λ ps ts. subst (λ a. SameArg c.args.cps.now (sketch_of c.args.tables.now ps ts) c.args.scope.now a (Argument.Op c.in-Op.operation)) (sym c.in-Op.is) (same_op c.in-Op.operation)

pub returns-in-Some : goal.returns-in-Some
returns-in-Some c = λ ps ts. subst (λ a. SameArg c.args.cps.now (sketch_of c.args.tables.now ps ts) c.args.scope.now a (Argument.Var c.in-Some.at)) (sym c.in-Var.is) (same_var c.in-Var.x c.in-Some.at c.in-Some.ensures (sym c.if-is_celled.ensures))

pub returns-in-Some-true : goal.returns-in-Some-true
returns-in-Some-true c = λ ps ts.
    let kind = subst (λ b. IsGlobalKind c.args.cps.now.shared c.in-Global.g b) c.in-Some-true.field-0-test c.in-Some-true.ensures in
    subst (λ a. SameArg c.args.cps.now (sketch_of c.args.tables.now ps ts) c.args.scope.now a (Argument.Global c.in-Global.g)) (sym c.in-Global.is) (same_global c.in-Global.g kind.code.0 kind.code.1)
