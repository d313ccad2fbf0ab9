use Rattle.std.proofs.Common.{◌≡◌, ◌∷◌, ◌++◌, [], Some, length, drop, sym, subst, ap, ◌∙◌, arith}
use Rattle.std.proofs.lemmas.List.{append_assoc, take_all}
use Rattle.t_core.specs.declared.forms.Core.TheVariants as Node
use Rattle.cps_ir.specs.declared.terms.Term.TheVariants as Step
use Rattle.cps_convert.specs.Growing.{AddsTerm}
use Rattle.cps_convert.specs.Claims.{LamConverted}
use Rattle.cps_convert.specs.Operands.{IsOperandAdded, AreLetsAdded}
use Rattle.cps_convert.specs.Naming.{BindsAll, SetsAll}
use Rattle.cps_conversion.specs.Conversion.{variables}
use Rattle.cps_convert.specs.Kinds.{LastMade, MethodMade, MethodsMade}
use Rattle.cps_convert.proofs.Blocks.{BlockEnd, catch_converted, block_start, block_step, block_converted}
use Rattle.cps_convert.proofs.Bodies.{lam_converted, lambda_made, lambda_converted}
use Rattle.cps_convert.proofs.Groups.{lambdas_step, method_made, methods_step, object_converted}
use Rattle.cps_convert.proofs.Lets.{let_converted}
use Rattle.cps_convert.proofs.Labels.{labels_converted}
use Rattle.cps_convert.proofs.Steps.{jobs_first, if_converted, kind_node, last_converted}
use Rattle.cps_convert.proofs.nodes.+nodes.Goals as goal

pub block-items-init : goal.block-items-init
block-items-init t c = record {
  within = omega (arith, c.if-at-eq0.false);
  end = λ marks. block_start c.args.unit.now c.args.marks.now c.args.form c.args.made.now c.node.new.made c.args.key c.args.items.now _ _ c.args.k c.in_ok-place.place (omega (arith, c.if-at-eq0.false)) (c.in_ok-place.ensures marks);
}

pub block-items-preserved : goal.block-items-preserved
block-items-preserved t c = record {
  within = omega (arith, c.items.invariant.within);
  end = λ marks.
      block_step c.args.unit.now c.args.marks.now c.args.form c.args.made.now c.items.made c.fresh.new.self c.node-in-items.new.made c.args.key c.args.items.now c.items.at _ c.args.k c.in_ok-unused.unused c.items.place
      c.in_ok-place-2.place c.items-test.true c.items.invariant.within (c.items.invariant.end marks) c.in_ok-unused.ensures (c.in_ok-place-2.ensures marks);
}

pub block-returns : goal.block-returns
block-returns t c = λ marks.
    let zero : c.items.at ≡ 0 = omega (arith, c.items-test.false) in
    block_converted c.args.unit.now c.args.marks.now c.args.form c.args.made.now c.items.made c.args.key c.args.items.now c.args.k c.items.place
    (subst (λ n. BlockEnd c.args.unit.now c.args.marks.now c.args.form c.args.made.now c.items.made c.args.key (drop n c.args.items.now) c.args.k c.items.place) zero (c.items.invariant.end marks))

pub catch-returns : goal.catch-returns
catch-returns t c = λ marks.
    catch_converted c.args.unit.now c.args.marks.now c.args.form c.args.made.now c.named.new.made c.fresh.new.self c.add.new.self c.node.new.made c.name_for.new.made c.bind_one.new.made c.add-2.new.self c.joined.new.made
    c.args.key c.args.var c.args.body c.args.k c.in_ok-outer.outer c.in_ok-value.value c.in_ok-name.name c.in_ok-end.end c.in_ok-start.start c.in_ok-inner.inner c.in_ok-rest.rest c.in_ok-place.place
    c.in_ok-outer.ensures c.in_ok-value.ensures c.in_ok-end.ensures (c.in_ok-start.ensures marks) c.in_ok-name.ensures c.in_ok-inner.ensures c.in_ok-rest.ensures c.in_ok-place.ensures

pub evaluate-jobs-preserved : goal.evaluate-jobs-preserved
evaluate-jobs-preserved t c =
    let job = c.in-Some.job in (
      job ∷ c.jobs.invariant.0,
      c.jobs.invariant.1 ∙ ap (λ l. l ++ c.jobs.invariant.0) c.in-Some.ensures.items ∙ append_assoc c.pop.new.self.items (job ∷ []) c.jobs.invariant.0,
      λ marks.
          jobs_first c.args.unit.now c.args.marks.now c.args.form c.args.made.now c.jobs.made c.node.new.made c.args.key job c.jobs.invariant.0 c.in_ok-place.place c.jobs.place c.args.last (c.jobs.invariant.2 marks)
          (c.in_ok-place.ensures marks),
    )

pub if_node-returns : goal.if_node-returns
if_node-returns t c = λ marks.
    if_converted c.args.unit.now c.args.marks.now c.args.form c.args.made.now c.named.new.made c.node.new.made c.node-2.new.made c.operand.new.made c.add.new.self c.evaluate.new.made c.joined.new.made c.args.key c.args.test c.args.yes
    c.args.no c.args.k c.in_ok-name.name c.in_ok-first.first c.in_ok-second.second c.in_ok-arg.arg c.operand.new.jobs.items c.in_ok-place.place c.in_ok-rest.rest c.in_ok-last.last c.in_ok-name.ensures (c.in_ok-first.ensures marks)
    (c.in_ok-second.ensures marks)
    (subst (λ l. IsOperandAdded c.args.unit.now c.args.form c.node-2.new.made c.operand.new.made c.args.test c.in_ok-arg.arg l c.operand.new.jobs.items) c.new-jobs.ensures.items (c.in_ok-arg.ensures marks))
    c.in_ok-last.ensures (c.in_ok-rest.ensures marks) c.in_ok-place.ensures

pub labels-returns : goal.labels-returns
labels-returns t c = λ marks.
    labels_converted c.args.unit.now c.args.marks.now c.args.form c.args.made.now c.lambdas.new.made c.node.new.made c.names_for.new.made c.set_assigned.new.made c.add.new.self c.bind_assigned.new.made c.args.key c.args.vars.now
    c.args.keys.now c.args.body c.args.k c.in_ok-lams.lams.items c.in_ok-names.names.items c.in_ok-args.args.items c.in_ok-start.start c.in_ok-behind.behind c.in_ok-at.at c.in_ok-place.place
    (c.in_ok-lams.ensures marks) (c.in_ok-start.ensures marks) c.in_ok-names.ensures
    (subst (λ ns. length c.args.vars.now ≡ length ns → SetsAll c.names_for.new.made c.set_assigned.new.made c.args.marks.now c.args.vars.now ns c.in_ok-start.start c.in_ok-behind.behind) c.as_slice.ensures.value c.in_ok-behind.ensures)
    (subst (λ ns. AddsTerm c.set_assigned.new.made c.add.new.self (Step.Labels ns c.in_ok-lams.lams.items c.in_ok-behind.behind) c.in_ok-at.at) c.from_vec.ensures
    (subst (λ ls. AddsTerm c.set_assigned.new.made c.add.new.self (Step.Labels c.from_vec.result ls c.in_ok-behind.behind) c.in_ok-at.at) c.from_vec-2.ensures c.in_ok-at.ensures))
    c.in_ok-args.ensures
    (subst (λ xs. length c.args.vars.now ≡ length xs → BindsAll c.add.new.self c.bind_assigned.new.made c.args.marks.now c.args.vars.now xs c.in_ok-at.at c.in_ok-place.place) c.as_slice-2.ensures.value c.in_ok-place.ensures)

pub lambda-returns-in_ok-place-in-Some-Lambda : goal.lambda-returns-in_ok-place-in-Some-Lambda
lambda-returns-in_ok-place-in-Some-Lambda t c = λ marks.
    lambda_made c.args.unit.now c.args.marks.now c.args.form c.args.made.now c.procedure.new.made c.add_procedure.new.self c.args.key c.as_slice.result.now c.in-Some-Lambda.body c.in_ok-lam-in-Some-Lambda.lam
    c.in_ok-place-in-Some-Lambda.place
    (sym c.in-Some-Lambda.ensures ∙ ap Some c.in-Some-Lambda.field-0-is ∙ ap (λ l. Some (Node.Lambda l c.in-Some-Lambda.body)) (sym c.as_slice.ensures)) (c.in_ok-lam-in-Some-Lambda.ensures marks) c.in_ok-place-in-Some-Lambda.ensures

pub lambdas-keys-preserved : goal.lambdas-keys-preserved
lambdas-keys-preserved t c = λ marks.
    lambdas_step c.args.unit.now c.args.marks.now c.args.form c.args.made.now c.keys.made c.lambda.new.made c.args.above c.args.keys.now c.keys.key-index _ c.keys.lams.items c.push.new.self.items c.in_ok-place.place c.keys-test.true
    (c.keys.invariant marks) (omega (arith, c.if-key-above.false)) (c.in_ok-place.ensures marks) c.in_ok-push.ensures.items

pub let_node-returns : goal.let_node-returns
let_node-returns t c = λ marks.
    let_converted c.args.unit.now c.args.marks.now c.args.form c.args.made.now c.node.new.made c.let_operands.new.made c.bind_assigned.new.made c.evaluate.new.made c.args.key c.args.vars.now c.args.values.now c.args.body c.args.k
    c.in_ok-args.args.items c.let_operands.new.jobs.items c.in_ok-start.start c.in_ok-behind.behind c.in_ok-place.place (c.in_ok-start.ensures marks)
    (subst (λ l. AreLetsAdded c.args.unit.now c.args.form c.node.new.made c.let_operands.new.made c.args.vars.now c.args.values.now c.in_ok-args.args.items l c.let_operands.new.jobs.items) c.new-jobs.ensures.items
    (c.in_ok-args.ensures marks (omega (arith, c.if-vars-values.false))))
    (subst (λ xs. length c.args.vars.now ≡ length xs → BindsAll c.let_operands.new.made c.bind_assigned.new.made c.args.marks.now c.args.vars.now xs c.in_ok-start.start c.in_ok-behind.behind) c.as_slice.ensures.value c.in_ok-behind.ensures)
    (c.in_ok-place.ensures marks)

pub method-returns : goal.method-returns
method-returns t c = λ marks.
    method_made c.args.unit.now c.args.marks.now c.args.form c.args.made.now c.procedure.new.made c.add_procedure.new.self c.args.key c.args.method.now c.in_ok-lam.lam c.in_ok-place.place
    (subst (λ ps. LamConverted c.args.unit.now c.args.marks.now c.args.form c.args.made.now c.procedure.new.made c.args.key ps c.args.method.now.body c.in_ok-lam.lam) c.as_slice-params.ensures (c.in_ok-lam.ensures marks)) c.in_ok-place.ensures

pub node-returns-in_ok-place-in-Lambda : goal.node-returns-in_ok-place-in-Lambda
node-returns-in_ok-place-in-Lambda t c = λ marks.
    kind_node c.args.unit.now c.args.marks.now c.args.form c.args.made.now c.give_procedure.new.made c.args.above c.args.key _ c.args.k c.in_ok-place-in-Lambda.place (omega (arith, c.if-key-above.false))
    (sym c.in-Some.ensures ∙ ap Some c.in-Lambda.is)
    (lambda_converted c.args.unit.now c.args.marks.now c.args.form c.args.made.now c.lambda.new.made c.give_procedure.new.made c.args.key c.in-Lambda.params c.in-Lambda.body c.args.k c.in_ok-l-in-Lambda.l c.in_ok-place-in-Lambda.place (c.in_ok-l-in-Lambda.ensures marks) c.in_ok-place-in-Lambda.ensures)

pub node-returns-in_ok-place-in-If : goal.node-returns-in_ok-place-in-If
node-returns-in_ok-place-in-If t c = λ marks.
    kind_node c.args.unit.now c.args.marks.now c.args.form c.args.made.now c.if_node.new.made c.args.above c.args.key _ c.args.k c.in_ok-place-in-If.place (omega (arith, c.if-key-above.false))
    (sym c.in-Some.ensures ∙ ap Some c.in-If.is)
    (c.in_ok-place-in-If.ensures marks)

pub node-returns-in_ok-place-in-Block : goal.node-returns-in_ok-place-in-Block
node-returns-in_ok-place-in-Block t c = λ marks.
    kind_node c.args.unit.now c.args.marks.now c.args.form c.args.made.now c.block.new.made c.args.above c.args.key _ c.args.k c.in_ok-place-in-Block.place (omega (arith, c.if-key-above.false))
    (sym c.in-Some.ensures ∙ ap Some c.in-Block.is ∙ ap (λ l. Some (Node.Block l)) (sym c.as_slice.ensures))
    (c.in_ok-place-in-Block.ensures marks)

pub node-returns-in_ok-place-in-Let : goal.node-returns-in_ok-place-in-Let
node-returns-in_ok-place-in-Let t c = λ marks.
    kind_node c.args.unit.now c.args.marks.now c.args.form c.args.made.now c.let_node.new.made c.args.above c.args.key _ c.args.k c.in_ok-place-in-Let.place (omega (arith, c.if-key-above.false))
    (sym c.in-Some.ensures ∙ ap Some c.in-Let.is ∙ ap (λ l. Some (Node.Let l c.in-Let.values c.in-Let.body)) (sym c.as_slice-vars.ensures) ∙ ap (λ l. Some (Node.Let c.as_slice-vars.result.now l c.in-Let.body)) (sym c.as_slice-values.ensures))
    (c.in_ok-place-in-Let.ensures marks)

pub node-returns-in_ok-place-in-Labels : goal.node-returns-in_ok-place-in-Labels
node-returns-in_ok-place-in-Labels t c = λ marks.
    kind_node c.args.unit.now c.args.marks.now c.args.form c.args.made.now c.labels.new.made c.args.above c.args.key _ c.args.k c.in_ok-place-in-Labels.place (omega (arith, c.if-key-above.false))
    (sym c.in-Some.ensures ∙ ap Some c.in-Labels.is ∙ ap (λ l. Some (Node.Labels l c.in-Labels.keys c.in-Labels.body)) (sym c.as_slice-vars-in-Labels.ensures) ∙ ap (λ l. Some (Node.Labels c.as_slice-vars-in-Labels.result.now l c.in-Labels.body)) (sym c.as_slice-keys.ensures))
    (c.in_ok-place-in-Labels.ensures marks)

pub node-returns-in_ok-place-in-Catch : goal.node-returns-in_ok-place-in-Catch
node-returns-in_ok-place-in-Catch t c = λ marks.
    kind_node c.args.unit.now c.args.marks.now c.args.form c.args.made.now c.catch.new.made c.args.above c.args.key _ c.args.k c.in_ok-place-in-Catch.place (omega (arith, c.if-key-above.false))
    (sym c.in-Some.ensures ∙ ap Some c.in-Catch.is)
    (c.in_ok-place-in-Catch.ensures marks)

pub node-returns-in_ok-place-in-Object : goal.node-returns-in_ok-place-in-Object
node-returns-in_ok-place-in-Object t c = λ marks.
    kind_node c.args.unit.now c.args.marks.now c.args.form c.args.made.now c.object.new.made c.args.above c.args.key _ c.args.k c.in_ok-place-in-Object.place (omega (arith, c.if-key-above.false))
    (sym c.in-Some.ensures ∙ ap Some c.in-Object.is ∙ ap (λ l. Some (Node.Object c.in-Object.proc l)) (sym c.as_slice-methods.ensures))
    (c.in_ok-place-in-Object.ensures marks)

pub node-returns-in_ok-place-in_default-core : goal.node-returns-in_ok-place-in_default-core
node-returns-in_ok-place-in_default-core t c = λ marks.
    kind_node c.args.unit.now c.args.marks.now c.args.form c.args.made.now c.evaluate.new.made c.args.above c.args.key c.in-Some.core.now c.args.k c.in_ok-place-in_default-core.place (omega (arith, c.if-key-above.false))
    (sym c.in-Some.ensures)
    (last_converted c.args.unit.now c.args.marks.now c.args.form c.args.made.now c.last_term.new.made c.evaluate.new.made c.args.key c.in-Some.core.now c.args.k c.last_term.new.jobs.items c.in_ok-place-in_default-core.place c.in_ok-last-in_default-core.last
    (subst (λ l. LastMade c.args.unit.now c.args.form c.args.made.now c.last_term.new.made c.in-Some.core.now c.args.k l c.last_term.new.jobs.items c.in_ok-last-in_default-core.last) c.new-jobs.ensures.items (c.in_ok-last-in_default-core.ensures marks))
    (c.in_ok-place-in_default-core.ensures marks))

pub object-methods-preserved : goal.object-methods-preserved
object-methods-preserved t c = λ marks.
    methods_step c.args.unit.now c.args.marks.now c.args.form c.args.made.now c.methods.made c.method.new.made c.args.key c.args.methods.now c.methods.m-index c.m-item.result c.methods.ops.items c.methods.lams.items c.push.new.self.items
    c.push-in-methods.new.self.items c.in_ok-place.place c.methods-test.true (c.methods.invariant marks)
    (subst (λ m. MethodMade c.args.unit.now c.args.marks.now c.args.form c.methods.made c.method.new.made c.args.key m c.in_ok-place.place) c.m-item.is (c.in_ok-place.ensures marks))
    (c.in_ok-push.ensures.items ∙ ap (λ m. c.methods.ops.items ++ m.op ∷ []) c.m-item.is) c.in_ok-push-2.ensures.items

pub object-returns : goal.object-returns
object-returns t c = λ marks.
    object_converted c.args.unit.now c.args.marks.now c.args.form c.args.made.now c.methods.made c.operand.new.made c.add.new.self c.evaluate.new.made c.args.key c.args.proc c.args.methods.now c.methods.ops.items c.methods.lams.items
    c.args.k c.in_ok-arg.arg c.operand.new.jobs.items c.in_ok-place-2.place c.in_ok-last.last
    (subst (λ ms. MethodsMade c.args.unit.now c.args.marks.now c.args.form c.args.made.now c.methods.made c.args.key ms c.methods.ops.items c.methods.lams.items)
    (take_all c.methods.m-index c.args.methods.now (omega (arith, c.methods-test.false))) (c.methods.invariant marks))
    (subst (λ l. IsOperandAdded c.args.unit.now c.args.form c.methods.made c.operand.new.made c.args.proc c.in_ok-arg.arg l c.operand.new.jobs.items) c.new-jobs.ensures.items (c.in_ok-arg.ensures marks))
    (subst (λ os. AddsTerm c.operand.new.made c.add.new.self (Step.Object c.in_ok-arg.arg os c.methods.lams.items c.args.k) c.in_ok-last.last) c.from_vec.ensures
    (subst (λ ls. AddsTerm c.operand.new.made c.add.new.self (Step.Object c.in_ok-arg.arg c.from_vec.result ls c.args.k) c.in_ok-last.last) c.from_vec-2.ensures c.in_ok-last.ensures))
    (c.in_ok-place-2.ensures marks)

pub procedure-returns : goal.procedure-returns
procedure-returns t c = λ marks.
    subst (λ ns. LamConverted c.args.unit.now c.args.marks.now c.args.form c.args.made.now c.bind_assigned.new.made c.args.key c.args.params.now c.args.body (record { params = ns; k = c.in_ok-k.k; body = c.in_ok-start.start }))
    (sym c.from_vec.ensures)
    (lam_converted c.args.unit.now c.args.marks.now c.args.form c.args.made.now c.names_for.new.made c.fresh.new.self c.node.new.made c.bind_assigned.new.made c.args.key c.args.params.now c.in_ok-names.names.items c.args.body c.in_ok-k.k
    c.in_ok-args.args.items c.in_ok-first.first c.in_ok-start.start c.in_ok-names.ensures c.in_ok-k.ensures (c.in_ok-first.ensures marks) (c.in_ok-args.ensures ∙ ap variables c.as_slice.ensures.value)
    (subst (λ xs. length c.args.params.now ≡ length xs → BindsAll c.node.new.made c.bind_assigned.new.made c.args.marks.now c.args.params.now xs c.in_ok-first.first c.in_ok-start.start) c.as_slice-2.ensures.value c.in_ok-start.ensures))
