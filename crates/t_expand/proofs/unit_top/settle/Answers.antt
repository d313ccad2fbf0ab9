use Rattle.std.proofs.Common.{ap, sym, ◌∙◌, arith}
use Rattle.std.proofs.Math.Seq.{map-set_same}
use Rattle.t_core.specs.Whole.{is_lambda_at}
use Rattle.t_expand.proofs.SettlingLemmas.{settled_set, settled_not, settled_past}
use Rattle.t_expand.proofs.unit_top.settle.Goals as goal
use Rattle.t_expand.proofs.unit_top.settle.Goals.{else-at-len-via-then-at-len+else-is_lambda, else-at-len-via-else-at-len}

pub returns-then-is_lambda-clause-names : goal.returns-then-is_lambda-clause-names
returns-then-is_lambda-clause-names c =
    map-set_same (λ g. g.name) c.args.globals.now.items c.in-Define.place _ c.index_mut.result.now (ap (λ g. g.name) c.index_mut.ensures.value)

pub returns-then-is_lambda-clause-settled : goal.returns-then-is_lambda-clause-settled
returns-then-is_lambda-clause-settled c =
    settled_set c.args.globals.now.items c.args.kind c.in-Define.place c.args.rooted.now.nodes.items c.args.rooted.now.root c.index_mut.result.now c.in-Define.is
    (ap (λ l. is_lambda_at l c.args.rooted.now.root) (sym c.as_slice.ensures.value) ∙ sym c.is_lambda.ensures ∙ c.if-is_lambda.true) (omega arith) c.index_mut.ensures.value

pub returns-else-at-len-clause-settled : goal.returns-else-at-len-clause-settled
returns-else-at-len-clause-settled c =
    let globals = c.args.globals.now.items in
    let nodes = c.args.rooted.now.nodes.items in
    let root = c.args.rooted.now.root in
    elim c.else-at-len.branch [
      | else-at-len-via-then-at-len+else-is_lambda w ↦ settled_not globals c.args.kind c.in-Define.place nodes root c.in-Define.is
          (ap (λ l. is_lambda_at l root) (sym w.as_slice.ensures.value) ∙ sym w.is_lambda.ensures ∙ w.if-is_lambda.false)
      | else-at-len-via-else-at-len w ↦ settled_past globals c.args.kind c.in-Define.place nodes root c.in-Define.is (omega arith)
    ]
