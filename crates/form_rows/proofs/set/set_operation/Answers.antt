use Rattle.std.proofs.Common.{[], ◌∷◌, ◌++◌, sym, ◌∙◌}
use Rattle.form_rows.proofs.SetLemmas.{contents_once, contents_other, no_contents}
use Rattle.form_rows.proofs.set.set_operation.Goals as goal

pub returns-in_ok-operands-clause-row : goal.returns-in_ok-operands-clause-row
returns-in_ok-operands-clause-row c names vars a es v h r k =
    let n = c.in_ok-count.ensures names es r in
    rw (contents_once c.args.span a es v c.args.operation c.if-operation-eq1.true (sym n ∙ c.if-count-eq1.true))
    (c.rewritten.ensures.row names vars [] ((es ++ v ∷ []) ∷ []) tt
    (c.in_ok-operands.ensures.made names (es ++ v ∷ []) (rw c.as_slice.ensures.value (c.in_ok-keys.ensures names es v r k)), tt))

pub returns-else-count-eq1-clause-row : goal.returns-else-count-eq1-clause-row
returns-else-count-eq1-clause-row c names vars a es v h r k =
    let n = c.in_ok-count.ensures names es r in
    rw (contents_other c.args.span a es v c.args.operation c.if-operation-eq1.true (λ e. c.if-count-eq1.false (n ∙ e))) (c.set_through.ensures.row names vars a es v h r k)

pub returns-else-operation-eq1-clause-row : goal.returns-else-operation-eq1-clause-row
returns-else-operation-eq1-clause-row c names vars a es v h r k =
    rw (no_contents c.args.span a es v c.args.operation c.if-operation-eq1.false) (c.not_settable.ensures.row names vars a es v h r k)
