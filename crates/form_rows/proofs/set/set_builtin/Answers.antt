use Rattle.std.proofs.Common.{[], ◌∷◌, ◌++◌, sym, ◌∙◌, refl}
use Rattle.t_rows.specs.Rows.{primitive}
use Rattle.form_rows.proofs.SetLemmas.{set_exact, set_inexact}
use Rattle.form_rows.proofs.set.set_builtin.Goals as goal

pub returns-in-None-clause-row : goal.returns-in-None-clause-row
returns-in-None-clause-row c names vars a es v h r k = rw c.in-None.is (c.not_settable.ensures.row names vars a es v h r k)

pub returns-in_ok-keys-in-Some-clause-row : goal.returns-in_ok-keys-in-Some-clause-row
returns-in_ok-keys-in-Some-clause-row c names vars a es v h r k =
    let n = c.in_ok-count-in-Some.ensures names es r in
    rw (c.in-Some.is, set_exact c.args.span a es v c.in-Some.p c.in_ok-count-in-Some.count n (sym c.takes_one_more-exact.ensures ∙ c.if-exact.true))
    (c.plain_node.ensures.row names vars (primitive c.in-Some.p) (es ++ v ∷ []) refl (rw c.as_slice.ensures.value (c.in_ok-keys-in-Some.ensures names es v r k)))

pub returns-else-exact-clause-row : goal.returns-else-exact-clause-row
returns-else-exact-clause-row c names vars a es v h r k =
    let n = c.in_ok-count-in-Some.ensures names es r in
    rw (c.in-Some.is, set_inexact c.args.span a es v c.in-Some.p c.in_ok-count-in-Some.count n (sym c.takes_one_more-exact.ensures ∙ c.if-exact.false))
    (c.set_through.ensures.row names vars a es v h r k)
