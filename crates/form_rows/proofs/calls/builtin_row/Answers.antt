use Rattle.std.proofs.Common.{◌∙◌, sym, refl}
use Rattle.t_rows.specs.Rows.{primitive}
use Rattle.form_rows.proofs.CallLemmas.{builtin_exact, builtin_inexact}
use Rattle.form_rows.proofs.calls.builtin_row.Goals as goal

pub returns-in_ok-keys-clause-row : goal.returns-in_ok-keys-clause-row
returns-in_ok-keys-clause-row c names vars f ds h r =
    let n = c.in_ok-count.ensures names ds r in
    rw (builtin_exact f c.args.p ds (sym n ∙ c.if-count-from.true ∙ c.from.ensures ∙ c.arity.ensures))
    (c.plain_node.ensures.row names vars (primitive c.args.p) ds refl (rw c.as_slice.ensures.value (c.in_ok-keys.ensures names ds r)))

pub returns-else-count-from-clause-row : goal.returns-else-count-from-clause-row
returns-else-count-from-clause-row c names vars f ds h r =
    let n = c.in_ok-count.ensures names ds r in
    rw (builtin_inexact f c.args.p ds (λ e. c.if-count-from.false (n ∙ e ∙ sym (c.from.ensures ∙ c.arity.ensures)))) (c.call_node.ensures.row names vars f ds h r)
