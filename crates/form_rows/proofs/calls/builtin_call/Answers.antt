use Rattle.form_rows.proofs.CallLemmas.{other_builtin}
use Rattle.form_rows.proofs.calls.builtin_call.Goals as goal

pub returns-in_default-clause-row : goal.returns-in_default-clause-row
returns-in_default-clause-row c names vars f ds h r =
    rw (other_builtin c.args.span f ds c.args.p c.in_default.not-Add c.in_default.not-Mul c.in_default.not-Sub) (c.builtin_row.ensures.row names vars f ds h r)
