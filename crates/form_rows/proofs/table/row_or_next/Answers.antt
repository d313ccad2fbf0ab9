use Rattle.std.proofs.Common.{inl, inr, subst}
use Rattle.std.proofs.lemmas.Result.{IfOk-weaker}
use Rattle.std.specs.Prelude.{IfSome}
use Rattle.t_forms.specs.Held.{vars_of}
use Rattle.t_rows.proofs.Growth.{held_grows}
use Rattle.t_rows.specs.Given.{IsRowOfNext}
use Rattle.form_rows.proofs.table.row_or_next.Goals as goal

pub returns-in-Some-clause-row : goal.returns-in-Some-clause-row
returns-in-Some-clause-row c d around apart h s =
    inr (subst (λ found. IfSome found (IsRowOfNext c.args.names.now c.or_node.new.forms (vars_of c.args.scope.now) around d)) c.in-Some.is
    (c.in_ok-found.ensures.next c.args.names.now (vars_of c.args.scope.now) around d h))

pub returns-in-None-clause-row : goal.returns-in-None-clause-row
returns-in-None-clause-row c d around apart h s =
    IfOk-weaker c.row.result _ _ (λ r is. inl is) (c.row.ensures.row d around apart (held_grows c.in_ok-found.ensures.grown c.args.names.now c.args.key d h) s)
