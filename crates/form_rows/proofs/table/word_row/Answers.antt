use Rattle.t_forms.specs.Held.{vars_of}
use Rattle.form_rows.proofs.table.word_row.Goals as goal

pub returns-in-Else-clause-row : goal.returns-in-Else-clause-row
returns-in-Else-clause-row c around ds apart h s = rw c.in-Else.is (c.no_row.ensures.row c.args.names.now (vars_of c.args.scope.now))

pub returns-in-Arrow-clause-row : goal.returns-in-Arrow-clause-row
returns-in-Arrow-clause-row c around ds apart h s = rw c.in-Arrow.is (c.no_row-in-Arrow.ensures.row c.args.names.now (vars_of c.args.scope.now))
