use Rattle.std.proofs.Common.{[], refl}
use Rattle.t_reader.specs.Grammar.{truth}
use Rattle.t_forms.specs.Data.{given}
use Rattle.t_rows.specs.Rows.{local, global, op_value, builtin_value}
use Rattle.form_rows.proofs.table.name_row.Goals as goal

pub returns-in-Local-clause-row : goal.returns-in-Local-clause-row
returns-in-Local-clause-row c names vars m h =
    let l = rw c.in-Local.is at h in
    rw l.1 (c.plain_node.ensures.row names vars (local l.0) [] (_, refl, l.2) tt)

pub returns-in-Global-clause-row : goal.returns-in-Global-clause-row
returns-in-Global-clause-row c names vars m h = rw (rw c.in-Global.is at h) (c.plain_node-in-Global.ensures.row names vars (global c.in-Global.place) [] refl tt)

pub returns-in-Operation-clause-row : goal.returns-in-Operation-clause-row
returns-in-Operation-clause-row c names vars m h =
    rw (rw c.in-Operation.is at h) (c.plain_node-in-Operation.ensures.row names vars (op_value c.in-Operation.place) [] refl tt)

pub returns-in-Builtin-clause-row : goal.returns-in-Builtin-clause-row
returns-in-Builtin-clause-row c names vars m h = rw (rw c.in-Builtin.is at h) (c.plain_node-in-Builtin.ensures.row names vars (builtin_value c.in-Builtin.p) [] refl tt)

pub returns-in-BuiltinOperation-clause-row : goal.returns-in-BuiltinOperation-clause-row
returns-in-BuiltinOperation-clause-row c names vars m h =
    rw (rw c.in-BuiltinOperation.is at h) (c.plain_node-in-BuiltinOperation.ensures.row names vars (op_value c.in-BuiltinOperation.place) [] refl tt)

pub returns-in-Truth-clause-row : goal.returns-in-Truth-clause-row
returns-in-Truth-clause-row c names vars m h = rw (rw c.in-Truth.is at h) (c.stands_for_atom.ensures.row names vars (given truth) refl)

pub returns-in_ok-row-in-Listing-clause-row : goal.returns-in_ok-row-in-Listing-clause-row
returns-in_ok-row-in-Listing-clause-row c names vars m h = rw (rw c.in-Listing.is at h) (c.in_ok-row-in-Listing.ensures names c.args.forms.now vars)

pub returns-in_ok-row-in-Nothing-clause-row : goal.returns-in_ok-row-in-Nothing-clause-row
returns-in_ok-row-in-Nothing-clause-row c names vars m h = rw (rw c.in-Nothing.is at h) (c.in_ok-row-in-Nothing.ensures names c.args.forms.now vars)
