use Rattle.form_rows.proofs.set.set_meant.Goals as goal

pub returns-in-Builtin-clause-row : goal.returns-in-Builtin-clause-row
returns-in-Builtin-clause-row c names vars a es v m h r k x =
    rw (rw c.in-Builtin.is at x) (rw c.assigns.ensures at (c.set_builtin.ensures.row names vars a es v h r k))

pub returns-in-BuiltinOperation-clause-row : goal.returns-in-BuiltinOperation-clause-row
returns-in-BuiltinOperation-clause-row c names vars a es v m h r k x = rw (rw c.in-BuiltinOperation.is at x) (c.set_operation.ensures.row names vars a es v h r k)

pub returns-in-Listing-clause-row : goal.returns-in-Listing-clause-row
returns-in-Listing-clause-row c names vars a es v m h r k x = rw (rw c.in-Listing.is at x) (c.not_settable.ensures.row names vars a es v h r k)

pub returns-in-Local-clause-row : goal.returns-in-Local-clause-row
returns-in-Local-clause-row c names vars a es v m h r k x =
    let l = rw c.in-Local.is at x in rw l.1 (c.set_through.ensures.row names vars a es v h r k)

pub returns-in-Global-clause-row : goal.returns-in-Global-clause-row
returns-in-Global-clause-row c names vars a es v m h r k x = rw (rw c.in-Global.is at x) (c.set_through-in-Global.ensures.row names vars a es v h r k)

pub returns-in-Operation-clause-row : goal.returns-in-Operation-clause-row
returns-in-Operation-clause-row c names vars a es v m h r k x = rw (rw c.in-Operation.is at x) (c.set_through-in-Operation.ensures.row names vars a es v h r k)

pub returns-in-Truth-clause-row : goal.returns-in-Truth-clause-row
returns-in-Truth-clause-row c names vars a es v m h r k x = rw (rw c.in-Truth.is at x) (c.set_through-in-Truth.ensures.row names vars a es v h r k)

pub returns-in-Nothing-clause-row : goal.returns-in-Nothing-clause-row
returns-in-Nothing-clause-row c names vars a es v m h r k x = rw (rw c.in-Nothing.is at x) (c.set_through-in-Nothing.ensures.row names vars a es v h r k)
