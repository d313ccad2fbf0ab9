use Rattle.form_rows.proofs.set.set_call.Goals as goal

pub returns-in-None-clause-row : goal.returns-in-None-clause-row
returns-in-None-clause-row c names vars a es v m h r k x = rw (rw c.in-None.is at x) (c.set_through.ensures.row names vars a es v h r k)

pub returns-in-Some-clause-row : goal.returns-in-Some-clause-row
returns-in-Some-clause-row c names vars a es v m h r k x =
    let y = rw c.in-Some.is at x in
    rw y.1 (c.set_meant.ensures.row names vars a es v y.0 h r k y.2)
