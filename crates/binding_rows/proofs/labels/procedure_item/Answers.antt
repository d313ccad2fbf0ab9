use Rattle.std.proofs.Common.{refl}
use Rattle.binding_rows.proofs.labels.procedure_item.Goals as goal

pub returns-in-None-clause-made : goal.returns-in-None-clause-made
returns-in-None-clause-made c names fs bs h r = rw (c.in-None.ensures names fs h) refl

pub returns-in-None-binder_of-clause-made : goal.returns-in-None-binder_of-clause-made
returns-in-None-binder_of-clause-made c names fs bs h r =
    let f = c.in-Some.ensures names fs h in
    rw (f.2, c.in-None-binder_of.ensures names f.0 f.3) refl

pub returns-in_ok-value-in-Some-binder_of-clause-made : goal.returns-in_ok-value-in-Some-binder_of-clause-made
returns-in_ok-value-in-Some-binder_of-clause-made c names fs bs h r =
    let f = c.in-Some.ensures names fs h in
    let b = c.in-Some-binder_of.ensures names f.0 f.3 in
    rw (f.2, b.1) (_, refl, (b.2, c.in_ok-value-in-Some-binder_of.ensures.made names f.1 bs f.4 r))
