use Rattle.std.proofs.Common.{refl}
use Rattle.form_rows.proofs.DefinitionLemmas.{operation_no_name, operation_named, operation_long}
use Rattle.form_rows.proofs.definitions.define_operation_named.Goals as goal

pub returns-in-None-binder_of-clause-definition : goal.returns-in-None-binder_of-clause-definition
returns-in-None-binder_of-clause-definition c names s x bs p h r =
    rw (c.in-None.ensures names bs r, operation_no_name s x p (c.in-None-binder_of.ensures names x h)) refl

pub returns-in-Some-binder_of-clause-definition : goal.returns-in-Some-binder_of-clause-definition
returns-in-Some-binder_of-clause-definition c names s x bs p h r =
    let g = c.in-Some-binder_of.ensures names x h in
    rw (c.in-None.ensures names bs r, operation_named s x g.0 p g.1) (_, refl, (_, _, _, refl, g.2, rw c.new.ensures.items tt, refl))

pub returns-in-Some-clause-definition : goal.returns-in-Some-clause-definition
returns-in-Some-clause-definition c names s x bs p h r =
    let b = c.in-Some.ensures names bs r in
    rw (b.2, operation_long s x b.0 b.1 p) refl
