use Rattle.std.proofs.Common.{◌∷◌, refl}
use Rattle.form_rows.proofs.DefinitionLemmas.{operation_params, operation_name, operation_is}
use Rattle.form_rows.proofs.definitions.define_operation_with.Goals as goal

pub returns-in-None-clause-definition : goal.returns-in-None-clause-definition
returns-in-None-clause-definition c names op me xs bs h r o =
    rw (operation_params c.args.span op me xs bs (rw c.in-None.is at (c.in_ok-found.ensures names (me ∷ xs) r))) refl

pub returns-in-None-binder_of-clause-definition : goal.returns-in-None-binder_of-clause-definition
returns-in-None-binder_of-clause-definition c names op me xs bs h r o =
    let ps = rw c.in-Some.is at (c.in_ok-found.ensures names (me ∷ xs) r) in
    rw (operation_name c.args.span op me xs bs ps.0 ps.1 (c.in-None-binder_of.ensures names op h)) refl

pub returns-in_ok-default-in-Some-binder_of-clause-definition : goal.returns-in_ok-default-in-Some-binder_of-clause-definition
returns-in_ok-default-in-Some-binder_of-clause-definition c names op me xs bs h r o =
    let ps = rw c.in-Some.is at (c.in_ok-found.ensures names (me ∷ xs) r) in
    let g = c.in-Some-binder_of.ensures names op h in
    rw (operation_is c.args.span op me xs bs ps.0 g.0 ps.1 g.1)
    (_, refl, (_, _, _, refl, g.2, ps.2, c.in_ok-default-in-Some-binder_of.ensures.made names (me ∷ xs) bs r o))
