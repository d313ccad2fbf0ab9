use Rattle.std.proofs.Common.{◌∷◌, refl}
use Rattle.t_rows.proofs.Growth.{held_grows}
use Rattle.form_rows.proofs.MethodLemmas.{head_short, head_params, head_is}
use Rattle.form_rows.proofs.object.method_of_head.Goals as goal

pub returns-in-None-clause-made : goal.returns-in-None-clause-made
returns-in-None-clause-made c names hs b ds h r = rw (head_short c.args.span (b ∷ ds) hs (c.in-None.ensures names hs h)) refl

pub returns-in-None-found-clause-made : goal.returns-in-None-found-clause-made
returns-in-None-found-clause-made c names hs b ds h r =
    let w = c.in-Some.ensures names hs h in
    let n = rw c.in-None-found.is at (c.in_ok-found-in-Some.ensures names (w.1 ∷ w.2) w.5) in
    rw (w.3, head_params c.args.span (b ∷ ds) w.0 w.1 w.2 n) refl

pub returns-in_ok-form-in-Some-found-clause-made : goal.returns-in_ok-form-in-Some-found-clause-made
returns-in_ok-form-in-Some-found-clause-made c names hs b ds h r =
    let w = c.in-Some.ensures names hs h in
    let n = rw c.in-Some-found.is at (c.in_ok-found-in-Some.ensures names (w.1 ∷ w.2) w.5) in
    rw (w.3, head_is c.args.span (b ∷ ds) w.0 w.1 w.2 n.0 n.1)
    (_, refl, (held_grows c.in_ok-form-in-Some-found.ensures.grown names c.in-Some.op w.0 w.4, n.2, c.in_ok-form-in-Some-found.ensures.made names b ds r))
