use Rattle.std.proofs.Common.{◌∷◌, refl}
use Rattle.form_rows.proofs.definitions.default_of.Goals as goal

pub returns-in-None-clause-made : goal.returns-in-None-clause-made
returns-in-None-clause-made c names xs bs h r = rw (c.in-None.ensures names bs r) refl

pub returns-in_ok-form-in-Some-clause-made : goal.returns-in_ok-form-in-Some-clause-made
returns-in_ok-form-in-Some-clause-made c names xs bs h r =
    let b = c.in-Some.ensures names bs r in
    rw b.2 (_, refl, c.in_ok-form-in-Some.ensures.made names xs (b.0 ∷ b.1) h (rw b.2 at r))
