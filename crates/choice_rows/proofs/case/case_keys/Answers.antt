use Rattle.std.proofs.Common.{Some, ◌∷◌, refl}
use Rattle.choice_rows.proofs.CaseLemmas.{keys_short}
use Rattle.choice_rows.proofs.case.case_keys.Goals as goal

pub returns-in-None-clause-made : goal.returns-in-None-clause-made
returns-in-None-clause-made c names ds r h o = rw (keys_short c.args.span ds (Some r) (c.in-None.ensures names ds h)) refl

pub returns-in-None-items_of-clause-made : goal.returns-in-None-items_of-clause-made
returns-in-None-items_of-clause-made c names ds r h o =
    let w = c.in-Some.ensures names ds h in
    rw (w.3, c.in-None-items_of.ensures names w.0 w.4) refl

pub returns-in_ok-found-in-Some-items_of-clause-made : goal.returns-in_ok-found-in-Some-items_of-clause-made
returns-in_ok-found-in-Some-items_of-clause-made c names ds r h o =
    let w = c.in-Some.ensures names ds h in
    let i = c.in-Some-items_of.ensures names w.0 w.4 in
    rw (w.3, i.1)
    (c.in_ok-found-in-Some-items_of.ensures.made names i.0 (w.1 ∷ w.2) r (rw c.as_slice.ensures.value (c.in_ok-keys-in-Some-items_of.ensures names i.0 i.2)) w.5 o)
