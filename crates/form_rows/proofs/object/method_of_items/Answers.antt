use Rattle.std.proofs.Common.{refl}
use Rattle.form_rows.proofs.MethodLemmas.{items_short}
use Rattle.form_rows.proofs.object.method_of_items.Goals as goal

pub returns-in-None-clause-made : goal.returns-in-None-clause-made
returns-in-None-clause-made c names ds h = rw (items_short c.args.span ds (c.in-None.ensures names ds h)) refl

pub returns-in-None-items_of-clause-made : goal.returns-in-None-items_of-clause-made
returns-in-None-items_of-clause-made c names ds h =
    let w = c.in-Some.ensures names ds h in
    rw (w.3, c.in-None-items_of.ensures names w.0 w.4) refl

pub returns-in-Some-items_of-clause-made : goal.returns-in-Some-items_of-clause-made
returns-in-Some-items_of-clause-made c names ds h =
    let w = c.in-Some.ensures names ds h in
    let i = c.in-Some-items_of.ensures names w.0 w.4 in
    rw (w.3, i.1) (c.method_of_head.ensures.made names i.0 w.1 w.2 i.2 w.5)
