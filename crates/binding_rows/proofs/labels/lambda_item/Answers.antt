use Rattle.std.proofs.Common.{[], ◌∷◌, refl, sym, ◌∙◌}
use Rattle.binding_rows.proofs.ProcedureLemmas.{item_no_pair, item_more, item_no_lambda, item_no_name, item_is}
use Rattle.binding_rows.proofs.labels.lambda_item.Goals as goal

pub returns-in-None : goal.returns-in-None
returns-in-None c names f ds h r =
    let e = c.in-One.ensures names ds r in
    rw (e.1, item_no_pair f e.0 (c.in-None.ensures names e.0 e.2)) refl

pub returns-in-None-binder_of : goal.returns-in-None-binder_of
returns-in-None-binder_of c names f ds h r =
    let e = c.in-One.ensures names ds r in
    let p = c.in-Some.ensures names e.0 e.2 in
    rw (e.1, item_no_name f e.0 p.0 p.1 p.2 p.3 (sym (c.is_lambda.ensures names p.1 p.4) ∙ c.if-is_lambda.true) (c.in-None-binder_of.ensures names f h)) refl

pub returns-in-Some-binder_of : goal.returns-in-Some-binder_of
returns-in-Some-binder_of c names f ds h r =
    let e = c.in-One.ensures names ds r in
    let p = c.in-Some.ensures names e.0 e.2 in
    let b = c.in-Some-binder_of.ensures names f h in
    rw (e.1, item_is f e.0 p.0 p.1 p.2 b.0 p.3 (sym (c.is_lambda.ensures names p.1 p.4) ∙ c.if-is_lambda.true) b.1) (_, refl, (b.2, e.2))

pub returns-else-is_lambda : goal.returns-else-is_lambda
returns-else-is_lambda c names f ds h r =
    let e = c.in-One.ensures names ds r in
    let p = c.in-Some.ensures names e.0 e.2 in
    rw (e.1, item_no_lambda f e.0 p.0 p.1 p.2 p.3 (sym (c.is_lambda.ensures names p.1 p.4) ∙ c.if-is_lambda.false)) refl

pub returns-in-Zero : goal.returns-in-Zero
returns-in-Zero c names f ds h r = rw (c.in-Zero.ensures names ds r) refl

pub returns-in-Two : goal.returns-in-Two
returns-in-Two c names f ds h r = let e = c.in-Two.ensures names ds r in rw (e.2, item_more f e.0 e.1 []) refl

pub returns-in-Three : goal.returns-in-Three
returns-in-Three c names f ds h r = let e = c.in-Three.ensures names ds r in rw (e.3, item_more f e.0 e.1 (e.2 ∷ [])) refl

pub returns-in-More : goal.returns-in-More
returns-in-More c names f ds h r = let e = c.in-More.ensures names ds r in rw (e.5, item_more f e.0 e.1 (e.2 ∷ e.3 ∷ e.4)) refl
