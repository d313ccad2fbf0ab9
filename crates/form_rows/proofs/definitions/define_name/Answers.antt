use Rattle.std.proofs.Common.{[], ◌∷◌, refl}
use Rattle.form_rows.proofs.DefinitionLemmas.{define_no_name, define_is, define_bare, define_long}
use Rattle.form_rows.proofs.definitions.define_name.Goals as goal

pub returns-in-None-clause-definition : goal.returns-in-None-clause-definition
returns-in-None-clause-definition c names s x bs p h r =
    let e = c.in-One.ensures names bs r in
    rw (e.1, define_no_name s x e.0 p (c.in-None.ensures names x h)) refl

pub returns-in-Some-clause-definition : goal.returns-in-Some-clause-definition
returns-in-Some-clause-definition c names s x bs p h r =
    let e = c.in-One.ensures names bs r in
    let g = c.in-Some.ensures names x h in
    rw (e.1, define_is s x e.0 g.0 p g.1) (_, refl, (_, _, refl, g.2, e.2))

pub returns-in-Zero-clause-definition : goal.returns-in-Zero-clause-definition
returns-in-Zero-clause-definition c names s x bs p h r = rw (c.in-Zero.ensures names bs r, define_bare s x p) refl

pub returns-in-Two-clause-definition : goal.returns-in-Two-clause-definition
returns-in-Two-clause-definition c names s x bs p h r =
    let e = c.in-Two.ensures names bs r in
    rw (e.2, define_long s x e.0 e.1 [] p) refl

pub returns-in-Three-clause-definition : goal.returns-in-Three-clause-definition
returns-in-Three-clause-definition c names s x bs p h r =
    let e = c.in-Three.ensures names bs r in
    rw (e.3, define_long s x e.0 e.1 (e.2 ∷ []) p) refl

pub returns-in-More-clause-definition : goal.returns-in-More-clause-definition
returns-in-More-clause-definition c names s x bs p h r =
    let e = c.in-More.ensures names bs r in
    rw (e.5, define_long s x e.0 e.1 (e.2 ∷ e.3 ∷ e.4) p) refl
