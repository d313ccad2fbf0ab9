use Rattle.std.proofs.Common.{refl}
use Rattle.form_rows.proofs.definitions.lset_of.Goals as goal

pub returns-in-None-clause-definition : goal.returns-in-None-clause-definition
returns-in-None-clause-definition c names ds r =
    let e = c.in-Two.ensures names ds r in
    rw (e.2, c.in-None.ensures names e.0 e.3) refl

pub returns-in-Some-clause-definition : goal.returns-in-Some-clause-definition
returns-in-Some-clause-definition c names ds r =
    let e = c.in-Two.ensures names ds r in
    let g = c.in-Some.ensures names e.0 e.3 in
    rw (e.2, g.1) (_, refl, (_, _, refl, g.2, e.4))

pub returns-in-Zero-clause-definition : goal.returns-in-Zero-clause-definition
returns-in-Zero-clause-definition c names ds r = rw (c.in-Zero.ensures names ds r) refl

pub returns-in-One-clause-definition : goal.returns-in-One-clause-definition
returns-in-One-clause-definition c names ds r = rw ((c.in-One.ensures names ds r).1) refl

pub returns-in-Three-clause-definition : goal.returns-in-Three-clause-definition
returns-in-Three-clause-definition c names ds r = rw ((c.in-Three.ensures names ds r).3) refl

pub returns-in-More-clause-definition : goal.returns-in-More-clause-definition
returns-in-More-clause-definition c names ds r = rw ((c.in-More.ensures names ds r).5) refl
