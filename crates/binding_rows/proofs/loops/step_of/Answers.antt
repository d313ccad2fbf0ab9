use Rattle.std.proofs.Common.{refl}
use Rattle.binding_rows.proofs.StepLemmas.{step_two, step_three}
use Rattle.binding_rows.proofs.loops.step_of.Goals as goal

pub returns-in-None : goal.returns-in-None
returns-in-None c names d h = rw (c.in-None.ensures names d h) refl

pub returns-in-Two : goal.returns-in-Two
returns-in-Two c names d h =
    let i = c.in-Some.ensures names d h in
    let f = c.in-Two.ensures names i.0 i.2 in
    (_, step_two d f.0 f.1 i.0 i.1 f.2, (f.3, f.4, f.3))

pub returns-in-Three : goal.returns-in-Three
returns-in-Three c names d h =
    let i = c.in-Some.ensures names d h in
    let f = c.in-Three.ensures names i.0 i.2 in
    (_, step_three d f.0 f.1 f.2 i.0 i.1 f.3, (f.4, f.5, f.6))

pub returns-in-Zero : goal.returns-in-Zero
returns-in-Zero c names d h = let i = c.in-Some.ensures names d h in rw (i.1, c.in-Zero.ensures names i.0 i.2) refl

pub returns-in-One : goal.returns-in-One
returns-in-One c names d h =
    let i = c.in-Some.ensures names d h in
    let f = c.in-One.ensures names i.0 i.2 in
    rw (i.1, f.1) refl

pub returns-in-More : goal.returns-in-More
returns-in-More c names d h =
    let i = c.in-Some.ensures names d h in
    let f = c.in-More.ensures names i.0 i.2 in
    rw (i.1, f.5) refl
