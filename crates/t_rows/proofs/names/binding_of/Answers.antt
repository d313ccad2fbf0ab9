use Rattle.std.proofs.Common.{sym, subst, refl}
use Rattle.t_forms.specs.Data.{Datum}
use Rattle.t_forms.specs.Held.{Held}
use Rattle.t_rows.proofs.BindingLemmas.{named_datum, binding_is}
use Rattle.t_rows.proofs.names.binding_of.Goals as goal

pub returns-in-None : goal.returns-in-None
returns-in-None c names d h = rw (c.in-None.ensures names d h) refl

pub returns-in-None-binder_of : goal.returns-in-None-binder_of
returns-in-None-binder_of c names d h =
    let i = c.in-Some.ensures names d h in
    let f = c.in-Two.ensures names i.0 i.2 in
    rw (i.1, f.2, c.in-None-binder_of.ensures names f.0 f.3) refl

pub returns-in-Some-binder_of : goal.returns-in-Some-binder_of
returns-in-Some-binder_of c names d h =
    let i = c.in-Some.ensures names d h in
    let f = c.in-Two.ensures names i.0 i.2 in
    let b = c.in-Some-binder_of.ensures names f.0 f.3 in (
      record { binds = b.0; value = f.1 },
      binding_is d f.0 f.1 i.0 b.0 i.1 f.2 b.1,
      (b.2, f.4, subst (λ (x : Datum). Held names c.args.forms.now c.in-Two.place x) (sym (named_datum f.0 b.0 b.1)) f.3),
    )

pub returns-in-Zero : goal.returns-in-Zero
returns-in-Zero c names d h = let i = c.in-Some.ensures names d h in rw (i.1, c.in-Zero.ensures names i.0 i.2) refl

pub returns-in-One : goal.returns-in-One
returns-in-One c names d h =
    let i = c.in-Some.ensures names d h in
    let f = c.in-One.ensures names i.0 i.2 in
    rw (i.1, f.1) refl

pub returns-in-Three : goal.returns-in-Three
returns-in-Three c names d h =
    let i = c.in-Some.ensures names d h in
    let f = c.in-Three.ensures names i.0 i.2 in
    rw (i.1, f.3) refl

pub returns-in-More : goal.returns-in-More
returns-in-More c names d h =
    let i = c.in-Some.ensures names d h in
    let f = c.in-More.ensures names i.0 i.2 in
    rw (i.1, f.5) refl
