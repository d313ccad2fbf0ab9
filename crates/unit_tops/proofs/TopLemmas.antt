-- Forms at top level.
use Rattle.std.proofs.Common.{◌≡◌, ℕ, suc, zero, ◌+◌, ◌<◌, List, [], ◌∷◌, ◌++◌, length, take, get_or, map, arith, Option, Some, None, refl, sym, ap, subst}
use Rattle.std.proofs.lemmas.List.{map-append}
use Rattle.t_base.specs.declared.basics.Span.{Span}
use Rattle.t_forms.specs.declared.arena.Cell.{Cell}
use Rattle.t_forms.specs.Data.{Datum}
use Rattle.t_forms.specs.Held.{Held, AllHeld, Extends}
use Rattle.t_forms.proofs.Keeping.{held_grows}
use Rattle.form_rows.specs.declared.definitions.Definition.{Definition as CodeDefinition}
use Rattle.form_rows.specs.Definitions.{IsDefinition}
use Rattle.t_rows.specs.Lists.{IsHeldIf}
use Rattle.t_rows.specs.Rows.{Definition, define, lset, operation_form}
use Rattle.unit_tops.specs.Tops.{IsTop, AreTops}
use Rattle.expansion.specs.Units.{Top, defining, broken, expression, top_of}
use Rattle.unit_tops.specs.declared.tops.Top.{Top as CodeTop}
use Rattle.unit_tops.specs.declared.tops.Top.TheVariants as code

-- ---- under more cells

default_grows : (names : List (List ℕ)) (a b : List Cell) → Extends a b → (k : Option ℕ) (d : Option Datum) → IsHeldIf names a k d → IsHeldIf names b k d
default_grows names a b g k None is = is
default_grows names a b g k (Some d) is = (is.0, is.1, held_grows g names is.0 d is.2)

pub definition_grows : (names : List (List ℕ)) (a b : List Cell) → Extends a b → (c : CodeDefinition) (d : Definition) → IsDefinition names a c d
    → IsDefinition names b c d
definition_grows names a b g c (define x e) is = (is.0, is.1, is.2, is.3, held_grows g names is.1 e is.4)
definition_grows names a b g c (lset x e) is = (is.0, is.1, is.2, is.3, held_grows g names is.1 e is.4)
definition_grows names a b g c (operation_form x ps e) is = (is.0, is.1, is.2, is.3, is.4, is.5, default_grows names a b g is.2 e is.6)

pub top_grows : (names : List (List ℕ)) (a b : List Cell) → Extends a b → (c : CodeTop) (t : Top) → IsTop names a c t → IsTop names b c t
top_grows names a b g (code.Defining c) (defining d) is = definition_grows names a b g c d is
top_grows names a b g (code.Defining c) (broken s) is = absurd is
top_grows names a b g (code.Defining c) (expression d) is = absurd is
top_grows names a b g (code.Broken s) (defining d) is = absurd is
top_grows names a b g (code.Broken s) (broken t) is = is
top_grows names a b g (code.Broken s) (expression d) is = absurd is
top_grows names a b g (code.Expression k) (defining d) is = absurd is
top_grows names a b g (code.Expression k) (broken s) is = absurd is
top_grows names a b g (code.Expression k) (expression d) is = held_grows g names k d is

pub tops_grow : (names : List (List ℕ)) (a b : List Cell) → Extends a b → (cs : List CodeTop) (ts : List Top) → AreTops names a cs ts → AreTops names b cs ts
tops_grow names a b g [] [] are = tt
tops_grow names a b g [] (t ∷ ts) are = absurd are
tops_grow names a b g (c ∷ cs) [] are = absurd are
tops_grow names a b g (c ∷ cs) (t ∷ ts) are = (top_grows names a b g c t are.0, tops_grow names a b g cs ts are.1)

-- ---- which form it is

pub record IsDefining (names : List (List ℕ)) (cells : List Cell) (c : CodeDefinition) (t : Top) : Type 0 where
  pub definition : Definition
  pub is : t ≡ defining definition
  pub of : IsDefinition names cells c definition

pub is_defining_top : (names : List (List ℕ)) (cells : List Cell) (c : CodeTop) (x : CodeDefinition) (t : Top) → c ≡ code.Defining x → IsTop names cells c t
    → IsDefining names cells x t
is_defining_top names cells c x t e is = by t (subst (λ y. IsTop names cells y t) e is)
  where
    by : (u : Top) → IsTop names cells (code.Defining x) u → IsDefining names cells x u
    by (defining d) h = record { definition = d; is = refl; of = h }
    by (broken s) h = absurd h
    by (expression d) h = absurd h

pub is_broken_top : (names : List (List ℕ)) (cells : List Cell) (c : CodeTop) (s : Span) (t : Top) → c ≡ code.Broken s → IsTop names cells c t → t ≡ broken s
is_broken_top names cells c s t e is = by t (subst (λ y. IsTop names cells y t) e is)
  where
    by : (u : Top) → IsTop names cells (code.Broken s) u → u ≡ broken s
    by (defining d) h = absurd h
    by (broken s) h = ap broken (sym h)
    by (expression d) h = absurd h

pub record IsExpression (names : List (List ℕ)) (cells : List Cell) (k : ℕ) (t : Top) : Type 0 where
  pub form : Datum
  pub is : t ≡ expression form
  pub held : Held names cells k form

pub is_expression_top : (names : List (List ℕ)) (cells : List Cell) (c : CodeTop) (k : ℕ) (t : Top) → c ≡ code.Expression k → IsTop names cells c t
    → IsExpression names cells k t
is_expression_top names cells c k t e is = by t (subst (λ y. IsTop names cells y t) e is)
  where
    by : (u : Top) → IsTop names cells (code.Expression k) u → IsExpression names cells k u
    by (defining d) h = absurd h
    by (broken s) h = absurd h
    by (expression d) h = record { form = d; is = refl; held = h }

-- ---- forms one after another

-- the datum at a place
pub record HeldAt (names : List (List ℕ)) (cells : List Cell) (k : ℕ) (ds : List Datum) (i : ℕ) : Type 0 where
  pub form : Datum
  pub next : take (i + 1) ds ≡ take i ds ++ form ∷ []
  pub held : Held names cells k form

pub held_at : (names : List (List ℕ)) (cells : List Cell) (ks : List ℕ) (ds : List Datum) (i : ℕ) → AllHeld names cells ks ds → i < length ks
    → HeldAt names cells (get_or ks i 0) ds i
held_at names cells [] ds i h below = absurd (omega (arith, below))
held_at names cells (k ∷ ks) [] i h below = absurd h
held_at names cells (k ∷ ks) (d ∷ ds) zero h below = record { form = d; next = refl; held = h.0 }
held_at names cells (k ∷ ks) (d ∷ ds) (suc i) h below =
    let less : i < length ks = omega (arith, below) in
    let r = held_at names cells ks ds i h.1 less in
    let more : suc i + 1 ≡ suc (i + 1) = omega arith in
    record { form = r.form; next = rw more (ap (λ l. d ∷ l) r.next); held = r.held }

pub as_many_held : (names : List (List ℕ)) (cells : List Cell) (ks : List ℕ) (ds : List Datum) → AllHeld names cells ks ds → length ks ≡ length ds
as_many_held names cells [] [] h = refl
as_many_held names cells [] (d ∷ ds) h = absurd h
as_many_held names cells (k ∷ ks) [] h = absurd h
as_many_held names cells (k ∷ ks) (d ∷ ds) h = ap suc (as_many_held names cells ks ds h.1)

pub tops_more : (names : List (List ℕ)) (cells : List Cell) (cs : List CodeTop) (ts : List Top) (c : CodeTop) (t : Top) → AreTops names cells cs ts
    → IsTop names cells c t → AreTops names cells (cs ++ c ∷ []) (ts ++ t ∷ [])
tops_more names cells [] [] c t h is = (is, tt)
tops_more names cells [] (u ∷ ts) c t h is = absurd h
tops_more names cells (x ∷ cs) [] c t h is = absurd h
tops_more names cells (x ∷ cs) (u ∷ ts) c t h is = (h.0, tops_more names cells cs ts c t h.1 is)

-- one more form
pub next_top : (names : List (List ℕ)) (first a b : List Cell) (ks : List ℕ) (ds : List Datum) (i : ℕ) (cs : List CodeTop) (c : CodeTop) → Extends first a → Extends a b
    → AllHeld names first ks ds → i < length ks → AreTops names a cs (map top_of (take i ds))
    → ((d : Datum) → Held names a (get_or ks i 0) d → IsTop names b c (top_of d)) → AreTops names b (cs ++ c ∷ []) (map top_of (take (i + 1) ds))
next_top names first a b ks ds i cs c g h all below are top =
    let at = held_at names first ks ds i all below in
    rw (at.next, map-append top_of (take i ds) (at.form ∷ []))
    (tops_more names b cs (map top_of (take i ds)) c (top_of at.form) (tops_grow names a b h cs (map top_of (take i ds)) are)
    (top at.form (held_grows g names (get_or ks i 0) at.form at.held)))

-- ---- the form at a place

-- the forms of the code and of the definition are as many
pub as_many : (names : List (List ℕ)) (cells : List Cell) (cs : List CodeTop) (ts : List Top) → AreTops names cells cs ts → length cs ≡ length ts
as_many names cells [] [] are = refl
as_many names cells [] (t ∷ ts) are = absurd are
as_many names cells (c ∷ cs) [] are = absurd are
as_many names cells (c ∷ cs) (t ∷ ts) are = ap suc (as_many names cells cs ts are.1)

-- the form at a place
pub record TopAt (names : List (List ℕ)) (cells : List Cell) (c : CodeTop) (ts : List Top) (i : ℕ) : Type 0 where
  pub top : Top
  pub next : take (i + 1) ts ≡ take i ts ++ top ∷ []
  pub is : IsTop names cells c top

pub top_at : (names : List (List ℕ)) (cells : List Cell) (cs : List CodeTop) (ts : List Top) (i : ℕ) (c : CodeTop) → AreTops names cells cs ts → i < length cs
    → c ≡ get_or cs i c → TopAt names cells c ts i
top_at names cells [] ts i c are below e = absurd (omega (arith, below))
top_at names cells (x ∷ cs) [] i c are below e = absurd are
top_at names cells (x ∷ cs) (t ∷ ts) zero c are below e =
    record { top = t; next = refl; is = subst (λ y. IsTop names cells y t) (sym e) are.0 }
top_at names cells (x ∷ cs) (t ∷ ts) (suc i) c are below e =
    let less : i < length cs = omega (arith, below) in
    let r = top_at names cells cs ts i c are.1 less e in
    let more : suc i + 1 ≡ suc (i + 1) = omega arith in
    record { top = r.top; next = rw more (ap (λ l. t ∷ l) r.next); is = r.is }
