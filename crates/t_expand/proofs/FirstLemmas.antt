-- The first of the refusals that stand, put together from those of parts.
use Rattle.std.proofs.Common.{◌≡◌, ◌⊎◌, inl, inr, Bool, true, List, [], ◌∷◌, Contains, Option, Some, None, refl, sym, subst, ◌∙◌}
use Rattle.std.specs.List.{list_any}
use Rattle.std.proofs.lemmas.List.Elements.{Contains-push, Contains-push_cases}
use Rattle.t_base.specs.declared.basics.Span.{Span}
use Rattle.std.proofs.lemmas.Option.{same_Some}
use Rattle.t_forms.specs.Data.{Datum, Binder, is_same_name}
use Rattle.t_forms.specs.Names.{Scope}
use Rattle.t_rows.specs.declared.refusal.Refusal.{Refusal}
use Rattle.t_rows.specs.declared.refusal.SyntaxKind.TheVariants.{Twice}
use Rattle.t_rows.specs.Rows.{refusal}
use Rattle.expansion.specs.Units.{Top, names_defined}
use Rattle.expansion.specs.Refusals.{Refused, Precedes, IsFirstOf, twice_defined}
use Rattle.expansion.proofs.Places.{contains_none}
use Rattle.t_expand.specs.Expanding.{IsCovered, IsFirst, Expands}
use Rattle.t_expand.specs.declared.driver_state.Expansion.{Expansion}
use Rattle.t_expand.proofs.RefusalLemmas.{none_covers}
use Rattle.expansion.proofs.Places.{precedes_through}

covering : (f r : Refusal) → IsCovered (Some f) r → Precedes f r
covering f r c = subst (λ x. Precedes x r) (sym (same_Some f c.by c.is)) c.precedes

pub first_of : (P : Refusal → Type 0) (now : Option Refusal) → ((r : Refusal) → now ≡ Some r → P r) → ((r : Refusal) → P r → IsCovered now r)
    → IsFirstOf P now
first_of P None known least = λ r p. none_covers r (least r p)
first_of P (Some f) known least = (known f refl, λ r p. covering f r (least r p))

pub first_of_is : (before : Option Refusal) (others : List Refusal) (now : Option Refusal) → IsFirst before others now
    → IsFirstOf (λ r. (before ≡ Some r) ⊎ Contains others r) now
first_of_is before others now f = first_of (λ r. (before ≡ Some r) ⊎ Contains others r) now f.known (λ r h. either r h)
  where
    either : (r : Refusal) → (before ≡ Some r) ⊎ Contains others r → IsCovered now r
    either r (inl e) = f.kept r e
    either r (inr h) = f.least r h

pub first_of_expands : (old new : Expansion) (around : Scope) (d : Datum) (root : _) → Expands old new around d root
    → IsFirstOf (λ r. (old.first ≡ Some r) ⊎ Refused around d r) new.first
first_of_expands old new around d root x = first_of (λ r. (old.first ≡ Some r) ⊎ Refused around d r) new.first x.known (λ r h. either r h)
  where
    either : (r : Refusal) → (old.first ≡ Some r) ⊎ Refused around d r → IsCovered new.first r
    either r (inl e) = x.kept r e
    either r (inr h) = x.least r h

pub first_same : (P Q : Refusal → Type 0) (f : Option Refusal) → ((r : Refusal) → P r → Q r) → ((r : Refusal) → Q r → P r) → IsFirstOf P f → IsFirstOf Q f
first_same P Q None there back h = λ r q. h r (back r q)
first_same P Q (Some f) there back h = (there f h.0, λ r q. h.1 r (back r q))

-- first those of P, then those of Q behind what was found
pub first_among : (P Q : Refusal → Type 0) (a b : Option Refusal) → IsFirstOf P a → IsFirstOf (λ r. (a ≡ Some r) ⊎ Q r) b → IsFirstOf (λ r. P r ⊎ Q r) b
first_among P Q None None h i = λ r p. neither r p
  where
    neither : (r : Refusal) → P r ⊎ Q r → ⊥
    neither r (inl p) = h r p
    neither r (inr q) = i r (inr q)
first_among P Q None (Some f) h i = (stands i.0, λ r p. least r p)
  where
    stands : (None ≡ Some f) ⊎ Q f → P f ⊎ Q f
    stands (inl e) = cc
    stands (inr q) = inr q

    least : (r : Refusal) → P r ⊎ Q r → Precedes f r
    least r (inl p) = absurd (h r p)
    least r (inr q) = i.1 r (inr q)
first_among P Q (Some e) None h i = absurd (i e (inl refl))
first_among P Q (Some e) (Some f) h i = (stands i.0, λ r p. least r p)
  where
    stands : (Some e ≡ Some f) ⊎ Q f → P f ⊎ Q f
    stands (inl s) = inl (subst P (same_Some e f s) h.0)
    stands (inr q) = inr q

    least : (r : Refusal) → P r ⊎ Q r → Precedes f r
    least r (inl p) = precedes_through f e r (i.1 e (inl refl)) (h.1 r p)
    least r (inr q) = i.1 r (inr q)

pub first_then : (P Q : Refusal → Type 0) (a b c : Option Refusal) → IsFirstOf (λ r. (a ≡ Some r) ⊎ P r) b → IsFirstOf (λ r. (b ≡ Some r) ⊎ Q r) c
    → IsFirstOf (λ r. (a ≡ Some r) ⊎ (P r ⊎ Q r)) c
first_then P Q a b c h i =
    first_same (λ r. ((a ≡ Some r) ⊎ P r) ⊎ Q r) (λ r. (a ≡ Some r) ⊎ (P r ⊎ Q r)) c there back (first_among (λ r. (a ≡ Some r) ⊎ P r) Q b c h i)
  where
    there : (r : Refusal) → ((a ≡ Some r) ⊎ P r) ⊎ Q r → (a ≡ Some r) ⊎ (P r ⊎ Q r)
    there r (inl (inl e)) = inl e
    there r (inl (inr p)) = inr (inl p)
    there r (inr q) = inr (inr q)

    back : (r : Refusal) → (a ≡ Some r) ⊎ (P r ⊎ Q r) → ((a ≡ Some r) ⊎ P r) ⊎ Q r
    back r (inl e) = inl (inl e)
    back r (inr (inl p)) = inl (inr p)
    back r (inr (inr q)) = inr q

-- nothing was refused before where nothing is
pub none_before : (P : Refusal → Type 0) (a : Option Refusal) → IsFirstOf (λ r. (a ≡ Some r) ⊎ P r) None → a ≡ None
none_before P None h = refl
none_before P (Some e) h = absurd (h e (inl refl))

-- ---- lists of refusals

pub first_lists : (a b : Option Refusal) (xs ys : List Refusal) → xs ≡ ys → IsFirstOf (λ r. (a ≡ Some r) ⊎ Contains xs r) b
    → IsFirstOf (λ r. (a ≡ Some r) ⊎ Contains ys r) b
first_lists a b xs ys e h = subst (λ zs. IsFirstOf (λ r. (a ≡ Some r) ⊎ Contains zs r) b) e h

pub contains_one : (x r : Refusal) → Contains (x ∷ []) r → r ≡ x
contains_one x r h = by (Contains-push_cases [] x r h)
  where
    by : Contains [] r ⊎ (x ≡ r) → r ≡ x
    by (inl i) = absurd (contains_none r i)
    by (inr e) = sym e

pub first_one : (a b : Option Refusal) (x : Refusal) → IsFirstOf (λ r. (a ≡ Some r) ⊎ Contains (x ∷ []) r) b → IsFirstOf (λ r. (a ≡ Some r) ⊎ (r ≡ x)) b
first_one a b x h = first_same (λ r. (a ≡ Some r) ⊎ Contains (x ∷ []) r) (λ r. (a ≡ Some r) ⊎ (r ≡ x)) b there back h
  where
    there : (r : Refusal) → (a ≡ Some r) ⊎ Contains (x ∷ []) r → (a ≡ Some r) ⊎ (r ≡ x)
    there r (inl e) = inl e
    there r (inr i) = inr (contains_one x r i)

    back : (r : Refusal) → (a ≡ Some r) ⊎ (r ≡ x) → (a ≡ Some r) ⊎ Contains (x ∷ []) r
    back r (inl e) = inl e
    back r (inr e) = inr (subst (λ y. Contains (x ∷ []) y) (sym e) (Contains-push [] x))

pub twice_is : (before : List Top) (b : Binder) (at : Span) (was : Bool) → was ≡ list_any (is_same_name b.name) (names_defined before) → was ≡ true
    → at ≡ b.at → refusal Twice at ∷ [] ≡ twice_defined before b
twice_is before b at was e t s = let found : list_any (is_same_name b.name) (names_defined before) ≡ true = sym e ∙ t in rw (found, s) refl

pub first_right : (P Q : Refusal → Type 0) (a b : Option Refusal) → ((r : Refusal) → P r → Q r) → ((r : Refusal) → Q r → P r)
    → IsFirstOf (λ r. (a ≡ Some r) ⊎ P r) b → IsFirstOf (λ r. (a ≡ Some r) ⊎ Q r) b
first_right P Q a b there back h = first_same (λ r. (a ≡ Some r) ⊎ P r) (λ r. (a ≡ Some r) ⊎ Q r) b to from h
  where
    to : (r : Refusal) → (a ≡ Some r) ⊎ P r → (a ≡ Some r) ⊎ Q r
    to r (inl e) = inl e
    to r (inr p) = inr (there r p)

    from : (r : Refusal) → (a ≡ Some r) ⊎ Q r → (a ≡ Some r) ⊎ P r
    from r (inl e) = inl e
    from r (inr q) = inr (back r q)

-- nothing stands where nothing is first
pub none_of : (P : Refusal → Type 0) (a b : Option Refusal) → b ≡ None → IsFirstOf (λ r. (a ≡ Some r) ⊎ P r) b → (r : Refusal) → P r → ⊥
none_of P a None e h = λ r p. h r (inr p)
none_of P a (Some f) e h = cc

pub was_none : (P : Refusal → Type 0) (a b : Option Refusal) → b ≡ None → IsFirstOf (λ r. (a ≡ Some r) ⊎ P r) b → a ≡ None
was_none P a None e h = none_before P a h
was_none P a (Some f) e h = cc
