-- The first of several refusals.
use Rattle.std.proofs.Common.{◌≡◌, ◌⊎◌, inl, inr, List, [], ◌∷◌, ◌++◌, Contains, Option, Some, None, refl, sym, ap, subst, ◌∙◌}
use Rattle.std.proofs.lemmas.List.Elements.{Contains-push, Contains-push_cases, Contains-append_left}
use Rattle.std.proofs.lemmas.Option.{same_Some}
use Rattle.t_rows.specs.declared.refusal.Refusal.{Refusal}
use Rattle.expansion.specs.Refusals.{Precedes}
use Rattle.expansion.proofs.Places.{precedes_self, precedes_through, none_in}
use Rattle.t_expand.specs.Expanding.{IsCovered, IsFirst}

pub covered_self : (first : Option Refusal) (r : Refusal) → first ≡ Some r → IsCovered first r
covered_self first r e = record { by = r; is = e; precedes = precedes_self r }

pub none_covers : (r : Refusal) → IsCovered None r → ⊥
none_covers r c = let e = c.is in cc

pub first_alone : (before : Option Refusal) (seen : List Refusal) (x : Refusal) → IsFirst before seen None → IsFirst before (seen ++ x ∷ []) (Some x)
first_alone before seen x f = record {
  known = λ r e. inr (subst (λ y. Contains (seen ++ x ∷ []) y) (same_Some x r e) (Contains-push seen x));
  least = λ r h. by r (Contains-push_cases seen x r h);
  kept = λ r h. absurd (none_covers r (f.kept r h));
}
  where
    by : (r : Refusal) → Contains seen r ⊎ (x ≡ r) → IsCovered (Some x) r
    by r (inl h) = absurd (none_covers r (f.least r h))
    by r (inr e) = covered_self (Some x) r (ap Some e)

covers_more : (f g r : Refusal) → Precedes g f → IsCovered (Some f) r → IsCovered (Some g) r
covers_more f g r h c =
    record { by = g; is = refl; precedes = precedes_through g f r h (subst (λ y. Precedes y r) (sym (same_Some f c.by c.is)) c.precedes) }

pub first_of_two : (before : Option Refusal) (seen : List Refusal) (f x g : Refusal) → (g ≡ f) ⊎ (g ≡ x) → Precedes g f → Precedes g x → IsFirst before seen (Some f)
    → IsFirst before (seen ++ x ∷ []) (Some g)
first_of_two before seen f x g one h i first = record {
  known = λ r e. known_by one r e;
  least = λ r c. least_by r (Contains-push_cases seen x r c);
  kept = λ r e. covers_more f g r h (first.kept r e);
}
  where
    left : (r : Refusal) → (before ≡ Some r) ⊎ Contains seen r → (before ≡ Some r) ⊎ Contains (seen ++ x ∷ []) r
    left r (inl e) = inl e
    left r (inr c) = inr (Contains-append_left seen (x ∷ []) r c)

    known_by : (g ≡ f) ⊎ (g ≡ x) → (r : Refusal) → Some g ≡ Some r → (before ≡ Some r) ⊎ Contains (seen ++ x ∷ []) r
    known_by (inl e) r k = left r (first.known r (ap Some (sym e) ∙ k))
    known_by (inr e) r k = inr (subst (λ y. Contains (seen ++ x ∷ []) y) (sym e ∙ same_Some g r k) (Contains-push seen x))

    least_by : (r : Refusal) → Contains seen r ⊎ (x ≡ r) → IsCovered (Some g) r
    least_by r (inl c) = covers_more f g r h (first.least r c)
    least_by r (inr e) = record { by = g; is = refl; precedes = subst (λ y. Precedes g y) e i }

pub first_of_none : (before : Option Refusal) → IsFirst before [] before
first_of_none before = record { known = λ r e. inl e; least = λ r c. absurd (none_in r c); kept = λ r e. covered_self before r e }

-- without a first refusal there was none before
pub none_before : (before after : Option Refusal) → ((r : Refusal) → before ≡ Some r → IsCovered after r) → after ≡ None → before ≡ None
none_before None after kept e = refl
none_before (Some r) after kept e = absurd (none_covers r (subst (λ o. IsCovered o r) e (kept r refl)))
