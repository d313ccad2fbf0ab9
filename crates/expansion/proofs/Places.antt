-- The order of refusals, and the names that forms define.
use Rattle.std.proofs.Common.{◌≡◌, ◌⊎◌, inl, inr, ℕ, ◌<◌, ◌≤◌, List, [], ◌∷◌, ◌++◌, Contains, refl, ap, ◌∙◌, arith}
use Rattle.std.proofs.lemmas.Grind.{flat_map-append}
use Rattle.std.proofs.lemmas.List.{append-nil}
use Rattle.t_forms.specs.Data.{Name}
use Rattle.t_rows.specs.declared.refusal.Refusal.{Refusal}
use Rattle.expansion.specs.Refusals.{Precedes, number}
use Rattle.expansion.specs.Units.{Top, names_of, names_defined}

pub precedes_self : (a : Refusal) → Precedes a a
precedes_self a = inr (refl, omega arith)

precedes_by : (a b c m n k : ℕ) → (a < b) ⊎ (a ≡ b) × (m ≤ n) → (b < c) ⊎ (b ≡ c) × (n ≤ k) → (a < c) ⊎ (a ≡ c) × (m ≤ k)
precedes_by a b c m n k (inl h) (inl i) = inl (omega arith)
precedes_by a b c m n k (inl h) (inr i) = inl (omega arith)
precedes_by a b c m n k (inr h) (inl i) = inl (omega arith)
precedes_by a b c m n k (inr h) (inr i) = inr (h.0 ∙ i.0, omega arith)

pub precedes_through : (a b c : Refusal) → Precedes a b → Precedes b c → Precedes a c
precedes_through a b c h i = precedes_by a.span.start b.span.start c.span.start (number a.kind) (number b.kind) (number c.kind) h i

pub none_in : {A : Type 0} (x : A) → Contains [] x → ⊥
none_in x c = let h = c.1 in omega arith

pub contains_none : (r : Refusal) → Contains [] r → ⊥
contains_none r h = absurd (omega (arith, h.1))

pub names_last : (before : List Top) (t : Top) (ns : List Name) → names_of t ≡ ns → names_defined (before ++ t ∷ []) ≡ names_defined before ++ ns
names_last before t ns e = flat_map-append names_of before (t ∷ []) ∙ ap (λ l. names_defined before ++ l) (last (names_of t) ∙ e)
  where
    last : (l : List Name) → l ++ [] ≡ l
    last l = append-nil l
