-- A reserved word is written in one way.
use Rattle.std.proofs.Common.{◌≡◌, ℕ, Bool, true, false, List, [], ◌∷◌, Some, refl, ap, ◌∙◌, if◌then◌else◌}
use Rattle.std.specs.Str.{bytes_eq}
use Rattle.std.proofs.lemmas.Option.{same_Some}
use Rattle.std.proofs.lemmas.Slice.Eq.{bytes_eq-Decides}
use Rattle.t_objects.specs.declared.words.Word.{Word}
use Rattle.t_objects.specs.Words.{spellings, spelled, word_named}
use Rattle.t_expand.specs.Quoting.{spelling}

abbrev AreSpelled : {A : Type 0} → (A → List ℕ) → List (List ℕ × A) → Type 0
AreSpelled f [] = Unit {0}
AreSpelled f (e ∷ others) = (e.0 ≡ f e.1) × AreSpelled f others

spelled_by : {A : Type 0} (f : A → List ℕ) (table : List (List ℕ × A)) (text : List ℕ) (w : A) → AreSpelled f table → spelled table text ≡ Some w → text ≡ f w
spelled_by f [] text w all h = cc
spelled_by f (e ∷ others) text w all h = by (bytes_eq text e.0) refl h (spelled_by f others text w all.1)
  where
    by : (b : Bool) → bytes_eq text e.0 ≡ b → (if b then Some e.1 else spelled others text) ≡ Some w → (spelled others text ≡ Some w → text ≡ f w) → text ≡ f w
    by true i j more = (bytes_eq-Decides text e.0).0 i ∙ all.0 ∙ ap f (same_Some e.1 w j)
    by false i j more = more j

pub named_spelling : (text : List ℕ) (w : Word) → word_named text ≡ Some w → text ≡ spelling w
named_spelling text w h =
    spelled_by spelling spellings text w
    (refl, (refl, (refl, (refl, (refl, (refl, (refl, (refl, (refl, (refl, (refl, (refl, (refl, (refl, (refl, (refl, (refl, (refl, (refl, (refl, (refl, (refl, tt)))))))))))))))))))))) h
