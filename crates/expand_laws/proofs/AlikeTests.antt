-- What nodes that are alike pass alike, forms that are alike pass alike.
use Rattle.std.proofs.Common.{◌≡◌, ℕ, ◌==◌, Bool, true, false, cond, List, [], ◌∷◌, All, refl, sym, ap, ◌∙◌}
use Rattle.std.specs.Prelude.{◌&&◌}
use Rattle.std.specs.List.{list_all, sum_by}
use Rattle.std.proofs.lemmas.List.Elements.{All-head, All-tail}
use Rattle.std.proofs.lemmas.List.Folds.{sum_by-zero}
use Rattle.t_base.specs.declared.basics.Span.{Span}
use Rattle.t_base.specs.declared.shared_parts.Shared.{Shared}
use Rattle.t_core.specs.declared.forms.Core.{Core}
use Rattle.t_core.specs.declared.forms.Form.{Form}
use Rattle.t_core.specs.declared.forms.FormKind.{FormKind}
use Rattle.t_core.specs.Whole.{HasPlaces}
use Rattle.expand_laws.specs.Renaming.{Renaming, Renames, IsSameNode, RootsAlike, FormsAlike}
use Rattle.expand_laws.proofs.AlikeSums.{nodes_same}
use Rattle.expand_laws.proofs.Roots.{same_roots}

-- 1 where the test fails
abbrev failing : {X : Type 0} → (X → Bool) → X → ℕ
failing p x = cond (p x) 0 1

none_failing : (b : Bool) → (cond b 0 1 == 0) ≡ b
none_failing true = refl
none_failing false = refl

all_unfailing : {X : Type 0} (p : X → Bool) (xs : List X) → list_all (λ x. failing p x == 0) xs ≡ list_all p xs
all_unfailing p [] = refl
all_unfailing p (x ∷ xs) = ap (λ b. b && list_all (λ y. failing p y == 0) xs) (none_failing (p x)) ∙ ap (λ b. p x && b) (all_unfailing p xs)

all_by_sum : {X : Type 0} (p : X → Bool) (xs : List X) → (sum_by (failing p) xs == 0) ≡ list_all p xs
all_by_sum p xs = sum_by-zero (failing p) xs ∙ all_unfailing p xs

module _ (renaming : Renaming) (shared other : Shared) (kinds : FormKind → Bool) (left right : Core → Bool)
    (same_for : (c d : Core) → IsSameNode shared other (Renames renaming) c d → left c ≡ right d) where
  abbrev left_form : Form → Bool
  left_form form = kinds form.kind && list_all left form.nodes.items

  abbrev right_form : Form → Bool
  right_form form = kinds form.kind && list_all right form.nodes.items

  nodes_pass : (form twin : Form) (ss ts : List Span) → HasPlaces shared form → HasPlaces other twin → RootsAlike renaming shared other form ss twin ts
      → list_all left form.nodes.items ≡ list_all right twin.nodes.items
  nodes_pass form twin ss ts places others roots =
      sym (all_by_sum left form.nodes.items)
      ∙ ap (λ n. n == 0)
      (nodes_same renaming shared other (failing left) (failing right) (λ c d tail same h. ap (λ b. cond b 0 1) (same_for c d same)) form twin ss ts places
      others roots (same_roots renaming shared other form twin ss ts roots))
      ∙ all_by_sum right twin.nodes.items

  pub forms_pass : (forms : List Form) (sss : List (List Span)) (twins : List Form) (tss : List (List Span)) → FormsAlike renaming shared other forms sss twins tss
      → All (HasPlaces shared) forms → All (HasPlaces other) twins
      → list_all (λ form. kinds form.kind && list_all left form.nodes.items) forms ≡ list_all (λ form. kinds form.kind && list_all right form.nodes.items) twins
  forms_pass [] [] [] [] h places others = refl
  forms_pass (f ∷ forms) (s ∷ sss) (g ∷ twins) (t ∷ tss) h places others =
      ap (λ k. (kinds k && list_all left f.nodes.items) && list_all left_form forms) h.0
      ∙ ap (λ b. (kinds g.kind && b) && list_all left_form forms)
      (nodes_pass f g s t (All-head (HasPlaces shared) f forms places) (All-head (HasPlaces other) g twins others) h.1)
      ∙ ap (λ b. right_form g && b)
      (forms_pass forms sss twins tss h.2 (All-tail (HasPlaces shared) f forms places) (All-tail (HasPlaces other) g twins others))
  forms_pass _ _ _ _ h places others = absurd h
