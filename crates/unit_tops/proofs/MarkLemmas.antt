-- Marks on names.
use Rattle.std.proofs.Common.{◌≡◌, ◌≢◌, ℕ, ◌==◌, ◌||◌, Bool, true, false, List, [], ◌∷◌, ◌++◌, Some, slice_get, slice_set, AllPairs, refl, sym, ap, subst, ◌∙◌}
use Rattle.std.specs.List.{list_any}
use Rattle.std.specs.Str.{bytes_eq}
use Rattle.std.proofs.lemmas.Bool.Decides.{Decides-eqb}
use Rattle.std.proofs.lemmas.List.Folds.{list_any-append}
use Rattle.t_base.specs.declared.basics.Name.{Name as NamePlace}
use Rattle.t_forms.specs.declared.scope.LocalName.{LocalName}
use Rattle.t_forms.specs.declared.scope.LocalName.TheVariants as key
use Rattle.t_forms.specs.Data.{Name, written, made, is_same_name}
use Rattle.t_forms.specs.Held.{IsName}
use Rattle.t_forms.proofs.Bindings.{same_place}
use Rattle.unit_tops.specs.Marks.{Marks}
use Rattle.unit_tops.proofs.PlaceLemmas.{got_same, got_other}

or_last : (p : Name → Bool) (defined : List Name) (n : Name) → list_any p (defined ++ n ∷ []) ≡ (list_any p defined || (p n || false))
or_last p defined n = list_any-append p defined (n ∷ [])

with_mark : (b : Bool) → (b || (true || false)) ≡ true
with_mark true = refl
with_mark false = refl

without_mark : (b : Bool) → (b || (false || false)) ≡ b
without_mark true = refl
without_mark false = refl

says_at : (marks : List Bool) (i j : ℕ) (was old now : Bool) (b : Bool) → slice_get marks i ≡ Some was → slice_get marks j ≡ Some old → (j == i) ≡ b
    → now ≡ (old || (b || false)) → slice_get (slice_set marks i true) j ≡ Some now
says_at marks i j was old now true h g e f =
    let same : j ≡ i = (Decides-eqb j i).0 e in
    rw same (got_same marks i true was h) ∙ ap Some (sym (f ∙ with_mark old))
says_at marks i j was old now false h g e f =
    let other : j ≢ i = λ s. let t : (j == i) ≡ true = (Decides-eqb j i).1 s in cc in
    got_other marks i j true old other g ∙ ap Some (sym (f ∙ without_mark old))

pub marked : (names : List (List ℕ)) (defined : List Name) (n : Name) (k : LocalName) (p : NamePlace) (marks : List Bool) (was : Bool)
    → AllPairs (λ x y. x ≢ y) names → IsName names k n → k ≡ key.Written p → Marks names marks defined → slice_get marks p.0 ≡ Some was
    → Marks names (slice_set marks p.0 true) (defined ++ n ∷ [])
marked names defined (made v) k p marks was apart is e m h = cc
marked names defined (written t) k p marks was apart is e m h = record {
  says = λ j text at.
      let here : slice_get names p.0 ≡ Some t = let s : is.0 ≡ p = cc in subst (λ (x : NamePlace). slice_get names x.0 ≡ Some t) s is.2 in
      let same : (j == p.0) ≡ bytes_eq text t = same_place names j p.0 text t apart at here in
      says_at marks p.0 j was (list_any (is_same_name (written text)) defined) (list_any (is_same_name (written text)) (defined ++ written t ∷ []))
      (bytes_eq text t) h (m.says j text at) same (or_last (is_same_name (written text)) defined (written t));
}
