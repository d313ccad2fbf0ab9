-- From one form at top level to the next.
use Rattle.std.proofs.Common.{◌≡◌, ◌⊎◌, inl, inr, ℕ, ◌<◌, ◌≤◌, Bool, false, List, [], ◌∷◌, ◌++◌, length, take, replicate, Some, None, slice_get, refl, sym, ap, subst, ◌∙◌, arith}
use Rattle.std.proofs.lemmas.List.{take-append-le, length-append, length-replicate, get_or-replicate}
use Rattle.std.proofs.lemmas.Bool.{cases_order}
use Rattle.std.proofs.lemmas.Option.{slice_get_within, slice_get-get_or, get_or_from_slice_get, same_Some}
use Rattle.std.proofs.Math.Seq.{take-append_seam}
use Rattle.std.proofs.Math.ListN.{get_or-append}
use Rattle.t_base.specs.declared.basics.Span.{Span}
use Rattle.t_base.specs.declared.shared_parts.Shared.{Shared}
use Rattle.t_core.specs.declared.forms.Form.{Form}
use Rattle.t_forms.specs.Names.{Bound}
use Rattle.t_forms.proofs.Keeping.{keeps_append}
use Rattle.t_rows.specs.declared.refusal.Refusal.{Refusal}
use Rattle.t_expand.specs.Growth.{IsGrown, Keeps}
use Rattle.unit_tops.specs.Marks.{Marks}
use Rattle.expansion.specs.Meaning.{FormMeans, FormsMean}
use Rattle.expansion.specs.Refusals.{IsFirstOf, RefusedTop, RefusedAmong}
use Rattle.t_expand.specs.SoFar.{SoFar}
use Rattle.expansion.specs.Units.{Top, names_defined}
use Rattle.t_expand.specs.declared.driver_state.Expansion.{Expansion}
use Rattle.t_expand.specs.declared.unit_all.FormList.{FormList}
use Rattle.t_expand.specs.declared.unit_top.Expanded.{Expanded}
use Rattle.t_expand.proofs.FirstLemmas.{first_same, first_among, was_none}
use Rattle.t_expand.proofs.KeepingLemmas.{keeps_same, keeps_trans, grown_trans}

-- ---- lists

seam_get : {A : Type 0} (xs : List A) (x : A) → slice_get (xs ++ x ∷ []) (length xs) ≡ Some x
seam_get [] x = refl
seam_get (y ∷ xs) x = seam_get xs x

-- ---- refusals

pub among_more : (defined : List Bound) (done : List Top) (t : Top) (r : Refusal) → RefusedAmong defined done r ⊎ RefusedTop defined done t r
    → RefusedAmong defined (done ++ t ∷ []) r
among_more defined done t r (inl h) =
    let below : h.at < length done = slice_get_within done h.at h.top h.there in
    let within : h.at ≤ length done = omega arith in
    record {
      at = h.at;
      top = h.top;
      there = keeps_append done (t ∷ []) h.at h.top h.there;
      stands = subst (λ ts. RefusedTop defined ts h.top r) (sym (take-append-le h.at done (t ∷ []) within)) h.stands;
    }
among_more defined done t r (inr h) = record {
  at = length done;
  top = t;
  there = seam_get done t;
  stands = subst (λ ts. RefusedTop defined ts t r) (sym (take-append_seam done (t ∷ []))) h;
}

pub among_split : (defined : List Bound) (done : List Top) (t : Top) (r : Refusal) → RefusedAmong defined (done ++ t ∷ []) r
    → RefusedAmong defined done r ⊎ RefusedTop defined done t r
among_split defined done t r h = by (cases_order h.at (length done))
  where
    within : h.at < length (done ++ t ∷ [])
    within = slice_get_within (done ++ t ∷ []) h.at h.top h.there

    by : (h.at ≡ length done) ⊎ ((h.at < length done) ⊎ (length done < h.at)) → RefusedAmong defined done r ⊎ RefusedTop defined done t r
    by (inl e) =
        let at_seam : slice_get (done ++ t ∷ []) (length done) ≡ Some h.top = rw (sym e) h.there in
        let same : h.top ≡ t = same_Some h.top t (sym at_seam ∙ seam_get done t) in
        let before : take h.at (done ++ t ∷ []) ≡ done = rw e (take-append_seam done (t ∷ [])) in
        inr (subst (λ u. RefusedTop defined done u r) same (subst (λ ts. RefusedTop defined ts h.top r) before h.stands))
    by (inr (inl below)) =
        let le : h.at ≤ length done = omega arith in
        inl (record {
          at = h.at;
          top = h.top;
          there = slice_get-get_or done h.at h.top below ∙ ap Some (sym (get_or-append done (t ∷ []) h.top h.at below) ∙ get_or_from_slice_get (done ++ t ∷ []) h.at h.top h.top h.there);
          stands = subst (λ ts. RefusedTop defined ts h.top r) (take-append-le h.at done (t ∷ []) le) h.stands;
        })
    by (inr (inr above)) = absurd (let w = within in omega (arith, length-append done (t ∷ []), w))

-- ---- forms

pub forms_more : (defined : List Bound) (shared : Shared) (forms : List Form) (spans : List (List Span)) (ts : List Top) (f : Form) (s : List Span) (t : Top)
    → FormsMean defined shared forms spans ts → FormMeans defined shared f s t → FormsMean defined shared (forms ++ f ∷ []) (spans ++ s ∷ []) (ts ++ t ∷ [])
forms_more defined shared [] [] [] f s t h i = (i, tt)
forms_more defined shared [] [] (u ∷ ts) f s t h i = absurd h
forms_more defined shared [] (x ∷ spans) [] f s t h i = absurd h
forms_more defined shared [] (x ∷ spans) (u ∷ ts) f s t h i = absurd h
forms_more defined shared (g ∷ forms) [] [] f s t h i = absurd h
forms_more defined shared (g ∷ forms) [] (u ∷ ts) f s t h i = absurd h
forms_more defined shared (g ∷ forms) (x ∷ spans) [] f s t h i = absurd h
forms_more defined shared (g ∷ forms) (x ∷ spans) (u ∷ ts) f s t h i = (h.0, forms_more defined shared forms spans ts f s t h.1 i)

-- ---- before the first form, and at each

no_marks : (names : List (List ℕ)) (count : ℕ) (marks : List Bool) → count ≡ length names → marks ≡ replicate count false → Marks names marks []
no_marks names count marks e m = record {
  says = λ k text at.
      let below : k < length names = slice_get_within names k text at in
      let less : k < count = omega arith in
      let there : k < length (replicate count false) = rw (length-replicate count false) less in
      rw m (slice_get-get_or (replicate count false) k false there ∙ ap Some (get_or-replicate count k false false less));
}

none_among : (defined : List Bound) (r : Refusal) → RefusedAmong defined [] r → ⊥
none_among defined r h = let e = h.there in cc

pub so_far_none : (e : Expansion) (marks : List Bool) (list : FormList) (defined : List Bound) (count : ℕ) → count ≡ length e.shared.names
    → marks ≡ replicate count false → list.forms.items ≡ [] → list.spans.items ≡ [] → SoFar e e marks list [] defined
so_far_none e marks list defined count c m f s = record {
  keeps = keeps_same e;
  marked = no_marks e.shared.names count marks c m;
  first = λ none. rw none (none_among defined);
  meant = λ none later grown. rw (f, s) tt;
}

pub so_far_more : (start a b : Expansion) (marks more : List Bool) (list larger : FormList) (done : List Top) (t : Top) (defined : List Bound) (x : Expanded)
    → SoFar start a marks list done defined → Keeps a b → IsFirstOf (λ r. (a.first ≡ Some r) ⊎ RefusedTop defined done t r) b.first
    → Marks a.shared.names more (names_defined (done ++ t ∷ []))
    → (b.first ≡ None → (later : Shared) → IsGrown b.shared later → FormMeans defined later x.form x.spans t)
    → larger.forms.items ≡ list.forms.items ++ x.form ∷ [] → larger.spans.items ≡ list.spans.items ++ x.spans ∷ []
    → SoFar start b more larger (done ++ t ∷ []) defined
so_far_more start a b marks more list larger done t defined x s keeps refused marked meant f g = record {
  keeps = keeps_trans start a b s.keeps keeps;
  marked = subst (λ names. Marks names more (names_defined (done ++ t ∷ []))) s.keeps.shared.names marked;
  first = λ none.
      first_same (λ r. RefusedAmong defined done r ⊎ RefusedTop defined done t r) (RefusedAmong defined (done ++ t ∷ [])) b.first (among_more defined done t)
      (among_split defined done t) (first_among (RefusedAmong defined done) (RefusedTop defined done t) a.first b.first (s.first none) refused);
  meant = λ none later grown.
      rw (f, g) (forms_more defined later list.forms.items list.spans.items done x.form x.spans t
      (s.meant (was_none (RefusedTop defined done t) a.first b.first none refused) later (grown_trans a.shared b.shared later keeps.shared grown))
      (meant none later grown));
}
