-- First procedures, one after the other.
use Rattle.std.proofs.Common.{◌≡◌, ℕ, zero, suc, ◌+◌, ◌<◌, ◌≤◌, ◌⊎◌, Bool, true, false, cond, List, [], ◌∷◌, ◌++◌, Some, length, map, filter, take, get_or, slice_get, refl, sym, ap, ◌∙◌, subst, arith, inl, inr}
use Rattle.std.proofs.lemmas.Bool.{true≢false}
use Rattle.std.proofs.lemmas.Option.{same_Some}
use Rattle.std.proofs.lemmas.List.{take_more, map-append, length-map}
use Rattle.t_core.specs.declared.forms.FormKind.{FormKind}
use Rattle.t_core.specs.declared.forms.Form.{Form}
use Rattle.t_core.specs.declared.forms.UnitCore.{UnitCore}
use Rattle.cps_ir.specs.declared.terms.Lam.{Lam}
use Rattle.cps_convert.specs.declared.conversion.Conversion.{Conversion}
use Rattle.cps_convert.specs.Growing.{GrowsTo}
use Rattle.cps_convert.specs.Firsts.{RootMade}
use Rattle.cps_convert.proofs.Listing.{grows_same, grows_more}
use Rattle.unit_conversion.specs.FirstLams.{HasKind, IsFirst, EachPicked, FirstsMade, FirstAdded}

-- ---- lists that are picked

pub each_more : (P Q : ℕ → Lam → Type 0) (n : ℕ) (picked : List Bool) (lams : List Lam) → ((m : ℕ) (lam : Lam) → P m lam → Q m lam) → EachPicked P n picked lams → EachPicked Q n picked lams
each_more P Q n [] lams f h = h
each_more P Q n (p ∷ picked) lams f (inl h) = inl (h.0, each_more P Q (suc n) picked lams f h.1)
each_more P Q n (p ∷ picked) lams f (inr h) = inr (h.0, (h.1.0, h.1.1, h.1.2, f n h.1.0 h.1.3, each_more P Q (suc n) picked h.1.1 f h.1.4))

abbrev Adds : (ℕ → Lam → Type 0) → ℕ → Bool → List Lam → List Lam → Type 0
Adds P n p lams more = (p ≡ false) × (more ≡ lams) ⊎ (p ≡ true) × ((lam : Lam) × (more ≡ lams ++ lam ∷ []) × P n lam)

each_added : (P : ℕ → Lam → Type 0) (n m : ℕ) (picked : List Bool) (p : Bool) (lams more : List Lam) → m ≡ n + length picked → EachPicked P n picked lams → Adds P m p lams more → EachPicked P n (picked ++ p ∷ []) more
each_added P n m [] p lams more e h (inl a) = inl (a.0, a.1 ∙ h)
each_added P n m [] p lams more e h (inr a) =
    let same : m ≡ n = omega (arith, e) in inr (a.0, (a.1.0, [], a.1.1 ∙ ap (λ l. l ++ a.1.0 ∷ []) h, subst (λ k. P k a.1.0) same a.1.2, refl))
each_added P n m (q ∷ picked) p lams more e (inl h) a = inl (h.0, each_added P (suc n) m picked p lams more (omega (arith, e)) h.1 a)
each_added P n m (q ∷ picked) p lams more e (inr h) a = inr (h.0, put (λ end b. each_added P (suc n) m picked p h.1.1 end (omega (arith, e)) h.1.4 b) a)
  where
    put : ((end : List Lam) → Adds P m p h.1.1 end → EachPicked P (suc n) (picked ++ p ∷ []) end) → Adds P m p lams more → (lam : Lam) × (rest : List Lam) × (more ≡ lam ∷ rest) × P n lam × EachPicked P (suc n) (picked ++ p ∷ []) rest
    put go (inl a) = (h.1.0, h.1.1, a.1 ∙ h.1.2, h.1.3, go h.1.1 (inl (a.0, refl)))
    put go (inr a) = (h.1.0, h.1.1 ++ a.1.0 ∷ [], a.1.1 ∙ ap (λ l. l ++ a.1.0 ∷ []) h.1.2, h.1.3, go (h.1.1 ++ a.1.0 ∷ []) (inr (a.0, (a.1.0, refl, a.1.2))))

module _ {X : Type 0} (P : ℕ → Lam → Type 0) (picks : X → Bool) where
  -- how many are picked
  pub each_length : (n : ℕ) (xs : List X) (lams : List Lam) → EachPicked P n (map picks xs) lams → length lams ≡ length (filter picks xs)
  each_length n [] lams h = ap length h
  each_length n (x ∷ xs) lams (inl h) = subst (λ b. length lams ≡ length (cond b (x ∷ filter picks xs) (filter picks xs))) (sym h.0) (each_length (suc n) xs lams h.1)
  each_length n (x ∷ xs) lams (inr h) =
      subst (λ b. length lams ≡ length (cond b (x ∷ filter picks xs) (filter picks xs))) (sym h.0) (let e = each_length (suc n) xs h.1.1 h.1.4 in ap length h.1.2 ∙ ap suc e)

  -- the procedure of one that is picked
  pub each_at : (n : ℕ) (xs : List X) (lams : List Lam) (i : ℕ) (x : X) → EachPicked P n (map picks xs) lams → slice_get xs i ≡ Some x → picks x ≡ true
      → (lam : Lam) × (slice_get lams (length (filter picks (take i xs))) ≡ Some lam) × P (n + i) lam
  each_at n [] lams i x h there is = cc
  each_at n (y ∷ xs) lams zero x (inl h) there is = absurd (true≢false (sym is ∙ ap picks (sym (same_Some y x there)) ∙ h.0))
  each_at n (y ∷ xs) lams zero x (inr h) there is =
      let e : n ≡ n + 0 = omega arith in (h.1.0, ap (λ l. slice_get l 0) h.1.2, subst (λ m. P m h.1.0) e h.1.3)
  each_at n (y ∷ xs) lams (suc i) x (inl h) there is =
      let r = each_at (suc n) xs lams i x h.1 there is in
      let e : suc n + i ≡ n + suc i = omega arith in
      (r.0, subst (λ b. slice_get lams (length (cond b (y ∷ filter picks (take i xs)) (filter picks (take i xs)))) ≡ Some r.0) (sym h.0) r.1, subst (λ m. P m r.0) e r.2)
  each_at n (y ∷ xs) lams (suc i) x (inr h) there is =
      let r = each_at (suc n) xs h.1.1 i x h.1.4 there is in
      let e : suc n + i ≡ n + suc i = omega arith in (
        r.0,
        subst (λ b. slice_get lams (length (cond b (y ∷ filter picks (take i xs)) (filter picks (take i xs)))) ≡ Some r.0) (sym h.0) (ap (λ l. slice_get l (suc (length (filter picks (take i xs))))) h.1.2 ∙ r.1),
        subst (λ m. P m r.0) e r.2,
      )

-- ---- first procedures

pub first_more : (unit : UnitCore) (marks : List Bool) (next less : ℕ) (a b : Conversion) (kind : FormKind) (lam : Lam) → less ≤ next → GrowsTo a b → IsFirst unit marks next a kind lam → IsFirst unit marks less b kind lam
first_more unit marks next less a b kind lam le grows h = record {
  at = h.at;
  form = h.form;
  procedure = h.procedure;
  there = h.there;
  kind_is = h.kind_is;
  is = h.is;
  holds = record { holds = λ cps origins inc base setting first. h.holds.holds cps origins (grows.includes _ inc) base setting (omega (arith, le, first)) };
}

pub made_first : (unit : UnitCore) (marks : List Bool) (a b : Conversion) (kind : FormKind) (at : ℕ) (lam : Lam) → HasKind unit kind at → RootMade unit marks a b at lam → IsFirst unit marks a.next b kind lam
made_first unit marks a b kind at lam k m = record {
  at = at;
  form = m.form;
  procedure = m.procedure;
  there = m.there;
  kind_is = ap (λ f. f.kind) (same_form (sym m.there ∙ k.there)) ∙ k.is;
  is = m.is;
  holds = m.holds;
}
  where
    same_form : {f g : Form} → Some f ≡ Some g → f ≡ g
    same_form e = cc

pub first_added : (unit : UnitCore) (marks : List Bool) (a b : Conversion) (kind : FormKind) (at : ℕ) (picked : Bool) (lam : Lam) (lams more : List Lam) → picked ≡ true → HasKind unit kind at → RootMade unit marks a b at lam → more ≡ lams ++ lam ∷ []
    → FirstAdded unit marks a b kind picked lams more
first_added unit marks a b kind at picked lam lams more is k m e = record { grows = m.grows; adds = inr (is, (lam, e, made_first unit marks a b kind at lam k m)) }

pub none_added : (unit : UnitCore) (marks : List Bool) (a : Conversion) (kind : FormKind) (picked : Bool) (lams : List Lam) → picked ≡ false → FirstAdded unit marks a a kind picked lams lams
none_added unit marks a kind picked lams is = record { grows = grows_same a; adds = inl (is, refl) }

pub firsts_none : (unit : UnitCore) (marks : List Bool) (a : Conversion) (kind : ℕ → FormKind) → FirstsMade unit marks a a kind [] []
firsts_none unit marks a kind = record { grows = grows_same a; each = refl }

pub firsts_step : (unit : UnitCore) (marks : List Bool) (a b c : Conversion) (kind : ℕ → FormKind) (n : ℕ) (picked : List Bool) (p : Bool) (lams more : List Lam) → n ≡ length picked → FirstsMade unit marks a b kind picked lams → FirstAdded unit marks b c (kind n) p lams more
    → FirstsMade unit marks a c kind (picked ++ p ∷ []) more
firsts_step unit marks a b c kind n picked p lams more e h g = record {
  grows = grows_more a b c h.grows g.grows;
  each = each_added (First a c) 0 n picked p lams more (omega (arith, e))
      (each_more (First a b) (First a c) 0 picked lams (λ m lam f. first_more unit marks a.next a.next b c (kind m) lam (omega arith) g.grows f) h.each) (by g.adds);
}
  where
    First : Conversion → Conversion → ℕ → Lam → Type 0
    First a b m lam = IsFirst unit marks a.next b (kind m) lam

    by : (p ≡ false) × (more ≡ lams) ⊎ (p ≡ true) × ((lam : Lam) × (more ≡ lams ++ lam ∷ []) × IsFirst unit marks b.next c (kind n) lam) → Adds (λ m lam. IsFirst unit marks a.next c (kind m) lam) n p lams more
    by (inl x) = inl x
    by (inr x) = inr (x.0, (x.1.0, x.1.1, first_more unit marks b.next a.next c c (kind n) x.1.0 h.grows.next (grows_same c) x.1.2))

pub firsts_at : {X : Type 0} (unit : UnitCore) (marks : List Bool) (a b c : Conversion) (kind : ℕ → FormKind) (picks : X → Bool) (xs : List X) (i n : ℕ) (d : X) (lams more : List Lam) → i < length xs → n ≡ i → FirstsMade unit marks a b kind (map picks (take i xs)) lams
    → FirstAdded unit marks b c (kind n) (picks (get_or xs i d)) lams more → FirstsMade unit marks a c kind (map picks (take (i + 1) xs)) more
firsts_at unit marks a b c kind picks xs i n d lams more lt same h g =
    subst (λ ps. FirstsMade unit marks a c kind ps more) (sym (ap (map picks) (take_more xs i d lt) ∙ map-append picks (take i xs) (get_or xs i d ∷ [])))
    (firsts_step unit marks a b c kind n (map picks (take i xs)) (picks (get_or xs i d)) lams more (same ∙ sym (length-map (take i xs) picks ∙ taken i xs lt)) h g)
  where
    taken : {X : Type 0} (i : ℕ) (xs : List X) → i < length xs → length (take i xs) ≡ i
    taken zero [] lt = refl
    taken zero (x ∷ xs) lt = refl
    taken (suc i) [] lt = absurd (omega (arith, lt))
    taken (suc i) (x ∷ xs) lt = ap suc (taken i xs (omega (arith, lt)))
