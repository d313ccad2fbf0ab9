-- Marks of what is named.
use Rattle.std.proofs.Common.{◌≡◌, ℕ, zero, suc, ◌+◌, ◌<◌, ◌≤◌, ◌==◌, ◌||◌, Bool, true, false, List, [], ◌∷◌, ◌++◌, Option, Some, None, length, map, take, drop, get_or, nat_lt, not, slice_get, inl, inr, refl, sym, ap, ◌∙◌, subst, arith}
use Rattle.std.specs.List.{flat_map, filter_map}
use Rattle.std.proofs.lemmas.Bool.{true≢false, eqb-true, cases_lt}
use Rattle.std.proofs.lemmas.List.{take_more, drop_more, append-nil, append_assoc}
use Rattle.std.proofs.lemmas.List.Concat.{flat_map-cons}
use Rattle.std.proofs.lemmas.Grind.{flat_map-append}
use Rattle.std.proofs.lemmas.List.Elements.{All-append, All-cons, All-nil, filter_map-append}
use Rattle.std.proofs.lemmas.Option.{slice_get-get_or}
use Rattle.t_base.specs.declared.basics.Var.{Var}
use Rattle.cps_ir.specs.declared.terms.Term.{Term}
use Rattle.cps_ir.specs.declared.terms.Cps.{Cps}
use Rattle.cps_ir.specs.Parts.{variable_of, named}
use Rattle.cps_walk.specs.Marked.{is_marked}
use Rattle.cps_walk.specs.Walks.{part_places, root_places}
use Rattle.cps_order.specs.Order.{one, tally, numbers_of, named_by, AreBelow, NamesBelow, AreNamed, IsOrderedFrom, IsOrdered}

-- ---- tallies

pub tally_append : (xs ys : List ℕ) (n : ℕ) → tally (xs ++ ys) n ≡ tally xs n + tally ys n
tally_append [] ys n = omega arith
tally_append (x ∷ xs) ys n = let h = tally_append xs ys n in omega (arith, h)

at_most : (b : Bool) → one b ≤ 1
at_most true = omega arith
at_most false = omega arith

-- ---- one place

pub named_one : (above place : ℕ) (old new : List Bool) → place < above → is_marked old place ≡ false → ((m : ℕ) → is_marked new m ≡ (is_marked old m || place == m)) → AreNamed above (place ∷ []) old new
named_one above place old new below free marked = record {
  below = All-cons (λ u. u < above) place [] below (All-nil (λ u. u < above));
  counts = λ n. by n (is_marked old n) (place == n) refl refl (marked n);
}
  where
    by : (n : ℕ) (b c : Bool) → is_marked old n ≡ b → (place == n) ≡ c → is_marked new n ≡ (b || c) → one (is_marked new n) ≡ one b + (one c + 0)
    by n true true p q e = absurd (true≢false (sym p ∙ subst (λ m. is_marked old m ≡ false) (eqb-true place n q) free))
    by n true false p q e = ap one e
    by n false true p q e = ap one e
    by n false false p q e = ap one e

pub named_none : (above : ℕ) (old : List Bool) → AreNamed above [] old old
named_none above old = record { below = All-nil (λ u. u < above); counts = λ n. omega arith }

pub named_both : (above : ℕ) (xs ys : List ℕ) (a b c : List Bool) → AreNamed above xs a b → AreNamed above ys b c → AreNamed above (xs ++ ys) a c
named_both above xs ys a b c h g = record {
  below = All-append (λ u. u < above) xs ys h.below g.below;
  counts = λ n. let p = h.counts n in let q = g.counts n in let e = tally_append xs ys n in omega (arith, p, q, e);
}

pub named_step : (above : ℕ) (places : List ℕ) (i d : ℕ) (a b c : List Bool) → i < length places → AreNamed above (take i places) a b → AreNamed above (get_or places i d ∷ []) b c → AreNamed above (take (i + 1) places) a c
named_step above places i d a b c lt h g = subst (λ l. AreNamed above l a c) (sym (take_more places i d lt)) (named_both above (take i places) (get_or places i d ∷ []) a b c h g)

-- ---- the terms from a place on

module _ (cps : Cps) where
  beyond : (u : ℕ) → length cps.terms.items ≤ u → NamesBelow cps u
  beyond u le term e = absurd (past cps.terms.items u le e)
    where
      past : (xs : List Term) (u : ℕ) → length xs ≤ u → slice_get xs u ≡ Some term → ⊥
      past [] u le e = none e
        where
          none : None ≡ Some term → ⊥
          none e = cc
      past (x ∷ xs) zero le e = omega (arith, le)
      past (x ∷ xs) (suc u) le e = past xs u (omega (arith, le)) e

  drop_all : (xs : List Term) → drop (length xs) xs ≡ []
  drop_all [] = refl
  drop_all (x ∷ xs) = drop_all xs

  pub ordered_start : (marks : List Bool) → AreNamed (length cps.terms.items) (root_places cps) [] marks → IsOrderedFrom cps (length cps.terms.items) marks
  ordered_start marks h = record {
    lower = λ u le. beyond u le;
    counts = λ n.
        let c = h.counts n in
        let e : tally (named_by cps (drop (length cps.terms.items) cps.terms.items)) n ≡ 0 = ap (λ l. tally (named_by cps l) n) (drop_all cps.terms.items) in
        let z : one (is_marked [] n) ≡ 0 = refl in
        omega (arith, c, e, z);
    named = λ u le lt. absurd (omega (arith, le, lt));
  }

  pub ordered_step : (from at : ℕ) (d : Term) (old new : List Bool) → from ≡ suc at → from ≤ length cps.terms.items → is_marked old at ≡ true → IsOrderedFrom cps from old → AreNamed at (part_places cps (get_or cps.terms.items at d)) old new → IsOrderedFrom cps at new
  ordered_step from at d old new up within marked h g =
      let terms = cps.terms.items in
      let below : at < length terms = omega (arith, within, up) in
      let term = get_or terms at d in
      let here : slice_get terms at ≡ Some term = slice_get-get_or terms at d below in
      let next : at + 1 ≡ from = omega (arith, up) in
      let is : drop at terms ≡ term ∷ drop from terms = drop_more terms at d below ∙ ap (λ n. term ∷ drop n terms) next in
      record {
        lower = λ u le. below_at u le term here g.below h.lower;
        counts = λ n.
            let p = h.counts n in
            let q = g.counts n in
            let e : tally (named_by cps (drop at terms)) n ≡ tally (part_places cps term) n + tally (named_by cps (drop from terms)) n =
            ap (λ l. tally (named_by cps l) n) is ∙ ap (λ l. tally l n) (flat_map-cons (part_places cps) term (drop from terms)) ∙ tally_append (part_places cps term) (named_by cps (drop from terms)) n in
            omega (arith, p, q, e);
        named = λ u le lt. named_at u le lt h.named (part_places cps term) g.counts;
      }
    where
      same_term : {s t : Term} → Some s ≡ Some t → s ≡ t
      same_term e = cc

      below_at : (u : ℕ) → at ≤ u → (t : Term) → slice_get cps.terms.items at ≡ Some t → AreBelow at (part_places cps t) → ((v : ℕ) → from ≤ v → NamesBelow cps v) → NamesBelow cps u
      below_at u le t here low rest = elim (cases_lt at u) [
        | inl more ↦ rest u (omega (arith, up, more))
        | inr less ↦
            let e : at ≡ u = omega (arith, le, less) in
            subst (NamesBelow cps) e (λ s there. subst (λ r. AreBelow at (part_places cps r)) (same_term (sym here ∙ there)) low)
      ]

      named_at : (u : ℕ) → at ≤ u → u < length cps.terms.items → ((v : ℕ) → from ≤ v → v < length cps.terms.items → one (is_marked old v) ≡ 1) → (places : List ℕ) → ((n : ℕ) → one (is_marked new n) ≡ one (is_marked old n) + tally places n) → one (is_marked new u) ≡ 1
      named_at u le lt rest places counts =
          let was : one (is_marked old u) ≡ 1 = elim (cases_lt at u) [
            | inl more ↦ rest u (omega (arith, up, more)) lt
            | inr less ↦ let e : at ≡ u = omega (arith, le, less) in subst (λ v. one (is_marked old v) ≡ 1) e (ap one marked)
          ] in
          let most : one (is_marked new u) ≤ 1 = at_most (is_marked new u) in
          let c = counts u in
          omega (arith, was, most, c)

pub ordered_end : (cps : Cps) (first_marks marks : List Bool) → AreNamed (length cps.terms.items) (root_places cps) [] first_marks → IsOrderedFrom cps 0 marks → IsOrdered cps
ordered_end cps first_marks marks roots h = record {
  roots = roots.below;
  lower = λ t. h.lower t (omega arith);
  once = λ t lt. let c = h.counts t in let n = h.named t (omega arith) lt in omega (arith, c, n);
}

-- ---- what items of a list name

pub flat_named : {X : Type 0} (f : X → List ℕ) (above : ℕ) (xs : List X) (i : ℕ) (d : X) (a b c : List Bool) → i < length xs → AreNamed above (flat_map f (take i xs)) a b → AreNamed above (f (get_or xs i d)) b c → AreNamed above (flat_map f (take (i + 1) xs)) a c
flat_named f above xs i d a b c lt h g =
    let e : flat_map f (take (i + 1) xs) ≡ flat_map f (take i xs) ++ f (get_or xs i d) =
    ap (flat_map f) (take_more xs i d lt) ∙ flat_map-append f (take i xs) (get_or xs i d ∷ []) ∙ ap (λ l. flat_map f (take i xs) ++ l) (flat_map-cons f (get_or xs i d) [] ∙ append-nil (f (get_or xs i d))) in
    subst (λ l. AreNamed above l a c) (sym e) (named_both above (flat_map f (take i xs)) (f (get_or xs i d)) a b c h g)

pub lams_once : (count first : ℕ) (named : List ℕ) (old new : List Bool) → ((l : ℕ) → is_marked old l ≡ nat_lt l first) → AreNamed count named old new → ((l : ℕ) → l < count → is_marked new l ≡ true) → (l : ℕ) → l < count → tally named l ≡ one (not (nat_lt l first))
lams_once count first named old new start h all l lt = by (nat_lt l first) (start l)
  where
    by : (b : Bool) → is_marked old l ≡ b → tally named l ≡ one (not b)
    by true e = let c = h.counts l in let p = ap one (all l lt) in let q = ap one e in omega (arith, c, p, q)
    by false e = let c = h.counts l in let p = ap one (all l lt) in let q = ap one e in omega (arith, c, p, q)

pub bound_once : (above : ℕ) (xs ys : List ℕ) (mid marks : List Bool) → AreNamed above xs [] mid → AreNamed above ys mid marks → (x : ℕ) → tally (xs ++ ys) x ≤ 1
bound_once above xs ys mid marks h g x =
    let c = (named_both above xs ys [] mid marks h g).counts x in
    let most = at_most (is_marked marks x) in
    omega (arith, c, most)

pub kept_more : {X : Type 0} (h : X → Option ℕ) (a b c : List ℕ) (xs : List X) (i : ℕ) (d : X) → i < length xs → b ≡ a ++ filter_map h (take i xs) → c ≡ b ++ filter_map h (get_or xs i d ∷ []) → c ≡ a ++ filter_map h (take (i + 1) xs)
kept_more h a b c xs i d lt e f =
    f ∙ ap (λ l. l ++ filter_map h (get_or xs i d ∷ [])) e ∙ append_assoc a (filter_map h (take i xs)) (filter_map h (get_or xs i d ∷ []))
    ∙ ap (λ l. a ++ l) (sym (filter_map-append h (take i xs) (get_or xs i d ∷ [])) ∙ sym (ap (filter_map h) (take_more xs i d lt)))

pub names_numbered : (vars : List Var) → numbers_of vars ≡ map variable_of (named vars) ++ []
names_numbered [] = refl
names_numbered (v ∷ vars) = ap (λ l. v.0 ∷ l) (names_numbered vars)
