-- Strings and pairs are named once while constants are made.
use Rattle.std.proofs.Common.{◌≡◌, ℕ, suc, ◌+◌, ◌<◌, ◌≤◌, ◌⊎◌, inl, inr, List, [], ◌∷◌, ◌++◌, length, refl, sym, ap, subst, ◌∙◌, arith}
use Rattle.std.specs.List.{flat_map}
use Rattle.std.proofs.lemmas.Bool.{cases_lt}
use Rattle.std.proofs.lemmas.List.{append-nil, length-append}
use Rattle.t_base.specs.declared.shared_parts.Const.{Const}
use Rattle.t_base.specs.declared.shared_parts.Const.TheVariants as Constant
use Rattle.t_base.specs.declared.shared_parts.Shared.{Shared}
use Rattle.t_prim.specs.SharedParts.{StandsBelow, HasLowerParts}
use Rattle.t_core.specs.Whole.{pair_in}
use Rattle.expansion.specs.Counting.{times, EachOnce}
use Rattle.expansion.specs.Strings.{string_in}
use Rattle.expand_laws.proofs.Constants.{lower_push}
use Rattle.expand_laws.proofs.Counting.{times_none, times_append, times_flat, times_one, times_not_one}
use Rattle.t_expand.specs.Tallies.{named_by_pairs, AreNamed, named_by_half, named_by_next, named_so_far, AreNamedSoFar}
use Rattle.t_expand.specs.declared.quoted.Half.{Half}
use Rattle.t_expand.specs.declared.quoted.Half.TheVariants as half
use Rattle.t_expand.specs.declared.quoted.Quoting.{Quoting}
use Rattle.t_expand.specs.declared.quoted.Quoting.TheVariants as quoting

pub times_flat_push : {X : Type 0} (f : X → List ℕ) (k : ℕ) (xs : List X) (x : X) → times k (flat_map f (xs ++ x ∷ [])) ≡ times k (flat_map f xs) + times k (f x)
times_flat_push f k xs x = omega (arith, times_flat f k xs (x ∷ []), ap (times k) (append-nil (f x)))

-- ---- each once

pub each_counted : (n : ℕ) (xs ys : List ℕ) → ((k : ℕ) → times k ys ≡ times k xs) → EachOnce n xs → EachOnce n ys
each_counted n xs ys same x = record { within = λ k h. same k ∙ x.within k h; above = λ k h. same k ∙ x.above k h }

-- one place more
each_more : (n : ℕ) (xs ys : List ℕ) → ((k : ℕ) → times k ys ≡ times k xs + times k (n ∷ [])) → EachOnce n xs → EachOnce (suc n) ys
each_more n xs ys sum x = record {
  within = λ k h. by k h (cases_lt k n);
  above = λ k h. omega (arith, sum k, x.above k (omega arith), times_not_one k n (λ e. omega arith));
}
  where
    by : (k : ℕ) → k < suc n → (k < n) ⊎ (n ≤ k) → times k ys ≡ 1
    by k h (inl lt) = omega (arith, sum k, x.within k lt, times_not_one k n (λ e. omega arith))
    by k h (inr le) = omega (arith, sum k, x.above k le, times_one k n (omega arith))

front_counted : (k : ℕ) (xs ys zs : List ℕ) → times k ys ≡ times k xs → times k (ys ++ zs) ≡ times k (xs ++ zs)
front_counted k xs ys zs e = omega (arith, times_append k ys zs, times_append k xs zs, e)

-- other lists that name the same
pub named_counted : (strings others pairs other_pairs : List ℕ) (shared : Shared) → ((k : ℕ) → times k others ≡ times k strings) → ((k : ℕ) → times k other_pairs ≡ times k pairs)
    → AreNamed strings pairs shared → AreNamed others other_pairs shared
named_counted strings others pairs other_pairs shared e f h = record {
  strings_once = each_counted _ _ _ (λ k. front_counted k strings others (named_by_pairs string_in shared.pairs.items) (e k)) h.strings_once;
  pairs_once = each_counted _ _ _ (λ k. front_counted k pairs other_pairs (named_by_pairs pair_in shared.pairs.items) (f k)) h.pairs_once;
  lower = h.lower;
}

-- ---- one string or pair more

with_string : (strings pairs : List ℕ) (old new : Shared) (bytes : List ℕ) → new.strings.items ≡ old.strings.items ++ bytes ∷ [] → new.pairs.items ≡ old.pairs.items
    → AreNamed strings pairs old → AreNamed (strings ++ length old.strings.items ∷ []) pairs new
with_string strings pairs old new bytes on_strings on_pairs h =
    let place = length old.strings.items in
    let by_pairs = named_by_pairs string_in old.pairs.items in
    let count : length new.strings.items ≡ suc place = ap length on_strings ∙ length-append old.strings.items (bytes ∷ []) ∙ omega arith in
    record {
      strings_once = subst (λ n. EachOnce n (strings ++ place ∷ [] ++ named_by_pairs string_in new.pairs.items)) (sym count)
          (subst (λ ps. EachOnce (suc place) (strings ++ place ∷ [] ++ named_by_pairs string_in ps)) (sym on_pairs)
          (each_more place (strings ++ by_pairs) (strings ++ place ∷ [] ++ by_pairs)
          (λ k. omega (arith, times_append k (strings ++ place ∷ []) by_pairs, times_append k strings (place ∷ []), times_append k strings by_pairs)) h.strings_once));
      pairs_once = subst (λ ps. EachOnce (length ps) (pairs ++ named_by_pairs pair_in ps)) (sym on_pairs) h.pairs_once;
      lower = subst (λ ps. HasLowerParts ps) (sym on_pairs) h.lower;
    }

pair_times : (at : Const → List ℕ) (k : ℕ) (a b : Const) (ps : List (Const × Const))
    → times k (named_by_pairs at (ps ++ (a, b) ∷ [])) ≡ times k (named_by_pairs at ps) + (times k (at a) + times k (at b))
pair_times at k a b ps =
    omega (arith, times_flat (λ (p : Const × Const). at p.0 ++ at p.1) k ps ((a, b) ∷ []), ap (times k) (append-nil (at a ++ at b)), times_append k (at a) (at b))

-- a pair that is named stands below the count
stands_below : (n : ℕ) (c : Const) (xs : List ℕ) → ((k : ℕ) → times k (pair_in c) ≤ times k xs) → EachOnce n xs → StandsBelow n c
stands_below n (Constant.Pair j) xs h x = by (cases_lt j n)
  where
    by : (j < n) ⊎ (n ≤ j) → j < n
    by (inl lt) = lt
    by (inr le) = absurd (omega (arith, h j, times_one j j refl, x.above j le))
stands_below n (Constant.Fix z) xs h x = tt
stands_below n (Constant.Char b) xs h x = tt
stands_below n Constant.Nil xs h x = tt
stands_below n Constant.True xs h x = tt
stands_below n (Constant.Sym s) xs h x = tt
stands_below n (Constant.Str s) xs h x = tt

with_pair : (strings pairs : List ℕ) (a b : Const) (old new : Shared) → new.strings.items ≡ old.strings.items → new.pairs.items ≡ old.pairs.items ++ (a, b) ∷ []
    → AreNamed (strings ++ (string_in a ++ string_in b)) (pairs ++ (pair_in a ++ pair_in b)) old → AreNamed strings (pairs ++ length old.pairs.items ∷ []) new
with_pair strings pairs a b old new on_strings on_pairs h =
    let ps = old.pairs.items in
    let place = length ps in
    let more = ps ++ (a, b) ∷ [] in
    let count : length more ≡ suc place = length-append ps ((a, b) ∷ []) ∙ omega arith in
    record {
      strings_once = subst (λ n. EachOnce n (strings ++ named_by_pairs string_in new.pairs.items)) (sym (ap length on_strings))
          (subst (λ qs. EachOnce (length old.strings.items) (strings ++ named_by_pairs string_in qs)) (sym on_pairs)
          (each_counted (length old.strings.items) (strings ++ (string_in a ++ string_in b) ++ named_by_pairs string_in ps) (strings ++ named_by_pairs string_in more)
          (λ k. sums string_in k strings) h.strings_once));
      pairs_once = subst (λ qs. EachOnce (length qs) (pairs ++ place ∷ [] ++ named_by_pairs pair_in qs)) (sym on_pairs)
          (subst (λ n. EachOnce n (pairs ++ place ∷ [] ++ named_by_pairs pair_in more)) (sym count)
          (each_more place (pairs ++ (pair_in a ++ pair_in b) ++ named_by_pairs pair_in ps) (pairs ++ place ∷ [] ++ named_by_pairs pair_in more)
          (λ k. omega (arith, sums pair_in k pairs, times_append k pairs (named_by_pairs pair_in more), times_append k (pairs ++ place ∷ []) (named_by_pairs pair_in more), times_append k pairs (place ∷ [])))
          h.pairs_once));
      lower = subst (λ qs. HasLowerParts qs) (sym on_pairs)
          (lower_push ps (a, b) (stands_below place a _ (λ k. omega (arith, parts pair_in k pairs)) h.pairs_once) (stands_below place b _ (λ k. omega (arith, parts pair_in k pairs)) h.pairs_once) h.lower);
    }
  where
    parts : (at : Const → List ℕ) (k : ℕ) (named : List ℕ)
        → times k (named ++ (at a ++ at b) ++ named_by_pairs at old.pairs.items) ≡ (times k named + (times k (at a) + times k (at b))) + times k (named_by_pairs at old.pairs.items)
    parts at k named =
        omega (arith, times_append k (named ++ (at a ++ at b)) (named_by_pairs at old.pairs.items), times_append k named (at a ++ at b), times_append k (at a) (at b))

    sums : (at : Const → List ℕ) (k : ℕ) (named : List ℕ)
        → times k (named ++ named_by_pairs at (old.pairs.items ++ (a, b) ∷ [])) ≡ times k (named ++ (at a ++ at b) ++ named_by_pairs at old.pairs.items)
    sums at k named = omega (arith, parts at k named, times_append k named (named_by_pairs at (old.pairs.items ++ (a, b) ∷ [])), pair_times at k a b old.pairs.items)

-- ---- steps

so_far : (at : Const → List ℕ) (k : ℕ) (named : List ℕ) (halves : List Half) (next : Quoting)
    → times k (named ++ named_so_far at halves next) ≡ (times k named + times k (flat_map (named_by_half at) halves)) + times k (named_by_next at next)
so_far at k named halves next =
    omega (arith, times_append k named (named_so_far at halves next), times_append k (flat_map (named_by_half at) halves) (named_by_next at next))

one_half : (at : Const → List ℕ) (k : ℕ) (halves : List Half) (h : Half)
    → times k (flat_map (named_by_half at) (halves ++ h ∷ [])) ≡ times k (flat_map (named_by_half at) halves) + times k (named_by_half at h)
one_half at k halves h = times_flat_push (named_by_half at) k halves h

pub begun_named : (strings pairs : List ℕ) (shared : Shared) (halves : List Half) (key : ℕ) → halves ≡ [] → AreNamed strings pairs shared
    → AreNamedSoFar strings pairs halves (quoting.Datum key) shared
begun_named strings pairs shared halves key none h =
    subst (λ l. AreNamedSoFar strings pairs l (quoting.Datum key) shared) (sym none)
    (named_counted strings (strings ++ []) pairs (pairs ++ []) shared (λ k. ap (times k) (append-nil strings)) (λ k. ap (times k) (append-nil pairs)) h)

pub all_named : (strings pairs : List ℕ) (shared : Shared) (halves : List Half) (c : Const) → halves ≡ [] → AreNamedSoFar strings pairs halves (quoting.Made c) shared
    → AreNamed (strings ++ string_in c) (pairs ++ pair_in c) shared
all_named strings pairs shared halves c none h = subst (λ l. AreNamedSoFar strings pairs l (quoting.Made c) shared) none h

pub first_named : (strings pairs : List ℕ) (shared : Shared) (halves : List Half) (at head tail : ℕ) → AreNamedSoFar strings pairs halves (quoting.Datum at) shared
    → AreNamedSoFar strings pairs (halves ++ half.Tail tail ∷ []) (quoting.Datum head) shared
first_named strings pairs shared halves at head tail h = named_counted _ _ _ _ shared (λ k. same string_in k strings) (λ k. same pair_in k pairs) h
  where
    same : (of : Const → List ℕ) (k : ℕ) (named : List ℕ)
        → times k (named ++ named_so_far of (halves ++ half.Tail tail ∷ []) (quoting.Datum head)) ≡ times k (named ++ named_so_far of halves (quoting.Datum at))
    same of k named =
        omega (arith, so_far of k named (halves ++ half.Tail tail ∷ []) (quoting.Datum head), so_far of k named halves (quoting.Datum at), one_half of k halves (half.Tail tail), times_none k)

pub atom_named : (strings pairs : List ℕ) (new : Shared) (halves : List Half) (at : ℕ) (c : Const)
    → AreNamed (strings ++ named_so_far string_in halves (quoting.Datum at) ++ string_in c) (pairs ++ named_so_far pair_in halves (quoting.Datum at) ++ pair_in c) new
    → AreNamedSoFar strings pairs halves (quoting.Made c) new
atom_named strings pairs new halves at c h = named_counted _ _ _ _ new (λ k. same string_in k strings) (λ k. same pair_in k pairs) h
  where
    same : (of : Const → List ℕ) (k : ℕ) (named : List ℕ)
        → times k (named ++ named_so_far of halves (quoting.Made c)) ≡ times k (named ++ named_so_far of halves (quoting.Datum at) ++ of c)
    same of k named =
        omega (arith, so_far of k named halves (quoting.Made c), so_far of k named halves (quoting.Datum at), times_append k (named ++ named_so_far of halves (quoting.Datum at)) (of c), times_none k)

pub second_named : (strings pairs : List ℕ) (shared : Shared) (halves : List Half) (tail : ℕ) (c : Const)
    → AreNamedSoFar strings pairs (halves ++ half.Tail tail ∷ []) (quoting.Made c) shared → AreNamedSoFar strings pairs (halves ++ half.Head c ∷ []) (quoting.Datum tail) shared
second_named strings pairs shared halves tail c h = named_counted _ _ _ _ shared (λ k. same string_in k strings) (λ k. same pair_in k pairs) h
  where
    same : (of : Const → List ℕ) (k : ℕ) (named : List ℕ)
        → times k (named ++ named_so_far of (halves ++ half.Head c ∷ []) (quoting.Datum tail)) ≡ times k (named ++ named_so_far of (halves ++ half.Tail tail ∷ []) (quoting.Made c))
    same of k named =
        omega (
          arith,
          so_far of k named (halves ++ half.Head c ∷ []) (quoting.Datum tail),
          so_far of k named (halves ++ half.Tail tail ∷ []) (quoting.Made c),
          one_half of k halves (half.Head c),
          one_half of k halves (half.Tail tail),
          times_none k,
        )

pub pair_named : (strings pairs : List ℕ) (halves : List Half) (a c made : Const) (old new : Shared) → new.strings.items ≡ old.strings.items
    → new.pairs.items ≡ old.pairs.items ++ (a, c) ∷ [] → made ≡ Constant.Pair (length old.pairs.items)
    → AreNamedSoFar strings pairs (halves ++ half.Head a ∷ []) (quoting.Made c) old → AreNamedSoFar strings pairs halves (quoting.Made made) new
pair_named strings pairs halves a c made old new on_strings on_pairs is h =
    subst (λ m. AreNamedSoFar strings pairs halves (quoting.Made m) new) (sym is)
    (named_counted _ _ _ _ new (λ k. after_strings k) (λ k. after_pairs k)
    (with_pair (strings ++ flat_map (named_by_half string_in) halves) (pairs ++ flat_map (named_by_half pair_in) halves) a c old new on_strings on_pairs
    (named_counted _ _ _ _ old (λ k. before string_in k strings) (λ k. before pair_in k pairs) h)))
  where
    before : (of : Const → List ℕ) (k : ℕ) (named : List ℕ)
        → times k (named ++ flat_map (named_by_half of) halves ++ (of a ++ of c)) ≡ times k (named ++ named_so_far of (halves ++ half.Head a ∷ []) (quoting.Made c))
    before of k named =
        omega (
          arith,
          so_far of k named (halves ++ half.Head a ∷ []) (quoting.Made c),
          one_half of k halves (half.Head a),
          times_append k (named ++ flat_map (named_by_half of) halves) (of a ++ of c),
          times_append k named (flat_map (named_by_half of) halves),
          times_append k (of a) (of c),
        )

    after_strings : (k : ℕ) → times k (strings ++ named_so_far string_in halves (quoting.Made (Constant.Pair (length old.pairs.items)))) ≡ times k (strings ++ flat_map (named_by_half string_in) halves)
    after_strings k =
        omega (
          arith,
          so_far string_in k strings halves (quoting.Made (Constant.Pair (length old.pairs.items))),
          times_append k strings (flat_map (named_by_half string_in) halves),
          times_none k,
        )

    after_pairs : (k : ℕ)
        → times k (pairs ++ named_so_far pair_in halves (quoting.Made (Constant.Pair (length old.pairs.items))))
        ≡ times k (pairs ++ flat_map (named_by_half pair_in) halves ++ length old.pairs.items ∷ [])
    after_pairs k =
        omega (
          arith,
          so_far pair_in k pairs halves (quoting.Made (Constant.Pair (length old.pairs.items))),
          times_append k (pairs ++ flat_map (named_by_half pair_in) halves) (length old.pairs.items ∷ []),
          times_append k pairs (flat_map (named_by_half pair_in) halves),
        )

-- what names no string and no pair
pub none_named : (strings pairs more more_pairs : List ℕ) (shared : Shared) → more ≡ [] → more_pairs ≡ [] → AreNamed strings pairs shared → AreNamed (strings ++ more) (pairs ++ more_pairs) shared
none_named strings pairs more more_pairs shared e f h =
    named_counted _ _ _ _ shared (λ k. omega (arith, times_append k strings more, ap (times k) e, times_none k))
    (λ k. omega (arith, times_append k pairs more_pairs, ap (times k) f, times_none k)) h

-- a string's constant
pub string_named : (strings pairs : List ℕ) (old new : Shared) (c : Const) (bytes : List ℕ) → new.strings.items ≡ old.strings.items ++ bytes ∷ [] → new.pairs.items ≡ old.pairs.items
    → c ≡ Constant.Str (length old.strings.items) → AreNamed strings pairs old → AreNamed (strings ++ string_in c) (pairs ++ pair_in c) new
string_named strings pairs old new c bytes on_strings on_pairs is h =
    subst (λ m. AreNamed (strings ++ string_in m) (pairs ++ pair_in m) new) (sym is)
    (named_counted _ _ _ _ new (λ k. refl) (λ k. ap (times k) (append-nil pairs)) (with_string strings pairs old new bytes on_strings on_pairs h))
