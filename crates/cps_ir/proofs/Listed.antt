-- No term and no LAMBDA is reached twice, so what is reached weighs no more than what is listed.
use Rattle.std.specs.Prelude.{IsSomeAnd}
use Rattle.std.specs.List.{AllByRecursion, filter_map, flat_map, cons_option}
use Rattle.std.specs.Option.{option_map_or}
use Rattle.std.proofs.Common.{◌≡◌, ℕ, zero, suc, ◌+◌, ◌*◌, ◌≤◌, ◌<◌, ◌==◌, nat_lt, Bool, true, false, if◌then◌else◌, List, [], ◌∷◌, ◌++◌, map, take, Option, Some, None, slice_get, refl, sym, ap, ◌∙◌, subst, arith}
use Rattle.std.proofs.lemmas.Bool.{eqb-true, ltb-true, true≢false}
use Rattle.cps_ir.specs.declared.terms.Lam.{Lam}
use Rattle.cps_ir.specs.declared.terms.Term.{Term}
use Rattle.cps_ir.specs.declared.terms.Cps.{Cps}
use Rattle.cps_ir.specs.Loads.{one_if}
use Rattle.cps_ir.specs.Parts.{first_lams, Name, Part, lams_of, lambda_at, lambdas_of, around, lambda_part, own_parts, parts_of, root_lams, root_parts, depth_of, walked_within, walked, reached_terms, reached_lams}
use Rattle.cps_ir.specs.Whole.{HoldsWithin, UsesVariables, IsFormed}
use Rattle.cps_ir.specs.ListedLaws.{ReachedTermsAreListed, ReachedLamsAreListed}
use Rattle.cps_ir.proofs.ProperLists.{each_of, each_more}
use Rattle.cps_ir.proofs.Closed.{same_number, parts_same}
use Rattle.cps_ir.proofs.Apart.{distinct_of}
use Rattle.cps_ir.proofs.Counts.{tot, sum_tot, tot_append, tot_le, tot_each, tot_same, tot_add, tot_zero, tot_map, count, distinct_count}

-- ---- numbers in a list

no_zero : (p : ℕ) → (suc p == 0) ≡ false
no_zero p = grind arith

zero_no : (k : ℕ) → (0 == suc k) ≡ false
zero_no k = grind arith

both_suc : (p k : ℕ) → (suc p == suc k) ≡ (p == k)
both_suc p k = by_test (p == k) refl
  where
    by_test : (b : Bool) → (p == k) ≡ b → (suc p == suc k) ≡ b
    by_test true e = let same : p ≡ k = eqb-true p k e in same_number (suc p) (suc k) (ap (λ n. suc n) same)
    by_test false e = by_suc (suc p == suc k) refl
      where
        by_suc : (c : Bool) → (suc p == suc k) ≡ c → c ≡ false
        by_suc true q =
            let next : suc p ≡ suc k = eqb-true (suc p) (suc k) q in
            let same : p ≡ k = omega (arith, next) in
            absurd (true≢false (sym (same_number p k same) ∙ e))
        by_suc false q = refl

-- the numbers that aren't 0, each less one
less_one : List ℕ → List ℕ
less_one [] = []
less_one (zero ∷ ps) = less_one ps
less_one (suc p ∷ ps) = p ∷ less_one ps

count_less : (k : ℕ) (ps : List ℕ) → count k (less_one ps) ≡ count (suc k) ps
unfolding less_one
count_less k [] = refl
count_less k (zero ∷ ps) = let h = count_less k ps in let e : (0 == suc k) ≡ false = zero_no k in rw e (omega (arith, h))
count_less k (suc p ∷ ps) = let h = count_less k ps in let e : (suc p == suc k) ≡ (p == k) = both_suc p k in rw e (omega (arith, h))

-- ---- what stands at places of a list

module _ {X : Type 0} (f : X → ℕ) where
  abbrev weight_at : List X → ℕ → ℕ
  weight_at xs p = option_map_or f (slice_get xs p) 0

  split : (x : X) (xs : List X) (ps : List ℕ) → tot (weight_at (x ∷ xs)) ps ≡ count 0 ps * f x + tot (weight_at xs) (less_one ps)
  unfolding less_one
  split x xs [] = omega arith
  split x xs (zero ∷ ps) = let h = split x xs ps in omega (arith, h)
  split x xs (suc p ∷ ps) = let h = split x xs ps in let e : (suc p == 0) ≡ false = no_zero p in rw e (omega (arith, h))

  once_at_most : (n a : ℕ) → n ≤ 1 → n * a ≤ a
  once_at_most zero a h = omega arith
  once_at_most (suc zero) a h = omega arith
  once_at_most (suc (suc n)) a h = absurd (omega (arith, h))

  -- where no place of a list stands twice
  abbrev Once : List X → List ℕ → Type 0
  Once xs ps = (k : ℕ) (x : X) → slice_get xs k ≡ Some x → count k ps ≤ 1

  behind : (x : X) (xs : List X) (ps : List ℕ) → Once (x ∷ xs) ps → Once xs (less_one ps)
  behind x xs ps h k y e = let one : count (suc k) ps ≤ 1 = h (suc k) y e in let same = count_less k ps in omega (arith, one, same)

  pub once_weighs : (xs : List X) (ps : List ℕ) → Once xs ps → tot (weight_at xs) ps ≤ tot f xs
  once_weighs [] ps h = let none : tot (weight_at []) ps ≡ 0 = tot_zero (weight_at []) ps (λ p. refl) in omega (arith, none)
  once_weighs (x ∷ xs) ps h =
      let zeros : count 0 ps ≤ 1 = h 0 x refl in
      let rest = once_weighs xs (less_one ps) (behind x xs ps h) in
      let few = once_at_most (count 0 ps) (f x) zeros in
      let parts = split x xs ps in
      omega (arith, rest, few, parts)

  -- ---- past the first ones

  abbrev weight_past : ℕ → List X → ℕ → ℕ
  weight_past n xs p = if nat_lt p n then 0 else weight_at xs p

  some_past : (b : Bool) (n : ℕ) → (if b then 0 else n) ≤ n
  some_past true n = omega arith
  some_past false n = omega arith

  at_first : (n : ℕ) (a : ℕ) → (if nat_lt 0 (suc n) then 0 else a) ≡ 0
  at_first n a = by_test (nat_lt 0 (suc n)) refl
    where
      by_test : (b : Bool) → nat_lt 0 (suc n) ≡ b → (if b then 0 else a) ≡ 0
      by_test true e = refl
      by_test false e = let positive : 0 < suc n = omega arith in absurd (not_below positive e)
        where
          not_below : 0 < suc n → nat_lt 0 (suc n) ≡ false → ⊥
          not_below h e = true≢false (sym (let t : nat_lt 0 (suc n) ≡ true = grind arith in t) ∙ e)

  both_past : (p n a : ℕ) → (if nat_lt (suc p) (suc n) then 0 else a) ≡ (if nat_lt p n then 0 else a)
  both_past p n a = ap (λ b. if b then 0 else a) (let e : nat_lt (suc p) (suc n) ≡ nat_lt p n = same_test p n in e)
    where
      same_test : (p n : ℕ) → nat_lt (suc p) (suc n) ≡ nat_lt p n
      same_test p n = by_test (nat_lt p n) refl
        where
          by_test : (b : Bool) → nat_lt p n ≡ b → nat_lt (suc p) (suc n) ≡ b
          by_test true e = let lt : p < n = ltb-true p n e in grind arith
          by_test false e = by_suc (nat_lt (suc p) (suc n)) refl
            where
              by_suc : (c : Bool) → nat_lt (suc p) (suc n) ≡ c → c ≡ false
              by_suc true q =
                  let lt : suc p < suc n = ltb-true (suc p) (suc n) q in
                  let t : nat_lt p n ≡ true = grind arith in
                  absurd (true≢false (sym t ∙ e))
              by_suc false q = refl

  split_past : (n : ℕ) (x : X) (xs : List X) (ps : List ℕ) → tot (weight_past (suc n) (x ∷ xs)) ps ≡ tot (weight_past n xs) (less_one ps)
  unfolding less_one
  split_past n x xs [] = refl
  split_past n x xs (zero ∷ ps) = let h = split_past n x xs ps in let e = at_first n (f x) in omega (arith, h, e)
  split_past n x xs (suc p ∷ ps) = let h = split_past n x xs ps in let e = both_past p n (weight_at xs p) in omega (arith, h, e)

  abbrev OncePast : ℕ → List X → List ℕ → Type 0
  OncePast n xs ps = (k : ℕ) (x : X) → n ≤ k → slice_get xs k ≡ Some x → count k ps ≤ 1

  pub past_weighs : (n : ℕ) (xs : List X) (ps : List ℕ) → OncePast n xs ps → tot f (take n xs) + tot (weight_past n xs) ps ≤ tot f xs
  past_weighs zero xs ps h =
      let less = tot_each (weight_past 0 xs) (weight_at xs) ps (λ p. some_past (nat_lt p 0) (weight_at xs p)) in
      let all = once_weighs xs ps (λ k x e. h k x (omega arith) e) in
      omega (arith, less, all)
  past_weighs (suc n) [] ps h =
      let none : tot (weight_past (suc n) []) ps ≡ 0 = tot_zero (weight_past (suc n) []) ps (λ p. nothing (nat_lt p (suc n)) 0 refl) in omega (arith, none)
    where
      nothing : (b : Bool) (a : ℕ) → a ≡ 0 → (if b then 0 else a) ≡ a
      nothing true a e = sym e
      nothing false a e = refl
  past_weighs (suc n) (x ∷ xs) ps h =
      let rest = past_weighs n xs (less_one ps) (λ k y le e. let one : count (suc k) ps ≤ 1 = h (suc k) y (omega (arith, le)) e in let same = count_less k ps in omega (arith, one, same)) in
      let parts = split_past n x xs ps in
      omega (arith, rest, parts)

  -- ---- what is found

  pub found_tot : {Y : Type 0} (g : Y → Option X) (ys : List Y) → tot f (filter_map g ys) ≡ tot (λ y. option_map_or f (g y) 0) ys
  found_tot g [] = refl
  found_tot g (y ∷ ys) = by_option (g y) (found_tot g ys)
    where
      by_option : (o : Option X) → tot f (filter_map g ys) ≡ tot (λ y. option_map_or f (g y) 0) ys → tot f (cons_option o (filter_map g ys)) ≡ option_map_or f o 0 + tot (λ y. option_map_or f (g y) 0) ys
      by_option None h = omega (arith, h)
      by_option (Some x) h = omega (arith, h)

  pub joined_tot : {Y : Type 0} (g : Y → List X) (ys : List Y) → tot f (flat_map g ys) ≡ tot (λ y. tot f (g y)) ys
  joined_tot g [] = refl
  joined_tot g (y ∷ ys) = let h = joined_tot g ys in let two = tot_append f (g y) (flat_map g ys) in omega (arith, h, two)

found_append : {X Y : Type 0} (g : X → Option Y) (xs ys : List X) → filter_map g (xs ++ ys) ≡ filter_map g xs ++ filter_map g ys
found_append g [] ys = refl
found_append {Y = Y} g (x ∷ xs) ys = by_option (g x) (found_append g xs ys)
  where
    by_option : (o : Option Y) → filter_map g (xs ++ ys) ≡ filter_map g xs ++ filter_map g ys → cons_option o (filter_map g (xs ++ ys)) ≡ cons_option o (filter_map g xs) ++ filter_map g ys
    by_option None h = h
    by_option (Some y) h = ap (λ zs. y ∷ zs) h

-- ---- the LAMBDAs that terms name

module _ (u : Cps) where
  once_walked : IsFormed u → (k : ℕ) → count k (walked u) ≤ 1
  once_walked formed k = distinct_count k (walked u) (distinct_of (walked u) formed.places.named_once)

  term_places : (ts : List ℕ) → List Term
  term_places ts = filter_map (slice_get u.terms.items) ts

  -- how often the terms at these places name a procedure
  abbrev names_at : ℕ → ℕ → ℕ
  names_at l t = option_map_or (λ term. count l (lams_of term)) (slice_get u.terms.items t) 0

  abbrev names_in : ℕ → List ℕ → ℕ
  names_in l ts = tot (names_at l) ts

  module _ (l : ℕ) (lam : Lam) (is : lambda_at u l ≡ Some lam) where
    abbrev b : ℕ
    b = lam.body

    abbrev is_body : Option Lam → ℕ
    is_body o = option_map_or (λ (x : Lam). one_if (x.body == b)) o 0

    one_body : (k : ℕ) → one_if (k == l) ≤ is_body (lambda_at u k)
    one_body k = by_test (k == l) refl
      where
        own : (b == b) ≡ true
        own = same_number b b refl

        by_test : (c : Bool) → (k == l) ≡ c → one_if c ≤ is_body (lambda_at u k)
        by_test false e = omega arith
        by_test true e = let same : k ≡ l = eqb-true k l e in subst (λ (o : Option Lam). 1 ≤ is_body o) (sym is ∙ ap (lambda_at u) (sym same)) (let w : one_if (b == b) ≡ 1 = ap one_if own in omega (arith, w))

    -- as often as a term names the procedure, the body is a part of it
    named_parts : (term : Term) → count l (lams_of term) ≤ tot (λ (x : Part). one_if (x.at == b)) (parts_of u [] term)
    named_parts term =
        let each = tot_each (λ k. one_if (k == l)) (λ k. is_body (lambda_at u k)) (lams_of term) one_body in
        let found = found_tot (λ (x : Lam). one_if (x.body == b)) (lambda_at u) (lams_of term) in
        let mapped = tot_map (λ (x : Part). one_if (x.at == b)) (lambda_part (around term)) (lambdas_of u term) in
        let two = tot_append (λ (x : Part). one_if (x.at == b)) (map (lambda_part (around term)) (lambdas_of u term)) (own_parts [] term) in
        omega (arith, each, found, mapped, two)

    -- at a place that holds something the body is walked whenever it is named
    abbrev IsNamed : ℕ → ℕ → Type 0
    IsNamed depth t = one_if (t == b) + names_in l (walked_within u depth t) ≤ count b (walked_within u depth t)

    at_parts : (depth : ℕ) (xs : List Part) → AllByRecursion (λ x. IsNamed depth x.at) xs
        → tot (λ (x : Part). one_if (x.at == b)) xs + names_in l (flat_map (λ x. walked_within u depth x.at) xs) ≤ count b (flat_map (λ x. walked_within u depth x.at) xs)
    at_parts depth xs h =
        let each = tot_le (λ (x : Part). one_if (x.at == b) + names_in l (walked_within u depth x.at)) (λ (x : Part). count b (walked_within u depth x.at)) xs h in
        let sums = tot_add (λ (x : Part). one_if (x.at == b)) (λ (x : Part). names_in l (walked_within u depth x.at)) xs in
        let left = joined_tot (names_at l) (λ (x : Part). walked_within u depth x.at) xs in
        let right = joined_tot (λ y. one_if (y == b)) (λ (x : Part). walked_within u depth x.at) xs in
        omega (arith, each, sums, left, right)

    named_within : (depth : ℕ) (scope : List Name) (catches : List ℕ) (t : ℕ) → HoldsWithin UsesVariables u depth scope catches t → IsNamed depth t
    unfolding HoldsWithin walked_within
    named_within zero scope catches t h = absurd h
    named_within (suc depth) scope catches t h = by_term (λ s c r k. named_within depth s c r k) (slice_get u.terms.items t) refl h
      where
        by_term : ((s : List Name) (c : List ℕ) (r : ℕ) → HoldsWithin UsesVariables u depth s c r → IsNamed depth r) → (o : Option Term) → slice_get u.terms.items t ≡ o
            → IsSomeAnd o (λ term. UsesVariables scope catches term × AllByRecursion (λ p. HoldsWithin UsesVariables u depth (p.binds ++ scope) p.catches p.at) (parts_of u catches term))
            → one_if (t == b) + (names_at l t + names_in l (option_map_or (λ term. flat_map (λ p. walked_within u depth p.at) (parts_of u [] term)) o []))
            ≤ one_if (t == b) + count b (option_map_or (λ term. flat_map (λ p. walked_within u depth p.at) (parts_of u [] term)) o [])
        by_term go None e g = absurd g
        by_term go (Some term) e g =
            let parts = parts_same (λ bound at. IsNamed depth at) u catches [] term (each_more (λ p. HoldsWithin UsesVariables u depth (p.binds ++ scope) p.catches p.at) (λ p. IsNamed depth p.at) (parts_of u catches term) (λ p k. go (p.binds ++ scope) p.catches p.at k) g.1) in
            let below = at_parts depth (parts_of u [] term) parts in
            let named = named_parts term in
            let here : names_at l t ≡ count l (lams_of term) = ap (λ (o : Option Term). option_map_or (λ term. count l (lams_of term)) o 0) e in
            omega (arith, below, named, here)

    named_once : IsFormed u → names_in l (walked u) ≤ 1
    named_once formed =
        let roots = at_parts (depth_of u) (root_parts u) (each_more (λ p. HoldsWithin UsesVariables u (depth_of u) p.binds p.catches p.at) (λ p. IsNamed (depth_of u) p.at) (root_parts u) (λ p k. named_within (depth_of u) p.binds p.catches p.at k) formed.scopes.used) in
        let one = once_walked formed b in
        omega (arith, roots, one)

-- ---- the laws

pub terms_are_listed : ReachedTermsAreListed
terms_are_listed u f formed =
    let found = found_tot f (slice_get u.terms.items) (walked u) in
    let once = once_weighs f u.terms.items (walked u) (λ k x e. once_walked u formed k) in
    let left = sum_tot f (reached_terms u) in
    let right = sum_tot f u.terms.items in
    omega (arith, found, once, left, right)

all_names : Cps → List ℕ
all_names u = flat_map lams_of (reached_terms u)

lambda_past : (u : Cps) (g : Lam → ℕ) (k : ℕ) → option_map_or g (lambda_at u k) 0 ≡ (if nat_lt k (first_lams u) then 0 else option_map_or g (slice_get u.lams.items k) 0)
lambda_past u g k = by_test (nat_lt k (first_lams u))
  where
    by_test : (c : Bool) → option_map_or g (if c then None else slice_get u.lams.items k) 0 ≡ (if c then 0 else option_map_or g (slice_get u.lams.items k) 0)
    by_test true = refl
    by_test false = refl

lambda_there : (u : Cps) (k : ℕ) (lam : Lam) → first_lams u ≤ k → slice_get u.lams.items k ≡ Some lam → lambda_at u k ≡ Some lam
lambda_there u k lam le e = by_test (nat_lt k (first_lams u)) refl
  where
    by_test : (c : Bool) → nat_lt k (first_lams u) ≡ c → (if c then None else slice_get u.lams.items k) ≡ Some lam
    by_test true t = let lt : k < first_lams u = ltb-true k (first_lams u) t in absurd (omega (arith, lt, le))
    by_test false t = e

names_counted : (u : Cps) (l : ℕ) → count l (all_names u) ≡ names_in u l (walked u)
unfolding all_names
names_counted u l =
    joined_tot (λ y. one_if (y == l)) lams_of (reached_terms u) ∙ found_tot (λ (term : Term). count l (lams_of term)) (slice_get u.terms.items) (walked u)

lambdas_joined : (u : Cps) (g : Lam → ℕ) → tot g (flat_map (lambdas_of u) (reached_terms u)) ≡ tot (weight_past g (first_lams u) u.lams.items) (all_names u)
unfolding all_names
lambdas_joined u g =
    joined_tot g (lambdas_of u) (reached_terms u)
    ∙ tot_same (λ (term : Term). tot g (lambdas_of u term)) (λ (term : Term). tot (weight_past g (first_lams u) u.lams.items) (lams_of term)) (reached_terms u)
    (each_of (λ (term : Term). tot g (lambdas_of u term) ≡ tot (weight_past g (first_lams u) u.lams.items) (lams_of term)) (reached_terms u)
    (λ term. found_tot g (lambda_at u) (lams_of term) ∙ tot_same (λ k. option_map_or g (lambda_at u k) 0) (weight_past g (first_lams u) u.lams.items) (lams_of term)
    (each_of (λ k. option_map_or g (lambda_at u k) 0 ≡ weight_past g (first_lams u) u.lams.items k) (lams_of term) (lambda_past u g))))
    ∙ sym (joined_tot (weight_past g (first_lams u) u.lams.items) lams_of (reached_terms u))

pub lams_are_listed : ReachedLamsAreListed
lams_are_listed u g formed =
    let joined = lambdas_joined u g in
    let two = tot_append g (root_lams u) (flat_map (lambdas_of u) (reached_terms u)) in
    let past = past_weighs g (first_lams u) u.lams.items (all_names u)
    (λ k lam le e. let one = named_once u k lam (lambda_there u k lam le e) formed in let same = names_counted u k in omega (arith, one, same)) in
    let left = sum_tot g (reached_lams u) in
    let right = sum_tot g u.lams.items in
    omega (arith, joined, two, past, left, right)
