-- What stands in a list, and tests on lists that are joined.
use Rattle.std.specs.List.{AllByRecursion, filter, flat_map, filter_map, list_any, cons_option}
use Rattle.std.proofs.Common.{◌≡◌, ℕ, zero, suc, ◌+◌, ◌≤◌, ◌<◌, ◌==◌, Bool, true, false, ◌||◌, cond, List, [], ◌∷◌, ◌++◌, length, map, zip, take, Option, Some, None, ◌⊎◌, inl, inr, refl, sym, ap, ◌∙◌, subst, arith}
use Rattle.std.proofs.lemmas.Bool.{false≢true}
use Rattle.std.specs.List.{enumerate_from}
use Rattle.cps_ir.proofs.ProperLists.{each_more}
use Rattle.cps_ir.proofs.Closed.{or_left, or_right}

abbrev pub In : {X : Type 0} → X → List X → Type 0
In x [] = ⊥
In x (y ∷ ys) = (y ≡ x) ⊎ In x ys

pub each_there : {X : Type 0} (xs : List X) → AllByRecursion (λ x. In x xs) xs
each_there [] = tt
each_there (x ∷ xs) = (inl refl, each_more (λ y. In y xs) (λ y. In y (x ∷ xs)) xs (λ y h. inr h) (each_there xs))

pub in_left : {X : Type 0} (x : X) (xs ys : List X) → In x xs → In x (xs ++ ys)
in_left x [] ys h = absurd h
in_left x (y ∷ xs) ys (inl e) = inl e
in_left x (y ∷ xs) ys (inr h) = inr (in_left x xs ys h)

pub in_right : {X : Type 0} (x : X) (xs ys : List X) → In x ys → In x (xs ++ ys)
in_right x [] ys h = h
in_right x (y ∷ xs) ys h = inr (in_right x xs ys h)

pub in_map : {X Y : Type 0} (f : X → Y) (x : X) (xs : List X) → In x xs → In (f x) (map f xs)
in_map f x [] h = absurd h
in_map f x (y ∷ xs) (inl e) = inl (ap f e)
in_map f x (y ∷ xs) (inr h) = inr (in_map f x xs h)

pub in_flat : {X Y : Type 0} (f : X → List Y) (x : X) (y : Y) (xs : List X) → In x xs → In y (f x) → In y (flat_map f xs)
in_flat f x y [] h g = absurd h
in_flat f x y (z ∷ xs) (inl e) g = in_left y (f z) (flat_map f xs) (subst (λ r. In y (f r)) (sym e) g)
in_flat f x y (z ∷ xs) (inr h) g = in_right y (f z) (flat_map f xs) (in_flat f x y xs h g)

pub in_found : {X Y : Type 0} (f : X → Option Y) (x : X) (y : Y) (xs : List X) → In x xs → f x ≡ Some y → In y (filter_map f xs)
in_found f x y [] h e = absurd h
in_found f x y (z ∷ xs) (inl q) e = subst (λ o. In y (cons_option o (filter_map f xs))) (sym (ap f q ∙ e)) (inl refl)
in_found {Y = Y} f x y (z ∷ xs) (inr h) e = behind (f z) (in_found f x y xs h e)
  where
    behind : (o : Option Y) → In y (filter_map f xs) → In y (cons_option o (filter_map f xs))
    behind None g = g
    behind (Some w) g = inr g

pub in_filter : {X : Type 0} (p : X → Bool) (x : X) (xs : List X) → In x xs → p x ≡ true → In x (filter p xs)
in_filter p x [] h e = absurd h
in_filter p x (y ∷ xs) (inl q) e = subst (λ b. In x (cond b (y ∷ filter p xs) (filter p xs))) (sym (ap p q ∙ e)) (inl q)
in_filter p x (y ∷ xs) (inr h) e = behind (p y) (in_filter p x xs h e)
  where
    behind : (b : Bool) → In x (filter p xs) → In x (cond b (y ∷ filter p xs) (filter p xs))
    behind true g = inr g
    behind false g = g

pub in_second : {X Y : Type 0} (x : X) (y : Y) (xs : List X) (ys : List Y) → In (x, y) (zip xs ys) → In y ys
in_second x y [] ys h = absurd h
in_second x y (a ∷ xs) [] h = absurd h
in_second x y (a ∷ xs) (b ∷ ys) (inl e) = inl (ap (λ r. r.1) e)
in_second x y (a ∷ xs) (b ∷ ys) (inr h) = inr (in_second x y xs ys h)

pub any_in : {X : Type 0} (p : X → Bool) (x : X) (xs : List X) → In x xs → p x ≡ true → list_any p xs ≡ true
any_in p x [] h e = absurd h
any_in p x (y ∷ xs) (inl q) e = or_left (p y) _ (ap p q ∙ e)
any_in p x (y ∷ xs) (inr h) e = or_right (p y) _ (any_in p x xs h e)

pub each_filter : {X : Type 0} (P : X → Type 0) (p : X → Bool) (xs : List X) → AllByRecursion (λ x. p x ≡ true → P x) xs → AllByRecursion P (filter p xs)
each_filter P p [] h = tt
each_filter P p (x ∷ xs) h = by_test (p x) refl (each_filter P p xs h.1)
  where
    by_test : (b : Bool) → p x ≡ b → AllByRecursion P (filter p xs) → AllByRecursion P (cond b (x ∷ filter p xs) (filter p xs))
    by_test true e g = (h.0 e, g)
    by_test false e g = g

pub each_mapped : {X Y : Type 0} (P : Y → Type 0) (f : X → Y) (xs : List X) → AllByRecursion (λ x. P (f x)) xs → AllByRecursion P (map f xs)
each_mapped P f [] h = tt
each_mapped P f (x ∷ xs) h = (h.0, each_mapped P f xs h.1)

pub each_some : {X Y : Type 0} (P : Y → Type 0) (f : X → Option Y) (xs : List X) → AllByRecursion (λ x. (y : Y) → f x ≡ Some y → P y) xs → AllByRecursion P (filter_map f xs)
each_some P f [] h = tt
each_some {Y = Y} P f (x ∷ xs) h = by_option (f x) refl (each_some P f xs h.1)
  where
    by_option : (o : Option Y) → f x ≡ o → AllByRecursion P (filter_map f xs) → AllByRecursion P (cons_option o (filter_map f xs))
    by_option None e g = g
    by_option (Some y) e g = (h.0 y e, g)

pub at_in : {X : Type 0} (P : X → Type 0) (x : X) (xs : List X) → AllByRecursion P xs → In x xs → P x
at_in P x [] h i = absurd i
at_in P x (y ∷ xs) h (inl e) = subst P e h.0
at_in P x (y ∷ xs) h (inr i) = at_in P x xs h.1 i

pub enumerated : {X : Type 0} (n : ℕ) (xs : List X) → AllByRecursion (λ at. at.0 < n + length xs) (enumerate_from n xs)
enumerated n [] = tt
enumerated n (x ∷ xs) = (omega arith, each_more (λ at. at.0 < n + 1 + length xs) (λ at. at.0 < n + length (x ∷ xs)) (enumerate_from (n + 1) xs) (λ at h. omega (arith, h)) (enumerated (n + 1) xs))

pub take_short : {X : Type 0} (n : ℕ) (xs : List X) → length (take n xs) ≤ n
take_short zero [] = omega arith
take_short zero (x ∷ xs) = omega arith
take_short (suc n) [] = omega arith
take_short (suc n) (x ∷ xs) = let h = take_short n xs in omega (arith, h)

-- ---- tests

pub any_joined : {X : Type 0} (p : X → Bool) (xs ys : List X) → list_any p (xs ++ ys) ≡ (list_any p xs || list_any p ys)
any_joined p [] ys = refl
any_joined p (x ∷ xs) ys = ap (λ b. p x || b) (any_joined p xs ys) ∙ grouped (p x) (list_any p xs) (list_any p ys)
  where
    grouped : (a b c : Bool) → (a || (b || c)) ≡ ((a || b) || c)
    grouped true b c = refl
    grouped false b c = refl

pub any_none : {X : Type 0} (p : X → Bool) (xs : List X) → AllByRecursion (λ x. p x ≡ false) xs → list_any p xs ≡ false
any_none p [] h = refl
any_none p (x ∷ xs) h = subst (λ b. (b || list_any p xs) ≡ false) (sym h.0) (any_none p xs h.1)

-- where one passes, it is found
pub any_found : {X : Type 0} (p : X → Bool) {Q : Type 0} (xs : List X) → AllByRecursion (λ x. p x ≡ true → Q) xs → list_any p xs ≡ true → Q
any_found p [] h e = absurd (false≢true e)
any_found p {Q = Q} (x ∷ xs) h e = by_test (p x) refl (λ r. any_found p xs h.1 r) e
  where
    by_test : (b : Bool) → p x ≡ b → (list_any p xs ≡ true → Q) → (b || list_any p xs) ≡ true → Q
    by_test true q go r = h.0 q
    by_test false q go r = go r

pub same_both : (x y : ℕ) → (x == y) ≡ (y == x)
same_both x y = grind (arith)
