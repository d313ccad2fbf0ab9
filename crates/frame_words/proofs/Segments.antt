-- Reading and changing a list in which items stand behind each other.
use Rattle.std.proofs.Common.{◌≡◌, ℕ, zero, suc, ◌+◌, ◌-◌, ◌<◌, ◌≤◌, ◌⊎◌, inl, inr, Bool, true, false, if◌then◌else◌, List, [], ◌∷◌, ◌++◌, length, slice_get, slice_set, Option, Some, None, option_map, refl, sym, ap, ◌∙◌, subst, arith}
use Rattle.std.specs.List.{flat_map, AllByRecursion}
use Rattle.std.proofs.lemmas.List.{set-append_left, set-append_right}
use Rattle.frame_words.specs.Segments.{place_of, AreDistinct, total_of}

-- ---- joined lists

pub get_left : {W : Type 0} (xs ys : List W) (i : ℕ) (w : W) → slice_get xs i ≡ Some w → slice_get (xs ++ ys) i ≡ Some w
get_left [] ys i w e = absurd (cc)
get_left (x ∷ xs) ys zero w e = e
get_left (x ∷ xs) ys (suc i) w e = get_left xs ys i w e

pub get_right : {W : Type 0} (xs ys : List W) (i : ℕ) → slice_get (xs ++ ys) (length xs + i) ≡ slice_get ys i
get_right [] ys i = let e : 0 + i ≡ i = omega arith in ap (slice_get ys) e
get_right (x ∷ xs) ys i = let e : suc (length xs) + i ≡ suc (length xs + i) = omega arith in rw e (get_right xs ys i)

some_of_map : {A B : Type 0} (f : A → B) (o : Option A) (b : B) → option_map f o ≡ Some b → (a : A) × (o ≡ Some a) × (f a ≡ b)
some_of_map f (Some a) b e = (a, refl, cc)
some_of_map f None b e = absurd (cc)

none_of_map : {A B : Type 0} (f : A → B) (o : Option A) → option_map f o ≡ None → o ≡ None
none_of_map f (Some a) e = absurd (cc)
none_of_map f None e = refl

module _ {X : Type 0} (same : X → X → Bool) (size : X → ℕ) where
  -- where an item is found: at the head, or behind it
  pub data Found (y : X) (ys : List X) (x : X) (p : ℕ) : Type 0 where
    First : same y x ≡ true → p ≡ 0 → Found y ys x p
    Later : (q : ℕ) → same y x ≡ false → place_of same size ys x ≡ Some q → p ≡ size y + q → Found y ys x p

  found_by : (y x : X) (ys : List X) (p : ℕ) (b : Bool) → same y x ≡ b → (if b then Some 0 else option_map (λ n. size y + n) (place_of same size ys x)) ≡ Some p → Found y ys x p
  found_by y x ys p true e h = First e (cc)
  found_by y x ys p false e h = let m = some_of_map (λ n. size y + n) (place_of same size ys x) p h in Later m.0 e m.1 (sym m.2)

  pub found : (y x : X) (ys : List X) (p : ℕ) → place_of same size (y ∷ ys) x ≡ Some p → Found y ys x p
  found y x ys p h = found_by y x ys p (same y x) refl h

  missed_by : (y x : X) (ys : List X) (b : Bool) → same y x ≡ b → (if b then Some 0 else option_map (λ n. size y + n) (place_of same size ys x)) ≡ None → (same y x ≡ false) × (place_of same size ys x ≡ None)
  missed_by y x ys true e h = absurd (cc)
  missed_by y x ys false e h = (e, none_of_map (λ n. size y + n) (place_of same size ys x) h)

  pub missed : (y x : X) (ys : List X) → place_of same size (y ∷ ys) x ≡ None → (same y x ≡ false) × (place_of same size ys x ≡ None)
  missed y x ys h = missed_by y x ys (same y x) refl h

  pub first_place : (y x : X) (ys : List X) → same y x ≡ true → place_of same size (y ∷ ys) x ≡ Some 0
  first_place y x ys e = rw e refl

  pub later_place : (y x : X) (ys : List X) (o : Option ℕ) → same y x ≡ false → place_of same size ys x ≡ o → place_of same size (y ∷ ys) x ≡ option_map (λ n. size y + n) o
  later_place y x ys o e h = rw (e, h) refl

  -- ---- places

  pub place_within : (xs : List X) (x : X) (p : ℕ) → ((y z : X) → same y z ≡ true → y ≡ z) → place_of same size xs x ≡ Some p → p + size x ≤ total_of size xs
  place_within [] x p sound h = absurd (cc)
  place_within (y ∷ ys) x p sound h = elim (found y x ys p h) [
    | First e z ↦ let s : size y ≡ size x = ap size (sound y x e) in omega (arith, s, z)
    | Later q e g z ↦ omega (arith, place_within ys x q sound g, z)
  ]

  pub place_append : (xs ys : List X) (x : X) (p : ℕ) → place_of same size xs x ≡ Some p → place_of same size (xs ++ ys) x ≡ Some p
  place_append [] ys x p h = absurd (cc)
  place_append (y ∷ xs) ys x p h = elim (found y x xs p h) [
    | First e z ↦ rw z (first_place y x (xs ++ ys) e)
    | Later q e g z ↦ rw z (later_place y x (xs ++ ys) (Some q) e (place_append xs ys x q g))
  ]

  pub place_last : (xs : List X) (x : X) → same x x ≡ true → place_of same size xs x ≡ None → place_of same size (xs ++ x ∷ []) x ≡ Some (total_of size xs)
  place_last [] x e h = first_place x x [] e
  place_last (y ∷ ys) x e h = let m = missed y x ys h in later_place y x (ys ++ x ∷ []) (Some (total_of size ys)) m.0 (place_last ys x e m.1)

  -- different items don't overlap
  pub apart : (xs : List X) (x y : X) (p q : ℕ) → ((y z : X) → same y z ≡ true → y ≡ z) → same x y ≡ false → same y x ≡ false → place_of same size xs x ≡ Some p → place_of same size xs y ≡ Some q → (p + size x ≤ q) ⊎ (q + size y ≤ p)
  apart [] x y p q sound d d' h k = absurd (cc)
  apart (z ∷ zs) x y p q sound d d' h k = elim (found z x zs p h) [
    | First e a ↦ elim (found z y zs q k) [
      | First f b ↦ let zx : z ≡ x = sound z x e in absurd (let g : same x y ≡ true = subst (λ v. same v y ≡ true) zx f in cc)
      | Later j f g b ↦ let s : size z ≡ size x = ap size (sound z x e) in inl (omega (arith, s, a, b))
    ]
    | Later i e g a ↦ elim (found z y zs q k) [
      | First f b ↦ let s : size z ≡ size y = ap size (sound z y f) in inr (omega (arith, s, a, b))
      | Later j f g' b ↦ elim (apart zs x y i j sound d d' g g') [
        | inl r ↦ inl (omega (arith, r, a, b))
        | inr r ↦ inr (omega (arith, r, a, b))
      ]
    ]
  ]

  -- ---- contents

  module _ {W : Type 0} (content : X → List W) (sized : (x : X) → length (content x) ≡ size x) (sound : (y z : X) → same y z ≡ true → y ≡ z) where
    pub read : (xs : List X) (x : X) (p i : ℕ) (w : W) → place_of same size xs x ≡ Some p → slice_get (content x) i ≡ Some w → slice_get (flat_map content xs) (p + i) ≡ Some w
    read [] x p i w h g = absurd (cc)
    read (y ∷ ys) x p i w h g = elim (found y x ys p h) [
      | First e z ↦
          let here : slice_get (content y) i ≡ Some w = subst (λ v. slice_get (content v) i ≡ Some w) (sym (sound y x e)) g in
          let n : p + i ≡ i = omega (arith, z) in
          rw n (get_left (content y) (flat_map content ys) i w here)
      | Later q e f z ↦
          let n : p + i ≡ length (content y) + (q + i) = omega (arith, z, sized y) in
          rw n (get_right (content y) (flat_map content ys) (q + i) ∙ read ys x q i w f g)
    ]

    -- contents that differ at one item, in one word
    module _ (new : X → List W) (x : X) (i : ℕ) (w : W) (others : (y : X) → same y x ≡ false → new y ≡ content y) (here : new x ≡ slice_set (content x) i w) (inside : i < size x) where
      untouched : (ys : List X) → place_of same size ys x ≡ None → flat_map new ys ≡ flat_map content ys
      untouched [] h = refl
      untouched (y ∷ ys) h = let m = missed y x ys h in rw (others y m.0, untouched ys m.1) refl

      pub changed : (xs : List X) (p : ℕ) → AreDistinct same size xs → place_of same size xs x ≡ Some p → flat_map new xs ≡ slice_set (flat_map content xs) (p + i) w
      changed [] p d h = absurd (cc)
      changed (y ∷ ys) p d h = elim (found y x ys p h) [
        | First e z ↦
            let yx : y ≡ x = sound y x e in
            let at : new y ≡ slice_set (content y) i w = subst (λ v. new v ≡ slice_set (content v) i w) (sym yx) here in
            let none : place_of same size ys x ≡ None = subst (λ v. place_of same size ys v ≡ None) yx d.0 in
            let n : p + i ≡ i = omega (arith, z) in
            let fits : i < length (content y) = omega (arith, sized y, ap size yx, inside) in
            rw (at, untouched ys none, n) (sym (set-append_left (content y) (flat_map content ys) i w fits))
        | Later q e f z ↦
            let n : p + i ≡ size y + (q + i) = omega (arith, z) in
            let m : size y + (q + i) - size y ≡ q + i = omega arith in
            let le : size y ≤ size y + (q + i) = omega arith in
            rw (others y e, changed ys q d.1 f, n) (sym (set-append_right (content y) (flat_map content ys) (size y) (size y + (q + i)) w (sized y) le ∙ rw m refl))
      ]

-- sizes that are the same where the items stand
pub place_alike : {X : Type 0} (same : X → X → Bool) (size other : X → ℕ) (xs : List X) (x : X) → AllByRecursion (λ y. size y ≡ other y) xs → place_of same size xs x ≡ place_of same other xs x
place_alike same size other [] x h = refl
place_alike same size other (y ∷ ys) x h = rw (h.0, place_alike same size other ys x h.1) refl
