-- Shifts by parts.
use Rattle.std.proofs.Common.{◌≡◌, ℕ, zero, suc, ◌+◌, ◌-◌, ◌*◌, ◌/◌, ◌^◌, ◌<◌, ◌≤◌, nat_lt, nat_le, Bool, true, false, not, ◌||◌, ◌⊎◌, inl, inr, refl, ap, sym, ◌∙◌, arith}
use Rattle.std.specs.Prelude.{ℤ, pos, negsuc, ◌*ℤ◌, neg_ℤ, if◌then◌else◌}
use Rattle.std.specs.Int.{w32, int_shr}
use Rattle.std.specs.Int.Signed.{shr_z}
use Rattle.std.proofs.Math.Nat.{pow-succ', mul_assoc, div-div-eq-div-mul, zero-div, div-le_self, pow-le-pow_right}
use Rattle.std.proofs.lemmas.Int.{to_z-of_z}
use Rattle.std.proofs.lemmas.Nat.{pow_pos, pow-add, mul-mod_first}
use Rattle.std.proofs.lemmas.Bool.{lt-ltb, le-ltb, le-leb, ltb-true, leb-true}
use Rattle.std.proofs.lemmas.Bool.Decides.{leb_tells}
use Rattle.word_ir.specs.Word.{signed, unsigned, fits}
use Rattle.m68020_step.specs.Word.{wrap}
use Rattle.m68020_step.specs.ConditionCodes.{turns, sign_changes}
use Rattle.lap_lines.proofs.Numbers.{fits_signed}

-- ---- to the left

pub wrapped_more : (i k c : ℕ) → wrap (wrap (i * 2 ^ k) * 2 ^ c) ≡ wrap (i * 2 ^ (k + c))
wrapped_more i k c = mul-mod_first (i * 2 ^ k) (2 ^ c) (2 ^ 32) ∙ ap wrap (mul_assoc i (2 ^ k) (2 ^ c) ∙ ap (λ (n : ℕ). i * n) (sym (pow-add 2 k c)))

doubled : (a c : ℕ) → a * 2 ^ suc c ≡ a * 2 * 2 ^ c
doubled a c = ap (λ (n : ℕ). a * n) (pow-succ' 2 c) ∙ sym (mul_assoc a 2 (2 ^ c))

or_assoc : (x y z : Bool) → (x || (y || z)) ≡ ((x || y) || z)
or_assoc true y z = refl
or_assoc false y z = refl

-- the sign changes in one of two parts
pub changes_more : (k c a : ℕ) → a < 2 ^ 32 → sign_changes (k + c) a ≡ (sign_changes k a || sign_changes c (wrap (a * 2 ^ k)))
unfolding sign_changes
changes_more zero c a lt =
    let none : 0 + c ≡ c = omega arith in
    let same_word : wrap (a * 2 ^ 0) ≡ a = omega (arith, lt) in
    ap (λ (n : ℕ). sign_changes n a) none ∙ ap (λ (x : ℕ). sign_changes c x) (sym same_word)
changes_more (suc k) c a lt =
    let one : suc k + c ≡ suc (k + c) = omega arith in
    ap (λ (n : ℕ). sign_changes n a) one ∙ ap (λ b. turns a || b) (changes_more k c (wrap (a * 2)) (omega arith)) ∙ or_assoc (turns a) (sign_changes k (wrap (a * 2))) (sign_changes c (wrap (wrap (a * 2) * 2 ^ k)))
    ∙ ap (λ (x : ℕ). (turns a || sign_changes k (wrap (a * 2))) || sign_changes c x) (mul-mod_first (a * 2) (2 ^ k) (2 ^ 32) ∙ ap wrap (sym (doubled a k)))

-- a long word stays a number of 31 bits with its sign
abbrev pub left_fits : ℕ → ℕ → Bool
left_fits a c = if nat_lt a (2 ^ 31) then nat_lt (a * 2 ^ c) (2 ^ 31) else nat_le ((2 ^ 32 - a) * 2 ^ c) (2 ^ 31)

one_step : (a : ℕ) → a < 2 ^ 32 → ((turns a ≡ false) × ((c : ℕ) → left_fits a (suc c) ≡ left_fits (wrap (a * 2)) c)) ⊎ ((turns a ≡ true) × ((c : ℕ) → left_fits a (suc c) ≡ false))
one_step a lt = elim (leb_tells (suc a) (2 ^ 31)) [
  | inl p ↦ elim (leb_tells (suc (a * 2)) (2 ^ 31)) [
    | inl q ↦
        let double : wrap (a * 2) ≡ a * 2 = omega (arith, q.1) in
        inl (rw (double, low a p.1, low (a * 2) q.1) refl, λ c. rw (double, p.0, q.0, doubled a c) refl)
    | inr q ↦
        let double : wrap (a * 2) ≡ a * 2 = omega (arith, p.1) in
        inr (
          rw (double, low a p.1, le-leb (2 ^ 31) (a * 2) (omega (arith, q.1))) refl,
          λ c. rw p.0 (le-ltb (a * 2 ^ suc c) (2 ^ 31) (at_least a c (2 ^ 31) (omega (arith, q.1)))),
        )
  ]
  | inr p ↦ elim (leb_tells ((2 ^ 32 - a) * 2) (2 ^ 31)) [
    | inl q ↦
        let double : wrap (a * 2) ≡ a * 2 - 2 ^ 32 = omega (arith, p.1, lt) in
        let rest : 2 ^ 32 - (a * 2 - 2 ^ 32) ≡ (2 ^ 32 - a) * 2 = omega (arith, p.1, lt) in
        inl (
          rw (double, le-leb (2 ^ 31) a (omega (arith, p.1)), le-leb (2 ^ 31) (a * 2 - 2 ^ 32) (omega (arith, q.1, lt))) refl,
          λ c. rw (double, p.0, le-ltb (a * 2 - 2 ^ 32) (2 ^ 31) (omega (arith, q.1, lt)), rest, doubled (2 ^ 32 - a) c) refl,
        )
    | inr q ↦
        let double : wrap (a * 2) ≡ a * 2 - 2 ^ 32 = omega (arith, p.1, lt) in
        inr (
          rw (double, le-leb (2 ^ 31) a (omega (arith, p.1)), low (a * 2 - 2 ^ 32) (omega (arith, q.1, lt))) refl,
          λ c. rw p.0 (above ((2 ^ 32 - a) * 2 ^ suc c) (at_least (2 ^ 32 - a) c (2 ^ 31 + 1) (omega (arith, q.1)))),
        )
  ]
]
  where
    low : (n : ℕ) → n < 2 ^ 31 → nat_le (2 ^ 31) n ≡ false
    low n lt = elim (leb_tells (2 ^ 31) n) [
      | inl p ↦ absurd (omega (arith, p.1, lt))
      | inr p ↦ p.0
    ]

    above : (n : ℕ) → 2 ^ 31 + 1 ≤ n → nat_le n (2 ^ 31) ≡ false
    above n le = elim (leb_tells n (2 ^ 31)) [
      | inl p ↦ absurd (omega (arith, p.1, le))
      | inr p ↦ p.0
    ]

    more : (x y : ℕ) → 0 < y → x ≤ x * y
    more x zero lt = absurd (omega (arith, lt))
    more x (suc y) lt = omega arith

    at_least : (x c bound : ℕ) → bound ≤ x * 2 → bound ≤ x * 2 ^ suc c
    at_least x c bound le = omega (arith, le, doubled x c, more (x * 2) (2 ^ c) (pow_pos c))

pub overflow_is : (c a : ℕ) → a < 2 ^ 32 → sign_changes c a ≡ not (left_fits a c)
unfolding sign_changes
overflow_is zero a lt = elim (leb_tells (suc a) (2 ^ 31)) [
  | inl p ↦ rw (p.0, lt-ltb (a * 2 ^ 0) (2 ^ 31) (omega (arith, p.1))) refl
  | inr p ↦ rw (p.0, le-leb ((2 ^ 32 - a) * 2 ^ 0) (2 ^ 31) (omega (arith, p.1))) refl
]
overflow_is (suc c) a lt = elim (one_step a lt) [
  | inl p ↦ rw (p.0, p.1 c) (overflow_is c (wrap (a * 2)) (omega arith))
  | inr p ↦ rw (p.0, p.1 c) refl
]

-- ---- the same of numbers with a sign

negated_fits : (n : ℕ) → fits (neg_ℤ (pos n)) ≡ nat_le n (2 ^ 31)
negated_fits zero = sym (le-leb 0 (2 ^ 31) (omega arith))
negated_fits (suc n) = refl

pub fits_left : (a c : ℕ) → a < 2 ^ 32 → fits (signed a *ℤ pos (2 ^ c)) ≡ left_fits a c
fits_left a c lt = elim (leb_tells (suc a) (2 ^ 31)) [
  | inl p ↦ rw p.0 refl
  | inr p ↦
      let x : suc (2 ^ 32 - suc a) ≡ 2 ^ 32 - a = omega (arith, lt) in
      rw (p.0, x) (negated_fits ((2 ^ 32 - a) * 2 ^ c))
]

pub value_left : (a c : ℕ) → a < 2 ^ 32 → left_fits a c ≡ true → wrap (a * 2 ^ c) ≡ unsigned (signed a *ℤ pos (2 ^ c))
value_left a c lt h = elim (leb_tells (suc a) (2 ^ 31)) [
  | inl p ↦
      let small : nat_lt (a * 2 ^ c) (2 ^ 31) ≡ true = rw p.0 at h in
      rw p.0 (kept (a * 2 ^ c) (ltb-true (a * 2 ^ c) (2 ^ 31) small))
  | inr p ↦
      let small : nat_le ((2 ^ 32 - a) * 2 ^ c) (2 ^ 31) ≡ true = rw p.0 at h in
      let x : suc (2 ^ 32 - suc a) ≡ 2 ^ 32 - a = omega (arith, lt) in
      rw (p.0, x) (negated a (2 ^ 32 - a) (2 ^ c) (omega (arith, lt)) (pow_pos c) (leb-true ((2 ^ 32 - a) * 2 ^ c) (2 ^ 31) small) (omega (arith, lt)))
]
  where
    kept : (n : ℕ) → n < 2 ^ 31 → wrap n ≡ unsigned (pos n)
    kept n lt = omega (arith, lt)

    positive : (y m : ℕ) → 0 < y → 0 < m → 0 < y * m
    positive zero m p q = absurd (omega (arith, p))
    positive (suc y) zero p q = absurd (omega (arith, q))
    positive (suc y) (suc m) p q = omega arith

    away : (p : ℕ) → 0 < p → p ≤ 2 ^ 31 → unsigned (neg_ℤ (pos p)) ≡ 2 ^ 32 - p
    away zero some le = absurd (omega (arith, some))
    away (suc p) some le = refl

    mul_add_right : (a y m : ℕ) → (a + y) * m ≡ a * m + y * m
    mul_add_right a y m = omega arith

    split : (a y m : ℕ) → a + y ≡ 2 ^ 32 → a * m + y * m ≡ 2 ^ 32 * m
    split a y m sum = sym (mul_add_right a y m) ∙ ap (λ (n : ℕ). n * m) sum

    wraps : (x y m : ℕ) → x + y ≡ 2 ^ 32 * m → 0 < y → y ≤ 2 ^ 31 → wrap x ≡ 2 ^ 32 - y
    wraps x y m sum some le = omega (arith, sum, some, le)

    negated : (a y m : ℕ) → a + y ≡ 2 ^ 32 → 0 < m → y * m ≤ 2 ^ 31 → 0 < y → wrap (a * m) ≡ unsigned (neg_ℤ (pos (y * m)))
    negated a y m sum some le more = wraps (a * m) (y * m) m (split a y m sum) (positive y m more some) le ∙ sym (away (y * m) (positive y m more some) le)

-- past 32 bits nothing changes any more
pub left_most : (a n : ℕ) → a < 2 ^ 32 → 32 ≤ n → left_fits a n ≡ left_fits a 32
left_most a n lt le = elim (leb_tells (suc a) (2 ^ 31)) [
  | inl p ↦ rw p.0 (by_zero a)
  | inr p ↦ rw p.0 (over (2 ^ 32 - a) (omega (arith, lt)))
]
  where
    big : 2 ^ 32 ≤ 2 ^ n
    big = pow-le-pow_right (omega arith) le

    grown : (x : ℕ) → 0 < x → 2 ^ 32 ≤ x * 2 ^ n
    grown zero some = absurd (omega (arith, some))
    grown (suc x) some = omega (arith, big)

    by_zero : (a : ℕ) → nat_lt (a * 2 ^ n) (2 ^ 31) ≡ nat_lt (a * 2 ^ 32) (2 ^ 31)
    by_zero zero = let none : 0 * 2 ^ n ≡ 0 * 2 ^ 32 = omega arith in ap (λ (x : ℕ). nat_lt x (2 ^ 31)) none
    by_zero (suc a) = le-ltb (suc a * 2 ^ n) (2 ^ 31) (omega (arith, grown (suc a) (omega arith))) ∙ sym (le-ltb (suc a * 2 ^ 32) (2 ^ 31) (omega arith))

    above : (n : ℕ) → 2 ^ 31 + 1 ≤ n → nat_le n (2 ^ 31) ≡ false
    above n le = elim (leb_tells n (2 ^ 31)) [
      | inl p ↦ absurd (omega (arith, p.1, le))
      | inr p ↦ p.0
    ]

    over : (y : ℕ) → 0 < y → nat_le (y * 2 ^ n) (2 ^ 31) ≡ nat_le (y * 2 ^ 32) (2 ^ 31)
    over y some = above (y * 2 ^ n) (omega (arith, grown y some)) ∙ sym (above (y * 2 ^ 32) (omega (arith, some)))

-- ---- to the right

right_small : (z : ℤ) (m : ℕ) → fits z ≡ true → fits (shr_z z m) ≡ true
right_small (pos a) m h = lt-ltb (a / m) (2 ^ 31) (omega (arith, div-le_self a m, ltb-true a (2 ^ 31) h))
right_small (negsuc a) m h = lt-ltb (a / m) (2 ^ 31) (omega (arith, div-le_self a m, ltb-true a (2 ^ 31) h))

signed_fits : (i : ℕ) → i < 2 ^ 32 → fits (signed i) ≡ true
signed_fits i lt = elim (leb_tells (suc i) (2 ^ 31)) [
  | inl p ↦ rw p.0 p.0
  | inr p ↦ rw p.0 (lt-ltb (2 ^ 32 - suc i) (2 ^ 31) (omega (arith, p.1, lt)))
]

pub right_fits : (i k : ℕ) → i < 2 ^ 32 → fits (int_shr (signed i) k) ≡ true
right_fits i k lt = right_small (signed i) (2 ^ k) (signed_fits i lt)

two_parts : (z : ℤ) (k c : ℕ) → int_shr (int_shr z k) c ≡ int_shr z (k + c)
two_parts (pos a) k c = ap pos (div-div-eq-div-mul a (2 ^ k) (2 ^ c) ∙ ap (λ (m : ℕ). a / m) (sym (pow-add 2 k c)))
two_parts (negsuc a) k c = ap negsuc (div-div-eq-div-mul a (2 ^ k) (2 ^ c) ∙ ap (λ (m : ℕ). a / m) (sym (pow-add 2 k c)))

pub right_more : (i k c : ℕ) → i < 2 ^ 32 → unsigned (int_shr (signed (unsigned (int_shr (signed i) k))) c) ≡ unsigned (int_shr (signed i) (k + c))
right_more i k c lt = ap (λ z. unsigned (int_shr z c)) (to_z-of_z w32 (int_shr (signed i) k) (fits_signed (int_shr (signed i) k) (right_fits i k lt))) ∙ ap unsigned (two_parts (signed i) k c)

nothing_left : (a n : ℕ) → a < 2 ^ 31 → 31 ≤ n → a / 2 ^ n ≡ a / 2 ^ 31
nothing_left a n lt le =
    let parts : 31 + (n - 31) ≡ n = omega (arith, le) in
    let none : a / 2 ^ 31 ≡ 0 = omega (arith, lt) in
    ap (λ (k : ℕ). a / 2 ^ k) (sym parts) ∙ ap (λ (m : ℕ). a / m) (pow-add 2 31 (n - 31)) ∙ sym (div-div-eq-div-mul a (2 ^ 31) (2 ^ (n - 31))) ∙ ap (λ (q : ℕ). q / 2 ^ (n - 31)) none ∙ zero-div (2 ^ (n - 31)) ∙ sym none

-- past 31 bits nothing changes any more
pub right_most : (i n : ℕ) → i < 2 ^ 32 → 31 ≤ n → int_shr (signed i) n ≡ int_shr (signed i) 31
right_most i n lt le = by (signed i) (signed_fits i lt)
  where
    by : (z : ℤ) → fits z ≡ true → int_shr z n ≡ int_shr z 31
    by (pos a) h = ap pos (nothing_left a n (ltb-true a (2 ^ 31) h) le)
    by (negsuc a) h = ap negsuc (nothing_left a n (ltb-true a (2 ^ 31) h) le)
