-- Fixnums are four times their numbers: signs, order, sums, differences and products.
use Rattle.std.proofs.Common.{◌≡◌, ℕ, zero, suc, ◌+◌, ◌*◌, ◌/◌, ◌^◌, ◌<◌, ◌%◌, ◌==◌, nat_lt, true, if◌then◌else◌, ℤ, pos, negsuc, ◌+ℤ◌, ◌-ℤ◌, ◌*ℤ◌, refl, sym, ap, ◌∙◌, arith}
use Rattle.std.specs.Prelude.{int_lt, int_le, FitsSigned, neg_ℤ}
use Rattle.std.specs.Ordering.{int_eq}
use Rattle.std.specs.Int.{w32, int_shr}
use Rattle.std.proofs.lemmas.Int.{ints, to_z-of_z}
use Rattle.std.proofs.lemmas.Bool.{ltb-true, lt-ltb, le-ltb}
use Rattle.std.proofs.lemmas.Bool.Decides.{nat_tests, same_from_decides, Decides-like, Decides-eqb, Decides-int_eq}
use Rattle.std.proofs.Math.Nat.{mul_assoc, mul_comm}
use Rattle.t_prim.specs.Operands.{in_range}
use Rattle.word_ir.specs.declared.words.Arith.TheVariants as kind
use Rattle.word_ir.specs.Word.{signed, unsigned, fits}
use Rattle.word_ir.specs.Computing.{Gives, Over, fitted, computed}
use Rattle.tagged_words.specs.Tags.{IsFixnum, fixnum_word, fixnum_result, is_index}

-- ---- four times a number

abbrev pub quadruple : ℤ → ℤ
quadruple (pos n) = pos (4 * n)
quadruple (negsuc n) = negsuc (4 * n + 3)

pub four_times : (x : ℤ) → x *ℤ pos 4 ≡ quadruple x
four_times (pos n) = ap pos (omega arith)
four_times (negsuc n) = let e : suc n * 4 ≡ suc (4 * n + 3) = omega arith in rw e refl

quadruple_fits : (x : ℤ) → fits (quadruple x) ≡ in_range x
quadruple_fits (pos n) = grind (arith, nat_tests)
quadruple_fits (negsuc n) = grind (arith, nat_tests)

pub fixnum_fits : (x : ℤ) → fits (x *ℤ pos 4) ≡ in_range x
fixnum_fits x = ap fits (four_times x) ∙ quadruple_fits x

pub fitted_fixnum : (z : ℤ) → fitted (z *ℤ pos 4) ≡ fixnum_result z
fitted_fixnum z = ap (λ b. if b then Gives (fixnum_word z) else Over) (fixnum_fits z)

fits_signed : (z : ℤ) → fits z ≡ true → FitsSigned w32 z
fits_signed (pos n) e = record { sfits = ltb-true n (2 ^ 31) e }
fits_signed (negsuc n) e = record { sfits = ltb-true n (2 ^ 31) e }

pub signed_unsigned : (z : ℤ) → fits z ≡ true → signed (unsigned z) ≡ z
signed_unsigned z e = to_z-of_z w32 z (fits_signed z e)

pub signed_fixnum : (x : ℤ) → IsFixnum x → signed (fixnum_word x) ≡ x *ℤ pos 4
signed_fixnum x h = signed_unsigned (x *ℤ pos 4) (fixnum_fits x ∙ h.ranged)

-- ---- sums, differences, products

pub sum : (x y : ℤ) → IsFixnum x → IsFixnum y → computed kind.Add (fixnum_word x) (fixnum_word y) ≡ fixnum_result (x +ℤ y)
sum x y h k =
    let e : x *ℤ pos 4 +ℤ y *ℤ pos 4 ≡ (x +ℤ y) *ℤ pos 4 = omega (arith, ints) in
    rw (signed_fixnum x h, signed_fixnum y k, e) (fitted_fixnum (x +ℤ y))

pub difference : (x y : ℤ) → IsFixnum x → IsFixnum y → computed kind.Sub (fixnum_word x) (fixnum_word y) ≡ fixnum_result (x -ℤ y)
difference x y h k =
    let e : x *ℤ pos 4 -ℤ y *ℤ pos 4 ≡ (x -ℤ y) *ℤ pos 4 = omega (arith, ints) in
    rw (signed_fixnum x h, signed_fixnum y k, e) (fitted_fixnum (x -ℤ y))

-- ---- products: the first factor is made a number again

half_of : (x : ℤ) → int_shr (quadruple x) 2 ≡ x
half_of (pos n) = let e : 4 * n / 4 ≡ n = omega arith in ap pos e
half_of (negsuc n) = let e : (4 * n + 3) / 4 ≡ n = omega arith in ap negsuc e

pub small_fits : (x : ℤ) → IsFixnum x → fits x ≡ true
small_fits (pos n) h = let lt : n < 536870912 = ltb-true n 536870912 h.ranged in lt-ltb n (2 ^ 31) (omega arith)
small_fits (negsuc n) h = let lt : n < 536870912 = ltb-true n 536870912 h.ranged in lt-ltb n (2 ^ 31) (omega arith)

pub fitted_small : (x : ℤ) → fits x ≡ true → fitted x ≡ Gives (unsigned x)
fitted_small x e = rw e refl

pub number_of_fixnum : (x : ℤ) → IsFixnum x → computed (kind.Shift (negsuc 1)) (fixnum_word x) 0 ≡ Gives (unsigned x)
number_of_fixnum x h = rw (signed_fixnum x h, four_times x, half_of x) (fitted_small x (small_fits x h))

shuffled : (a b : ℕ) → a * (4 * b) ≡ 4 * (a * b)
shuffled a b = sym (mul_assoc a 4 b) ∙ (ap (λ n. n * b) (mul_comm a 4) ∙ mul_assoc 4 a b)

pub neg_quadruple : (n : ℕ) → neg_ℤ (pos (4 * n)) ≡ quadruple (neg_ℤ (pos n))
neg_quadruple zero = refl
neg_quadruple (suc n) = let e : 4 * suc n ≡ suc (4 * n + 3) = omega arith in rw e refl

times_quadruple : (x y : ℤ) → x *ℤ quadruple y ≡ quadruple (x *ℤ y)
times_quadruple (pos a) (pos b) = ap pos (shuffled a b)
times_quadruple (pos a) (negsuc b) = let e : suc (4 * b + 3) ≡ 4 * suc b = omega arith in rw (e, shuffled a (suc b)) (neg_quadruple (a * suc b))
times_quadruple (negsuc a) (pos b) = rw (shuffled (suc a) b) (neg_quadruple (suc a * b))
times_quadruple (negsuc a) (negsuc b) = let e : suc (4 * b + 3) ≡ 4 * suc b = omega arith in rw (e, shuffled (suc a) (suc b)) refl

pub product : (x y : ℤ) → IsFixnum x → IsFixnum y → computed kind.Mul (unsigned x) (fixnum_word y) ≡ fixnum_result (x *ℤ y)
product x y h k =
    rw (signed_unsigned x (small_fits x h), signed_fixnum y k, four_times y, times_quadruple x y, ← four_times (x *ℤ y)) (fitted_fixnum (x *ℤ y))

-- ---- order

quadruple_lt : (x y : ℤ) → int_lt (quadruple x) (quadruple y) ≡ int_lt x y
quadruple_lt (pos a) (pos b) = grind (arith, nat_tests)
quadruple_lt (pos a) (negsuc b) = refl
quadruple_lt (negsuc a) (pos b) = refl
quadruple_lt (negsuc a) (negsuc b) = grind (arith, nat_tests)

quadruple_le : (x y : ℤ) → int_le (quadruple x) (quadruple y) ≡ int_le x y
quadruple_le (pos a) (pos b) = grind (arith, nat_tests)
quadruple_le (pos a) (negsuc b) = refl
quadruple_le (negsuc a) (pos b) = refl
quadruple_le (negsuc a) (negsuc b) = grind (arith, nat_tests)

pub lt_fixnums : (x y : ℤ) → IsFixnum x → IsFixnum y → int_lt (signed (fixnum_word x)) (signed (fixnum_word y)) ≡ int_lt x y
lt_fixnums x y h k = rw (signed_fixnum x h, signed_fixnum y k, four_times x, four_times y) (quadruple_lt x y)

pub le_fixnums : (x y : ℤ) → IsFixnum x → IsFixnum y → int_le (signed (fixnum_word x)) (signed (fixnum_word y)) ≡ int_le x y
le_fixnums x y h k = rw (signed_fixnum x h, signed_fixnum y k, four_times x, four_times y) (quadruple_le x y)

pub same_fixnum : (x y : ℤ) → IsFixnum x → IsFixnum y → fixnum_word x ≡ fixnum_word y → x ≡ y
same_fixnum x y h k e =
    let s : x *ℤ pos 4 ≡ y *ℤ pos 4 = sym (signed_fixnum x h) ∙ (ap signed e ∙ signed_fixnum y k) in
    omega (arith, ints)

pub eq_fixnums : (x y : ℤ) → IsFixnum x → IsFixnum y → (fixnum_word x == fixnum_word y) ≡ int_eq x y
eq_fixnums x y h k =
    same_from_decides (fixnum_word x == fixnum_word y) (int_eq x y)
    (Decides-like (fixnum_word x == fixnum_word y) (same_fixnum x y h k) (ap fixnum_word) (Decides-eqb (fixnum_word x) (fixnum_word y))) (Decides-int_eq x y)

-- ---- the tag, and the word of a number that isn't negative

quadruple_tag : (x : ℤ) → in_range x ≡ true → unsigned (quadruple x) % 4 ≡ 0
quadruple_tag (pos n) e = omega arith
quadruple_tag (negsuc n) e = let lt : n < 536870912 = ltb-true n 536870912 e in omega arith

pub fixnum_tag : (x : ℤ) → IsFixnum x → fixnum_word x % 4 ≡ 0
fixnum_tag x h = rw (four_times x) (quadruple_tag x h.ranged)

quadruple_below : (x : ℤ) → in_range x ≡ true → unsigned (quadruple x) < 2 ^ 32
quadruple_below (pos n) e = let lt : n < 536870912 = ltb-true n 536870912 e in omega arith
quadruple_below (negsuc n) e = omega arith

pub fixnum_below : (x : ℤ) → IsFixnum x → fixnum_word x < 2 ^ 32
fixnum_below x h = rw (four_times x) (quadruple_below x h.ranged)

pub natural_word : (n : ℕ) → fixnum_word (pos n) ≡ 4 * n
natural_word n = omega arith

-- compared without a sign, a negative number is past each length
quadruple_index : (x : ℤ) (n : ℕ) → in_range x ≡ true → n < 536870912 → nat_lt (unsigned (quadruple x)) (4 * n) ≡ is_index x n
quadruple_index (pos i) n e lt = grind (arith, nat_tests)
quadruple_index (negsuc i) n e lt = let small : i < 536870912 = ltb-true i 536870912 e in le-ltb (unsigned (quadruple (negsuc i))) (4 * n) (omega arith)

pub below_length : (x : ℤ) (n : ℕ) → IsFixnum x → n < 536870912 → nat_lt (fixnum_word x) (fixnum_word (pos n)) ≡ is_index x n
below_length x n h lt = rw (natural_word n, four_times x) (quadruple_index x n h.ranged lt)
