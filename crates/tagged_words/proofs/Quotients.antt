-- Quotients and remainders of fixnums.
use Rattle.std.specs.Prelude.{◌*ℤ◌}
use Rattle.std.proofs.Common.{◌≡◌, ℕ, zero, suc, ◌+◌, ◌*◌, ◌-◌, ◌/◌, ◌^◌, ◌<◌, ◌≤◌, ◌%◌, ◌==◌, Bool, true, false, if◌then◌else◌, ℤ, pos, negsuc, refl, sym, ap, ◌∙◌, arith}
use Rattle.std.specs.Prelude.{int_div, int_rem, neg_ℤ, unsigned_abs}
use Rattle.std.specs.Ordering.{int_eq}
use Rattle.std.proofs.lemmas.Bool.{ltb-true, lt-ltb}
use Rattle.std.proofs.Math.Nat.{mul_assoc, div-div-eq-div-mul, mod-eq-sub-mul-div, div-le_self, mod-le}
use Rattle.t_prim.specs.Operands.{in_range}
use Rattle.word_ir.specs.declared.words.Arith.TheVariants as kind
use Rattle.word_ir.specs.Word.{signed, unsigned, fits}
use Rattle.word_ir.specs.Computing.{Result, Gives, Over, Bad, computed}
use Rattle.tagged_words.specs.Tags.{IsFixnum, fixnum_word, fixnum_result}
use Rattle.tagged_words.proofs.Fixnums.{quadruple, four_times, neg_quadruple, signed_fixnum, signed_unsigned, fitted_fixnum, fitted_small, eq_fixnums}

-- ---- four times both

div_quadruple : (a b : ℕ) → 4 * a / (4 * b) ≡ a / b
div_quadruple a b = let e : 4 * a / 4 ≡ a = omega arith in sym (div-div-eq-div-mul (4 * a) 4 b) ∙ ap (λ n. n / b) e

mod_quadruple : (a b : ℕ) → 4 * a % (4 * b) ≡ 4 * (a % b)
mod_quadruple a b =
    let e : 4 * a % (4 * b) ≡ 4 * a - 4 * b * (4 * a / (4 * b)) = mod-eq-sub-mul-div (4 * a) (4 * b) in
    let d : 4 * a % (4 * b) ≡ 4 * a - 4 * b * (a / b) = e ∙ ap (λ q. 4 * a - 4 * b * q) (div_quadruple a b) in
    let f : a % b ≡ a - b * (a / b) = mod-eq-sub-mul-div a b in
    let g : 4 * b * (a / b) ≡ 4 * (b * (a / b)) = mul_assoc 4 b (a / b) in
    omega (arith, d, f, g)

past : (n : ℕ) → suc (4 * n + 3) ≡ 4 * suc n
past n = omega arith

div_quadruples : (x y : ℤ) → int_div (quadruple x) (quadruple y) ≡ int_div x y
div_quadruples (pos a) (pos b) = ap pos (div_quadruple a b)
div_quadruples (pos a) (negsuc b) = rw (past b, div_quadruple a (suc b)) refl
div_quadruples (negsuc a) (pos b) = rw (past a, div_quadruple (suc a) b) refl
div_quadruples (negsuc a) (negsuc b) = rw (past a, past b, div_quadruple (suc a) (suc b)) refl

abs_quadruple : (y : ℤ) → unsigned_abs (quadruple y) ≡ 4 * unsigned_abs y
abs_quadruple (pos n) = refl
abs_quadruple (negsuc n) = past n

rem_quadruples : (x y : ℤ) → int_rem (quadruple x) (quadruple y) ≡ quadruple (int_rem x y)
rem_quadruples (pos a) y = rw (abs_quadruple y) (ap pos (mod_quadruple a (unsigned_abs y)))
rem_quadruples (negsuc a) y = rw (abs_quadruple y, past a, mod_quadruple (suc a) (unsigned_abs y)) (neg_quadruple (suc a % unsigned_abs y))

-- ---- they fit

neg_fits : (n : ℕ) → n ≤ 536870912 → fits (neg_ℤ (pos n)) ≡ true
neg_fits zero le = refl
neg_fits (suc n) le = lt-ltb n (2 ^ 31) (omega (arith, le))

pub quotient_fits : (x y : ℤ) → IsFixnum x → fits (int_div x y) ≡ true
quotient_fits (pos a) (pos b) h = let lt : a < 536870912 = ltb-true a 536870912 h.ranged in lt-ltb (a / b) (2 ^ 31) (omega (arith, lt, div-le_self a b))
quotient_fits (pos a) (negsuc b) h = let lt : a < 536870912 = ltb-true a 536870912 h.ranged in neg_fits (a / suc b) (omega (arith, lt, div-le_self a (suc b)))
quotient_fits (negsuc a) (pos b) h = let lt : a < 536870912 = ltb-true a 536870912 h.ranged in neg_fits (suc a / b) (omega (arith, lt, div-le_self (suc a) b))
quotient_fits (negsuc a) (negsuc b) h = let lt : a < 536870912 = ltb-true a 536870912 h.ranged in lt-ltb (suc a / suc b) (2 ^ 31) (omega (arith, lt, div-le_self (suc a) (suc b)))

neg_in_range : (n : ℕ) → n ≤ 536870912 → in_range (neg_ℤ (pos n)) ≡ true
neg_in_range zero le = refl
neg_in_range (suc n) le = lt-ltb n 536870912 (omega (arith, le))

pub remainder_in_range : (x y : ℤ) → IsFixnum x → IsFixnum (int_rem x y)
remainder_in_range (pos a) y h = let lt : a < 536870912 = ltb-true a 536870912 h.ranged in record { ranged = lt-ltb (a % unsigned_abs y) 536870912 (omega (arith, lt, mod-le a (unsigned_abs y))) }
remainder_in_range (negsuc a) y h = let lt : a < 536870912 = ltb-true a 536870912 h.ranged in record { ranged = neg_in_range (suc a % unsigned_abs y) (omega (arith, lt, mod-le (suc a) (unsigned_abs y))) }

-- ---- on words

signed_quadruple : (x : ℤ) → IsFixnum x → signed (fixnum_word x) ≡ quadruple x
signed_quadruple x h = signed_fixnum x h ∙ four_times x

zero_word : (y : ℤ) → IsFixnum y → int_eq y (pos 0) ≡ false → (fixnum_word y == 0) ≡ false
zero_word y h e = eq_fixnums y (pos 0) h (record { ranged = refl }) ∙ e

unless_zero : (b : Bool) (r : Result) → b ≡ false → (if b then Bad else r) ≡ r
unless_zero true r e = absurd (cc)
unless_zero false r e = refl

pub quotient : (x y : ℤ) → IsFixnum x → IsFixnum y → int_eq y (pos 0) ≡ false → computed kind.Quotient (fixnum_word x) (fixnum_word y) ≡ Gives (unsigned (int_div x y))
quotient x y h k e =
    unless_zero (fixnum_word y == 0) _ (zero_word y k e)
    ∙ rw (signed_quadruple x h, signed_quadruple y k, div_quadruples x y) (fitted_small (int_div x y) (quotient_fits x y h))

pub quotient_as_fixnum : (z : ℤ) → fits z ≡ true → computed (kind.Shift (pos 2)) (unsigned z) 0 ≡ fixnum_result z
quotient_as_fixnum z e = rw (signed_unsigned z e) (fitted_fixnum z)

remainder_of : (a b : ℤ) → fits (int_div a b) ≡ true → (if fits (int_div a b) then Gives (unsigned (int_rem a b)) else Over) ≡ Gives (unsigned (int_rem a b))
remainder_of a b e = rw e refl

pub remainder_word : (x y : ℤ) → IsFixnum x → IsFixnum y → int_eq y (pos 0) ≡ false → computed kind.Remainder (fixnum_word x) (fixnum_word y) ≡ Gives (fixnum_word (int_rem x y))
remainder_word x y h k e =
    let quotient_is : fits (int_div (quadruple x) (quadruple y)) ≡ true = ap fits (div_quadruples x y) ∙ quotient_fits x y h in
    unless_zero (fixnum_word y == 0) _ (zero_word y k e)
    ∙ rw (signed_quadruple x h, signed_quadruple y k)
    (remainder_of (quadruple x) (quadruple y) quotient_is ∙ ap (λ z. Gives (unsigned z)) (rem_quadruples x y ∙ sym (four_times (int_rem x y))))

quarter_of : (x : ℤ) → int_div (quadruple x) (pos 4) ≡ x
quarter_of (pos n) = let e : 4 * n / 4 ≡ n = omega arith in ap pos e
quarter_of (negsuc n) = let e : suc (4 * n + 3) / 4 ≡ suc n = omega arith in rw e refl

-- a fixnum's word gives its number again
pub quarter : (x : ℤ) → int_div (x *ℤ pos 4) (pos 4) ≡ x
quarter x = rw (four_times x) (quarter_of x)
