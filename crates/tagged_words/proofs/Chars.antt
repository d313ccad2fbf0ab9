-- Characters as words, and numbers of characters.
use Rattle.std.proofs.Common.{◌≡◌, ℕ, ◌*◌, ◌/◌, ◌^◌, ◌<◌, ◌%◌, ◌==◌, nat_lt, nat_eq, true, ℤ, pos, negsuc, is_some, refl, ap, arith}
use Rattle.std.specs.Prelude.{int_lt}
use Rattle.std.specs.Int.{w32}
use Rattle.std.proofs.lemmas.Int.{to_z_pos}
use Rattle.std.proofs.lemmas.Grind.{and_numeral}
use Rattle.std.proofs.lemmas.Bool.{ltb-true, lt-ltb, le-ltb}
use Rattle.std.proofs.lemmas.Bool.Decides.{nat_tests}
use Rattle.t_prim.specs.Operands.{in_range, ascii_of}
use Rattle.word_ir.specs.declared.words.Arith.TheVariants as kind
use Rattle.word_ir.specs.Word.{signed, unsigned}
use Rattle.word_ir.specs.Computing.{Gives, fitted, computed}
use Rattle.tagged_words.specs.Tags.{IsFixnum, fixnum_word, char_word}
use Rattle.tagged_words.proofs.Fixnums.{quadruple, four_times, natural_word}

pub signed_natural : (n : ℕ) → n < 2 ^ 31 → signed n ≡ pos n
signed_natural n lt = to_z_pos w32 n lt

pub fitted_natural : (n : ℕ) → n < 2 ^ 31 → fitted (pos n) ≡ Gives n
fitted_natural n lt = rw (lt-ltb n (2 ^ 31) lt) refl

-- ---- the low byte

pub low_byte : (n : ℕ) → computed kind.And n 255 ≡ Gives (n % 256)
low_byte n = ap Gives (and_numeral n 254 refl)

pub char_byte : (c : ℕ) → char_word c % 256 ≡ 1
char_byte c = omega arith

pub other_byte : (n : ℕ) → (n % 256 ≡ 1) → n % 4 ≡ 1
other_byte n e = omega (arith, e)

pub char_below : (c : ℕ) → c < 256 → char_word c < 2 ^ 16
char_below c lt = omega (arith, lt)

-- ---- order

pub eq_chars : (c d : ℕ) → (char_word c == char_word d) ≡ nat_eq c d
eq_chars c d = grind (arith, nat_tests)

pub lt_chars : (c d : ℕ) → c < 256 → d < 256 → int_lt (signed (char_word c)) (signed (char_word d)) ≡ nat_lt c d
lt_chars c d h k = rw (signed_natural (char_word c) (omega (arith, h)), signed_natural (char_word d) (omega (arith, k))) (grind (arith, nat_tests))

-- ---- the number of a character, and the character of a number

pub char_number : (c : ℕ) → c < 256 → computed (kind.Shift (negsuc 5)) (char_word c) 0 ≡ Gives (fixnum_word (pos c))
char_number c lt =
    let e : char_word c / 64 ≡ 4 * c = omega arith in
    rw (signed_natural (char_word c) (omega (arith, lt)), natural_word c, ← e) (fitted_natural (char_word c / 64) (omega (arith, lt)))

ascii_word : (x : ℤ) → in_range x ≡ true → nat_lt (unsigned (quadruple x)) 512 ≡ is_some (ascii_of x)
ascii_word (pos n) e = grind (arith, nat_tests)
ascii_word (negsuc n) e = let lt : n < 536870912 = ltb-true n 536870912 e in le-ltb (unsigned (quadruple (negsuc n))) 512 (omega arith)

pub below_ascii : (x : ℤ) → IsFixnum x → nat_lt (fixnum_word x) 512 ≡ is_some (ascii_of x)
below_ascii x h = rw (four_times x) (ascii_word x h.ranged)

pub char_bits : (c : ℕ) → c < 256 → computed (kind.Shift (pos 6)) (fixnum_word (pos c)) 0 ≡ Gives (256 * c)
char_bits c lt =
    let e : 4 * c * 64 ≡ 256 * c = omega arith in
    rw (natural_word c, signed_natural (4 * c) (omega (arith, lt)), e) (fitted_natural (256 * c) (omega (arith, lt)))

pub byte_bits : (c : ℕ) → c < 256 → computed (kind.Shift (pos 8)) c 0 ≡ Gives (256 * c)
byte_bits c lt =
    let e : c * 256 ≡ 256 * c = omega arith in
    rw (signed_natural c (omega (arith, lt)), e) (fitted_natural (256 * c) (omega (arith, lt)))

pub char_of_bits : (c : ℕ) → c < 256 → computed kind.Add (256 * c) 1 ≡ Gives (char_word c)
char_of_bits c lt = rw (signed_natural (256 * c) (omega (arith, lt))) (fitted_natural (char_word c) (omega (arith, lt)))
