-- What arithmetic and comparison of the words of characters say of their codes.
use Rattle.std.specs.Prelude.{◌≡◌, ℕ, ◌*◌, ◌%◌, ◌<◌, ◌==◌, nat_lt, nat_eq, is_some, ℤ, pos, negsuc, int_lt}
use Rattle.t_prim.specs.Operands.{ascii_of}
use Rattle.word_ir.specs.declared.words.Arith.TheVariants as kind
use Rattle.word_ir.specs.Word.{signed}
use Rattle.word_ir.specs.Computing.{Gives, computed}
use Rattle.tagged_words.specs.Tags.{IsFixnum, fixnum_word, char_word}

-- The low byte is 1, and of no word with another tag.
abbrev pub CharsHaveLowBytes : Type 0
CharsHaveLowBytes = ((n : ℕ) → computed kind.And n 255 ≡ Gives (n % 256)) × ((code : ℕ) → char_word code % 256 ≡ 1) × ((n : ℕ) → n % 256 ≡ 1 → n % 4 ≡ 1)

pub record ComparesAlike (c d : ℕ) : Type 0 where
  pub eq : (char_word c == char_word d) ≡ nat_eq c d
  pub lt : int_lt (signed (char_word c)) (signed (char_word d)) ≡ nat_lt c d

abbrev pub CharsCompareAlike : Type 0
CharsCompareAlike = (c d : ℕ) → c < 256 → d < 256 → ComparesAlike c d

-- A character's number, the character of a number, and that of a byte.
pub record Converts (c : ℕ) : Type 0 where
  pub number : computed (kind.Shift (negsuc 5)) (char_word c) 0 ≡ Gives (fixnum_word (pos c))
  pub from_number : computed (kind.Shift (pos 6)) (fixnum_word (pos c)) 0 ≡ Gives (256 * c)
  pub from_byte : computed (kind.Shift (pos 8)) c 0 ≡ Gives (256 * c)
  pub tagged : computed kind.Add (256 * c) 1 ≡ Gives (char_word c)

abbrev pub CharsConvert : Type 0
CharsConvert = (c : ℕ) → c < 256 → Converts c

abbrev pub AsciiIsBelow : Type 0
AsciiIsBelow = (x : ℤ) → IsFixnum x → nat_lt (fixnum_word x) 512 ≡ is_some (ascii_of x)
