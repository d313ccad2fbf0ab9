-- What arithmetic and comparison of the words of fixnums say of the numbers.
use Rattle.std.specs.Prelude.{◌≡◌, ℕ, ◌%◌, ◌^◌, ◌<◌, ◌==◌, nat_lt, false, ℤ, pos, negsuc, ◌+ℤ◌, ◌-ℤ◌, ◌*ℤ◌, int_lt, int_le, int_div, int_rem}
use Rattle.std.specs.Ordering.{int_eq}
use Rattle.word_ir.specs.declared.words.Arith.TheVariants as kind
use Rattle.word_ir.specs.Word.{signed, unsigned}
use Rattle.word_ir.specs.Computing.{Gives, computed}
use Rattle.tagged_words.specs.Tags.{IsFixnum, fixnum_word, fixnum_result, is_index}

-- ---- the word of a fixnum

pub record IsWordOf (x : ℤ) : Type 0 where
  pub below : fixnum_word x < 2 ^ 32
  pub tag : fixnum_word x % 4 ≡ 0
  pub signed : signed (fixnum_word x) ≡ x *ℤ pos 4

abbrev pub FixnumsHaveWords : Type 0
FixnumsHaveWords = (x : ℤ) → IsFixnum x → IsWordOf x

-- ---- comparison

-- of words as numbers with a sign, and of the fixnums
pub record ComparesAlike (x y : ℤ) : Type 0 where
  pub eq : (fixnum_word x == fixnum_word y) ≡ int_eq x y
  pub lt : int_lt (signed (fixnum_word x)) (signed (fixnum_word y)) ≡ int_lt x y
  pub le : int_le (signed (fixnum_word x)) (signed (fixnum_word y)) ≡ int_le x y

abbrev pub FixnumsCompareAlike : Type 0
FixnumsCompareAlike = (x y : ℤ) → IsFixnum x → IsFixnum y → ComparesAlike x y

-- A comparison without signs tells the places of a list that has so many elements.
abbrev pub IndicesAreBelow : Type 0
IndicesAreBelow = (x : ℤ) (n : ℕ) → IsFixnum x → n < 536870912 → nat_lt (fixnum_word x) (fixnum_word (pos n)) ≡ is_index x n

-- ---- arithmetic

-- Sum and difference of the words are those of the fixnums; they don't fit where these are out of the range.
pub record AddAlike (x y : ℤ) : Type 0 where
  pub sum : computed kind.Add (fixnum_word x) (fixnum_word y) ≡ fixnum_result (x +ℤ y)
  pub difference : computed kind.Sub (fixnum_word x) (fixnum_word y) ≡ fixnum_result (x -ℤ y)

abbrev pub FixnumsAddAlike : Type 0
FixnumsAddAlike = (x y : ℤ) → IsFixnum x → IsFixnum y → AddAlike x y

-- A product is that of the number itself and the other one's word.
pub record MultipliesAlike (x y : ℤ) : Type 0 where
  pub number : computed (kind.Shift (negsuc 1)) (fixnum_word x) 0 ≡ Gives (unsigned x)
  pub product : computed kind.Mul (unsigned x) (fixnum_word y) ≡ fixnum_result (x *ℤ y)

abbrev pub FixnumsMultiplyAlike : Type 0
FixnumsMultiplyAlike = (x y : ℤ) → IsFixnum x → IsFixnum y → MultipliesAlike x y

-- The quotient of the words is that of the numbers, which is then made a fixnum; the remainder is one at once.
pub record DividesAlike (x y : ℤ) : Type 0 where
  pub quotient : computed kind.Quotient (fixnum_word x) (fixnum_word y) ≡ Gives (unsigned (int_div x y))
  pub as_fixnum : computed (kind.Shift (pos 2)) (unsigned (int_div x y)) 0 ≡ fixnum_result (int_div x y)
  pub remainder : computed kind.Remainder (fixnum_word x) (fixnum_word y) ≡ Gives (fixnum_word (int_rem x y))
  pub remainder_fits : IsFixnum (int_rem x y)

abbrev pub FixnumsDivideAlike : Type 0
FixnumsDivideAlike = (x y : ℤ) → IsFixnum x → IsFixnum y → int_eq y (pos 0) ≡ false → DividesAlike x y
