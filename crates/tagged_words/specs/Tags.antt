-- The words of fixnums and characters. The two low bits of a word are its tag: 0 a fixnum, 1 what stands for itself, 2 an object, 3 a pair.
use Rattle.std.specs.Prelude.{◌≡◌, ℕ, ◌+◌, ◌*◌, nat_lt, Bool, true, false, if◌then◌else◌, ℤ, pos, negsuc, ◌*ℤ◌}
use Rattle.t_prim.specs.Operands.{in_range}
use Rattle.word_ir.specs.Word.{unsigned}
use Rattle.word_ir.specs.Computing.{Result, Gives, Over}

pub record IsFixnum (x : ℤ) : Type 0 where
  pub ranged : in_range x ≡ true

-- four times the number
abbrev pub fixnum_word : ℤ → ℕ
fixnum_word x = unsigned (x *ℤ pos 4)

-- a result as a fixnum, where it is in the range
abbrev pub fixnum_result : ℤ → Result
fixnum_result z = if in_range z then Gives (fixnum_word z) else Over

-- the code above a byte that is 1
abbrev pub char_word : ℕ → ℕ
char_word code = 256 * code + 1

-- the number of an element of a list that has so many
abbrev pub is_index : ℤ → ℕ → Bool
is_index (pos i) n = nat_lt i n
is_index (negsuc i) n = false
