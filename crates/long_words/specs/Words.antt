-- Long words: numbers of 32 bits, and the same with a sign.
use Rattle.std.specs.Prelude.{ℕ, ◌%◌, ◌^◌, nat_lt, Bool, ℤ, pos, negsuc}
use Rattle.std.specs.Int.{w32, cast_signed, cast_unsigned}

-- the low 32 bits
abbrev pub wrap : ℕ → ℕ
wrap n = n % 2 ^ 32

-- in two's complement
abbrev pub signed : ℕ → ℤ
signed n = cast_signed w32 n

abbrev pub unsigned : ℤ → ℕ
unsigned z = cast_unsigned w32 z

-- a number from -half up to half - 1
abbrev pub is_within : ℕ → ℤ → Bool
is_within half (pos n) = nat_lt n half
is_within half (negsuc n) = nat_lt n half
