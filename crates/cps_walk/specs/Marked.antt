-- Marks of numbers.
use Rattle.std.specs.Prelude.{ℕ, Bool, false, List, slice_get}
use Rattle.std.specs.Option.{option_map_or}

-- whether a number is marked; those behind the last mark aren't
abbrev pub is_marked : List Bool → ℕ → Bool
is_marked marks n = option_map_or (λ marked. marked) (slice_get marks n) false
