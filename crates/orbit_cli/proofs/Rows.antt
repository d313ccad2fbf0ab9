-- Words of other numbers than those of the rows are no command.
use Rattle.std.proofs.Common.{◌≡◌, ◌<◌, List, [], ◌∷◌, map, length, None, String, Global, refl, arith}
use Rattle.std.specs.String.{string_bytes}
use Rattle.orbit_cli.specs.Words.{command_of}

pub few : (words : List (String Global)) → length words < 2 → None ≡ command_of (map string_bytes words)
few [] le = refl
few (a ∷ []) le = refl
few (a ∷ b ∷ rest) le = absurd (omega (arith, le))

pub four : (words : List (String Global)) → (length words < 4 → ⊥) → length words < 5 → None ≡ command_of (map string_bytes words)
four [] ge le = absurd (ge (omega arith))
four (a ∷ []) ge le = absurd (ge (omega arith))
four (a ∷ b ∷ []) ge le = absurd (ge (omega arith))
four (a ∷ b ∷ c ∷ []) ge le = absurd (ge (omega arith))
four (a ∷ b ∷ c ∷ d ∷ []) ge le = refl
four (a ∷ b ∷ c ∷ d ∷ x ∷ rest) ge le = absurd (omega (arith, le))

pub many : (words : List (String Global)) → (length words < 7 → ⊥) → None ≡ command_of (map string_bytes words)
many [] ge = absurd (ge (omega arith))
many (a ∷ []) ge = absurd (ge (omega arith))
many (a ∷ b ∷ []) ge = absurd (ge (omega arith))
many (a ∷ b ∷ c ∷ []) ge = absurd (ge (omega arith))
many (a ∷ b ∷ c ∷ d ∷ []) ge = absurd (ge (omega arith))
many (a ∷ b ∷ c ∷ d ∷ x ∷ []) ge = absurd (ge (omega arith))
many (a ∷ b ∷ c ∷ d ∷ x ∷ y ∷ []) ge = absurd (ge (omega arith))
many (a ∷ b ∷ c ∷ d ∷ x ∷ y ∷ z ∷ rest) ge = refl
