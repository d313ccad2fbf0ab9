-- Texts that are put in pieces.
use Rattle.std.specs.Prelude.{◌≡◌, ℕ, ◌-◌, ◌^◌, ◌≤◌, min, length, take, List, [], ◌∷◌, ◌++◌}
use Rattle.std.proofs.Common.{Bor}

-- the pieces after each other
abbrev pub text_of : List (Bor (List ℕ)) → List ℕ
text_of [] = []
text_of (piece ∷ pieces) = piece.now ++ text_of pieces

-- a sink took a front of the text
abbrev pub TookFront : {S : Type 0} → (S → List ℕ → S → Type 0) → S → List ℕ → S → Type 0
TookFront took old text new = (front : List ℕ) × (rest : List ℕ) × (text ≡ front ++ rest) × took old front new

-- a sink took this many bytes of the text; the number stands still at the last one of its type
abbrev pub TookCount : {S : Type 0} → (S → List ℕ → S → Type 0) → S → List ℕ → ℕ → S → Type 0
TookCount took old text taken new = (count : ℕ) × (count ≤ length text) × took old (take count text) new × (taken ≡ min count (2 ^ 64 - 1))
