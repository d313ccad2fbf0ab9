-- Escapes that end.
use Rattle.std.specs.Prelude.{ℕ, ◌+◌, ◌==◌, if◌then◌else◌, List, [], ◌∷◌}
use Rattle.std.specs.List.{list_any}
use Rattle.frame_ir.specs.States.{State}
use Rattle.frame_words.specs.Contents.{Escapes}
use Rattle.frame_stacks.specs.Frames.{is_catch}

-- the escapes of CATCHes whose frames are among some, while all others are dead
abbrev pub kept_escapes : Escapes → List ℕ → Escapes
kept_escapes e births = record { frame = λ b. if list_any (λ x. x == b) births then e.frame b else 0; outer = e.outer }

-- how many CATCHes end where one of some frames is left with all that are younger
abbrev pub ended_catches : State → ℕ → List ℕ → ℕ
ended_catches s birth [] = 0
ended_catches s birth (x ∷ older) = (if is_catch s x then 1 else 0) + (if x == birth then 0 else ended_catches s birth older)

-- how many CATCHes there are among some frames
abbrev pub catches : State → List ℕ → ℕ
catches s [] = 0
catches s (x ∷ older) = (if is_catch s x then 1 else 0) + catches s older
