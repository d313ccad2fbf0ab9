-- CATCHes are counted.
use Rattle.std.proofs.Common.{◌≡◌, ℕ, ◌+◌, ◌==◌, ◌||◌, Bool, true, false, if◌then◌else◌, List, [], ◌∷◌, refl, arith}
use Rattle.std.specs.List.{list_any}
use Rattle.frame_ir.specs.States.{State, older_than}
use Rattle.frame_stacks.specs.Frames.{is_catch}
use Rattle.frame_escapes.specs.Ended.{ended_catches, catches}

counted_by : (s : State) (birth x : ℕ) (births : List ℕ) (q : Bool) → (x == birth) ≡ q → (q || list_any (λ y. y == birth) births) ≡ true → (list_any (λ y. y == birth) births ≡ true → ended_catches s birth births + catches s (older_than birth births) ≡ catches s births)
    → (if is_catch s x then 1 else 0) + (if q then 0 else ended_catches s birth births) + catches s (if q then births else older_than birth births) ≡ (if is_catch s x then 1 else 0) + catches s births
counted_by s birth x births true eq is next = omega arith
counted_by s birth x births false eq is next = let n = next is in omega (arith, n)

pub catches_counted : (s : State) (birth : ℕ) (births : List ℕ) → list_any (λ y. y == birth) births ≡ true → ended_catches s birth births + catches s (older_than birth births) ≡ catches s births
catches_counted s birth [] is = absurd (cc)
catches_counted s birth (x ∷ births) is = counted_by s birth x births (x == birth) refl is (catches_counted s birth births)
