-- Homes by number.
use Rattle.std.proofs.Common.{◌≡◌, ℕ, ◌<◌, ◌≤◌, arith, ap}
use Rattle.word_ir.specs.declared.placed.Home.{Home}
use Rattle.word_ir.specs.declared.placed.Home.TheVariants as home
use Rattle.parallel_moves.specs.Moves.{scratch}
use Rattle.lap_items.specs.Homes.{number_of_home}

-- a home of a program with so many static words
unfoldable pub IsNear : ℕ → Home → Type 0
IsNear statics (home.D i) = i ≤ 5
IsNear statics (home.A i) = i ≤ 2
IsNear statics (home.Stack n) = n ≤ 8191
IsNear statics (home.Static place) = place < statics

pub number_small : (statics : ℕ) (h : Home) → statics ≤ 33554432 → IsNear statics h → number_of_home h < scratch
unfolding IsNear
number_small statics (home.D i) few near = omega arith
number_small statics (home.A i) few near = omega arith
number_small statics (home.Stack n) few near = omega arith
number_small statics (home.Static place) few near = omega arith

pub same_number : (statics : ℕ) (h k : Home) → statics ≤ 33554432 → IsNear statics h → IsNear statics k → number_of_home h ≡ number_of_home k → h ≡ k
unfolding IsNear
same_number statics (home.D i) (home.D j) few p q e = let same : i ≡ j = omega (arith, e) in ap home.D same
same_number statics (home.D i) (home.A j) few p q e = absurd (omega (arith, e))
same_number statics (home.D i) (home.Stack j) few p q e = absurd (omega (arith, e))
same_number statics (home.D i) (home.Static j) few p q e = absurd (omega (arith, e))
same_number statics (home.A i) (home.D j) few p q e = absurd (omega (arith, e))
same_number statics (home.A i) (home.A j) few p q e = let same : i ≡ j = omega (arith, e) in ap home.A same
same_number statics (home.A i) (home.Stack j) few p q e = absurd (omega (arith, e))
same_number statics (home.A i) (home.Static j) few p q e = absurd (omega (arith, e))
same_number statics (home.Stack i) (home.D j) few p q e = absurd (omega (arith, e))
same_number statics (home.Stack i) (home.A j) few p q e = absurd (omega (arith, e))
same_number statics (home.Stack i) (home.Stack j) few p q e = let same : i ≡ j = omega (arith, e) in ap home.Stack same
same_number statics (home.Stack i) (home.Static j) few p q e = absurd (omega (arith, e))
same_number statics (home.Static i) (home.D j) few p q e = absurd (omega (arith, e))
same_number statics (home.Static i) (home.A j) few p q e = absurd (omega (arith, e))
same_number statics (home.Static i) (home.Stack j) few p q e = absurd (omega (arith, e))
same_number statics (home.Static i) (home.Static j) few p q e = let same : i ≡ j = omega (arith, e) in ap home.Static same
