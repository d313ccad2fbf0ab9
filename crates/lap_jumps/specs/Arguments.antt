-- Arguments that go to places at once.
use Rattle.std.specs.Prelude.{◌≡◌, ℕ, List, slice_get, Some}
use Rattle.word_ir.specs.declared.operands.Operand.{Operand}
use Rattle.word_ir.specs.declared.operands.Operand.TheVariants as operand
use Rattle.word_ir.specs.declared.placed.Home.{Home}
use Rattle.word_ir.specs.Word.{Word}
use Rattle.word_ir.specs.State.{Setting, State as WordState, At, held}
use Rattle.word_ir.specs.Effects.{word_of}
use Rattle.word_ir.specs.Ranges.{IsInPlace}
use Rattle.m68020_step.specs.Step.{State}
use Rattle.lap_items.specs.Homes.{home_of}
use Rattle.lap_runs.specs.Represents.{Represents}
use Rattle.lap_paths.specs.Paths.{Assembly}
use Rattle.lap_jumps.specs.Carries.{IsOne, KeepsOthers}

-- no two places are the same
abbrev pub AreDistinct : List Home → Type 0
AreDistinct places = (i j : ℕ) (h : Home) → slice_get places i ≡ Some h → slice_get places j ≡ Some h → i ≡ j

-- a variable's home is one of these
abbrev pub ComesFrom : Setting → List Home → Operand → Type 0
ComesFrom m homes (operand.Var v) = IsOne homes (home_of m.homes v)
ComesFrom m homes (operand.Word n) = Unit {0}
ComesFrom m homes (operand.Static place) = Unit {0}
ComesFrom m homes (operand.Code block) = Unit {0}
ComesFrom m homes (operand.Slot bytes) = Unit {0}

-- Each place has its argument's word, every other home what it had, and nothing but homes has changed.
pub record Given (a : Assembly) (m : Setting) (homes : List Home) (s : WordState) (args : List Operand) (places : List Home) (words : WordState) (u : State) : Type 0 where
  pub is : Represents m a.labels words u
  pub place : IsInPlace m words
  pub gets : (k : ℕ) (x : Operand) (to : Home) (w : Word) → slice_get args k ≡ Some x → slice_get places k ≡ Some to → word_of m s x ≡ Some w → held words (At to) ≡ Some w
  pub keeps : (h : Home) (w : Word) → IsOne homes h → (IsOne places h → ⊥) → held s (At h) ≡ Some w → held words (At h) ≡ Some w
  pub others : KeepsOthers homes s words
