-- Programs of words whose homes serve, and operands that they may have.
use Rattle.std.specs.Prelude.{◌≡◌, ℕ, ◌^◌, ◌<◌, ◌≤◌, IsTrue, length, slice_get, Some}
use Rattle.t_base.specs.declared.basics.Var.{Var}
use Rattle.word_ir.specs.declared.operands.Operand.{Operand}
use Rattle.word_ir.specs.declared.operands.Operand.TheVariants as operand
use Rattle.word_ir.specs.declared.placed.Home.{Home}
use Rattle.word_ir.specs.State.{Setting}
use Rattle.word_ir.specs.WholePlaced.{IsHome}
use Rattle.lap_items.specs.Ends.{is_taken}

-- each home is one of those that variables have, and storage has no more than it may
pub record IsHoused (m : Setting) : Type 0 where
  pub homes : (k : ℕ) (h : Home) → slice_get m.homes k ≡ Some h → IsHome m.words h
  pub few : length m.words.statics.items ≤ 2 ^ 25
  pub heap : m.sizes.heap ≤ 2 ^ 28
  pub stack : m.sizes.stack ≤ 2 ^ 28

-- a variable has a home
abbrev pub HasHome : Setting → Var → Type 0
HasHome m v = (h : Home) × (slice_get m.homes v.0 ≡ Some h)

-- an operand is a variable with a home, or a word of 32 bits, or code that is taken
abbrev pub IsUsable : Setting → Operand → Type 0
IsUsable m (operand.Var v) = HasHome m v
IsUsable m (operand.Word n) = n < 2 ^ 32
IsUsable m (operand.Static place) = Unit {0}
IsUsable m (operand.Code block) = IsTrue (is_taken m.words block)
IsUsable m (operand.Slot bytes) = bytes < 2 ^ 32
