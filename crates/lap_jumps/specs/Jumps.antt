-- Jumps to open blocks.
use Rattle.std.specs.Prelude.{◌≡◌, ℕ, ◌+◌, ◌*◌, true, false, List, ◌++◌, length, slice_get, Some}
use Rattle.t_base.specs.declared.basics.Var.{Var}
use Rattle.word_ir.specs.declared.operands.Operand.{Operand}
use Rattle.word_ir.specs.declared.operands.Operand.TheVariants as operand
use Rattle.word_ir.specs.declared.placed.Home.TheVariants as home
use Rattle.word_ir.specs.declared.placed.Placed.{Placed}
use Rattle.word_ir.specs.declared.words.WordBlock.{WordBlock}
use Rattle.word_ir.specs.declared.words.WordEnd.TheVariants as last
use Rattle.word_ir.specs.Storage.{Sizes}
use Rattle.word_ir.specs.State.{Setting, State as WordState, At, has_room}
use Rattle.word_ir.specs.Effects.{Effect, Binds, Stores, Takes, SetsTop, Puts, Turns, Enters, Ends, end_effect}
use Rattle.word_ir.specs.Step.{changed, placed_in}
use Rattle.word_ir.specs.Ranges.{IsInPlace}
use Rattle.word_ir.specs.WholePlaced.{IsWholePlaced}
use Rattle.parallel_moves.specs.declared.OneMove.{OneMove}
use Rattle.m68020_step.specs.Step.{State}
use Rattle.m68020_asm.specs.declared.item.Item.{Item}
use Rattle.lap_items.specs.Homes.{home_of}
use Rattle.lap_items.specs.Moves.{DoesAtOnce}
use Rattle.lap_items.specs.Ends.{is_taken, homes_of_params, end_moves, end_items}
use Rattle.lap_runs.specs.Represents.{Represents}
use Rattle.lap_paths.specs.Paths.{Assembly, Stands, IsAt, Path}
use Rattle.lap_paths.specs.Housed.{IsHoused, HasHome, IsUsable}
use Rattle.lap_jumps.specs.Arguments.{AreDistinct}

-- The operands are ones that there may be; a variable's home in the stack is inside of it; and the parameters have homes, each its own.
pub record CanJump (m : Setting) (s : WordState) (args : List Operand) (target : WordBlock) : Type 0 where
  pub operands : (k : ℕ) (o : Operand) → slice_get args k ≡ Some o → IsUsable m o
  pub reached : (k : ℕ) (v : Var) (n : ℕ) → slice_get args k ≡ Some (operand.Var v) → home_of m.homes v ≡ home.Stack n → has_room s (At (home.Stack n)) ≡ true
  pub params : (k : ℕ) (v : Var) → slice_get target.params k ≡ Some v → HasHome m v
  pub distinct : AreDistinct (homes_of_params m.homes target)

-- Where a block is entered the machine comes to its label, with the words of its parameters in their homes. Of other effects nothing is
-- said.
abbrev pub Entered : Assembly → Setting → WordState → State → ℕ → Effect → Type 0
Entered a m s t n (Enters block env) = Path a n t (λ u. Represents m a.labels (changed s (Enters block env)) u × IsAt a u block)
Entered a m s t n (Binds to x) = Unit {0}
Entered a m s t n (Stores at x) = Unit {0}
Entered a m s t n (Takes to bytes) = Unit {0}
Entered a m s t n (SetsTop top) = Unit {0}
Entered a m s t n (Puts bytes) = Unit {0}
Entered a m s t n (Turns block) = Unit {0}
Entered a m s t n (Ends e) = Unit {0}

-- From each state that stands for one of the words, at the items of a jump to a block whose code isn't taken, these come to the block's
-- label, in at most three instructions for each argument and one more, with the words of the parameters in their homes.
abbrev pub JumpsArrive : Type 0
JumpsArrive =
    (a : Assembly) (placed : Placed) (sizes : Sizes) (s : WordState) (t : State) (items : List Item) (block : ℕ) (target : WordBlock) (args : List Operand) (done : List OneMove) → slice_get placed.words.blocks.items block ≡ Some target
    → is_taken placed.words block ≡ false → IsHoused (placed_in placed sizes) → IsInPlace (placed_in placed sizes) s → Represents (placed_in placed sizes) a.labels s t → CanJump (placed_in placed sizes) s args target
    → DoesAtOnce (end_moves placed (last.Jump block args)) done → Stands a t (end_items placed (last.Jump block args) done ++ items)
    → Entered a (placed_in placed sizes) s t (1 + 3 * length args) (end_effect (placed_in placed sizes) s (last.Jump block args))

-- In a whole program the parameters of each block have homes of their own.
abbrev pub ParamsDistinct : Type 0
ParamsDistinct = (placed : Placed) (b : ℕ) (block : WordBlock) → IsWholePlaced placed → slice_get placed.words.blocks.items b ≡ Some block → AreDistinct (homes_of_params placed.at.items block)
