-- Laws of moves between homes.
use Rattle.std.specs.Prelude.{ℕ, List, ◌++◌, length}
use Rattle.word_ir.specs.declared.placed.Home.{Home}
use Rattle.word_ir.specs.State.{Setting, State as WordState}
use Rattle.parallel_moves.specs.declared.OneMove.{OneMove}
use Rattle.parallel_moves.specs.Moves.{after, StepsPass}
use Rattle.m68020_step.specs.Step.{State}
use Rattle.m68020_asm.specs.declared.item.Item.{Item}
use Rattle.lap_items.specs.Moves.{moved_items}
use Rattle.lap_paths.specs.Paths.{Assembly, Stands, Path}
use Rattle.lap_paths.specs.Housed.{IsHoused}
use Rattle.lap_jumps.specs.Carries.{IsOne, is_place, Carries, Carried}

-- The items of moves between homes of variables, one after another, come to where each home has what the moves give it.
abbrev pub MovesCarry : Type 0
MovesCarry =
    (a : Assembly) (m : Setting) (homes : List Home) (s : WordState) (t : State) (holds : ℕ → ℕ) (done : List OneMove) (items : List Item) → IsHoused m → ((h : Home) → IsOne homes h → IsOne m.homes h)
    → Carries a m homes s t holds → StepsPass (is_place homes) done → Stands a t (moved_items done ++ items) → Path a (length done) t (Carried a m homes s (after done holds) items)
