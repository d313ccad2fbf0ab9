-- What it means that a step of a program with frames is led by steps of a program of words.
use Rattle.std.specs.Prelude.{◌≡◌, ℕ, ◌+◌, ◌-◌, ◌*◌, ◌/◌, ◌<◌, ◌≤◌, ◌⊎◌, List, [], ◌∷◌, length, slice_get, Some, Bool, true, false, if◌then◌else◌}
use Rattle.std.specs.Option.{option_map_or}
use Rattle.program_runs.specs.Runs.{Full}
use Rattle.word_ir.specs.Storage.{HEAP_START}
use Rattle.word_ir.specs.Stamps.{Stamped}
use Rattle.frame_ir.specs.Sizes.{most_frame_words}
use Rattle.frame_ir.specs.Values.{Frame}
use Rattle.frame_ir.specs.States.{Doing, Calling, Looking, Entering, State}
use Rattle.word_trees.specs.Leads.{Leads}
use Rattle.selection_steps.specs.Settings.{Setting}
use Rattle.selection_steps.specs.Related.{Stands}

-- so many moves of the words for each of the frames
abbrev pub most_moves : ℕ
most_moves = 40

-- what a call saves up for what it comes to, and an operation for its method or default
abbrev pub saved : Doing → ℕ
saved (Calling f args) = 30 + 30 * length args
saved (Looking o methods args) = 30 * length args
saved (Entering code vs) = 3 * length vs
saved _ = 0

-- how many CATCHes are live
abbrev pub caught : List Frame → List ℕ → ℕ
caught frames [] = 0
caught frames (birth ∷ older) = (if option_map_or (λ f. f.catch) (slice_get frames birth) false then 1 else 0) + caught frames older

-- what is saved up, with what each live CATCH saves up for an escape that ends it
abbrev pub paid : State → ℕ
paid s = saved s.doing + 14 * caught s.frames s.live

-- what is in use of the room, with what was asked for, is no more than the cost before a step or behind it
abbrev pub IsAsked : Setting → State → State → Bool → ℕ → ℕ → Type 0
IsAsked m s u false asked left = m.sizes.heap + asked ≤ left + 4 * u.store.heap
IsAsked m s u true asked left = m.sizes.stack + asked ≤ left + 4 * (most_frame_words m.p.shared.size * (length s.live + 1))

-- the run of the words has ended for want of room on the way from a state to the next one
pub record NoRoom (m : Setting) (s u : State) (x : Stamped) : Type 0 where
  pub stack : Bool
  pub asked : ℕ
  pub left : ℕ
  pub end : x.state.end ≡ Some (Full stack asked left)
  pub lacking : left < asked
  pub enough : IsAsked m s u stack asked left
  pub output : x.state.output ≡ s.store.output
  pub heap : ((x.state.next - HEAP_START) / 4 ≤ s.store.heap) ⊎ ((x.state.next - HEAP_START) / 4 ≤ u.store.heap)

abbrev pub Comes : Setting → State → State → Stamped → Type 0
Comes m s u x = Stands m u x ⊎ NoRoom m s u x

-- from x the words come to a state that stands as the second one
pub record Led (m : Setting) (s : State) (x : Stamped) (u : State) : Type 0 where
  pub cost : ℕ
  pub leads : Leads m.words m.sizes (Comes m s u) 1 cost x
  pub moves : cost + paid u + most_moves * s.moves ≤ paid s + most_moves * u.moves
