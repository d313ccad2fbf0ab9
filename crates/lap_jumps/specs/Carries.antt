-- Words that homes have while moves are done one after another.
use Rattle.std.specs.Prelude.{◌≡◌, ◌≢◌, ℕ, ◌+◌, ◌*◌, ◌/◌, ◌%◌, ◌==◌, Bool, ◌||◌, if◌then◌else◌, List, slice_get, Some}
use Rattle.std.specs.List.{list_any}
use Rattle.word_ir.specs.declared.placed.Home.{Home}
use Rattle.word_ir.specs.declared.placed.Home.TheVariants as home
use Rattle.word_ir.specs.Word.{Word, Number, Code}
use Rattle.word_ir.specs.Storage.{long_at}
use Rattle.word_ir.specs.State.{Setting, State as WordState, At, held, stack_at}
use Rattle.word_ir.specs.Ranges.{IsInPlace}
use Rattle.parallel_moves.specs.Moves.{scratch}
use Rattle.m68020_step.specs.Operand.{data_at}
use Rattle.m68020_step.specs.Step.{State}
use Rattle.m68020_asm.specs.declared.item.Item.{Item}
use Rattle.lap_items.specs.Homes.{number_of_home}
use Rattle.lap_runs.specs.Represents.{real, IsKnown, Represents}
use Rattle.lap_paths.specs.Paths.{Assembly, Stands}

-- ---- words by number, as moves know them

abbrev pub numbered : Word → ℕ
numbered (Number n) = 2 * n
numbered (Code block) = 2 * block + 1

abbrev pub word_numbered : ℕ → Word
word_numbered n = if n % 2 == 0 then Number (n / 2) else Code (n / 2)

-- ---- places

-- a home is one of these
abbrev pub IsOne : List Home → Home → Type 0
IsOne homes h = (k : ℕ) × (slice_get homes k ≡ Some h)

-- a place is the one between homes, or that of one of these
abbrev pub is_place : List Home → ℕ → Bool
is_place homes p = (p == scratch) || list_any (λ h. number_of_home h == p) homes

-- Each of some homes, and D7 between them, has the word that its place holds.
pub record Carries (a : Assembly) (m : Setting) (homes : List Home) (s : WordState) (t : State) (holds : ℕ → ℕ) : Type 0 where
  pub is : Represents m a.labels s t
  pub place : IsInPlace m s
  pub each : (h : Home) → IsOne homes h → held s (At h) ≡ Some (word_numbered (holds (number_of_home h)))
  pub between : data_at t.registers 7 ≡ real a.labels (word_numbered (holds scratch))
  pub known : IsKnown m (word_numbered (holds scratch))

-- Nothing but some homes has changed.
pub record KeepsOthers (homes : List Home) (s t : WordState) : Type 0 where
  pub storage : (at : ℕ) → ((n : ℕ) → IsOne homes (home.Stack n) → at ≢ stack_at s n) → long_at t.storage at ≡ long_at s.storage at
  pub next : t.next ≡ s.next
  pub top : t.top ≡ s.top

-- The homes have what their places hold, nothing else has changed, and the machine is at the items that follow.
pub record Carried (a : Assembly) (m : Setting) (homes : List Home) (s : WordState) (holds : ℕ → ℕ) (items : List Item) (u : State) : Type 0 where
  pub words : WordState
  pub carries : Carries a m homes words u holds
  pub others : KeepsOthers homes s words
  pub stands : Stands a u items
