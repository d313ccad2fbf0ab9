-- When a state of the machine stands for one of a run of words with homes.
use Rattle.std.specs.Prelude.{◌≡◌, ℕ, ◌+◌, ◌*◌, ◌<◌, ◌^◌, IsTrue, List, length, slice_get, slice_index, Some}
use Rattle.word_ir.specs.declared.placed.Home.{Home}
use Rattle.word_ir.specs.declared.placed.Home.TheVariants as home
use Rattle.word_ir.specs.Word.{Word, Number, Code}
use Rattle.word_ir.specs.Storage.{STACK_START, static_at}
use Rattle.word_ir.specs.State.{Setting, State as WordState, At, held, heap_end, word_at}
use Rattle.m68020_step.specs.Operand.{data_at, address_at}
use Rattle.m68020_step.specs.Step.{State}
use Rattle.m68020_step.specs.Storage.{Regions, long_at}
use Rattle.lap_items.specs.Ends.{is_taken}

-- the long word that a word is: the code of a block is the address of its label
abbrev pub real : List ℕ → Word → ℕ
real labels (Number n) = n
real labels (Code block) = slice_index labels block

-- a word that a program has: a number of 32 bits, or the code of a block that has its parameters where an Enter puts them
abbrev pub IsKnown : Setting → Word → Type 0
IsKnown m (Number n) = n < 2 ^ 32
IsKnown m (Code block) = IsTrue (is_taken m.words block)

-- a home has a long word
abbrev pub HomeHas : State → Home → ℕ → Type 0
HomeHas t (home.D i) long = data_at t.registers i ≡ long
HomeHas t (home.A i) long = address_at t.registers i ≡ long
HomeHas t (home.Stack n) long = long_at t.storage (address_at t.registers 7 + 4 * n) ≡ Some long
HomeHas t (home.Static place) long = long_at t.storage (static_at place) ≡ Some long

-- a long word stands at an address
abbrev pub IsThere : Regions → ℕ → Type 0
IsThere storage at = (long : ℕ) × (long_at storage at ≡ Some long)

-- a word and the long word for it
abbrev pub HasWord : Setting → List ℕ → State → Home → Word → Type 0
HasWord m labels t h w = HomeHas t h (real labels w) × IsKnown m w

-- Each home of a variable that has a word has it in its register or in storage, and so has each word that an address reaches; A4 to A7
-- have the next free address, the stack's lower limit, the heap's end and the address of the stack's newest word. Nothing is said of D6,
-- D7, A3, the condition codes, homes without a word, and homes that no variable has.
pub record Represents (m : Setting) (labels : List ℕ) (s : WordState) (t : State) : Type 0 where
  pub homes : (k : ℕ) (h : Home) (w : Word) → slice_get m.homes k ≡ Some h → held s (At h) ≡ Some w → HasWord m labels t h w
  pub words : (at : ℕ) (w : Word) → word_at m s at ≡ Some w → (long_at t.storage at ≡ Some (real labels w)) × IsKnown m w
  pub statics : (place : ℕ) → place < length m.words.statics.items → IsThere t.storage (static_at place)
  pub next : address_at t.registers 4 ≡ s.next
  pub limit : address_at t.registers 5 ≡ STACK_START
  pub end : address_at t.registers 6 ≡ heap_end m
  pub top : address_at t.registers 7 ≡ s.top
