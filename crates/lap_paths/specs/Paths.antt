-- Ways of the run of items.
use Rattle.std.specs.Prelude.{◌≡◌, ◌≢◌, ℕ, ◌+◌, ◌≤◌, ◌<◌, List, [], ◌∷◌, slice_get, Some, None, Ok}
use Rattle.program_runs.specs.Follows.{after}
use Rattle.m68020_code.specs.declared.instr.Ea.{Ea}
use Rattle.m68020_step.specs.Operand.{with_pc, data_at, address_at, long_operand}
use Rattle.m68020_step.specs.Ranges.{IsInRange}
use Rattle.m68020_step.specs.Step.{State}
use Rattle.m68020_asm.specs.declared.item.Item.{Item}
use Rattle.m68020_asm.specs.Items.{address, IsLabelAt, CanAssemble}
use Rattle.m68020_asm.specs.Assembled.{IsAssembled}
use Rattle.m68020_asm.specs.Run.{Program, program_of}
use Rattle.machine_services.specs.Runs.{Progress}
use Rattle.item_runs.specs.Runs.{item_machine}
use Rattle.lap_runs.specs.Goes.{Goes}

-- Items that were assembled, for a program with some names.
pub record Assembly : Type 0 where
  pub names : List (List ℕ)
  pub items : List Item
  pub bytes : List ℕ
  pub labels : List ℕ
  pub assembled : IsAssembled items bytes labels
  pub can : CanAssemble items

abbrev pub code : Assembly → Program
code a = program_of a.items a.bytes a.labels a.assembled

abbrev pub place_at : Assembly → ℕ → ℕ
place_at a k = address a.items a.assembled.widths k

-- these items stand in the list from a place on
abbrev pub Sits : List Item → ℕ → List Item → Type 0
Sits all k [] = Unit {0}
Sits all k (item ∷ items) = (slice_get all k ≡ Some item) × Sits all (k + 1) items

-- The machine, with the assembled code, is at the first of these items.
pub record Stands (a : Assembly) (t : State) (items : List Item) : Type 0 where
  pub place : ℕ
  pub pc : t.registers.pc ≡ place_at a place
  pub sits : Sits a.items place items
  pub range : IsInRange t
  pub bytes : t.storage.code ≡ a.bytes

-- It is at a label.
pub record IsAt (a : Assembly) (t : State) (label : ℕ) : Type 0 where
  pub place : ℕ
  pub labelled : IsLabelAt a.items label place
  pub pc : t.registers.pc ≡ place_at a place
  pub range : IsInRange t
  pub bytes : t.storage.code ≡ a.bytes

-- the same elsewhere
abbrev pub at_pc : State → ℕ → State
at_pc t pc = record { registers = with_pc t.registers pc; storage = t.storage }

abbrev pub next_of : State → ℕ
next_of t = address_at t.registers 4

-- From a state the items come to one of which Q holds, in at most so many instructions, and in no less than one where one is allowed. On
-- the way no more of the heap is in use than at the end.
pub record Path (a : Assembly) (n : ℕ) (t : State) (Q : State → Type 0) : Type 0 where
  pub count : ℕ
  pub few : count ≤ n
  pub some : 1 ≤ n → 1 ≤ count
  pub to : State
  pub goes : Goes a.names (code a) t to count
  pub costs : (i : ℕ) → i ≤ count → (q : Progress) → q.state ≡ t → q.end ≡ None → next_of (after (item_machine a.names (code a)).step i q).state ≤ next_of to
  pub there : Q to

-- an operand of an instruction holds a long word, and reading it changes no register
abbrev pub Reads : State → Ea → ℕ → Type 0
Reads t e long = (pc : ℕ) → long_operand t.storage (with_pc t.registers pc) e ≡ Ok (record { value = long; registers = with_pc t.registers pc })

-- Storage and registers are as before, but for one data register, A3, the condition codes and the program counter.
pub record Beside (d : ℕ) (t u : State) : Type 0 where
  pub storage : u.storage ≡ t.storage
  pub numbers : (i : ℕ) → i < 8 → i ≢ d → data_at u.registers i ≡ data_at t.registers i
  pub addresses : (i : ℕ) → i ≢ 3 → address_at u.registers i ≡ address_at t.registers i

-- the number of no data register
abbrev pub none : ℕ
none = 8
