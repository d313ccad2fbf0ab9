-- Laws of runs of items through several places.
use Rattle.std.specs.Prelude.{◌≡◌, ℕ, ◌+◌, ◌*◌, ◌<◌, ◌≤◌, ◌^◌, List, length, slice_get, slice_index, Some, Ok, if◌then◌else◌}
use Rattle.t_base.specs.declared.basics.Var.{Var}
use Rattle.word_ir.specs.declared.operands.Operand.TheVariants as operand
use Rattle.word_ir.specs.declared.placed.Home.{Home}
use Rattle.word_ir.specs.declared.placed.Home.TheVariants as home
use Rattle.word_ir.specs.Word.{Word}
use Rattle.word_ir.specs.Storage.{static_at}
use Rattle.word_ir.specs.State.{Setting, State as WordState}
use Rattle.word_ir.specs.Effects.{word_of}
use Rattle.word_ir.specs.WholePlaced.{farthest}
use Rattle.m68020_code.specs.declared.instr.Cond.{Cond}
use Rattle.m68020_code.specs.declared.instr.Ea.{Ea}
use Rattle.m68020_code.specs.declared.instr.Instr.{Instr}
use Rattle.m68020_step.specs.declared.machine.Step.TheVariants as step
use Rattle.m68020_step.specs.declared.registers.Effect.{Effect}
use Rattle.m68020_step.specs.declared.registers.Registers.{Registers}
use Rattle.m68020_step.specs.ConditionCodes.{holds}
use Rattle.m68020_step.specs.Operand.{next, with_pc, with_address, address_at, long_operand}
use Rattle.m68020_step.specs.Step.{State, executed, answer_of, with_effect}
use Rattle.m68020_asm.specs.declared.item.Item.{Item}
use Rattle.m68020_asm.specs.declared.item.Item.TheVariants.{Branch, CodeAddr}
use Rattle.m68020_asm.specs.Items.{address, IsLabelAt, CanAssemble}
use Rattle.m68020_asm.specs.Assembled.{IsAssembled}
use Rattle.m68020_asm.specs.Run.{Program, program_of, address_in, instruction_of}
use Rattle.lap_items.specs.Homes.{home_of, at_home}
use Rattle.lap_items.specs.Operands.{source_of}
use Rattle.lap_runs.specs.Goes.{Goes}
use Rattle.lap_runs.specs.Represents.{real, HomeHas, Represents}

abbrev pub NoneGoes : Type 0
NoneGoes = (names : List (List ℕ)) (p : Program) (s : State) → Goes names p s s 0

-- one part of a run and then another
abbrev pub GoesThen : Type 0
GoesThen = (names : List (List ℕ)) (p : Program) (s t u : State) (m n : ℕ) → Goes names p s t m → Goes names p t u n → Goes names p s u (m + n)

-- At an item's place its instruction is carried out, where it asks for no service.
abbrev pub OneGoes : Type 0
OneGoes =
    (names : List (List ℕ)) (p : Program) (s : State) (k : ℕ) (item : Item) (i : Instr) (r : Registers) (e : Effect) → s.registers.pc ≡ address_in p k → slice_get p.items k ≡ Some item
    → instruction_of p.labels (p.widths k) (address_in p k) item ≡ Some i → executed s.storage (address_in p k) (with_pc s.registers (address_in p (k + 1))) i ≡ next r e → answer_of e ≡ step.On
    → Goes names p s (record { registers = r; storage = with_effect s.storage e }) 1

-- the address of a block's label goes into an address register
abbrev pub AddressGoes : Type 0
AddressGoes =
    (names : List (List ℕ)) (p : Program) (s : State) (k reg block : ℕ) → s.registers.pc ≡ address_in p k → slice_get p.items k ≡ Some (CodeAddr reg block)
    → Goes names p s (record { registers = with_address (with_pc s.registers (address_in p (k + 1))) reg (slice_index p.labels block); storage = s.storage }) 1

-- A branch goes to its label's place where its condition holds, and else on.
abbrev pub BranchGoes : Type 0
BranchGoes =
    (names : List (List ℕ)) (items : List Item) (bytes labels : List ℕ) (h : IsAssembled items bytes labels) (s : State) (k j n : ℕ) (c : Cond) → CanAssemble items → s.registers.pc ≡ address items h.widths k
    → slice_get items k ≡ Some (Branch c n) → IsLabelAt items n j
    → Goes names (program_of items bytes labels h) s (record { registers = if holds c s.registers.flags then with_pc s.registers (address items h.widths j) else with_pc s.registers (address items h.widths (k + 1)); storage = s.storage }) 1

-- ---- operands

-- a home in the stack that one instruction reaches
abbrev pub IsReached : State → Home → Type 0
IsReached t (home.Stack n) = (n ≤ farthest) × (address_at t.registers 7 + 4 * n < 2 ^ 32)
IsReached t (home.D i) = Unit {0}
IsReached t (home.A i) = Unit {0}
IsReached t (home.Static place) = Unit {0}

-- what an operand of an instruction gives, without a change of registers
abbrev pub Gives : State → Ea → ℕ → Type 0
Gives t e long = long_operand t.storage t.registers e ≡ Ok (record { value = long; registers = t.registers })

-- A home that has a long word gives it.
abbrev pub HomesGive : Type 0
HomesGive = (t : State) (h : Home) (long : ℕ) → IsReached t h → HomeHas t h long → Gives t (at_home h) long

-- So a variable's operand gives its word, and so do a word that is written out and the address of a static word.
abbrev pub VariablesGive : Type 0
VariablesGive =
    (m : Setting) (labels : List ℕ) (s : WordState) (t : State) (v : Var) (w : Word) → Represents m labels s t → v.0 < length m.homes → IsReached t (home_of m.homes v)
    → word_of m s (operand.Var v) ≡ Some w → Gives t (source_of m.homes (operand.Var v)) (real labels w)

abbrev pub NumbersGive : Type 0
NumbersGive = (homes : List Home) (t : State) (n : ℕ) → Gives t (source_of homes (operand.Word n)) n × Gives t (source_of homes (operand.Static n)) (static_at n)
