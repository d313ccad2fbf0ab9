-- What is left where there is no room.
use Rattle.std.specs.Prelude.{◌≡◌, ℕ, ◌-◌, Bool, true, false, if◌then◌else◌, List, [], ◌∷◌, ◌++◌, Some}
use Rattle.word_ir.specs.declared.operands.Operand.{Operand}
use Rattle.word_ir.specs.declared.operands.Operand.TheVariants as operand
use Rattle.word_ir.specs.declared.words.WordOp.TheVariants as op
use Rattle.word_ir.specs.Word.{Number}
use Rattle.word_ir.specs.State.{Setting, State as WordState}
use Rattle.word_ir.specs.Effects.{word_of, heap_room, stack_room}
use Rattle.word_ir.specs.Ranges.{IsInPlace}
use Rattle.m68020_step.specs.Operand.{address_at}
use Rattle.m68020_step.specs.Step.{State}
use Rattle.m68020_asm.specs.declared.item.Item.{Item}
use Rattle.machine_services.specs.declared.exit.Exit.TheVariants as exit
use Rattle.lap_items.specs.Operations.{op_items}
use Rattle.lap_runs.specs.Represents.{Represents}
use Rattle.lap_paths.specs.Paths.{Assembly, Stands}
use Rattle.lap_paths.specs.Housed.{IsHoused, IsUsable}
use Rattle.lap_services.specs.Tells.{Tells}

-- the bytes that are left of the heap, or of the stack, by the machine's registers
abbrev pub left_in : Bool → State → ℕ
left_in stack t = if stack then address_at t.registers 7 - address_at t.registers 5 else address_at t.registers 6 - address_at t.registers 4

-- the same by the words
abbrev pub room_of : Bool → Setting → WordState → ℕ
room_of stack m s = if stack then stack_room s else heap_room m s

-- which of them it is, as the service is told
abbrev pub kind_of : Bool → Operand
kind_of stack = if stack then operand.Word 1 else operand.Word 0

-- The run ends as full, with what was asked for and what is left: what the words say, the machine's registers say at that moment.
abbrev pub RoomTold : Bool → Type 0
RoomTold stack =
    (x : Operand) (a : Assembly) (m : Setting) (s : WordState) (t : State) (items : List Item) (asked : ℕ) → IsHoused m → IsInPlace m s → Represents m a.labels s t → IsUsable m x → word_of m s x ≡ Some (Number asked)
    → Stands a t (op_items m.homes (op.Service 4 (x ∷ kind_of stack ∷ [])) ++ items) → Tells a 7 t [] (Some (exit.Full stack asked (room_of stack m s))) (λ u. left_in stack u ≡ room_of stack m s)

pub record RoomIsTold : Type 0 where
  pub heap : RoomTold false
  pub stack : RoomTold true
