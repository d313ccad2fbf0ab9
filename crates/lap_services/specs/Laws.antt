-- Laws of services and their items.
use Rattle.std.specs.Prelude.{ℕ, List, [], ◌∷◌, ◌++◌}
use Rattle.std.specs.List.{AllByRecursion}
use Rattle.word_ir.specs.declared.operands.Operand.{Operand}
use Rattle.word_ir.specs.declared.operands.Operand.TheVariants as operand
use Rattle.word_ir.specs.declared.words.WordOp.TheVariants as op
use Rattle.word_ir.specs.State.{Setting, State as WordState}
use Rattle.word_ir.specs.Effects.{op_effect}
use Rattle.word_ir.specs.Ranges.{IsInPlace}
use Rattle.m68020_step.specs.Step.{State}
use Rattle.m68020_asm.specs.declared.item.Item.{Item}
use Rattle.lap_items.specs.Operations.{op_items}
use Rattle.lap_runs.specs.Represents.{Represents}
use Rattle.lap_paths.specs.Paths.{Assembly, Stands}
use Rattle.lap_paths.specs.Housed.{IsHoused, IsUsable}
use Rattle.lap_services.specs.Tells.{Serves}

-- From each state that stands for one of the words, at the items of a service, these come to what the service comes to.
abbrev pub ServiceArrives : ℕ → ℕ → List Operand → Type 0
ServiceArrives n number args =
    (a : Assembly) (m : Setting) (s : WordState) (t : State) (items : List Item) → IsHoused m → IsInPlace m s → Represents m a.labels s t → AllByRecursion (IsUsable m) args
    → Stands a t (op_items m.homes (op.Service number args) ++ items) → Serves a m s t items n (op_effect m s (op.Service number args))

abbrev pub CharactersArrive : Type 0
CharactersArrive = (x : Operand) → ServiceArrives 6 1 (x ∷ [])

abbrev pub FixnumsArrive : Type 0
FixnumsArrive = (x : Operand) → ServiceArrives 6 2 (x ∷ [])

-- a fault by its number alone, and one with a fixnum
pub record FaultsArrive : Type 0 where
  pub plain : (x : Operand) → ServiceArrives 4 3 (x ∷ [])
  pub with_fixnum : (x y : Operand) → ServiceArrives 9 3 (x ∷ y ∷ [])

-- of the heap, and of the stack
pub record RoomReported : Type 0 where
  pub heap : (x : Operand) → ServiceArrives 7 4 (x ∷ operand.Word 0 ∷ [])
  pub stack : (x : Operand) → ServiceArrives 7 4 (x ∷ operand.Word 1 ∷ [])
