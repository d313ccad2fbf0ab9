-- Laws of services that read storage, and of all.
use Rattle.std.specs.Prelude.{◌≡◌, ℕ, IsTrue, List, [], ◌∷◌, ◌++◌}
use Rattle.std.specs.List.{AllByRecursion}
use Rattle.word_ir.specs.declared.operands.Operand.{Operand}
use Rattle.word_ir.specs.declared.words.WordOp.TheVariants as op
use Rattle.word_ir.specs.Whole.{is_op_shaped}
use Rattle.word_ir.specs.State.{Setting, State as WordState}
use Rattle.word_ir.specs.Effects.{names_of, op_effect}
use Rattle.word_ir.specs.Ranges.{IsInPlace}
use Rattle.m68020_step.specs.Step.{State}
use Rattle.m68020_asm.specs.declared.item.Item.{Item}
use Rattle.lap_items.specs.Operations.{op_items}
use Rattle.lap_runs.specs.Represents.{Represents}
use Rattle.lap_paths.specs.Paths.{Assembly, Stands}
use Rattle.lap_paths.specs.Housed.{IsHoused, IsUsable}
use Rattle.lap_services.specs.Tells.{Serves}
use Rattle.lap_services.specs.Laws.{ServiceArrives}

-- From each state that stands for one of the words, at the items of a service, in code with the names of the words, these come to what the
-- service comes to.
abbrev pub NamedServiceArrives : ℕ → ℕ → List Operand → Type 0
NamedServiceArrives n number args =
    (a : Assembly) (m : Setting) (s : WordState) (t : State) (items : List Item) → a.names ≡ names_of m → IsHoused m → IsInPlace m s → Represents m a.labels s t → AllByRecursion (IsUsable m) args
    → Stands a t (op_items m.homes (op.Service number args) ++ items) → Serves a m s t items n (op_effect m s (op.Service number args))

abbrev pub ValuesArrive : Type 0
ValuesArrive = (x : Operand) → NamedServiceArrives 5 0 (x ∷ [])

-- no name is looked up
abbrev pub StringsArrive : Type 0
StringsArrive = (x : Operand) → ServiceArrives 6 5 (x ∷ [])

-- of every service that a whole program may have
abbrev pub AllServicesArrive : Type 0
AllServicesArrive = (number : ℕ) (args : List Operand) → IsTrue (is_op_shaped (op.Service number args)) → NamedServiceArrives 9 number args
