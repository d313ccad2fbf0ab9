-- What is left where there is no room, as the state says in which a line has ended the run.
use Rattle.std.specs.List.{AllByRecursion}
use Rattle.std.proofs.Common.{◌≡◌, ℕ, ◌+◌, Bool, true, false, List, [], ◌++◌, Some, refl, sym, ap, subst, ◌∙◌, arith}
use Rattle.program_runs.specs.Runs.{Value, Faulted, Full}
use Rattle.program_runs.specs.Follows.{after}
use Rattle.program_runs.proofs.Simulate.{after_add, after_fixed}
use Rattle.word_ir.specs.declared.words.WordOp.{WordOp}
use Rattle.word_ir.specs.Lines.{op_operands}
use Rattle.word_ir.specs.State.{Setting, State as WordState}
use Rattle.word_ir.specs.Effects.{Ends, op_effect}
use Rattle.word_ir.specs.Ranges.{IsInPlace}
use Rattle.word_ir.specs.Whole.{is_op_shaped}
use Rattle.m68020_step.specs.Step.{State}
use Rattle.m68020_asm.specs.declared.item.Item.{Item}
use Rattle.machine_services.specs.declared.exit.Exit.{Exit}
use Rattle.machine_services.specs.declared.exit.Exit.TheVariants as exit
use Rattle.machine_services.specs.Runs.{Progress, start_of}
use Rattle.machine_services.specs.Observed.{end_of}
use Rattle.item_runs.specs.Runs.{item_machine}
use Rattle.lap_items.specs.Operations.{op_items}
use Rattle.lap_runs.specs.Represents.{Represents}
use Rattle.lap_paths.specs.Paths.{Assembly, code, Stands}
use Rattle.lap_paths.specs.Housed.{IsHoused, IsUsable}
use Rattle.lap_services.specs.Tells.{Tells, EndsSo}
use Rattle.lap_room.specs.Laws.{left_in, room_of, RoomTold}
use Rattle.lap_room.proofs.Telling.{room_is_told}
use Rattle.lap_simulation.specs.Leads.{Told}
use Rattle.lap_simulation.proofs.Lacking.{is_lacking}

-- two ways on which a run ends are one
pub same_end : (a : Assembly) (t : State) (n k : ℕ) (how what : Exit) (P Q : State → Type 0) (x : Tells a n t [] (Some how) P) (y : Tells a k t [] (Some what) Q) → (x.to ≡ y.to) × (how ≡ what)
same_end a t n k how what P Q x y =
    let step : Progress → Progress = (item_machine a.names (code a)).step in
    let q : Progress = start_of t in
    let r1 : Progress = record { state = x.to; output = []; end = Some how; instructions = 0 + x.count } in
    let r2 : Progress = record { state = y.to; output = []; end = Some what; instructions = 0 + y.count } in
    let first : after step (x.count + y.count) q ≡ r1 = after_add step x.count y.count q ∙ ap (after step y.count) (x.runs q refl refl) ∙ after_fixed step y.count r1 refl in
    let second : after step (y.count + x.count) q ≡ r2 = after_add step y.count x.count q ∙ ap (after step x.count) (y.runs q refl refl) ∙ after_fixed step x.count r2 refl in
    let turned : x.count + y.count ≡ y.count + x.count = omega arith in
    let both : r1 ≡ r2 = sym first ∙ ap (λ (k : ℕ). after step k q) turned ∙ second in (
      ap (λ (r : Progress). r.state) both,
      some_same how what (ap (λ (r : Progress). r.end) both),
    )
  where
    some_same : (x y : Exit) → Some x ≡ Some y → x ≡ y
    some_same x y e = cc

-- another end tells nothing
pub value_told : (names : List (List ℕ)) (how : Exit) (shown : _) (u : State) → end_of names how ≡ Value shown → Told how u
value_told names how shown u alike stack asked left e = absurd (differs (ap (end_of names) (sym e) ∙ alike))
  where
    differs : Full stack asked left ≡ Value shown → ⊥
    differs e = cc

pub fault_told : (names : List (List ℕ)) (how : Exit) (fault : _) (u : State) → end_of names how ≡ Faulted fault → Told how u
fault_told names how fault u alike stack asked left e = absurd (differs (ap (end_of names) (sym e) ∙ alike))
  where
    differs : Full stack asked left ≡ Faulted fault → ⊥
    differs e = cc

room_told : (stack : Bool) → RoomTold stack
room_told false = room_is_told.heap
room_told true = room_is_told.stack

pub full_told : (a : Assembly) (m : Setting) (s : WordState) (t : State) (o : WordOp) (items : List Item) (stack : Bool) (asked left n : ℕ) → IsHoused m → IsInPlace m s → Represents m a.labels s t → AllByRecursion (IsUsable m) (op_operands o) → is_op_shaped o ≡ true
    → Stands a t (op_items m.homes o ++ items) → op_effect m s o ≡ Ends (Full stack asked left) → (so : EndsSo a s t n (Full stack asked left)) → Told so.0 so.2.to
full_told a m s t o items stack asked left n housed place is usable shaped stands effect so =
    let l = is_lacking m s o shaped stack asked left effect in
    let operands = subst (λ z. AllByRecursion (IsUsable m) (op_operands z)) l.is usable in
    let tells = room_told stack l.x a m s t items asked housed place is operands.0 l.word (subst (λ z. Stands a t (op_items m.homes z ++ items)) l.is stands) in
    let same = same_end a t n 7 so.0 (exit.Full stack asked (room_of stack m s)) _ _ so.2 tells in
    told tells.to so.2.to so.0 same.0 same.1 tells.there
  where
    told : (u v : State) (how : Exit) → v ≡ u → how ≡ exit.Full stack asked (room_of stack m s) → left_in stack u ≡ room_of stack m s → Told how v
    told u v how same is_full here which wanted rest e =
        let both : exit.Full stack asked (room_of stack m s) ≡ exit.Full which wanted rest = sym is_full ∙ e in
        let region : stack ≡ which = cc in
        let amount : room_of stack m s ≡ rest = cc in
        sym amount ∙ sym here ∙ ap (λ w. left_in stack w) (sym same) ∙ ap (λ b. left_in b v) region
