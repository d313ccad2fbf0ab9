-- What is left is what the registers say where the run ends.
use Rattle.std.proofs.Common.{◌≡◌, ◌≢◌, ℕ, ◌-◌, ◌^◌, ◌<◌, ◌≤◌, true, false, List, [], ◌∷◌, ◌++◌, Some, pos, refl, subst, ◌∙◌, arith, append_assoc}
use Rattle.word_ir.specs.declared.operands.Operand.{Operand}
use Rattle.word_ir.specs.declared.operands.Operand.TheVariants as operand
use Rattle.word_ir.specs.declared.words.WordOp.TheVariants as op
use Rattle.word_ir.specs.Word.{Number}
use Rattle.word_ir.specs.Storage.{STACK_START}
use Rattle.word_ir.specs.State.{Setting, State as WordState, heap_end}
use Rattle.word_ir.specs.Effects.{word_of, heap_room, stack_room}
use Rattle.word_ir.specs.Ranges.{IsInPlace}
use Rattle.m68020_code.specs.declared.instr.Ea.TheVariants.{D, A}
use Rattle.m68020_code.specs.declared.instr.Instr.TheVariants.{MoveL, Moveq, SubL, Trap}
use Rattle.m68020_step.specs.declared.registers.Effect.TheVariants.{Nothing}
use Rattle.m68020_step.specs.ConditionCodes.{flags_of_result, flags_of_difference}
use Rattle.m68020_step.specs.Moves.{move_quick}
use Rattle.m68020_step.specs.Operand.{next, with_pc, with_data, with_flags, data_at, address_at}
use Rattle.m68020_step.specs.Step.{State, executed}
use Rattle.m68020_step.specs.Word.{difference_of, unsigned}
use Rattle.m68020_asm.specs.declared.item.Item.{Item}
use Rattle.m68020_asm.specs.declared.item.Item.TheVariants.{Plain}
use Rattle.machine_services.specs.declared.exit.Exit.{Exit}
use Rattle.machine_services.specs.declared.exit.Exit.TheVariants as exit
use Rattle.machine_services.specs.Services.{Exits, serve}
use Rattle.lap_items.specs.Operands.{load_items}
use Rattle.lap_items.specs.Services.{full_items, left_items, service_items}
use Rattle.lap_items.specs.Operations.{op_items}
use Rattle.lap_runs.specs.Represents.{Represents}
use Rattle.lap_paths.specs.Paths.{Assembly, Stands, at_pc}
use Rattle.lap_paths.specs.Housed.{IsHoused, IsUsable}
use Rattle.lap_paths.proofs.Steps.{arrived}
use Rattle.lap_paths.proofs.Loads.{load_goes, move_goes, reads_address}
use Rattle.lap_lines.proofs.Alu.{gives, does_subtract}
use Rattle.lap_services.specs.Tells.{Tells}
use Rattle.lap_room.specs.Laws.{RoomIsTold}
use Rattle.lap_services.proofs.Telling.{trap_ends, before}

module _ (a : Assembly) (m : Setting) (s : WordState) (housed : IsHoused m) (place : IsInPlace m s) where
  does_quick : (t : State) (k at pc : ℕ) → executed t.storage at (with_pc t.registers pc) (Moveq (pos k) 2) ≡ next (with_flags (with_data (with_pc t.registers pc) 2 (unsigned (pos k))) (flags_of_result t.registers.flags (unsigned (pos k)))) Nothing
  unfolding executed move_quick
  does_quick t k at pc = refl

  abbrev Left : ℕ → ℕ → ℕ → State → Type 0
  Left high low left u = address_at u.registers high - address_at u.registers low ≡ left

  -- what was asked for in D0, what is left in D1, and which it is in D2
  report : (t : State) (x : Operand) (w high low top bottom k : ℕ) (how : Exit) (items : List Item) → Represents m a.labels s t → IsUsable m x → word_of m s x ≡ Some (Number w) → address_at t.registers high ≡ top → address_at t.registers low ≡ bottom
      → high ≢ 3 → low ≢ 3 → bottom ≤ top → top < 2 ^ 32 → ((u : State) → data_at u.registers 0 ≡ w → data_at u.registers 1 ≡ top - bottom → data_at u.registers 2 ≡ k → serve a.names u 4 ≡ Exits how)
      → Stands a t (load_items m.homes x 0 ++ (Plain (MoveL (A high) (D 1)) ∷ Plain (SubL (A low) 1) ∷ Plain (Moveq (pos k) 2) ∷ Plain (Trap 4) ∷ items)) → Tells a 7 t [] (Some how) (Left high low (top - bottom))
  report t x w high low top bottom k how items is usable word up down ok_high ok_low le small served stands =
      let R : State → Type 0 = Left high low (top - bottom) in
      let P : State → Type 0 = λ u. Tells a 1 u [] (Some how) R in
      before a 6 1 t [] (Some how) R
      (load_goes a m housed 3 s t x 0 (Number w) (Plain (MoveL (A high) (D 1)) ∷ Plain (SubL (A low) 1) ∷ Plain (Moveq (pos k) 2) ∷ Plain (Trap 4) ∷ items) P (omega arith) place is usable word stands
      (λ t1 first has0 stands1.
      move_goes a m housed 2 t1 (A high) 1 top (Plain (SubL (A low) 1) ∷ Plain (Moveq (pos k) 2) ∷ Plain (Trap 4) ∷ items) P (omega arith) stands1 (reads_address t1 high top (first.addresses high ok_high ∙ up))
      (λ t2 second has1 stands2.
      let bottom_there : address_at t2.registers low ≡ bottom = second.addresses low ok_low ∙ first.addresses low ok_low ∙ down in
      gives a 1 t2 (SubL (A low) 1) 1 (difference_of (data_at t2.registers 1) bottom) (flags_of_difference (data_at t2.registers 1) bottom) (Plain (Moveq (pos k) 2) ∷ Plain (Trap 4) ∷ items) P (omega arith) stands2
      (λ at pc. does_subtract t2 (A low) 1 bottom at pc (reads_address t2 low bottom bottom_there))
      (λ t3 third has2 flags stands3.
      gives a 0 t3 (Moveq (pos k) 2) 2 (unsigned (pos k)) (flags_of_result t3.registers.flags (unsigned (pos k))) (Plain (Trap 4) ∷ items) P (omega arith) stands3 (λ at pc. does_quick t3 k at pc)
      (λ t4 fourth has3 flags2 stands4.
      let zero_there : data_at t4.registers 0 ≡ w = fourth.numbers 0 (omega arith) (λ e. absurd (omega (arith, e))) ∙ third.numbers 0 (omega arith) (λ e. absurd (omega (arith, e))) ∙ second.numbers 0 (omega arith) (λ e. absurd (omega (arith, e))) ∙ has0 in
      let one_there : data_at t4.registers 1 ≡ top - bottom = fourth.numbers 1 (omega arith) (λ e. absurd (omega (arith, e))) ∙ omega (arith, has2, has1, le, small) in
      let high_there : address_at t4.registers high ≡ top = fourth.addresses high ok_high ∙ third.addresses high ok_high ∙ second.addresses high ok_high ∙ first.addresses high ok_high ∙ up in
      let low_there : address_at t4.registers low ≡ bottom = fourth.addresses low ok_low ∙ third.addresses low ok_low ∙ bottom_there in
      let left : address_at t4.registers high - address_at t4.registers low ≡ top - bottom = omega (arith, high_there, low_there) in
      arrived a t4 P (trap_ends a t4 4 items how R stands4 (λ pc. served (at_pc t4 pc) zero_there one_there has3) (λ pc. left)))))))

  heap_line : (t : State) (x : Operand) (w : ℕ) (items : List Item) → Represents m a.labels s t → IsUsable m x → word_of m s x ≡ Some (Number w) → Stands a t (op_items m.homes (op.Service 4 (x ∷ operand.Word 0 ∷ [])) ++ items)
      → Tells a 7 t [] (Some (exit.Full false w (heap_room m s))) (Left 6 4 (heap_room m s))
  unfolding op_items service_items full_items
  heap_line t x w items is usable word stands =
      report t x w 6 4 (heap_end m) s.next 0 (exit.Full false w (heap_room m s)) items is usable word is.end is.next (λ e. absurd (omega (arith, e))) (λ e. absurd (omega (arith, e))) place.next_to (omega (arith, housed.heap))
      (λ u zero_there one_there two_there. rw (zero_there, one_there, two_there) refl)
      (subst (Stands a t) (append_assoc (load_items m.homes x 0 ++ left_items false) (Plain (Trap 4) ∷ []) items ∙ append_assoc (load_items m.homes x 0) (left_items false) (Plain (Trap 4) ∷ items)) stands)

  stack_line : (t : State) (x : Operand) (w : ℕ) (items : List Item) → Represents m a.labels s t → IsUsable m x → word_of m s x ≡ Some (Number w) → Stands a t (op_items m.homes (op.Service 4 (x ∷ operand.Word 1 ∷ [])) ++ items)
      → Tells a 7 t [] (Some (exit.Full true w (stack_room s))) (Left 7 5 (stack_room s))
  unfolding op_items service_items full_items
  stack_line t x w items is usable word stands =
      report t x w 7 5 s.top STACK_START 1 (exit.Full true w (stack_room s)) items is usable word is.top is.limit (λ e. absurd (omega (arith, e))) (λ e. absurd (omega (arith, e))) place.top_from (omega (arith, place.top_to, housed.stack))
      (λ u zero_there one_there two_there. rw (zero_there, one_there, two_there) refl)
      (subst (Stands a t) (append_assoc (load_items m.homes x 0 ++ left_items true) (Plain (Trap 4) ∷ []) items ∙ append_assoc (load_items m.homes x 0) (left_items true) (Plain (Trap 4) ∷ items)) stands)

pub room_is_told : RoomIsTold
room_is_told = record {
  heap = λ x a m s t items w housed place is usable word stands. heap_line a m s housed place t x w items is usable word stands;
  stack = λ x a m s t items w housed place is usable word stands. stack_line a m s housed place t x w items is usable word stands;
}
