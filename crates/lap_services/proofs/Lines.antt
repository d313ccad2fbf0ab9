-- The services.
use Rattle.std.proofs.Common.{◌≡◌, ◌≢◌, ℕ, zero, suc, ◌+◌, ◌-◌, ◌^◌, ◌<◌, ◌≤◌, ◌==◌, Bool, true, false, List, [], ◌∷◌, ◌++◌, Option, Some, None, pos, refl, ap, subst, ◌∙◌, arith, append_assoc}
use Rattle.std.specs.Prelude.{if◌then◌else◌}
use Rattle.std.specs.Fmt.{signed_decimal}
use Rattle.program_runs.specs.Runs.{Faulted, Full}
use Rattle.word_ir.specs.declared.operands.Operand.{Operand}
use Rattle.word_ir.specs.declared.operands.Operand.TheVariants as operand
use Rattle.word_ir.specs.declared.words.WordOp.TheVariants as op
use Rattle.word_ir.specs.Word.{Word, Number, Code, number_of}
use Rattle.word_ir.specs.Storage.{STACK_START}
use Rattle.word_ir.specs.State.{Setting, State as WordState, heap_end}
use Rattle.word_ir.specs.Effects.{Effect, Puts, Ends, breaks, or_broken, word_of, with_number, raised, op_effect, heap_room, stack_room}
use Rattle.word_ir.specs.Step.{changed}
use Rattle.word_ir.specs.Ranges.{IsInPlace}
use Rattle.word_faces.specs.Faces.{character_of, fixnum_of}
use Rattle.word_faces.specs.Operands.{fault_of}
use Rattle.m68020_code.specs.declared.instr.Ea.TheVariants.{D, A}
use Rattle.m68020_code.specs.declared.instr.Instr.TheVariants.{MoveL, Moveq, SubL, Trap}
use Rattle.m68020_step.specs.declared.registers.Effect.TheVariants.{Nothing}
use Rattle.m68020_step.specs.ConditionCodes.{flags_of_result, flags_of_difference}
use Rattle.m68020_step.specs.Moves.{move_quick}
use Rattle.m68020_step.specs.Operand.{next, with_pc, with_data, with_flags, data_at, address_at}
use Rattle.m68020_step.specs.Step.{State, executed}
use Rattle.m68020_step.specs.Word.{difference_of, unsigned}
use Rattle.m68020_asm.specs.declared.item.Item.{Item}
use Rattle.m68020_asm.specs.declared.item.Item.TheVariants.{Plain}
use Rattle.machine_services.specs.declared.exit.Exit.{Exit}
use Rattle.machine_services.specs.declared.exit.Exit.TheVariants as exit
use Rattle.machine_services.specs.Services.{Puts as ServedPuts, Exits, or_bad, serve}
use Rattle.lap_items.specs.Operands.{source_items, source_of, load_items}
use Rattle.lap_items.specs.Services.{with_one_items, fault_items, full_items, left_items, service_items}
use Rattle.lap_items.specs.Operations.{op_items}
use Rattle.lap_runs.specs.Represents.{Represents}
use Rattle.lap_paths.specs.Paths.{Assembly, Stands, Beside, at_pc, next_of}
use Rattle.lap_paths.specs.Housed.{IsHoused, IsUsable}
use Rattle.lap_paths.proofs.Steps.{arrived}
use Rattle.lap_paths.proofs.Besides.{beside_represents}
use Rattle.lap_paths.proofs.Loads.{source_goes, load_goes, move_goes, reads_data, reads_address}
use Rattle.lap_lines.specs.Arrives.{Behind}
use Rattle.lap_lines.proofs.Arriving.{alike}
use Rattle.lap_lines.proofs.Alu.{gives, does_subtract}
use Rattle.lap_services.specs.Tells.{Tells, Serves}
use Rattle.lap_services.specs.Laws.{CharactersArrive, FixnumsArrive, FaultsArrive, RoomReported}
use Rattle.lap_services.proofs.Telling.{trap_ends, trap_puts, before}

number_is : (w : Word) (x : ℕ) → number_of w ≡ Some x → w ≡ Number x
number_is (Number k) x e = let same : k ≡ x = cc in ap Number same
number_is (Code b) x e = absurd (cc)

module _ (a : Assembly) (m : Setting) (s : WordState) (t : State) (items : List Item) (n : ℕ) where
  pub or_serves : {X : Type 0} (o : Option X) (go : X → Effect) → ((x : X) → o ≡ Some x → Serves a m s t items n (go x)) → Serves a m s t items n (or_broken o go)
  or_serves (Some x) go h = h x refl
  or_serves None go h = tt

  pub number_serves : (x : Operand) (go : ℕ → Effect) → ((k : ℕ) → word_of m s x ≡ Some (Number k) → Serves a m s t items n (go k)) → Serves a m s t items n (with_number m s x go)
  number_serves x go h = or_serves (word_of m s x) (λ w. or_broken (number_of w) go) (λ w e. or_serves (number_of w) go (λ k f. h k (e ∙ ap Some (number_is w k f))))

  pub if_serves : (b : Bool) (x y : Effect) → (b ≡ true → Serves a m s t items n x) → (b ≡ false → Serves a m s t items n y) → Serves a m s t items n (if b then x else y)
  if_serves true x y h k = h refl
  if_serves false x y h k = k refl

module _ (a : Assembly) (m : Setting) (s : WordState) (housed : IsHoused m) (place : IsInPlace m s) where
  -- ---- bytes are put: the operand is in D0, whose word is in D7 meanwhile

  pub put_run : (t : State) (x : Operand) (w vector : ℕ) (bytes : List ℕ) (items : List Item) → Represents m a.labels s t → IsUsable m x → word_of m s x ≡ Some (Number w)
      → ((u : State) → u.storage ≡ t.storage → data_at u.registers 0 ≡ w → serve a.names u vector ≡ ServedPuts bytes)
      → Stands a t (with_one_items m.homes vector (x ∷ []) ++ items) → Tells a 6 t bytes None (Behind a m (changed s (Puts bytes)) items)
  unfolding with_one_items
  put_run t x w vector bytes items is usable word served stands =
      let Q : State → Type 0 = Behind a m (changed s (Puts bytes)) items in
      let tail : List Item = Plain (MoveL (source_of m.homes x) (D 0)) ∷ Plain (Trap vector) ∷ Plain (MoveL (D 7) (D 0)) ∷ [] in
      let P : State → Type 0 = λ u. Tells a 2 u bytes None Q in
      before a 4 2 t bytes None Q
      (move_goes a m housed 3 t (D 0) 7 (data_at t.registers 0) ((source_items x ++ tail) ++ items) P (omega arith) stands (reads_data t 0 (data_at t.registers 0) refl)
      (λ t1 first kept stands1.
      let at_1 = beside_represents m a.labels 7 s t t1 housed (omega arith) is first in
      source_goes a m housed 0 s t1 x (Number w) (tail ++ items) P place at_1 usable word (subst (Stands a t1) (append_assoc (source_items x) tail items) stands1)
      (λ t2 second reads stands2.
      move_goes a m housed 0 t2 (source_of m.homes x) 0 w (Plain (Trap vector) ∷ Plain (MoveL (D 7) (D 0)) ∷ items) P (omega arith) stands2 reads
      (λ t3 third there stands3. arrived a t3 P
      (trap_puts a 1 t3 vector (Plain (MoveL (D 7) (D 0)) ∷ items) bytes Q stands3 (λ pc. served (at_pc t3 pc) (third.storage ∙ second.storage ∙ first.storage) there)
      (λ pc stands4.
      let seven : data_at t3.registers 7 ≡ data_at t.registers 0 = third.numbers 7 (omega arith) (λ e. absurd (omega (arith, e))) ∙ second.numbers 7 (omega arith) (λ e. absurd (omega (arith, e))) ∙ kept in
      move_goes a m housed 0 (at_pc t3 pc) (D 7) 0 (data_at t.registers 0) items Q (omega arith) stands4 (reads_data (at_pc t3 pc) 7 (data_at t.registers 0) seven)
      (λ t4 fourth back stands5. arrived a t4 Q
      (alike m a.labels s t4 s.block (s.place + 1) (s.output ++ bytes) s.moves (beside_represents m a.labels 7 s t t4 housed (omega arith) is (whole t t1 t2 t3 t4 pc first second third fourth back)), stands5))))))))
    where
      whole : (t t1 t2 t3 t4 : State) (pc : ℕ) → Beside 7 t t1 → Beside 8 t1 t2 → Beside 0 t2 t3 → Beside 0 (at_pc t3 pc) t4 → data_at t4.registers 0 ≡ data_at t.registers 0 → Beside 7 t t4
      whole t t1 t2 t3 t4 pc first second third fourth back = record {
        storage = fourth.storage ∙ third.storage ∙ second.storage ∙ first.storage;
        numbers = each;
        addresses = λ i ne. fourth.addresses i ne ∙ third.addresses i ne ∙ second.addresses i ne ∙ first.addresses i ne;
      }
        where
          each : (i : ℕ) → i < 8 → i ≢ 7 → data_at t4.registers i ≡ data_at t.registers i
          each zero lt ne = back
          each (suc i) lt ne =
              fourth.numbers (suc i) lt (λ e. absurd (omega (arith, e))) ∙ third.numbers (suc i) lt (λ e. absurd (omega (arith, e))) ∙ second.numbers (suc i) lt (λ e. absurd (omega (arith, e, lt))) ∙ first.numbers (suc i) lt ne

  -- ---- the run ends

  pub ended : (t : State) (vector : ℕ) (items : List Item) (how : Exit) → next_of t ≡ s.next → Stands a t (Plain (Trap vector) ∷ items) → ((pc : ℕ) → serve a.names (at_pc t pc) vector ≡ Exits how) → Tells a 1 t [] (Some how) (λ u. next_of u ≡ s.next)
  ended t vector items how same stands ends = trap_ends a t vector items how (λ u. next_of u ≡ s.next) stands ends (λ pc. same)

  -- a fault by its number alone
  fault_same : (number d1 : ℕ) → (number == 15) ≡ false → fault_of number d1 ≡ fault_of number 0
  fault_same number d1 e = rw e refl

  plain_fault : (t : State) (x : Operand) (items : List Item) → Represents m a.labels s t → IsUsable m x → Stands a t (op_items m.homes (op.Service 3 (x ∷ [])) ++ items) → Serves a m s t items 4 (op_effect m s (op.Service 3 (x ∷ [])))
  unfolding op_items service_items fault_items
  plain_fault t x items is usable stands =
      number_serves a m s t items 4 x (λ w. raised (w ∷ [])) (λ w word.
      if_serves a m s t items 4 (w == 15) breaks (or_broken (fault_of w 0) (λ f. Ends (Faulted f))) (λ e. tt) (λ e.
      or_serves a m s t items 4 (fault_of w 0) (λ f. Ends (Faulted f)) (λ f found. (
        exit.Fault f,
        refl,
        before a 3 1 t [] (Some (exit.Fault f)) (λ u. next_of u ≡ s.next)
            (load_goes a m housed 0 s t x 0 (Number w) (Plain (Trap 3) ∷ items) (λ u. Tells a 1 u [] (Some (exit.Fault f)) (λ v. next_of v ≡ s.next)) (omega arith) place is usable word
            (subst (Stands a t) (append_assoc (load_items m.homes x 0) (Plain (Trap 3) ∷ []) items) stands)
            (λ u beside there stands2. arrived a u (λ v. Tells a 1 v [] (Some (exit.Fault f)) (λ z. next_of z ≡ s.next))
            (ended u 3 items (exit.Fault f) (beside.addresses 4 (λ eq. absurd (omega (arith, eq))) ∙ is.next) stands2
            (λ pc. ap (λ (n : ℕ). or_bad (λ which. Exits (exit.Fault which)) (fault_of n (data_at u.registers 1))) there ∙ ap (or_bad (λ which. Exits (exit.Fault which))) (fault_same w (data_at u.registers 1) e ∙ found))))),
      ))))

  -- one with a fixnum
  own_fault : (t : State) (x y : Operand) (items : List Item) → Represents m a.labels s t → IsUsable m x → IsUsable m y → Stands a t (op_items m.homes (op.Service 3 (x ∷ y ∷ [])) ++ items)
      → Serves a m s t items 9 (op_effect m s (op.Service 3 (x ∷ y ∷ [])))
  unfolding op_items service_items fault_items
  own_fault t x y items is usable usable_y stands =
      number_serves a m s t items 9 x (λ w. with_number m s y (λ v. raised (w ∷ v ∷ []))) (λ w word.
      number_serves a m s t items 9 y (λ v. raised (w ∷ v ∷ [])) (λ v second.
      if_serves a m s t items 9 (w == 15) (or_broken (fault_of w v) (λ f. Ends (Faulted f))) breaks (λ e.
      or_serves a m s t items 9 (fault_of w v) (λ f. Ends (Faulted f)) (λ f found.
      let R : State → Type 0 = λ z. next_of z ≡ s.next in
      let how : Exit = exit.Fault f in
      let P : State → Type 0 = λ u. Tells a 1 u [] (Some how) R in
      let tail : List Item = Plain (MoveL (D 6) (D 1)) ∷ Plain (MoveL (D 7) (D 0)) ∷ Plain (Trap 3) ∷ [] in (
        how,
        refl,
        before a 8 1 t [] (Some how) R
            (load_goes a m housed 5 s t y 6 (Number v) (load_items m.homes x 7 ++ (tail ++ items)) P (omega arith) place is usable_y second
            (subst (Stands a t) (append_assoc (load_items m.homes y 6 ++ load_items m.homes x 7) tail items ∙ append_assoc (load_items m.homes y 6) (load_items m.homes x 7) (tail ++ items)) stands)
            (λ t1 first has1 stands1.
            let at_1 = beside_represents m a.labels 6 s t t1 housed (omega arith) is first in
            load_goes a m housed 2 s t1 x 7 (Number w) (tail ++ items) P (omega arith) place at_1 usable word stands1
            (λ t2 more has2 stands2.
            let at_2 = beside_represents m a.labels 7 s t1 t2 housed (omega arith) at_1 more in
            let six : data_at t2.registers 6 ≡ v = more.numbers 6 (omega arith) (λ eq. absurd (omega (arith, eq))) ∙ has1 in
            move_goes a m housed 1 t2 (D 6) 1 v (Plain (MoveL (D 7) (D 0)) ∷ Plain (Trap 3) ∷ items) P (omega arith) stands2 (reads_data t2 6 v six)
            (λ t3 third has3 stands3.
            let seven : data_at t3.registers 7 ≡ w = third.numbers 7 (omega arith) (λ eq. absurd (omega (arith, eq))) ∙ has2 in
            move_goes a m housed 0 t3 (D 7) 0 w (Plain (Trap 3) ∷ items) P (omega arith) stands3 (reads_data t3 7 w seven)
            (λ t4 fourth has4 stands4.
            let one : data_at t4.registers 1 ≡ v = fourth.numbers 1 (omega arith) (λ eq. absurd (omega (arith, eq))) ∙ has3 in
            arrived a t4 P (ended t4 3 items how
            (fourth.addresses 4 (λ eq. absurd (omega (arith, eq))) ∙ third.addresses 4 (λ eq. absurd (omega (arith, eq))) ∙ at_2.next) stands4
            (λ pc. ap (λ (n : ℕ). or_bad (λ which. Exits (exit.Fault which)) (fault_of n (data_at t4.registers 1))) has4 ∙ ap (λ (n : ℕ). or_bad (λ which. Exits (exit.Fault which)) (fault_of w n)) one ∙ ap (or_bad (λ which. Exits (exit.Fault which))) found))))))),
      ))) (λ e. tt)))

module _ (a : Assembly) (m : Setting) (s : WordState) (housed : IsHoused m) (place : IsInPlace m s) where
  does_quick : (t : State) (k at pc : ℕ) → executed t.storage at (with_pc t.registers pc) (Moveq (pos k) 2) ≡ next (with_flags (with_data (with_pc t.registers pc) 2 (unsigned (pos k))) (flags_of_result t.registers.flags (unsigned (pos k)))) Nothing
  unfolding executed move_quick
  does_quick t k at pc = refl

  -- what was asked for in D0, what is left in D1, and which it is in D2
  report : (t : State) (x : Operand) (w high low top bottom k : ℕ) (how : Exit) (items : List Item) → Represents m a.labels s t → IsUsable m x → word_of m s x ≡ Some (Number w) → address_at t.registers high ≡ top → address_at t.registers low ≡ bottom
      → high ≢ 3 → low ≢ 3 → bottom ≤ top → top < 2 ^ 32 → ((u : State) → data_at u.registers 0 ≡ w → data_at u.registers 1 ≡ top - bottom → data_at u.registers 2 ≡ k → serve a.names u 4 ≡ Exits how)
      → Stands a t (load_items m.homes x 0 ++ (Plain (MoveL (A high) (D 1)) ∷ Plain (SubL (A low) 1) ∷ Plain (Moveq (pos k) 2) ∷ Plain (Trap 4) ∷ items)) → Tells a 7 t [] (Some how) (λ u. next_of u ≡ s.next)
  report t x w high low top bottom k how items is usable word up down ok_high ok_low le small served stands =
      let R : State → Type 0 = λ z. next_of z ≡ s.next in
      let P : State → Type 0 = λ u. Tells a 1 u [] (Some how) R in
      before a 6 1 t [] (Some how) R
      (load_goes a m housed 3 s t x 0 (Number w) (Plain (MoveL (A high) (D 1)) ∷ Plain (SubL (A low) 1) ∷ Plain (Moveq (pos k) 2) ∷ Plain (Trap 4) ∷ items) P (omega arith) place is usable word stands
      (λ t1 first has0 stands1.
      move_goes a m housed 2 t1 (A high) 1 top (Plain (SubL (A low) 1) ∷ Plain (Moveq (pos k) 2) ∷ Plain (Trap 4) ∷ items) P (omega arith) stands1 (reads_address t1 high top (first.addresses high ok_high ∙ up))
      (λ t2 second has1 stands2.
      let bottom_there : address_at t2.registers low ≡ bottom = second.addresses low ok_low ∙ first.addresses low ok_low ∙ down in
      gives a 1 t2 (SubL (A low) 1) 1 (difference_of (data_at t2.registers 1) bottom) (flags_of_difference (data_at t2.registers 1) bottom) (Plain (Moveq (pos k) 2) ∷ Plain (Trap 4) ∷ items) P (omega arith) stands2
      (λ at pc. does_subtract t2 (A low) 1 bottom at pc (reads_address t2 low bottom bottom_there))
      (λ t3 third has2 flags stands3.
      gives a 0 t3 (Moveq (pos k) 2) 2 (unsigned (pos k)) (flags_of_result t3.registers.flags (unsigned (pos k))) (Plain (Trap 4) ∷ items) P (omega arith) stands3 (λ at pc. does_quick t3 k at pc)
      (λ t4 fourth has3 flags2 stands4.
      let zero_there : data_at t4.registers 0 ≡ w = fourth.numbers 0 (omega arith) (λ e. absurd (omega (arith, e))) ∙ third.numbers 0 (omega arith) (λ e. absurd (omega (arith, e))) ∙ second.numbers 0 (omega arith) (λ e. absurd (omega (arith, e))) ∙ has0 in
      let one_there : data_at t4.registers 1 ≡ top - bottom = fourth.numbers 1 (omega arith) (λ e. absurd (omega (arith, e))) ∙ omega (arith, has2, has1, le, small) in
      let next_there : next_of t4 ≡ s.next =
      fourth.addresses 4 (λ e. absurd (omega (arith, e))) ∙ third.addresses 4 (λ e. absurd (omega (arith, e))) ∙ second.addresses 4 (λ e. absurd (omega (arith, e))) ∙ first.addresses 4 (λ e. absurd (omega (arith, e))) ∙ is.next in
      arrived a t4 P (ended a m s housed place t4 4 items how next_there stands4 (λ pc. served (at_pc t4 pc) zero_there one_there has3)))))))

  heap_line : (t : State) (x : Operand) (items : List Item) → Represents m a.labels s t → IsUsable m x → Stands a t (op_items m.homes (op.Service 4 (x ∷ operand.Word 0 ∷ [])) ++ items) → Serves a m s t items 7 (op_effect m s (op.Service 4 (x ∷ operand.Word 0 ∷ [])))
  unfolding op_items service_items full_items
  heap_line t x items is usable stands =
      number_serves a m s t items 7 x (λ w. Ends (Full false w (heap_room m s))) (λ w word. (
        exit.Full false w (heap_room m s),
        refl,
        report t x w 6 4 (heap_end m) s.next 0 (exit.Full false w (heap_room m s)) items is usable word is.end is.next (λ e. absurd (omega (arith, e))) (λ e. absurd (omega (arith, e))) place.next_to (omega (arith, housed.heap))
            (λ u zero_there one_there two_there. rw (zero_there, one_there, two_there) refl)
            (subst (Stands a t) (append_assoc (load_items m.homes x 0 ++ left_items false) (Plain (Trap 4) ∷ []) items ∙ append_assoc (load_items m.homes x 0) (left_items false) (Plain (Trap 4) ∷ items)) stands),
      ))

  stack_line : (t : State) (x : Operand) (items : List Item) → Represents m a.labels s t → IsUsable m x → Stands a t (op_items m.homes (op.Service 4 (x ∷ operand.Word 1 ∷ [])) ++ items) → Serves a m s t items 7 (op_effect m s (op.Service 4 (x ∷ operand.Word 1 ∷ [])))
  unfolding op_items service_items full_items
  stack_line t x items is usable stands =
      number_serves a m s t items 7 x (λ w. Ends (Full true w (stack_room s))) (λ w word. (
        exit.Full true w (stack_room s),
        refl,
        report t x w 7 5 s.top STACK_START 1 (exit.Full true w (stack_room s)) items is usable word is.top is.limit (λ e. absurd (omega (arith, e))) (λ e. absurd (omega (arith, e))) place.top_from (omega (arith, place.top_to, housed.stack))
            (λ u zero_there one_there two_there. rw (zero_there, one_there, two_there) refl)
            (subst (Stands a t) (append_assoc (load_items m.homes x 0 ++ left_items true) (Plain (Trap 4) ∷ []) items ∙ append_assoc (load_items m.homes x 0) (left_items true) (Plain (Trap 4) ∷ items)) stands),
      ))

pub characters_arrive : CharactersArrive
unfolding op_items service_items
characters_arrive x a m s t items housed place is usable stands =
    number_serves a m s t items 6 x (λ w. or_broken (character_of w) (λ code. Puts (code ∷ []))) (λ w word.
    or_serves a m s t items 6 (character_of w) (λ code. Puts (code ∷ [])) (λ code found.
    put_run a m s housed place t x w 1 (code ∷ []) items is usable.0 word (λ u same there. ap (λ (n : ℕ). or_bad (λ c. ServedPuts (c ∷ [])) (character_of n)) there ∙ ap (or_bad (λ c. ServedPuts (c ∷ []))) found) stands))

pub fixnums_arrive : FixnumsArrive
unfolding op_items service_items
fixnums_arrive x a m s t items housed place is usable stands =
    number_serves a m s t items 6 x (λ w. or_broken (fixnum_of w) (λ n. Puts (signed_decimal n))) (λ w word.
    or_serves a m s t items 6 (fixnum_of w) (λ n. Puts (signed_decimal n)) (λ number found.
    put_run a m s housed place t x w 2 (signed_decimal number) items is usable.0 word (λ u same there. ap (λ (n : ℕ). or_bad (λ c. ServedPuts (signed_decimal c)) (fixnum_of n)) there ∙ ap (or_bad (λ c. ServedPuts (signed_decimal c))) found) stands))

pub faults_arrive : FaultsArrive
faults_arrive = record {
  plain = λ x a m s t items housed place is usable stands. plain_fault a m s housed place t x items is usable.0 stands;
  with_fixnum = λ x y a m s t items housed place is usable stands. own_fault a m s housed place t x y items is usable.0 usable.1.0 stands;
}

pub room_reported : RoomReported
room_reported = record {
  heap = λ x a m s t items housed place is usable stands. heap_line a m s housed place t x items is usable.0 stands;
  stack = λ x a m s t items housed place is usable stands. stack_line a m s housed place t x items is usable.0 stands;
}
