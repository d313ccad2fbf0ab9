-- The assembled bytes run as the items do.
use Rattle.std.proofs.Common.{◌≡◌, ℕ, zero, suc, ◌+◌, ◌-◌, ◌%◌, ◌^◌, ◌<◌, ◌≤◌, Bool, true, false, cond, eqb, List, ◌++◌, length, slice_get, slice_index, Option, Some, None, refl, sym, ap, subst, ◌∙◌, append_assoc, arith, inl, inr, option_map, if◌then◌else◌}
use Rattle.std.specs.Prelude.{pos, negsuc}
use Rattle.std.proofs.lemmas.Bool.{cases_lt, lt-ltb, eq-eqb, ne_eqb, eqb-true}
use Rattle.std.proofs.lemmas.Int.{ints}
use Rattle.std.proofs.lemmas.List.{append-nil}
use Rattle.std.proofs.lemmas.Option.{slice_get_within, get_or_from_slice_get}
use Rattle.m68020_code.specs.declared.instr.Cond.{Cond}
use Rattle.m68020_code.specs.declared.instr.Ea.TheVariants.{Abs}
use Rattle.m68020_code.specs.declared.instr.Instr.{Instr}
use Rattle.m68020_code.specs.declared.instr.Instr.TheVariants.{Bcc, Lea}
use Rattle.m68020_code.specs.declared.instr.Width.{Width}
use Rattle.m68020_code.specs.declared.instr.Width.TheVariants.{Byte, Word, Long}
use Rattle.m68020_code.specs.Table.{is_row, spelling}
use Rattle.m68020_code.proofs.Lengths.{spelling_words}
use Rattle.m68020_step.specs.declared.machine.Sizes.{Sizes}
use Rattle.m68020_step.specs.declared.machine.Step.{Step}
use Rattle.m68020_step.specs.declared.registers.Registers.{Registers}
use Rattle.m68020_step.specs.declared.registers.Effect.{Effect}
use Rattle.m68020_step.specs.declared.registers.Effect.TheVariants.{Nothing, WriteByte, WriteLong, Service}
use Rattle.m68020_step.specs.declared.registers.Next.{Next}
use Rattle.m68020_step.specs.declared.registers.Why.{Why}
use Rattle.std.specs.Prelude.{Result, Ok, Err}
use Rattle.m68020_step.specs.ConditionCodes.{holds}
use Rattle.m68020_step.specs.Moves.{load_effective_address}
use Rattle.m68020_step.specs.Operand.{next, with_pc, with_address, address_of}
use Rattle.m68020_step.specs.Step.{State, executed, after, with_effect, next_of, step_of}
use Rattle.m68020_step.specs.Storage.{Regions}
use Rattle.m68020_step.specs.Word.{sum_of, unsigned}
use Rattle.m68020_step.proofs.Executing.{IsAt, step_at}
use Rattle.m68020_step.proofs.Memory.{code_kept}
use Rattle.m68020_step.proofs.Rows.{branch_by}
use Rattle.m68020_asm.specs.declared.item.Item.{Item}
use Rattle.m68020_asm.specs.declared.item.Item.TheVariants.{Plain, Label, Branch, CodeAddr}
use Rattle.m68020_asm.specs.Items.{size_of, size_of_any, code_start, address, IsLabelAt, CanAssemble}
use Rattle.m68020_asm.specs.Widths.{displacement}
use Rattle.m68020_asm.specs.Assembled.{bytes_of, bytes_of_any, code_before, IsAssembled}
use Rattle.m68020_asm.specs.Run.{Program, program_of, address_in, instruction_of, instruction_of_any, instruction_in, or_else, found_at, carried_out, item_step, went_on, reached, machine_after, start_of}
use Rattle.m68020_asm.proofs.Addresses.{wider, address_next_of}
use Rattle.m68020_asm.proofs.LabelPlaces.{address_bound}
use Rattle.m68020_asm.proofs.Emitted.{code_next_of}

-- ---- which instruction stands at an address

-- an instruction's bytes are its item's
bytes_are : (labels : List ℕ) (width : Width) (at : ℕ) (item : Item) (i : Instr) → instruction_of labels width at item ≡ Some i → bytes_of labels item width at ≡ spelling i
bytes_are labels width at (Plain i) j e = let same : i ≡ j = cc in ap spelling same
bytes_are labels width at (Label n) j e = absurd cc
bytes_are labels width at (Branch c n) j e = let same : Bcc c width (displacement at (slice_index labels n)) ≡ j = cc in ap spelling same
bytes_are labels width at (CodeAddr reg n) j e = let same : Lea (Abs (slice_index labels n)) reg ≡ j = cc in ap spelling same

size_is : (labels : List ℕ) (width : Width) (at : ℕ) (item : Item) (i : Instr) → instruction_of labels width at item ≡ Some i → size_of item width ≡ length (spelling i)
size_is labels width at (Plain i) j e = let same : i ≡ j = cc in ap (λ x. length (spelling x)) same
size_is labels width at (Label n) j e = absurd cc
size_is labels Byte at (Branch c n) j e = let same : Bcc c Byte (displacement at (slice_index labels n)) ≡ j = cc in ap (λ x. length (spelling x)) same
size_is labels Word at (Branch c n) j e = let same : Bcc c Word (displacement at (slice_index labels n)) ≡ j = cc in ap (λ x. length (spelling x)) same
size_is labels Long at (Branch c n) j e = let same : Bcc c Long (displacement at (slice_index labels n)) ≡ j = cc in ap (λ x. length (spelling x)) same
size_is labels width at (CodeAddr reg n) j e = let same : Lea (Abs (slice_index labels n)) reg ≡ j = cc in ap (λ x. length (spelling x)) same

size_even : (o : Option Item) (w : Width) → size_of_any o w % 2 ≡ 0
size_even None w = refl
size_even (Some (Plain i)) w = omega (arith, (spelling_words i).length)
size_even (Some (Label n)) w = refl
size_even (Some (Branch c n)) Byte = refl
size_even (Some (Branch c n)) Word = refl
size_even (Some (Branch c n)) Long = refl
size_even (Some (CodeAddr reg n)) w = refl

address_even : (items : List Item) (ws : ℕ → Width) (k : ℕ) → address items ws k % 2 ≡ 0
unfolding address
address_even items ws zero = refl
address_even items ws (suc k) = omega (arith, address_even items ws k, size_even (slice_get items k) (ws k))

-- the place of an instruction that was found
pub record Found (p : Program) (at n : ℕ) (i : Instr) : Type 0 where
  pub place : ℕ
  pub item : Item
  pub within : place < n
  pub here : slice_get p.items place ≡ Some item
  pub address : address_in p place ≡ at
  pub stands : instruction_of p.labels (p.widths place) at item ≡ Some i

later : (p : Program) (at n : ℕ) (i : Instr) → Found p at n i → Found p at (suc n) i
later p at n i f = record { place = f.place; item = f.item; within = omega (arith, f.within); here = f.here; address = f.address; stands = f.stands }

found_here : (p : Program) (at n : ℕ) (i : Instr) (o : Option Item) → slice_get p.items n ≡ o → address_in p n ≡ at → instruction_of_any p.labels (p.widths n) (address_in p n) o ≡ Some i → Found p at (suc n) i
found_here p at n i None there at-is e = absurd cc
found_here p at n i (Some item) there at-is e = record { place = n; item = item; within = omega arith; here = there; address = at-is; stands = subst (λ (x : ℕ). instruction_of p.labels (p.widths n) x item ≡ Some i) at-is e }

pub found : (p : Program) (at n : ℕ) (i : Instr) → found_at p at n ≡ Some i → Found p at n i
unfolding found_at
found p at zero i e = absurd cc
found p at (suc n) i e = by (λ h. later p at n i (found p at n i h)) (eqb (address_in p n) at) refl (instruction_in p n) refl e
  where
    by : (found_at p at n ≡ Some i → Found p at (suc n) i) → (b : Bool) → eqb (address_in p n) at ≡ b → (o : Option Instr) → instruction_in p n ≡ o → cond b (or_else o (found_at p at n)) (found_at p at n) ≡ Some i → Found p at (suc n) i
    by before true t (Some j) is e = found_here p at n i (slice_get p.items n) refl (eqb-true (address_in p n) at t) (is ∙ e)
    by before true t None is e = before e
    by before false t o is e = before e

-- an instruction is found at its address
stands_below : (p : Program) (k n : ℕ) (item : Item) (i : Instr) → k < n → slice_get p.items k ≡ Some item → instruction_of p.labels (p.widths k) (address_in p k) item ≡ Some i → found_at p (address_in p k) n ≡ Some i
unfolding found_at
stands_below p k zero item i lt here is = absurd (omega arith)
stands_below p k (suc n) item i lt here is =
    elim (cases_lt k n) [
      | inl less ↦
          let some = spelling_words i in
          let behind = (wider p.items p.widths p.widths (λ j. omega arith) (k + 1) n (omega arith)).up in
          let past : eqb (address_in p n) (address_in p k) ≡ false = ne_eqb (address_in p n) (address_in p k) (λ e. absurd (omega (arith, behind, address_next_of p.items p.widths k item here, size_is p.labels (p.widths k) (address_in p k) item i is, some.length, some.some))) in
          rw past (stands_below p k n item i less here is)
      | inr ge ↦
          let e : n ≡ k = omega arith in
          let same : eqb (address_in p k) (address_in p k) ≡ true = eq-eqb (address_in p k) (address_in p k) refl in
          rw (e, same, here, is) refl
    ]

pub stands : (p : Program) (k : ℕ) (item : Item) (i : Instr) → slice_get p.items k ≡ Some item → instruction_of p.labels (p.widths k) (address_in p k) item ≡ Some i → found_at p (address_in p k) (length p.items) ≡ Some i
stands p k item i here is = stands_below p k (length p.items) item i (slice_get_within p.items k item here) here is

-- behind an instruction the next place is
pub next_place : (p : Program) (k : ℕ) (item : Item) (i : Instr) → slice_get p.items k ≡ Some item → instruction_of p.labels (p.widths k) (address_in p k) item ≡ Some i → address_in p k + length (spelling i) ≡ address_in p (k + 1)
next_place p k item i here is = omega (arith, address_next_of p.items p.widths k item here, size_is p.labels (p.widths k) (address_in p k) item i is)

-- One step of the items at a place.
pub item_step_at : (p : Program) (s : State) (k : ℕ) (item : Item) (i : Instr) → s.registers.pc ≡ address_in p k → slice_get p.items k ≡ Some item → instruction_of p.labels (p.widths k) (address_in p k) item ≡ Some i
    → item_step p s ≡ Some (after s (executed s.storage (address_in p k) (with_pc s.registers (address_in p (k + 1))) i))
item_step_at p s k item i pc here is =
    rw (pc, stands p k item i here is, next_place p k item i here is) refl

-- a label has no bytes: who is at it is at the next place
pub behind_label : (p : Program) (n k : ℕ) → IsLabelAt p.items n k → address_in p (k + 1) ≡ address_in p k
behind_label p n k here = omega (arith, address_next_of p.items p.widths k (Label n) here)

-- ---- what a step changes

after_keeps_code : (s : State) (r : Result Next Why) → (after s r).1.storage.code ≡ s.storage.code
after_keeps_code s (Ok n) = by n.effect
  where
    by : (e : Effect) → (with_effect s.storage e).code ≡ s.storage.code
    by Nothing = refl
    by (WriteByte at value) = code_kept s.storage at _
    by (WriteLong at value) = code_kept s.storage at _
    by (Service vector) = refl
after_keeps_code s (Err why) = refl

pub step_keeps_code : (s : State) → (step_of s).1.storage.code ≡ s.storage.code
unfolding step_of
step_keeps_code s = after_keeps_code s (next_of s)

-- a displacement leads from the address plus 2 to the label
lands : (from to : ℕ) → from ≤ code_start + 2 ^ 28 → to ≤ code_start + 2 ^ 28 → sum_of (from + 2) (unsigned (displacement from to)) ≡ to
lands from to f t =
    elim (cases_lt to (from + 2)) [
      | inl lt ↦
          let back : displacement from to ≡ negsuc (from + 1 - to) = omega (arith, ints) in
          rw back (omega arith)
      | inr ge ↦
          let ahead : displacement from to ≡ pos (to - (from + 2)) = omega (arith, ints) in
          rw ahead (omega arith)
    ]

-- ---- assembled items

code_split : (items : List Item) (ws : ℕ → Width) (labels : List ℕ) (k n : ℕ) → k ≤ n → (rest : List ℕ) × (code_before items ws labels n ≡ code_before items ws labels k ++ rest)
unfolding code_before
code_split items ws labels k zero le = let e : k ≡ 0 = omega arith in rw e (_, sym (append-nil (code_before items ws labels 0)))
code_split items ws labels k (suc n) le =
    elim (cases_lt k (suc n)) [
      | inl lt ↦
          let before = code_split items ws labels k n (omega arith) in
          (before.0 ++ bytes_of_any labels (slice_get items n) (ws n) (address items ws n), ap (λ x. x ++ bytes_of_any labels (slice_get items n) (ws n) (address items ws n)) before.1 ∙ append_assoc (code_before items ws labels k) before.0 _)
      | inr ge ↦ let e : k ≡ suc n = omega arith in rw e (_, sym (append-nil (code_before items ws labels (suc n))))
    ]

module _ (items : List Item) (bytes labels : List ℕ) (can : CanAssemble items) (h : IsAssembled items bytes labels) where
  -- a label is listed with the address of its place
  pub label_address : (n k : ℕ) → IsLabelAt items n k → slice_index labels n ≡ address items h.widths k
  label_address n k there = get_or_from_slice_get labels n (address items h.widths k) 0 (h.labelled n k there)

  label_bound : (n k : ℕ) → IsLabelAt items n k → slice_index labels n ≤ code_start + 2 ^ 28
  label_bound n k there = omega (arith, label_address n k there, address_bound items h.widths k can (omega (arith, slice_get_within items k (Label n) there)))

  -- the run starts at the entry's place, with the assembled code
  pub starts : (statics : List ℕ) (entry k : ℕ) (sizes : Sizes) → IsLabelAt items entry k → let s : State = start_of (program_of items bytes labels h) bytes statics entry sizes in (s.registers.pc ≡ address items h.widths k) × (s.storage.code ≡ bytes)
  starts statics entry k sizes there = (label_address entry k there, refl)

  -- each is a row of the table
  pub row_of : (k : ℕ) (item : Item) (i : Instr) → slice_get items k ≡ Some item → instruction_of labels (h.widths k) (address items h.widths k) item ≡ Some i → is_row i ≡ true
  row_of k (Plain i) j here is = let same : i ≡ j = cc in subst (λ x. is_row x ≡ true) same (can.rows k (Plain i) here).0
  row_of k (Label n) j here is = absurd cc
  row_of k (Branch c n) j here is =
      let same : Bcc c (h.widths k) (displacement (address items h.widths k) (slice_index labels n)) ≡ j = cc in
      let at = can.each n (can.branches k n c here) in
      subst (λ x. is_row x ≡ true) same (rw (label_address n at.0 at.1) (h.fits k at.0 n c here at.1))
  row_of k (CodeAddr reg n) j here is =
      let same : Lea (Abs (slice_index labels n)) reg ≡ j = cc in
      let at = can.each n (can.addresses k n reg here) in
      subst (λ x. is_row x ≡ true) same (rw (lt-ltb (slice_index labels n) (2 ^ 32) (omega (arith, label_bound n at.0 at.1)), lt-ltb reg 8 (can.rows k (CodeAddr reg n) here)) refl)

  -- and its bytes stand at the program counter
  pub is_at : (s : State) (k : ℕ) (item : Item) (i : Instr) → s.storage.code ≡ bytes → s.registers.pc ≡ address items h.widths k → slice_get items k ≡ Some item → instruction_of labels (h.widths k) (address items h.widths k) item ≡ Some i
      → (rest : List ℕ) × IsAt s (code_before items h.widths labels k) (spelling i ++ rest)
  is_at s k item i code pc here is =
      let within = slice_get_within items k item here in
      let front = code_before items h.widths labels k in
      let split = code_split items h.widths labels (k + 1) (length items) (omega arith) in
      let next : code_before items h.widths labels (k + 1) ≡ front ++ spelling i = code_next_of items h.widths labels k item here ∙ ap (λ x. front ++ x) (bytes_are labels (h.widths k) (address items h.widths k) item i is) in
      let whole : s.storage.code ≡ front ++ (spelling i ++ split.0) = code ∙ h.spelled ∙ split.1 ∙ ap (λ x. x ++ split.0) next ∙ append_assoc front (spelling i) split.0 in
      let all = h.placed (length items) (omega arith) in (
        split.0,
        record {
          code = whole;
          pc = omega (arith, pc, h.placed k (omega arith));
          even = omega (arith, h.placed k (omega arith), address_even items h.widths k);
          small = omega (arith, ap length (code ∙ h.spelled), all, address_bound items h.widths (length items) can (omega arith));
        },
      )

  -- One step of the machine at an item's place, behind which the next place is.
  pub machine_step_at : (s : State) (k : ℕ) (item : Item) (i : Instr) → s.storage.code ≡ bytes → s.registers.pc ≡ address items h.widths k → slice_get items k ≡ Some item → instruction_of labels (h.widths k) (address items h.widths k) item ≡ Some i
      → step_of s ≡ carried_out s i
  machine_step_at s k item i code pc here is =
      let at = is_at s k item i code pc here is in
      step_at s (code_before items h.widths labels k) i at.0 (row_of k item i here is) at.1

  -- A step of the items is the machine's.
  pub step_alike : (s : State) (x : Step × State) → s.storage.code ≡ bytes → item_step (program_of items bytes labels h) s ≡ Some x → step_of s ≡ x
  step_alike s x code e = by (found_at (program_of items bytes labels h) s.registers.pc (length items)) refl e
    where
      by : (o : Option Instr) → found_at (program_of items bytes labels h) s.registers.pc (length items) ≡ o → option_map (carried_out s) o ≡ Some x → step_of s ≡ x
      by None f e = absurd cc
      by (Some i) f e =
          let at = found (program_of items bytes labels h) s.registers.pc (length items) i f in
          let is : instruction_of labels (h.widths at.place) (address items h.widths at.place) at.item ≡ Some i = subst (λ (a : ℕ). instruction_of labels (h.widths at.place) a at.item ≡ Some i) (sym at.address) at.stands in
          let same : carried_out s i ≡ x = cc in
          machine_step_at s at.place at.item i code (sym at.address) at.here is ∙ same

  moved : (s t : State) (o : Option (Step × State)) → s.storage.code ≡ bytes → item_step (program_of items bytes labels h) s ≡ o → option_map (λ x. x.1) o ≡ Some t → ((step_of s).1 ≡ t) × (t.storage.code ≡ bytes)
  moved s t None code is e = absurd cc
  moved s t (Some x) code is e =
      let same : x.1 ≡ t = cc in
      let there : (step_of s).1 ≡ t = ap (λ (y : Step × State). y.1) (step_alike s x code is) ∙ same in
      (there, subst (λ (u : State). u.storage.code ≡ bytes) there (step_keeps_code s ∙ code))

  -- The machine runs as the items do, as long as an item stands at each step.
  pub run_alike : (s t : State) (n : ℕ) → s.storage.code ≡ bytes → reached (program_of items bytes labels h) s n ≡ Some t → (machine_after s n ≡ t) × (t.storage.code ≡ bytes)
  unfolding reached machine_after
  run_alike s t zero code e = let same : s ≡ t = cc in (same, subst (λ (u : State). u.storage.code ≡ bytes) same code)
  run_alike s t (suc n) code e = by (λ u r. run_alike s u n code r) (reached (program_of items bytes labels h) s n) refl e
    where
      by : ((u : State) → reached (program_of items bytes labels h) s n ≡ Some u → (machine_after s n ≡ u) × (u.storage.code ≡ bytes)) → (o : Option State) → reached (program_of items bytes labels h) s n ≡ o → went_on (program_of items bytes labels h) o ≡ Some t
          → ((step_of (machine_after s n)).1 ≡ t) × (t.storage.code ≡ bytes)
      by before None r e = absurd cc
      by before (Some u) r e =
          let so_far = before u r in
          rw so_far.0 (moved u t (item_step (program_of items bytes labels h) u) so_far.1 refl e)

  -- a branch goes to its label's place, or on
  pub branch_goes : (m : Regions) (r : Registers) (k j n : ℕ) (c : Cond) → slice_get items k ≡ Some (Branch c n) → IsLabelAt items n j
      → executed m (address items h.widths k) r (Bcc c (h.widths k) (displacement (address items h.widths k) (slice_index labels n))) ≡ next (if holds c r.flags then with_pc r (address items h.widths j) else r) Nothing
  branch_goes m r k j n c here there =
      let from = address_bound items h.widths k can (omega (arith, slice_get_within items k (Branch c n) here)) in
      let to = address_bound items h.widths j can (omega (arith, slice_get_within items j (Label n) there)) in
      rw (label_address n j there) (branch_by m (address items h.widths k) r c (h.widths k) (displacement (address items h.widths k) (address items h.widths j)) ∙ ap (λ (at : ℕ). next (if holds c r.flags then with_pc r at else r) Nothing) (lands (address items h.widths k) (address items h.widths j) from to))

-- CodeAddr: the address register holds the label's address.
pub address_taken : (m : Regions) (at : ℕ) (r : Registers) (a reg : ℕ) → executed m at r (Lea (Abs a) reg) ≡ next (with_address r reg a) Nothing
unfolding executed load_effective_address address_of
address_taken m at r a reg = refl
