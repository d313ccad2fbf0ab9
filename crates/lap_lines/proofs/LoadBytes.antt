-- A byte of storage goes into a home.
use Rattle.std.proofs.Common.{◌≡◌, ℕ, suc, ◌+◌, ◌*◌, ◌/◌, ◌%◌, ◌^◌, ◌<◌, Bool, true, false, List, [], ◌∷◌, ◌++◌, Option, Some, None, refl, ap, sym, subst, ◌∙◌, arith, append_assoc}
use Rattle.std.specs.Prelude.{if◌then◌else◌, option_map, ℤ, pos, ◌+ℤ◌}
use Rattle.std.specs.Option.{option_and_then}
use Rattle.std.proofs.lemmas.List.{get_or-set_same, get_or-set_other}
use Rattle.t_base.specs.declared.basics.Var.{Var}
use Rattle.word_ir.specs.declared.operands.Operand.{Operand}
use Rattle.word_ir.specs.declared.operands.Operand.TheVariants as operand
use Rattle.word_ir.specs.declared.words.WordOp.TheVariants as op
use Rattle.word_ir.specs.Word.{Word, Number, Code, number_of, byte_of, moved, wrap, unsigned}
use Rattle.word_ir.specs.Whole.{is_signed}
use Rattle.word_ir.specs.Storage.{byte_at as word_byte}
use Rattle.word_ir.specs.State.{Setting, State as WordState, keeper_of, has_room, word_at}
use Rattle.word_ir.specs.Effects.{Binds, word_of, with_number, with_byte_at, binds, op_effect}
use Rattle.word_ir.specs.Step.{changed}
use Rattle.word_ir.specs.Ranges.{IsInPlace}
use Rattle.m68020_code.specs.declared.instr.Ea.{Ea}
use Rattle.m68020_code.specs.declared.instr.Ea.TheVariants.{D}
use Rattle.m68020_code.specs.declared.instr.Ea.TheVariants as ea
use Rattle.m68020_code.specs.declared.instr.Instr.TheVariants.{MoveaL, MoveB, Moveq, AddiL}
use Rattle.m68020_code.specs.Table.{fits}
use Rattle.m68020_step.specs.declared.registers.Effect.TheVariants.{Nothing}
use Rattle.m68020_step.specs.declared.registers.Flags.{Flags}
use Rattle.m68020_step.specs.Arithmetic.{add_immediate}
use Rattle.m68020_step.specs.ConditionCodes.{flags_of_result, flags_of_sum, flags_of_byte}
use Rattle.m68020_step.specs.Moves.{move_quick, move_byte}
use Rattle.m68020_step.specs.Operand.{next, with_pc, with_data, with_flags, data_at, address_at, located, address_of, index_of, read_long, store_long, change_long, read_byte, byte_operand, store_byte}
use Rattle.m68020_step.specs.Step.{State, executed}
use Rattle.m68020_step.specs.Ranges.{HasBytes}
use Rattle.m68020_step.specs.Storage.{Regions, byte_at}
use Rattle.m68020_step.specs.Word.{sum_of, with_low_byte}
use Rattle.m68020_asm.specs.declared.item.Item.{Item}
use Rattle.m68020_asm.specs.declared.item.Item.TheVariants.{Plain}
use Rattle.lap_items.specs.Homes.{home_of, put_into}
use Rattle.lap_items.specs.Operands.{index_d, source_items, source_of, load_items}
use Rattle.lap_items.specs.Storage.{index_items, short_of, byte_base_items, byte_of as byte_operand_of, read_byte_items}
use Rattle.lap_items.specs.Operations.{op_items}
use Rattle.lap_runs.specs.Represents.{Represents}
use Rattle.lap_paths.specs.Paths.{Assembly, Stands, Path, Beside}
use Rattle.lap_paths.specs.Housed.{IsHoused, HasHome, IsUsable}
use Rattle.lap_paths.proofs.Steps.{act, widen}
use Rattle.lap_paths.proofs.Besides.{beside_represents, beside_data}
use Rattle.lap_paths.proofs.Loads.{move_base_goes, source_goes}
use Rattle.lap_lines.specs.Arrives.{Behind, Arrives}
use Rattle.lap_lines.proofs.Numbers.{address_moved, slot_moved}
use Rattle.lap_lines.proofs.Arriving.{or_arrives, number_arrives, kept_arrives}
use Rattle.lap_lines.proofs.Access.{reached_small}
use Rattle.lap_lines.proofs.Alu.{gives}
use Rattle.lap_lines.proofs.Bytes.{byte_there}
use Rattle.lap_lines.proofs.Sums.{loaded, number_bound}

-- ---- single instructions

does_quick : (t : State) (at pc : ℕ) → executed t.storage at (with_pc t.registers pc) (Moveq (pos 0) 6) ≡ next (with_flags (with_data (with_pc t.registers pc) 6 0) (flags_of_result t.registers.flags 0)) Nothing
unfolding executed move_quick
does_quick t at pc = refl

does_add_immediate : (t : State) (n at pc : ℕ) → executed t.storage at (with_pc t.registers pc) (AddiL n (D 7))
    ≡ next (with_flags (with_data (with_pc t.registers pc) 7 (sum_of (data_at t.registers 7) n)) (flags_of_sum (data_at t.registers 7) n)) Nothing
unfolding executed add_immediate change_long located read_long store_long
does_add_immediate t n at pc = refl

-- the byte at the address that a base and D7 make
does_byte : (t : State) (base : ℕ) (z : ℤ) (place byte at pc : ℕ) → sum_of (sum_of (address_at t.registers base) (unsigned z)) (wrap (data_at t.registers 7 * 2 ^ 0)) ≡ place → byte_at t.storage place ≡ Some byte → data_at t.registers 6 ≡ 0
    → executed t.storage at (with_pc t.registers pc) (MoveB (ea.Index base (index_d 7) z) (D 6)) ≡ next (with_flags (with_data (with_pc t.registers pc) 6 byte) (flags_of_byte t.registers.flags byte)) Nothing
unfolding executed move_byte byte_operand located address_of index_of read_byte store_byte
does_byte t base z place byte at pc is there clear =
    let low : with_low_byte (data_at t.registers 6) byte ≡ byte = omega (arith, clear) in
    rw (is, there) (ap (λ (n : ℕ). next (with_flags (with_data (with_pc t.registers pc) 6 n) (flags_of_byte t.registers.flags byte)) Nothing) low)

-- ---- what the words' byte is

pub record HasByte (m : Setting) (s : WordState) (at n : ℕ) : Type 0 where
  pub whole : ℕ
  pub there : word_at m s (at / 4 * 4) ≡ Some (Number whole)
  pub part : n ≡ byte_of whole (at % 4)

has_byte : (m : Setting) (s : WordState) (at n : ℕ) → word_byte (word_at m s) at ≡ Some n → HasByte m s at n
has_byte m s at n is = by (word_at m s (at / 4 * 4)) refl is
  where
    by : (o : Option Word) → word_at m s (at / 4 * 4) ≡ o → option_map (λ x. byte_of x (at % 4)) (option_and_then number_of o) ≡ Some n → HasByte m s at n
    by None e is = absurd (cc)
    by (Some (Code b)) e is = absurd (cc)
    by (Some (Number k)) e is = record { whole = k; there = e; part = cc }

module _ (a : Assembly) (m : Setting) (s : WordState) (housed : IsHoused m) (place : IsInPlace m s) where
  -- a distance goes into the index where it is far
  index_goes : (n : ℕ) (t : State) (z : ℤ) (long i sum : ℕ) (items : List Item) (Q : State → Type 0) → data_at t.registers 7 ≡ i → sum_of (unsigned z) i ≡ sum → sum_of i long ≡ sum → Stands a t (index_items z long ++ items)
      → ((u : State) → Beside 7 t u → ((k : ℕ) → address_at u.registers k ≡ address_at t.registers k) → sum_of (unsigned (short_of z)) (data_at u.registers 7) ≡ sum → Stands a u items → Path a (suc n) u Q) → Path a (suc (suc n)) t Q
  index_goes n t z long i sum items Q is near far stands rest = by_test (fits 128 z) refl
    where
      by_test : (b : Bool) → fits 128 z ≡ b → Path a (suc (suc n)) t Q
      by_test true e =
          let short : short_of z ≡ z = rw e refl in
          widen a (suc n) (suc (suc n)) t Q (omega arith) (omega arith)
          (rest t (record { storage = refl; numbers = λ i lt ne. refl; addresses = λ i ne. refl }) (λ k. refl) (ap (λ (x : ℤ). sum_of (unsigned x) (data_at t.registers 7)) short ∙ ap (λ (x : ℕ). sum_of (unsigned z) x) is ∙ near)
          (subst (λ b. Stands a t ((if b then [] else Plain (AddiL long (D 7)) ∷ []) ++ items)) e stands))
      by_test false e =
          let none : short_of z ≡ pos 0 = rw e refl in
          let d : ℕ = sum_of (data_at t.registers 7) long in
          let f : Flags = flags_of_sum (data_at t.registers 7) long in
          let here : Stands a t (Plain (AddiL long (D 7)) ∷ items) = subst (λ b. Stands a t ((if b then [] else Plain (AddiL long (D 7)) ∷ []) ++ items)) e stands in
          act a (suc n) t (Plain (AddiL long (D 7))) (AddiL long (D 7)) items (λ pc. with_flags (with_data (with_pc t.registers pc) 7 d) f) Nothing Q here
          (λ width at. refl) (λ at pc. does_add_immediate t long at pc) refl (λ pc. refl) (λ pc. omega arith)
          (λ pc stands2.
          let u : State = record { registers = with_flags (with_data (with_pc t.registers pc) 7 d) f; storage = t.storage } in
          let there : data_at u.registers 7 ≡ d = get_or-set_same t.registers.d 7 d 0 (omega (arith, stands.range.registers.d_count)) in
          rest u (beside_data t pc 7 d f) (λ k. refl) (ap (λ (x : ℤ). sum_of (unsigned x) (data_at u.registers 7)) none ∙ indexed (data_at u.registers 7) (data_at t.registers 7) there is) stands2)
        where
          indexed : (d e : ℕ) → d ≡ sum_of e long → e ≡ i → sum_of 0 d ≡ sum
          indexed d e x y = omega (arith, x, y, far)

  abbrev behind_base : Var → Ea → List Item → List Item
  behind_base to from items = Plain (Moveq (pos 0) 6) ∷ Plain (MoveB from (D 6)) ∷ put_into (D 6) (home_of m.homes to) ∷ items

  -- the byte is read and put
  byte_goes : (t : State) (base : ℕ) (z : ℤ) (sum at byte : ℕ) (to : Var) (items : List Item) → Represents m a.labels s t → HasHome m to → has_room s (keeper_of m.homes to) ≡ true → sum_of (unsigned z) (data_at t.registers 7) ≡ sum
      → sum_of (address_at t.registers base) sum ≡ at → byte_at t.storage at ≡ Some byte → Stands a t (behind_base to (ea.Index base (index_d 7) z) items)
      → Path a 3 t (Behind a m (changed s (Binds (keeper_of m.homes to) (Number byte))) items)
  byte_goes t base z sum at byte to items is has room index total there stands =
      let Q : State → Type 0 = Behind a m (changed s (Binds (keeper_of m.homes to) (Number byte))) items in
      act a 2 t (Plain (Moveq (pos 0) 6)) (Moveq (pos 0) 6) _ (λ pc. with_flags (with_data (with_pc t.registers pc) 6 0) (flags_of_result t.registers.flags 0)) Nothing Q stands
      (λ width at. refl) (λ at2 pc. does_quick t at2 pc) refl (λ pc. refl) (λ pc. omega arith)
      (λ pc stands2.
      let u : State = record { registers = with_flags (with_data (with_pc t.registers pc) 6 0) (flags_of_result t.registers.flags 0); storage = t.storage } in
      let clear : data_at u.registers 6 ≡ 0 = get_or-set_same t.registers.d 6 0 0 (omega (arith, stands.range.registers.d_count)) in
      let seven : data_at u.registers 7 ≡ data_at t.registers 7 = get_or-set_other t.registers.d 6 7 0 0 (λ e. absurd (omega (arith, e))) in
      let at_u : Represents m a.labels s u = beside_represents m a.labels 6 s t u housed (omega arith) is (beside_data t pc 6 0 (flags_of_result t.registers.flags 0)) in
      let made : sum_of (sum_of (address_at u.registers base) (unsigned z)) (wrap (data_at u.registers 7 * 2 ^ 0)) ≡ at = address_made (address_at t.registers base) (unsigned z) (data_at t.registers 7) (data_at u.registers 7) seven index total in
      gives a 1 u (MoveB (ea.Index base (index_d 7) z) (D 6)) 6 byte (flags_of_byte u.registers.flags byte) _ Q (omega arith) stands2 (λ at2 pc2. does_byte u base z at byte at2 pc2 made there clear)
      (λ v more has_it flags stands3. number_bound a m s housed place v items to 6 byte byte has (beside_represents m a.labels 6 s u v housed (omega arith) at_u more) has_it refl stands3 room))
    where
      address_made : (b o d e : ℕ) → e ≡ d → sum_of o d ≡ sum → sum_of b sum ≡ at → sum_of (sum_of b o) (wrap (e * 2 ^ 0)) ≡ at
      address_made b o d e same x y = omega (arith, same, x, y)

  -- ---- the line

  -- the base is in A3
  from_base : (t : State) (x : Operand) (z : ℤ) (at i byte : ℕ) (to : Var) (items : List Item) → Represents m a.labels s t → IsUsable m x → HasHome m to → has_room s (keeper_of m.homes to) ≡ true → word_of m s x ≡ Some (Number at)
      → data_at t.registers 7 ≡ i → is_signed (2 ^ 31) z ≡ true → moved (at + i) z < 2 ^ 32 → byte_at t.storage (moved (at + i) z) ≡ Some byte
      → Stands a t (source_items x ++ Plain (MoveaL (source_of m.homes x) 3) ∷ (index_items z (unsigned z) ++ behind_base to (ea.Index 3 (index_d 7) (short_of z)) items))
      → Path a 8 t (Behind a m (changed s (Binds (keeper_of m.homes to) (Number byte))) items)
  from_base t x z at i byte to items is usable has room word index small near there stands =
      let Q : State → Type 0 = Behind a m (changed s (Binds (keeper_of m.homes to) (Number byte))) items in
      let rest : List Item = behind_base to (ea.Index 3 (index_d 7) (short_of z)) items in
      source_goes a m housed 5 s t x (Number at) (Plain (MoveaL (source_of m.homes x) 3) ∷ (index_items z (unsigned z) ++ rest)) Q place is usable word stands
      (λ u beside reads stands2.
      let at_u = beside_represents m a.labels 8 s t u housed (omega arith) is beside in
      move_base_goes a m housed 5 u (source_of m.homes x) at (index_items z (unsigned z) ++ rest) Q stands2 reads
      (λ v more base stands3.
      let at_v = beside_represents m a.labels 8 s u v housed (omega arith) at_u more in
      let seven : data_at v.registers 7 ≡ i = more.numbers 7 (omega arith) (λ e. absurd (omega (arith, e))) ∙ beside.numbers 7 (omega arith) (λ e. absurd (omega (arith, e))) ∙ index in
      index_goes 3 v z (unsigned z) i (sum_of (unsigned z) i) rest Q seven refl (omega arith) stands3
      (λ w third same sum stands4.
      let at_w = beside_represents m a.labels 7 s v w housed (omega arith) at_v third in
      let total : sum_of (address_at w.registers 3) (sum_of (unsigned z) i) ≡ moved (at + i) z = ap (λ (b : ℕ). sum_of b (sum_of (unsigned z) i)) (same 3 ∙ base) ∙ added at i (unsigned z) ∙ address_moved (at + i) z small near in
      widen a 3 4 w Q (omega arith) (omega arith)
      (byte_goes w 3 (short_of z) (sum_of (unsigned z) i) (moved (at + i) z) byte to items at_w has room sum total
      (ap (λ (r : Regions). byte_at r (moved (at + i) z)) (third.storage ∙ more.storage ∙ beside.storage) ∙ there) stands4))))
    where
      added : (b i o : ℕ) → sum_of b (sum_of o i) ≡ sum_of (b + i) o
      added b i o = omega arith

  from_slot : (t : State) (bytes : ℕ) (z : ℤ) (i byte : ℕ) (to : Var) (items : List Item) → Represents m a.labels s t → bytes < 2 ^ 32 → HasHome m to → has_room s (keeper_of m.homes to) ≡ true
      → data_at t.registers 7 ≡ i → is_signed (2 ^ 31) z ≡ true → moved (wrap (s.top + bytes) + i) z < 2 ^ 32 → byte_at t.storage (moved (wrap (s.top + bytes) + i) z) ≡ Some byte
      → Stands a t (index_items (pos bytes +ℤ z) (sum_of bytes (unsigned z)) ++ behind_base to (ea.Index 7 (index_d 7) (short_of (pos bytes +ℤ z))) items)
      → Path a 8 t (Behind a m (changed s (Binds (keeper_of m.homes to) (Number byte))) items)
  from_slot t bytes z i byte to items is usable has room index small near there stands =
      let Q : State → Type 0 = Behind a m (changed s (Binds (keeper_of m.homes to) (Number byte))) items in
      let rest : List Item = behind_base to (ea.Index 7 (index_d 7) (short_of (pos bytes +ℤ z))) items in
      let sum : ℕ = sum_of i (sum_of bytes (unsigned z)) in
      widen a 5 8 t Q (omega arith) (omega arith)
      (index_goes 3 t (pos bytes +ℤ z) (sum_of bytes (unsigned z)) i sum rest Q index (turned (unsigned (pos bytes +ℤ z)) i ∙ slot_moved bytes z i usable small) refl stands
      (λ w third same made stands4.
      let at_w = beside_represents m a.labels 7 s t w housed (omega arith) is third in
      let total : sum_of (address_at w.registers 7) sum ≡ moved (wrap (s.top + bytes) + i) z = ap (λ (b : ℕ). sum_of b sum) (same 7 ∙ is.top) ∙ added s.top bytes i (unsigned z) ∙ address_moved (wrap (s.top + bytes) + i) z small near in
      widen a 3 4 w Q (omega arith) (omega arith)
      (byte_goes w 7 (short_of (pos bytes +ℤ z)) sum (moved (wrap (s.top + bytes) + i) z) byte to items at_w has room made total
      (ap (λ (r : Regions). byte_at r (moved (wrap (s.top + bytes) + i) z)) third.storage ∙ there) stands4)))
    where
      turned : (x y : ℕ) → sum_of x y ≡ sum_of y x
      turned x y = omega arith

      added : (top b i o : ℕ) → sum_of top (sum_of i (sum_of b o)) ≡ sum_of (wrap (top + b) + i) o
      added top b i o = omega arith

  -- the byte that the words have is that of storage
  stands_there : (t : State) (at n : ℕ) → Represents m a.labels s t → HasBytes t.storage → HasByte m s at n → (at < 2 ^ 32) × (byte_at t.storage at ≡ Some n)
  stands_there t at n is range b =
      let low : at / 4 * 4 < 2 ^ 32 = reached_small m s (at / 4 * 4) (Number b.whole) housed place b.there in
      let same : at / 4 * 4 + at % 4 ≡ at = omega arith in
      (omega (arith, low, same), subst (λ k. byte_at t.storage k ≡ Some n) same (byte_there t.storage (at / 4 * 4) (at % 4) b.whole range (omega arith) (omega arith) (is.words (at / 4 * 4) (Number b.whole) b.there).0 ∙ ap Some (sym b.part)))

  bytes_line : (to : Var) (items : List Item) (z : ℤ) → HasHome m to → is_signed (2 ^ 31) z ≡ true → (x : Operand) (at : ℕ) (u : State) (i n : ℕ) → IsUsable m x → word_of m s x ≡ Some (Number at) → has_room s (keeper_of m.homes to) ≡ true → Represents m a.labels s u → data_at u.registers 7 ≡ i → moved (at + i) z < 2 ^ 32
      → byte_at u.storage (moved (at + i) z) ≡ Some n → Stands a u (byte_base_items m.homes x z ++ (Plain (Moveq (pos 0) 6) ∷ Plain (MoveB (byte_operand_of x z) (D 6)) ∷ put_into (D 6) (home_of m.homes to) ∷ items))
      → Path a 8 u (Behind a m (changed s (Binds (keeper_of m.homes to) (Number n))) items)
  unfolding byte_base_items byte_operand_of
  bytes_line to items z has small (operand.Var v) at u i n usable word room at_u seven near there stands = from_base u (operand.Var v) z at i n to items at_u usable has room word seven small near there stands
  bytes_line to items z has small (operand.Word k) at u i n usable word room at_u seven near there stands = from_base u (operand.Word k) z at i n to items at_u usable has room word seven small near there stands
  bytes_line to items z has small (operand.Static p) at u i n usable word room at_u seven near there stands = from_base u (operand.Static p) z at i n to items at_u usable has room word seven small near there stands
  bytes_line to items z has small (operand.Code c) at u i n usable word room at_u seven near there stands = absurd (cc)
  bytes_line to items z has small (operand.Slot bytes) at u i n usable word room at_u seven near there stands =
      let same : at ≡ wrap (s.top + bytes) = cc in
      from_slot u bytes z i n to items at_u usable has room seven small (subst (λ (k : ℕ). moved (k + i) z < 2 ^ 32) same near) (subst (λ (k : ℕ). byte_at u.storage (moved (k + i) z) ≡ Some n) same there) stands

  pub load_byte_line : (t : State) (items : List Item) (to : Var) (x index : Operand) (z : ℤ) → Represents m a.labels s t → HasHome m to → IsUsable m x → IsUsable m index → is_signed (2 ^ 31) z ≡ true
      → Stands a t (op_items m.homes (op.LoadByte to x index z) ++ items) → Arrives a m s t items 11 (op_effect m s (op.LoadByte to x index z))
  unfolding op_items read_byte_items
  load_byte_line t items to x index z is has usable usable_index small stands =
      number_arrives a m s t items 11 x (λ at. with_number m s index (λ i. with_byte_at m s (moved (at + i) z) (λ n. binds m s to (Number n)))) (λ at word.
      number_arrives a m s t items 11 index (λ i. with_byte_at m s (moved (at + i) z) (λ n. binds m s to (Number n))) (λ i second.
      or_arrives a m s t items 11 (word_byte (word_at m s) (moved (at + i) z)) (λ n. binds m s to (Number n)) (λ n e.
      kept_arrives a m s t items 11 (keeper_of m.homes to) (λ k. Binds k (Number n)) (λ room.
      let last : List Item = Plain (Moveq (pos 0) 6) ∷ Plain (MoveB (byte_operand_of x z) (D 6)) ∷ put_into (D 6) (home_of m.homes to) ∷ [] in
      loaded a m s housed place t index 7 i 8 (byte_base_items m.homes x z ++ (last ++ items)) items (Binds (keeper_of m.homes to) (Number n)) (omega arith) (omega arith) is usable_index second
      (subst (Stands a t) (append_assoc (load_items m.homes index 7 ++ byte_base_items m.homes x z) last items ∙ append_assoc (load_items m.homes index 7) (byte_base_items m.homes x z) (last ++ items)) stands)
      (λ u p. let b = stands_there u (moved (at + i) z) n p.0 p.3.range.storage (has_byte m s (moved (at + i) z) n e) in bytes_line to items z has small x at u i n usable word room p.0 p.2 b.0 b.1 p.3)))))
