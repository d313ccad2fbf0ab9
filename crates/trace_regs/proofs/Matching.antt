-- What a line does with homes is what it does without, or the run without them breaks.
use Rattle.std.proofs.Common.{◌≡◌, ℕ, zero, suc, ◌+◌, ◌*◌, ◌%◌, ◌/◌, ◌==◌, nat_lt, Bool, true, false, if◌then◌else◌, List, [], ◌∷◌, ◌++◌, length, map, slice_get, Option, Some, None, is_some, option_map, option_and_then, Contains, refl, sym, ap, subst, ◌∙◌, arith}
use Rattle.std.specs.Fmt.{signed_decimal}
use Rattle.std.specs.List.{AllByRecursion, flat_map}
use Rattle.std.proofs.lemmas.List.Elements.{Contains-append_left, Contains-append_right}
use Rattle.t_base.specs.declared.basics.Var.{Var}
use Rattle.t_base.specs.declared.faults.Fault.{Fault}
use Rattle.program_runs.specs.Runs.{End, Value, Faulted}
use Rattle.word_faces.specs.Faces.{fixnum_of, character_of, face_of, shown_of}
use Rattle.word_faces.specs.Operands.{fault_of, string_of}
use Rattle.word_faces.specs.Laws.{Alike}
use Rattle.word_faces.proofs.Alike.{alike_same, alike_map, alike_then, faces_read_alike, strings_read_alike}
use Rattle.word_ir.specs.declared.operands.Operand.{Operand}
use Rattle.word_ir.specs.declared.operands.Operand.TheVariants as operand
use Rattle.word_ir.specs.declared.placed.Home.{Home}
use Rattle.word_ir.specs.declared.placed.Placed.{Placed}
use Rattle.word_ir.specs.declared.words.Arith.{Arith}
use Rattle.word_ir.specs.declared.words.Test.{Test}
use Rattle.word_ir.specs.declared.words.WordOp.{WordOp}
use Rattle.word_ir.specs.declared.words.WordOp.TheVariants as op
use Rattle.word_ir.specs.declared.words.WordEnd.{WordEnd}
use Rattle.word_ir.specs.declared.words.WordEnd.TheVariants as last
use Rattle.word_ir.specs.declared.words.WordBlock.{WordBlock}
use Rattle.word_ir.specs.declared.words.Words.{Words}
use Rattle.word_ir.specs.Word.{Word, Number, moved, number_of, block_of, byte_of}
use Rattle.word_ir.specs.Storage.{Sizes, byte_at, followed_by}
use Rattle.word_ir.specs.Computing.{Result, Gives, Over, Bad, computed, is_shift, compared, is_of_tag}
use Rattle.word_ir.specs.Names.{image_names}
use Rattle.word_ir.specs.Lines.{Line, Op, Last, op_binds, exits_of, operands_of, op_operands, end_operands, operand_var}
use Rattle.word_ir.specs.State.{Setting, Keeper, Own, keeper_of, Env, State, word_at, has_room, is_in_frame}
use Rattle.word_ir.specs.Effects.{Effect, Binds, Stores, Takes, SetsTop, Puts, Turns, Enters, Ends, breaks, or_broken, word_of, with_word, with_number, with_numbers, with_word_at, with_byte_at, kept_at, binds, pairs_of, enters, bind_result, arith_effect, heap_room, stack_room, take_effect, reset_effect, reader, names_of, with_one, with_two, raised, lacking, service_effect, store_effect, op_effect, turned, test_effect, jump_effect, block_at, end_effect, line_effect}
use Rattle.word_ir.specs.Step.{words_in, placed_in}
use Rattle.word_ir.specs.Ranges.{IsInPlace}
use Rattle.word_ir.proofs.Apart.{homes_hide_nothing}
use Rattle.word_ir.proofs.CopiesWeigh.{by_copies}
use Rattle.trace_regs.specs.Homes.{Serves}
use Rattle.trace_regs.proofs.Keepers.{chosen, refused, KeepsOutside, outside_at, held_outside, room_outside, frame_outside, Agree, Paired, Done, Both, Neither}

-- ---- two effects

-- the line is an operation that binds these variables
pub record IsOpBinding (line : Line) (vars : List Var) : Type 0 where
  pub o : WordOp
  pub is : line ≡ Op o
  pub binds : op_binds o ≡ vars

-- What a line does to variables by themselves, and the same by their homes.
pub data Same (homes : List Home) (reads : ℕ → Option Word) (blocks : List WordBlock) (line : Line) : Effect → Effect → Type 0 where
  Bind : (to : Var) (x : Word) → IsOpBinding line (to ∷ []) → Same homes reads blocks line (Binds (Own to.0) x) (Binds (keeper_of homes to) x)
  Store : (at : ℕ) (x w : Word) → reads at ≡ Some w → IsOpBinding line [] → Same homes reads blocks line (Stores at x) (Stores at x)
  Take : (to : Var) (bytes : ℕ) → IsOpBinding line (to ∷ []) → Same homes reads blocks line (Takes (Own to.0) bytes) (Takes (keeper_of homes to) bytes)
  Top : (top : ℕ) → IsOpBinding line [] → Same homes reads blocks line (SetsTop top) (SetsTop top)
  Put : (bytes : List ℕ) → IsOpBinding line [] → Same homes reads blocks line (Puts bytes) (Puts bytes)
  Turn : (block : ℕ) → Contains (exits_of line) block → Same homes reads blocks line (Turns block) (Turns block)
  Enter : (block : ℕ) (target : WordBlock) (e f : Env Word) → slice_get blocks block ≡ Some target → Paired Word homes target.params e f → Same homes reads blocks line (Enters block e) (Enters block f)
  Finish : (e : End) → Same homes reads blocks line (Ends e) (Ends e)

-- the same, or the first breaks
pub data Meets (homes : List Home) (reads : ℕ → Option Word) (blocks : List WordBlock) (line : Line) : Effect → Effect → Type 0 where
  Broke : (f : Effect) → Meets homes reads blocks line breaks f
  Goes : (e f : Effect) → Same homes reads blocks line e f → Meets homes reads blocks line e f

alike_eq : {X : Type 0} (o p : Option X) → o ≡ p → Alike o p
alike_eq o p e x q = sym e ∙ q

or_map : {X Y : Type 0} (g : X → Y) (o : Option X) (go : Y → Effect) → or_broken (option_map g o) go ≡ or_broken o (λ x. go (g x))
or_map g None go = refl
or_map g (Some x) go = refl

-- ---- two states

-- the state with more static words and another environment
abbrev pub beside : State → List Word → Env Word → State
beside s more f = record s { storage = record (s.storage) { statics = s.storage.statics ++ more }; env = f }

module _ (words : Words) (placed : Placed) (sizes : Sizes) (serves : Serves words placed) (s : State) (more : List Word) (f : Env Word) (place : IsInPlace (words_in words sizes) s) where
  abbrev m : Setting
  m = words_in words sizes

  abbrev n : Setting
  n = placed_in placed sizes

  abbrev homes : List Home
  homes = placed.at.items

  abbrev t : State
  t = beside s more f

  abbrev M : Line → Effect → Effect → Type 0
  M line e f = Meets homes (word_at m s) placed.words.blocks.items line e f

  pub outside : (v : Var) → KeepsOutside (keeper_of homes v)
  outside v = outside_at homes v.0 (Own v.0) tt serves.outside

  -- ---- what is read

  words_alike : (at : ℕ) → Alike (word_at m s at) (word_at n t at)
  words_alike at w found = homes_hide_nothing words placed sizes s t at w serves.whole serves.of place (record { more = more; statics = refl; heap = refl; stack = refl }) found

  byte_alike : (at : ℕ) → Alike (byte_at (word_at m s) at) (byte_at (word_at n t) at)
  byte_alike at =
      alike_map (λ w. byte_of w (at % 4)) (option_and_then number_of (word_at m s (at / 4 * 4))) (option_and_then number_of (word_at n t (at / 4 * 4)))
      (alike_then number_of number_of (word_at m s (at / 4 * 4)) (word_at n t (at / 4 * 4)) (λ w. alike_same (number_of w)) (words_alike (at / 4 * 4)))

  read_alike : (at len : ℕ) → Alike (reader m s at len) (reader n t at len)
  read_alike at zero = alike_same (Some [])
  read_alike at (suc len) =
      alike_then (followed_by (reader m s (suc at) len)) (followed_by (reader n t (suc at) len)) (byte_at (word_at m s) at) (byte_at (word_at n t) at)
      (λ b. alike_map (λ bytes. b ∷ bytes) (reader m s (suc at) len) (reader n t (suc at) len) (read_alike (suc at) len)) (byte_alike at)

  names_same : names_of m ≡ names_of n
  names_same = sym (ap image_names (serves.of).shared.names)

  -- ---- operands

  abbrev pub SameWord : Operand → Type 0
  SameWord x = word_of m s x ≡ word_of n t x

  word_same : (x : Operand) → Agree homes s.env f (operand_var x) → SameWord x
  word_same (operand.Var v) h = h v (0, omega arith, refl) ∙ sym (held_outside t (keeper_of homes v) (outside v))
  word_same (operand.Word w) h = refl
  word_same (operand.Static p) h = refl
  word_same (operand.Code b) h = refl
  word_same (operand.Slot b) h = refl

  pub words_same : (xs : List Operand) → Agree homes s.env f (flat_map operand_var xs) → AllByRecursion SameWord xs
  words_same [] h = tt
  words_same (x ∷ xs) h = (
    word_same x (λ v c. h v (Contains-append_left (operand_var x) (flat_map operand_var xs) v c)),
    words_same xs (λ v c. h v (Contains-append_right (operand_var x) (flat_map operand_var xs) v c)),
  )

  -- ---- parts of effects

  meets_or : {X : Type 0} (l : Line) (o p : Option X) (go back : X → Effect) → Alike o p → ((x : X) → M l (go x) (back x)) → M l (or_broken o go) (or_broken p back)
  meets_or l None p go back a h = Broke _
  meets_or l (Some x) p go back a h = subst (λ q. M l (go x) (or_broken q back)) (sym (a x refl)) (h x)

  meets_if : (l : Line) (b : Bool) (x y u v : Effect) → M l x u → M l y v → M l (if b then x else y) (if b then u else v)
  meets_if l true x y u v h k = h
  meets_if l false x y u v h k = k

  meets_word : (l : Line) (x : Operand) (go back : Word → Effect) → SameWord x → ((w : Word) → M l (go w) (back w)) → M l (with_word m s x go) (with_word n t x back)
  meets_word l x go back e h = meets_or l (word_of m s x) (word_of n t x) go back (alike_eq (word_of m s x) (word_of n t x) e) h

  meets_number : (l : Line) (x : Operand) (go back : ℕ → Effect) → SameWord x → ((w : ℕ) → M l (go w) (back w)) → M l (with_number m s x go) (with_number n t x back)
  meets_number l x go back e h =
      meets_word l x (λ w. or_broken (number_of w) go) (λ w. or_broken (number_of w) back) e (λ w. meets_or l (number_of w) (number_of w) go back (alike_same (number_of w)) h)

  meets_numbers : (l : Line) (xs : List Operand) (go back : List ℕ → Effect) → AllByRecursion SameWord xs → ((ws : List ℕ) → M l (go ws) (back ws)) → M l (with_numbers m s xs go) (with_numbers n t xs back)
  meets_numbers l [] go back e h = h []
  meets_numbers l (x ∷ xs) go back e h =
      meets_number l x (λ w. with_numbers m s xs (λ ws. go (w ∷ ws))) (λ w. with_numbers n t xs (λ ws. back (w ∷ ws))) e.0
      (λ w. meets_numbers l xs (λ ws. go (w ∷ ws)) (λ ws. back (w ∷ ws)) e.1 (λ ws. h (w ∷ ws)))

  meets_end : (l : Line) (e : End) → M l (Ends e) (Ends e)
  meets_end l e = Goes _ _ (Finish e)

  meets_turn : (l : Line) (block : ℕ) → Contains (exits_of l) block → M l (Turns block) (Turns block)
  meets_turn l block c = Goes _ _ (Turn block c)

  meets_put : (l : Line) (bytes : List ℕ) → IsOpBinding l [] → M l (Puts bytes) (Puts bytes)
  meets_put l bytes o = Goes _ _ (Put bytes o)

  meets_binds : (l : Line) (to : Var) (x : Word) → IsOpBinding l (to ∷ []) → M l (binds m s to x) (binds n t to x)
  meets_binds l to x o =
      let k : Keeper = keeper_of homes to in
      subst (λ e. M l (Binds (Own to.0) x) e) (sym (chosen (has_room t k) (Binds k x) breaks (room_outside t k (outside to)))) (Goes _ _ (Bind to x o))

  meets_result : (l : Line) (to : Var) (over : ℕ) (r : Result) → IsOpBinding l (to ∷ []) → Contains (exits_of l) over → M l (bind_result m s to over r) (bind_result n t to over r)
  meets_result l to over (Gives w) o c = meets_binds l to (Number w) o
  meets_result l to over Over o c = meets_turn l over c
  meets_result l to over Bad o c = Broke _

  meets_arith : (l : Line) (to : Var) (kind : Arith) (a b : Operand) (over : ℕ) → IsOpBinding l (to ∷ []) → Contains (exits_of l) over → SameWord a → SameWord b → M l (arith_effect m s to kind a b over) (arith_effect n t to kind a b over)
  meets_arith l to kind a b over o c h k =
      meets_number l a (λ x. if is_shift kind then bind_result m s to over (computed kind x 0) else with_number m s b (λ y. bind_result m s to over (computed kind x y)))
      (λ x. if is_shift kind then bind_result n t to over (computed kind x 0) else with_number n t b (λ y. bind_result n t to over (computed kind x y))) h
      (λ x. meets_if l (is_shift kind) _ _ _ _ (meets_result l to over (computed kind x 0) o c)
      (meets_number l b (λ y. bind_result m s to over (computed kind x y)) (λ y. bind_result n t to over (computed kind x y)) k (λ y. meets_result l to over (computed kind x y) o c)))

  meets_take : (l : Line) (to : Var) (bytes full : ℕ) → IsOpBinding l (to ∷ []) → Contains (exits_of l) full → M l (take_effect m s to bytes full) (take_effect n t to bytes full)
  meets_take l to bytes full o c =
      let k : Keeper = keeper_of homes to in
      let take : M l (Takes (Own to.0) bytes) (kept_at t k (λ k. Takes k bytes)) =
      subst (λ e. M l (Takes (Own to.0) bytes) e) (sym (chosen (has_room t k) (Takes k bytes) breaks (room_outside t k (outside to)))) (Goes _ _ (Take to bytes o)) in
      meets_if l (nat_lt (heap_room m s) bytes) _ _ _ _ (meets_turn l full c) (meets_if l (bytes % 8 == 0) _ _ _ _ take (Broke _))

  meets_store : (l : Line) (at : ℕ) (x : Word) → IsOpBinding l [] → M l (store_effect m s at x) (store_effect n t at x)
  meets_store l at x o = by (word_at m s at) refl
    where
      by : (found : Option Word) → word_at m s at ≡ found → M l (if is_some found then Stores at x else breaks) (if is_some (word_at n t at) then Stores at x else breaks)
      by None e = Broke _
      by (Some w) e = subst (λ q. M l (Stores at x) (if is_some q then Stores at x else breaks)) (sym (words_alike at w e)) (Goes _ _ (Store at x w e o))

  meets_top : (l : Line) (top : ℕ) → IsOpBinding l [] → M l (SetsTop top) (SetsTop top)
  meets_top l top o = Goes _ _ (Top top o)

  -- ---- services

  meets_one : (l : Line) (args : List ℕ) (go back : ℕ → Effect) → ((w : ℕ) → M l (go w) (back w)) → M l (with_one args go) (with_one args back)
  meets_one l [] go back h = Broke _
  meets_one l (a ∷ []) go back h = h a
  meets_one l (a ∷ b ∷ rest) go back h = Broke _

  meets_two : (l : Line) (args : List ℕ) (go back : ℕ → ℕ → Effect) → ((a b : ℕ) → M l (go a b) (back a b)) → M l (with_two args go) (with_two args back)
  meets_two l [] go back h = Broke _
  meets_two l (a ∷ []) go back h = Broke _
  meets_two l (a ∷ b ∷ []) go back h = h a b
  meets_two l (a ∷ b ∷ c ∷ rest) go back h = Broke _

  meets_fault : (l : Line) (o : Option Fault) → M l (or_broken o (λ x. Ends (Faulted x))) (or_broken o (λ x. Ends (Faulted x)))
  meets_fault l o = meets_or l o o (λ x. Ends (Faulted x)) (λ x. Ends (Faulted x)) (alike_same o) (λ x. meets_end l (Faulted x))

  meets_raised : (l : Line) (args : List ℕ) → M l (raised args) (raised args)
  meets_raised l [] = Broke _
  meets_raised l (a ∷ []) = meets_if l (a == 15) _ _ _ _ (Broke _) (meets_fault l (fault_of a 0))
  meets_raised l (a ∷ b ∷ []) = meets_if l (a == 15) _ _ _ _ (meets_fault l (fault_of a b)) (Broke _)
  meets_raised l (a ∷ b ∷ c ∷ rest) = Broke _

  meets_lacking : (l : Line) (asked kind : ℕ) → M l (lacking m s asked kind) (lacking n t asked kind)
  meets_lacking l asked kind = meets_if l (kind == 0) _ _ _ _ (meets_end l _) (meets_if l (kind == 1) _ _ _ _ (meets_end l _) (Broke _))

  meets_value : (l : Line) (w : ℕ) → M l (or_broken (face_of (reader m s) (names_of m) w) (λ x. Ends (Value (shown_of (names_of m) x)))) (or_broken (face_of (reader n t) (names_of n) w) (λ x. Ends (Value (shown_of (names_of n) x))))
  meets_value l w =
      subst (λ names. M l (or_broken (face_of (reader m s) (names_of m) w) (λ x. Ends (Value (shown_of (names_of m) x)))) (or_broken (face_of (reader n t) names w) (λ x. Ends (Value (shown_of names x))))) names_same
      (meets_or l (face_of (reader m s) (names_of m) w) (face_of (reader n t) (names_of m) w) (λ x. Ends (Value (shown_of (names_of m) x))) (λ x. Ends (Value (shown_of (names_of m) x)))
      (faces_read_alike (reader m s) (reader n t) read_alike (names_of m) w) (λ x. meets_end l (Value (shown_of (names_of m) x))))

  meets_service : (l : Line) (number : ℕ) (args : List ℕ) → IsOpBinding l [] → M l (service_effect m s number args) (service_effect n t number args)
  meets_service l number args o =
      meets_if l (number == 0) _ _ _ _ (meets_one l args _ _ (λ w. meets_value l w))
      (meets_if l (number == 1) _ _ _ _ (meets_one l args (λ w. or_broken (character_of w) (λ x. Puts (x ∷ []))) (λ w. or_broken (character_of w) (λ x. Puts (x ∷ [])))
      (λ w. meets_or l (character_of w) (character_of w) (λ x. Puts (x ∷ [])) (λ x. Puts (x ∷ [])) (alike_same (character_of w)) (λ x. meets_put l (x ∷ []) o)))
      (meets_if l (number == 2) _ _ _ _ (meets_one l args (λ w. or_broken (fixnum_of w) (λ x. Puts (signed_decimal x))) (λ w. or_broken (fixnum_of w) (λ x. Puts (signed_decimal x)))
      (λ w. meets_or l (fixnum_of w) (fixnum_of w) (λ x. Puts (signed_decimal x)) (λ x. Puts (signed_decimal x)) (alike_same (fixnum_of w)) (λ x. meets_put l (signed_decimal x) o)))
      (meets_if l (number == 3) _ _ _ _ (meets_raised l args)
      (meets_if l (number == 4) _ _ _ _ (meets_two l args (lacking m s) (lacking n t) (λ a b. meets_lacking l a b))
      (meets_if l (number == 5) _ _ _ _ (meets_one l args (λ w. or_broken (string_of (reader m s) w) Puts) (λ w. or_broken (string_of (reader n t) w) Puts)
      (λ w. meets_or l (string_of (reader m s) w) (string_of (reader n t) w) Puts Puts (strings_read_alike (reader m s) (reader n t) read_alike w) (λ x. meets_put l x o))) (Broke _))))))

  -- ---- operations

  op_meets : (o : WordOp) → AllByRecursion SameWord (op_operands o) → M (Op o) (op_effect m s o) (op_effect n t o)
  op_meets (op.Move to from) h =
      meets_word _ from (λ x. binds m s to x) (λ x. binds n t to x) h.0 (λ x. meets_binds _ to x (record { o = op.Move to from; is = refl; binds = refl }))
  op_meets (op.Load to base offset) h =
      meets_number _ base (λ at. with_word_at m s (moved at offset) (λ x. binds m s to x)) (λ at. with_word_at n t (moved at offset) (λ x. binds n t to x)) h.0
      (λ at. meets_or _ (word_at m s (moved at offset)) (word_at n t (moved at offset)) (λ x. binds m s to x) (λ x. binds n t to x) (words_alike (moved at offset))
      (λ x. meets_binds _ to x (record { o = op.Load to base offset; is = refl; binds = refl })))
  op_meets (op.LoadByte to base index offset) h =
      meets_number _ base (λ at. with_number m s index (λ i. with_byte_at m s (moved (at + i) offset) (λ w. binds m s to (Number w))))
      (λ at. with_number n t index (λ i. with_byte_at n t (moved (at + i) offset) (λ w. binds n t to (Number w)))) h.0
      (λ at. meets_number _ index (λ i. with_byte_at m s (moved (at + i) offset) (λ w. binds m s to (Number w))) (λ i. with_byte_at n t (moved (at + i) offset) (λ w. binds n t to (Number w))) h.1.0
      (λ i. meets_or _ (byte_at (word_at m s) (moved (at + i) offset)) (byte_at (word_at n t) (moved (at + i) offset)) (λ w. binds m s to (Number w)) (λ w. binds n t to (Number w)) (byte_alike (moved (at + i) offset))
      (λ w. meets_binds _ to (Number w) (record { o = op.LoadByte to base index offset; is = refl; binds = refl }))))
  op_meets (op.Store base offset from) h =
      meets_number _ base (λ at. with_word m s from (λ x. store_effect m s (moved at offset) x)) (λ at. with_word n t from (λ x. store_effect n t (moved at offset) x)) h.0
      (λ at. meets_word _ from (λ x. store_effect m s (moved at offset) x) (λ x. store_effect n t (moved at offset) x) h.1.0
      (λ x. meets_store _ (moved at offset) x (record { o = op.Store base offset from; is = refl; binds = refl })))
  op_meets (op.Arith to kind a b over) h = meets_arith _ to kind a b over (record { o = op.Arith to kind a b over; is = refl; binds = refl }) (0, omega arith, refl) h.0 h.1.0
  op_meets (op.Take to bytes full) h =
      meets_number _ bytes (λ w. take_effect m s to w full) (λ w. take_effect n t to w full) h.0 (λ w. meets_take _ to w full (record { o = op.Take to bytes full; is = refl; binds = refl }) (0, omega arith, refl))
  op_meets (op.Push words full) h =
      meets_if _ (nat_lt (stack_room s) (4 * words)) _ _ _ _ (meets_turn _ full (0, omega arith, refl)) (meets_top _ _ (record { o = op.Push words full; is = refl; binds = refl }))
  op_meets (op.Pop words) h = meets_if _ _ _ _ _ _ (meets_top _ _ (record { o = op.Pop words; is = refl; binds = refl })) (Broke _)
  op_meets (op.Service number args) h =
      meets_numbers _ args (λ ws. service_effect m s number ws) (λ ws. service_effect n t number ws) h (λ ws. meets_service _ number ws (record { o = op.Service number args; is = refl; binds = refl }))
  op_meets (op.Reset to) h =
      meets_number _ to (λ at. reset_effect m at) (λ at. reset_effect n at) h.0 (λ at. meets_if _ _ _ _ _ _ (meets_top _ _ (record { o = op.Reset to; is = refl; binds = refl })) (Broke _))

  -- ---- ends

  meets_pairs : (l : Line) (params : List Var) (ws : List (Option Word)) (go back : Env Word → Effect) → ((d e : Env Word) → Paired Word homes params d e → M l (go d) (back e))
      → M l (or_broken (pairs_of m s params ws) go) (or_broken (pairs_of n t params ws) back)
  meets_pairs l [] ws go back h = h [] [] (Done [])
  meets_pairs l (v ∷ params) [] go back h =
      subst (λ o. M l (or_broken (pairs_of m s params []) go) (or_broken o back)) (sym (refused (is_in_frame (keeper_of homes v)) None (pairs_of n t params []) (frame_outside (keeper_of homes v) (outside v))))
      (meets_pairs l params [] go back (λ d e p. h d e (Neither v params d e p)))
  meets_pairs l (v ∷ params) (None ∷ ws) go back h =
      subst (λ o. M l (or_broken (pairs_of m s params ws) go) (or_broken o back)) (sym (refused (is_in_frame (keeper_of homes v)) None (pairs_of n t params ws) (frame_outside (keeper_of homes v) (outside v))))
      (meets_pairs l params ws go back (λ d e p. h d e (Neither v params d e p)))
  meets_pairs l (v ∷ params) (Some x ∷ ws) go back h =
      let k : Keeper = keeper_of homes v in
      let rest : M l (or_broken (pairs_of m s params ws) (λ d. go ((Own v.0, x) ∷ d))) (or_broken (pairs_of n t params ws) (λ e. back ((k, x) ∷ e))) =
      meets_pairs l params ws (λ d. go ((Own v.0, x) ∷ d)) (λ e. back ((k, x) ∷ e)) (λ d e p. h ((Own v.0, x) ∷ d) ((k, x) ∷ e) (Both v params x d e p)) in
      let left = or_map (λ (d : Env Word). (Own v.0, x) ∷ d) (pairs_of m s params ws) go in
      let right = or_map (λ (e : Env Word). (k, x) ∷ e) (pairs_of n t params ws) back in
      let room = chosen (has_room t k) (option_map (λ (e : Env Word). (k, x) ∷ e) (pairs_of n t params ws)) None (room_outside t k (outside v)) in
      subst (λ o. M l (or_broken (option_map (λ (d : Env Word). (Own v.0, x) ∷ d) (pairs_of m s params ws)) go) (or_broken o back)) (sym room)
      (subst (λ e. M l e (or_broken (option_map (λ (e : Env Word). (k, x) ∷ e) (pairs_of n t params ws)) back)) (sym left) (subst (λ e. M l (or_broken (pairs_of m s params ws) (λ d. go ((Own v.0, x) ∷ d))) e) (sym right) rest))

  args_same : (args : List Operand) → AllByRecursion SameWord args → map (word_of m s) args ≡ map (word_of n t) args
  args_same [] h = refl
  args_same (x ∷ args) h = ap (λ o. o ∷ map (word_of m s) args) h.0 ∙ ap (λ os. word_of n t x ∷ os) (args_same args h.1)

  meets_enters : (l : Line) (block : ℕ) (target : WordBlock) (args : List Operand) → slice_get placed.words.blocks.items block ≡ Some target → AllByRecursion SameWord args
      → M l (enters m s block target.params args) (enters n t block target.params args)
  meets_enters l block target args found h =
      subst (λ ws. M l (enters m s block target.params args) (or_broken (pairs_of n t target.params ws) (λ e. Enters block e))) (args_same args h)
      (meets_pairs l target.params (map (word_of m s) args) (λ d. Enters block d) (λ e. Enters block e) (λ d e p. Goes _ _ (Enter block target d e found p)))

  -- at the block with a number
  meets_block : (l : Line) (block : ℕ) (go back : WordBlock → Effect) → ((x y : WordBlock) → slice_get placed.words.blocks.items block ≡ Some y → y.params ≡ x.params → M l (go x) (back y))
      → M l (or_broken (block_at m block) go) (or_broken (block_at n block) back)
  meets_block l block go back h =
      by_copies (λ o p. slice_get placed.words.blocks.items block ≡ p → M l (or_broken o go) (or_broken p back)) words.blocks.items placed.words.blocks.items block (serves.of).blocks (λ e. Broke _)
      (λ x y c found. h x y found c.params) refl

  meets_jump : (l : Line) (block : ℕ) (args : List Operand) → AllByRecursion SameWord args → M l (or_broken (block_at m block) (jump_effect m s block args)) (or_broken (block_at n block) (jump_effect n t block args))
  meets_jump l block args h =
      meets_block l block (jump_effect m s block args) (jump_effect n t block args)
      (λ x y found same. subst (λ (params : List Var). M l (if length args == length params then enters m s block params args else breaks) (jump_effect n t block args y)) same
      (meets_if l (length args == length y.params) _ _ _ _ (meets_enters l block y args found h) (Broke _)))

  meets_turned : (l : Line) (a b : ℕ) → Contains (exits_of l) a → Contains (exits_of l) b → (answer : Bool) → M l (turned a b answer) (turned a b answer)
  meets_turned l a b c d true = meets_turn l a c
  meets_turned l a b c d false = meets_turn l b d

  meets_test : (l : Line) (kind : Test) (a b : Operand) (at_true at_false : ℕ) → Contains (exits_of l) at_true → Contains (exits_of l) at_false → SameWord a → SameWord b
      → M l (test_effect m s kind a b at_true at_false) (test_effect n t kind a b at_true at_false)
  meets_test l kind a b at_true at_false c d h k =
      let go : Option Bool → Effect = λ o. or_broken o (turned at_true at_false) in
      let same : (o : Option Bool) → M l (go o) (go o) = λ o. meets_or l o o (turned at_true at_false) (turned at_true at_false) (alike_same o) (meets_turned l at_true at_false c d) in
      meets_word l a (λ x. if is_of_tag kind then go (compared kind x x) else with_word m s b (λ y. go (compared kind x y))) (λ x. if is_of_tag kind then go (compared kind x x) else with_word n t b (λ y. go (compared kind x y))) h
      (λ x. meets_if l (is_of_tag kind) _ _ _ _ (same (compared kind x x)) (meets_word l b (λ y. go (compared kind x y)) (λ y. go (compared kind x y)) k (λ y. same (compared kind x y))))

  meets_entered : (l : Line) (args : List Operand) → AllByRecursion SameWord args → (block : ℕ)
      → M l (or_broken (block_at m block) (λ target. enters m s block target.params args)) (or_broken (block_at n block) (λ target. enters n t block target.params args))
  meets_entered l args h block =
      meets_block l block (λ target. enters m s block target.params args) (λ target. enters n t block target.params args)
      (λ x y found same. subst (λ (params : List Var). M l (enters m s block params args) (enters n t block y.params args)) same (meets_enters l block y args found h))

  end_meets : (e : WordEnd) → AllByRecursion SameWord (end_operands e) → M (Last e) (end_effect m s e) (end_effect n t e)
  end_meets (last.Jump block args) h = meets_jump _ block args h
  end_meets (last.Test kind a b at_true at_false) h = meets_test _ kind a b at_true at_false (0, omega arith, refl) (1, omega arith, refl) h.0 h.1.0
  end_meets (last.Enter code args) h =
      meets_word _ code (λ x. or_broken (block_of x) (λ block. or_broken (block_at m block) (λ target. enters m s block target.params args)))
      (λ x. or_broken (block_of x) (λ block. or_broken (block_at n block) (λ target. enters n t block target.params args))) h.0
      (λ x. meets_or _ (block_of x) (block_of x) (λ block. or_broken (block_at m block) (λ target. enters m s block target.params args)) (λ block. or_broken (block_at n block) (λ target. enters n t block target.params args))
      (alike_same (block_of x)) (λ block. meets_entered _ args h.1 block))
  end_meets last.Stop h = Broke _

  pub line_meets : (line : Line) → AllByRecursion SameWord (operands_of line) → M line (line_effect m s line) (line_effect n t line)
  line_meets (Op o) h = op_meets o h
  line_meets (Last e) h = end_meets e h
