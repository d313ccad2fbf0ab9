-- The code that storage and variables hold is that of blocks whose code is taken.
use Rattle.std.proofs.Common.{◌≡◌, ℕ, zero, suc, ◌+◌, ◌-◌, ◌*◌, ◌/◌, ◌%◌, ◌<◌, ◌==◌, nat_lt, nat_le, Bool, true, false, if◌then◌else◌, List, [], ◌∷◌, length, map, replicate, slice_get, slice_set, is_some, Option, Some, None, option_map, Contains, refl, sym, subst, arith}
use Rattle.std.specs.List.{AllByRecursion, flat_map, list_any}
use Rattle.std.proofs.lemmas.List.Elements.{Contains-append_left, Contains-append_right}
use Rattle.t_base.specs.declared.basics.Var.{Var}
use Rattle.program_runs.specs.Runs.{End, Broken}
use Rattle.word_ir.specs.declared.operands.Operand.{Operand}
use Rattle.word_ir.specs.declared.operands.Operand.TheVariants as operand
use Rattle.word_ir.specs.declared.placed.Home.TheVariants as home
use Rattle.word_ir.specs.declared.words.Arith.{Arith}
use Rattle.word_ir.specs.declared.words.StaticWord.{StaticWord}
use Rattle.word_ir.specs.declared.words.StaticWord.TheVariants as first
use Rattle.word_ir.specs.declared.words.Words.{Words}
use Rattle.word_ir.specs.declared.words.WordOp.{WordOp}
use Rattle.word_ir.specs.declared.words.WordOp.TheVariants as op
use Rattle.word_ir.specs.declared.words.WordEnd.{WordEnd}
use Rattle.word_ir.specs.declared.words.WordEnd.TheVariants as last
use Rattle.word_ir.specs.Word.{Word, Number, Code, moved, number_of, block_of}
use Rattle.word_ir.specs.Storage.{Regions, STATICS_START, HEAP_START, STACK_START, place_from, long_at, with_long, byte_at}
use Rattle.word_ir.specs.Computing.{Result, Gives, Over, Bad, computed, is_shift}
use Rattle.word_ir.specs.Lines.{Line, Op, Last, line_at, operands_of, op_operands, end_operands, operand_code, codes_of}
use Rattle.word_ir.specs.State.{Setting, Keeper, Own, At, keeper_of, same_keeper, Env, kept, State, static_word, start, is_static_home, word_at, stack_at, held, has_room, hold, hold_all, is_in_frame}
use Rattle.word_ir.specs.Effects.{Effect, Binds, Stores, Takes, SetsTop, Puts, Turns, Enters, Ends, breaks, or_broken, word_of, with_word, with_number, with_numbers, with_word_at, with_byte_at, binds, paired, pairs_of, enters, bind_result, arith_effect, heap_room, stack_room, take_effect, reset_effect, service_effect, store_effect, op_effect, jump_effect, block_at, end_effect, line_effect, kept_at}
use Rattle.word_ir.specs.Step.{changed, done, unless_ended, step}
use Rattle.word_ir.specs.Whole.{static_code, each_line, taken_blocks}
use Rattle.word_ir.proofs.EffectLemmas.{or_holds, if_holds, service_holds, test_holds}
use Rattle.word_scopes.proofs.Reading.{stands, in_program}

-- a word that is code is that of a block whose code is taken
abbrev pub IsTaken : Words → Word → Type 0
IsTaken words (Number n) = Unit {0}
IsTaken words (Code block) = Contains (taken_blocks words) block

-- all that storage and variables hold
pub record HoldsTaken (m : Setting) (s : State) : Type 0 where
  pub statics : AllByRecursion (IsTaken m.words) s.storage.statics
  pub heap : AllByRecursion (IsTaken m.words) s.storage.heap
  pub stack : AllByRecursion (IsTaken m.words) s.storage.stack
  pub env : AllByRecursion (λ b. IsTaken m.words b.1) s.env

-- ---- what is found

-- what is found has the fact
abbrev Found : {X : Type 0} → (X → Type 0) → Option X → Type 0
Found P (Some x) = P x
Found P None = Unit {0}

found_is : {X : Type 0} (P : X → Type 0) (o : Option X) (x : X) → Found P o → o ≡ Some x → P x
found_is P (Some y) x h e = let same : y ≡ x = cc in subst P same h
found_is P None x h e = absurd (cc)

found_if : {X : Type 0} (P : X → Type 0) (b : Bool) (o p : Option X) → Found P o → Found P p → Found P (if b then o else p)
found_if P true o p h k = h
found_if P false o p h k = k

found_get : {X : Type 0} (P : X → Type 0) (xs : List X) (i : ℕ) → AllByRecursion P xs → Found P (slice_get xs i)
found_get P [] i h = tt
found_get P (x ∷ xs) zero h = h.0
found_get P (x ∷ xs) (suc i) h = found_get P xs i h.1

all_set : {X : Type 0} (P : X → Type 0) (xs : List X) (i : ℕ) (x : X) → AllByRecursion P xs → P x → AllByRecursion P (slice_set xs i x)
all_set P [] i x h k = tt
all_set P (y ∷ xs) zero x h k = (k, h.1)
all_set P (y ∷ xs) (suc i) x h k = (h.0, all_set P xs i x h.1 k)

all_replicate : {X : Type 0} (P : X → Type 0) (n : ℕ) (x : X) → P x → AllByRecursion P (replicate n x)
all_replicate P zero x h = tt
all_replicate P (suc n) x h = (h, all_replicate P n x h)

-- an operand that is code
abbrev IsNamed : Words → Operand → Type 0
IsNamed words (operand.Code block) = Contains (taken_blocks words) block
IsNamed words (operand.Var v) = Unit {0}
IsNamed words (operand.Word n) = Unit {0}
IsNamed words (operand.Static place) = Unit {0}
IsNamed words (operand.Slot bytes) = Unit {0}

module _ (m : Setting) where
  -- the three regions
  record AreTaken (x : Regions Word) : Type 0 where
    statics : AllByRecursion (IsTaken m.words) x.statics
    heap : AllByRecursion (IsTaken m.words) x.heap
    stack : AllByRecursion (IsTaken m.words) x.stack

  taken_if : (b : Bool) (x y : Regions Word) → AreTaken x → AreTaken y → AreTaken (if b then x else y)
  taken_if true x y h k = h
  taken_if false x y h k = k

  long_found : (x : Regions Word) (at : ℕ) → AreTaken x → Found (IsTaken m.words) (long_at x at)
  long_found x at h =
      let stacked : Option Word = slice_get x.stack (place_from STACK_START at) in
      let heaped : Option Word = if nat_lt at STACK_START then slice_get x.heap (place_from HEAP_START at) else stacked in
      let static : Option Word = if nat_lt at HEAP_START then slice_get x.statics (place_from STATICS_START at) else heaped in
      let any : Option Word = if nat_lt at STATICS_START then None else static in
      found_if (IsTaken m.words) (at % 4 == 0) any None
      (found_if (IsTaken m.words) (nat_lt at STATICS_START) None static tt
      (found_if (IsTaken m.words) (nat_lt at HEAP_START) (slice_get x.statics (place_from STATICS_START at)) heaped (found_get (IsTaken m.words) x.statics (place_from STATICS_START at) h.statics)
      (found_if (IsTaken m.words) (nat_lt at STACK_START) (slice_get x.heap (place_from HEAP_START at)) stacked (found_get (IsTaken m.words) x.heap (place_from HEAP_START at) h.heap)
      (found_get (IsTaken m.words) x.stack (place_from STACK_START at) h.stack))))
      tt

  long_taken : (x : Regions Word) (at : ℕ) (w : Word) → AreTaken x → IsTaken m.words w → AreTaken (with_long x at w)
  long_taken x at w h k =
      let heaped : Regions Word = record x { heap = slice_set x.heap (place_from HEAP_START at) w } in
      let stacked : Regions Word = record x { stack = slice_set x.stack (place_from STACK_START at) w } in
      taken_if (nat_lt at HEAP_START) (record x { statics = slice_set x.statics (place_from STATICS_START at) w }) (if nat_lt at STACK_START then heaped else stacked)
      (record { statics = all_set (IsTaken m.words) x.statics (place_from STATICS_START at) w h.statics k; heap = h.heap; stack = h.stack })
      (taken_if (nat_lt at STACK_START) heaped stacked
      (record { statics = h.statics; heap = all_set (IsTaken m.words) x.heap (place_from HEAP_START at) w h.heap k; stack = h.stack })
      (record { statics = h.statics; heap = h.heap; stack = all_set (IsTaken m.words) x.stack (place_from STACK_START at) w h.stack k }))

  regions_taken : (s : State) → HoldsTaken m s → AreTaken s.storage
  regions_taken s h = record { statics = h.statics; heap = h.heap; stack = h.stack }

  kept_found : (env : Env Word) (k : Keeper) → AllByRecursion (λ b. IsTaken m.words b.1) env → Found (IsTaken m.words) (kept env k)
  kept_found [] k h = tt
  kept_found (b ∷ env) k h = found_if (IsTaken m.words) (same_keeper b.0 k) (Some b.1) (kept env k) h.0 (kept_found env k h.1)

  held_found : (s : State) (k : Keeper) → HoldsTaken m s → Found (IsTaken m.words) (held s k)
  held_found s (Own v) h = kept_found s.env (Own v) h.env
  held_found s (At (home.D i)) h = kept_found s.env (At (home.D i)) h.env
  held_found s (At (home.A i)) h = kept_found s.env (At (home.A i)) h.env
  held_found s (At (home.Static p)) h = kept_found s.env (At (home.Static p)) h.env
  held_found s (At (home.Stack n)) h = long_found s.storage (stack_at s n) (regions_taken s h)

  word_found : (s : State) (x : Operand) → HoldsTaken m s → IsNamed m.words x → Found (IsTaken m.words) (word_of m s x)
  word_found s (operand.Var v) h k = held_found s (keeper_of m.homes v) h
  word_found s (operand.Word n) h k = tt
  word_found s (operand.Static place) h k = tt
  word_found s (operand.Code block) h k = k
  word_found s (operand.Slot bytes) h k = tt

  at_found : (s : State) (at : ℕ) → HoldsTaken m s → Found (IsTaken m.words) (word_at m s at)
  at_found s at h = found_if (IsTaken m.words) (list_any (is_static_home at) m.homes) None (long_at s.storage at) tt (long_found s.storage at (regions_taken s h))

-- ---- effects

-- the code of an effect is taken
abbrev CodeOf : Setting → Effect → Type 0
CodeOf m (Binds to x) = IsTaken m.words x
CodeOf m (Stores at x) = IsTaken m.words x
CodeOf m (Enters block env) = AllByRecursion (λ b. IsTaken m.words b.1) env
CodeOf m (Takes to bytes) = Unit {0}
CodeOf m (SetsTop top) = Unit {0}
CodeOf m (Puts bytes) = Unit {0}
CodeOf m (Turns block) = Unit {0}
CodeOf m (Ends e) = Unit {0}

record HasCodeOf (m : Setting) (e : Effect) : Type 0 where
  code : CodeOf m e

module _ (m : Setting) (s : State) (holds : HoldsTaken m s) where
  no_end : (e : End) → HasCodeOf m (Ends e)
  no_end e = record { code = tt }

  no_puts : (bytes : List ℕ) → HasCodeOf m (Puts bytes)
  no_puts bytes = record { code = tt }

  no_turns : (block : ℕ) → HasCodeOf m (Turns block)
  no_turns block = record { code = tt }

  when : (b : Bool) (x y : Effect) → HasCodeOf m x → HasCodeOf m y → HasCodeOf m (if b then x else y)
  when b x y h k = if_holds (HasCodeOf m) no_end no_puts no_turns b x y (λ e. h) (λ e. k)

  any : {X : Type 0} (o : Option X) (go : X → Effect) → ((x : X) → HasCodeOf m (go x)) → HasCodeOf m (or_broken o go)
  any o go h = or_holds (HasCodeOf m) no_end no_puts no_turns o go (λ x e. h x)

  found : (o : Option Word) (go : Word → Effect) → Found (IsTaken m.words) o → ((x : Word) → IsTaken m.words x → HasCodeOf m (go x)) → HasCodeOf m (or_broken o go)
  found o go f h = or_holds (HasCodeOf m) no_end no_puts no_turns o go (λ x e. h x (found_is (IsTaken m.words) o x f e))

  number : (x : Operand) (go : ℕ → Effect) → ((n : ℕ) → HasCodeOf m (go n)) → HasCodeOf m (with_number m s x go)
  number x go h = any (word_of m s x) (λ w. or_broken (number_of w) go) (λ w. any (number_of w) go h)

  numbers : (xs : List Operand) (go : List ℕ → Effect) → ((ns : List ℕ) → HasCodeOf m (go ns)) → HasCodeOf m (with_numbers m s xs go)
  numbers [] go h = h []
  numbers (x ∷ xs) go h = number x (λ n. with_numbers m s xs (λ ns. go (n ∷ ns))) (λ n. numbers xs (λ ns. go (n ∷ ns)) (λ ns. h (n ∷ ns)))

  bound : (to : Var) (x : Word) → IsTaken m.words x → HasCodeOf m (binds m s to x)
  bound to x h = when (has_room s (keeper_of m.homes to)) (Binds (keeper_of m.homes to) x) breaks (record { code = h }) (no_end Broken)

  result : (to : Var) (over : ℕ) (r : Result) → HasCodeOf m (bind_result m s to over r)
  result to over (Gives n) = bound to (Number n) tt
  result to over Over = no_turns over
  result to over Bad = no_end Broken

  arith_code : (to : Var) (how : Arith) (a b : Operand) (over : ℕ) → HasCodeOf m (arith_effect m s to how a b over)
  arith_code to how a b over =
      number a (λ x. if is_shift how then bind_result m s to over (computed how x 0) else with_number m s b (λ y. bind_result m s to over (computed how x y)))
      (λ x. when (is_shift how) (bind_result m s to over (computed how x 0)) (with_number m s b (λ y. bind_result m s to over (computed how x y)))
      (result to over (computed how x 0))
      (number b (λ y. bind_result m s to over (computed how x y)) (λ y. result to over (computed how x y))))

  take_code : (to : Var) (bytes full : ℕ) → HasCodeOf m (take_effect m s to bytes full)
  take_code to bytes full =
      let take : Effect = kept_at s (keeper_of m.homes to) (λ k. Takes k bytes) in
      when (nat_lt (heap_room m s) bytes) (Turns full) (if bytes % 8 == 0 then take else breaks) (no_turns full)
      (when (bytes % 8 == 0) take breaks (when (has_room s (keeper_of m.homes to)) (Takes (keeper_of m.homes to) bytes) breaks (record { code = tt }) (no_end Broken)) (no_end Broken))

  store_code : (at : ℕ) (x : Word) → IsTaken m.words x → HasCodeOf m (store_effect m s at x)
  store_code at x h = when (is_some (word_at m s at)) (Stores at x) breaks (record { code = h }) (no_end Broken)

  op_code : (o : WordOp) → AllByRecursion (IsNamed m.words) (op_operands o) → HasCodeOf m (op_effect m s o)
  op_code (op.Move to from) k = found (word_of m s from) (λ x. binds m s to x) (word_found m s from holds k.0) (λ x h. bound to x h)
  op_code (op.Load to base offset) k =
      number base (λ at. with_word_at m s (moved at offset) (λ x. binds m s to x))
      (λ at. found (word_at m s (moved at offset)) (λ x. binds m s to x) (at_found m s (moved at offset) holds) (λ x h. bound to x h))
  op_code (op.LoadByte to base index offset) k =
      number base (λ at. with_number m s index (λ i. with_byte_at m s (moved (at + i) offset) (λ n. binds m s to (Number n))))
      (λ at. number index (λ i. with_byte_at m s (moved (at + i) offset) (λ n. binds m s to (Number n)))
      (λ i. any (byte_at (word_at m s) (moved (at + i) offset)) (λ n. binds m s to (Number n)) (λ n. bound to (Number n) tt)))
  op_code (op.Store base offset from) k =
      number base (λ at. with_word m s from (λ x. store_effect m s (moved at offset) x))
      (λ at. found (word_of m s from) (λ x. store_effect m s (moved at offset) x) (word_found m s from holds k.1.0) (λ x h. store_code (moved at offset) x h))
  op_code (op.Arith to how a b over) k = arith_code to how a b over
  op_code (op.Take to bytes full) k = number bytes (λ n. take_effect m s to n full) (λ n. take_code to n full)
  op_code (op.Push words full) k = when (nat_lt (stack_room s) (4 * words)) (Turns full) (SetsTop (s.top - 4 * words)) (no_turns full) (record { code = tt })
  op_code (op.Pop words) k = when (nat_le (s.top + 4 * words) _) (SetsTop (s.top + 4 * words)) breaks (record { code = tt }) (no_end Broken)
  op_code (op.Service n args) k = numbers args (λ ns. service_effect m s n ns) (λ ns. service_holds (HasCodeOf m) no_end no_puts no_turns m s n ns)
  op_code (op.Reset to) k = number to (λ at. reset_effect m at) (λ at. when _ (SetsTop at) breaks (record { code = tt }) (no_end Broken))

  -- ---- parameters

  abbrev EnvTaken : Env Word → Type 0
  EnvTaken env = AllByRecursion (λ (b : Keeper × Word). IsTaken m.words b.1) env

  args_found : (args : List Operand) → AllByRecursion (IsNamed m.words) args → AllByRecursion (λ o. Found (IsTaken m.words) o) (map (word_of m s) args)
  args_found [] k = tt
  args_found (x ∷ args) k = (word_found m s x holds k.0, args_found args k.1)

  more_pairs : (k : Keeper) (x : Word) (rest : Option (Env Word)) → IsTaken m.words x → Found EnvTaken rest → Found EnvTaken (option_map (λ env. (k, x) ∷ env) rest)
  more_pairs k x None h g = tt
  more_pairs k x (Some env) h g = (h, g)

  paired_found : (k : Keeper) (o : Option Word) (rest : Option (Env Word)) → Found (IsTaken m.words) o → Found EnvTaken rest → Found EnvTaken (paired s k o rest)
  paired_found k (Some x) rest h g = found_if EnvTaken (has_room s k) (option_map (λ env. (k, x) ∷ env) rest) None (more_pairs k x rest h g) tt
  paired_found k None rest h g = found_if EnvTaken (is_in_frame k) None rest tt g

  pairs_found : (params : List Var) (words : List (Option Word)) → AllByRecursion (λ o. Found (IsTaken m.words) o) words → Found EnvTaken (pairs_of m s params words)
  pairs_found [] words h = tt
  pairs_found (v ∷ params) [] h = paired_found (keeper_of m.homes v) None (pairs_of m s params []) tt (pairs_found params [] h)
  pairs_found (v ∷ params) (x ∷ words) h = paired_found (keeper_of m.homes v) x (pairs_of m s params words) h.0 (pairs_found params words h.1)

  enters_code : (block : ℕ) (params : List Var) (args : List Operand) → AllByRecursion (IsNamed m.words) args → HasCodeOf m (enters m s block params args)
  enters_code block params args k =
      or_holds (HasCodeOf m) no_end no_puts no_turns (pairs_of m s params (map (word_of m s) args)) (λ env. Enters block env)
      (λ env e. record { code = found_is EnvTaken (pairs_of m s params (map (word_of m s) args)) env (pairs_found params (map (word_of m s) args) (args_found args k)) e })

  end_code : (e : WordEnd) → AllByRecursion (IsNamed m.words) (end_operands e) → HasCodeOf m (end_effect m s e)
  end_code (last.Jump block args) k =
      any (block_at m block) (jump_effect m s block args)
      (λ target. when (length args == length target.params) (enters m s block target.params args) breaks (enters_code block target.params args k) (no_end Broken))
  end_code (last.Test how a b at_true at_false) k = test_holds (HasCodeOf m) no_end no_puts no_turns m s how a b at_true at_false
  end_code (last.Enter code args) k =
      any (word_of m s code) (λ x. or_broken (block_of x) (λ block. or_broken (block_at m block) (λ target. enters m s block target.params args)))
      (λ x. any (block_of x) (λ block. or_broken (block_at m block) (λ target. enters m s block target.params args))
      (λ block. any (block_at m block) (λ target. enters m s block target.params args) (λ target. enters_code block target.params args k.1)))
  end_code last.Stop k = no_end Broken

  line_code : (line : Line) → AllByRecursion (IsNamed m.words) (operands_of line) → HasCodeOf m (line_effect m s line)
  line_code (Op o) k = op_code o k
  line_code (Last e) k = end_code e k

-- ---- states

module _ (m : Setting) where
  same_taken : (s t : State) → t.storage ≡ s.storage → t.env ≡ s.env → HoldsTaken m s → HoldsTaken m t
  same_taken s t e f h = record {
    statics = subst (λ (x : Regions Word). AllByRecursion (IsTaken m.words) x.statics) (sym e) h.statics;
    heap = subst (λ (x : Regions Word). AllByRecursion (IsTaken m.words) x.heap) (sym e) h.heap;
    stack = subst (λ (x : Regions Word). AllByRecursion (IsTaken m.words) x.stack) (sym e) h.stack;
    env = subst (λ (x : Env Word). AllByRecursion (λ b. IsTaken m.words b.1) x) (sym f) h.env;
  }

  stored_taken : (s : State) (at : ℕ) (x : Word) → HoldsTaken m s → IsTaken m.words x → HoldsTaken m (record s { storage = with_long s.storage at x })
  stored_taken s at x h k = let g = long_taken m s.storage at x (regions_taken m s h) k in record { statics = g.statics; heap = g.heap; stack = g.stack; env = h.env }

  hold_taken : (s : State) (k : Keeper) (x : Word) → HoldsTaken m s → IsTaken m.words x → HoldsTaken m (hold s k x)
  hold_taken s (Own v) x h g = record { statics = h.statics; heap = h.heap; stack = h.stack; env = (g, h.env) }
  hold_taken s (At (home.D i)) x h g = record { statics = h.statics; heap = h.heap; stack = h.stack; env = (g, h.env) }
  hold_taken s (At (home.A i)) x h g = record { statics = h.statics; heap = h.heap; stack = h.stack; env = (g, h.env) }
  hold_taken s (At (home.Static p)) x h g = record { statics = h.statics; heap = h.heap; stack = h.stack; env = (g, h.env) }
  hold_taken s (At (home.Stack n)) x h g = stored_taken s (stack_at s n) x h g

  hold_all_taken : (s : State) (env : Env Word) → HoldsTaken m s → AllByRecursion (λ b. IsTaken m.words b.1) env → HoldsTaken m (hold_all s env)
  hold_all_taken s [] h g = h
  hold_all_taken s (b ∷ env) h g = hold_all_taken (hold s b.0 b.1) env (hold_taken s b.0 b.1 h g.0) g.1

  changed_taken : (s : State) (e : Effect) → HoldsTaken m s → CodeOf m e → HoldsTaken m (changed s e)
  changed_taken s (Binds to x) h w = same_taken (hold s to x) _ refl refl (hold_taken s to x h w)
  changed_taken s (Stores at x) h w = same_taken (record s { storage = with_long s.storage at x }) _ refl refl (stored_taken s at x h w)
  changed_taken s (Takes to bytes) h w = same_taken (hold s to (Number s.next)) _ refl refl (hold_taken s to (Number s.next) h tt)
  changed_taken s (SetsTop top) h w = same_taken s _ refl refl h
  changed_taken s (Puts bytes) h w = same_taken s _ refl refl h
  changed_taken s (Turns block) h w = same_taken s _ refl refl h
  changed_taken s (Enters block env) h w =
      let bare : State = record s { env = [] } in
      same_taken (hold_all bare env) _ refl refl (hold_all_taken bare env (record { statics = h.statics; heap = h.heap; stack = h.stack; env = tt }) w)
  changed_taken s (Ends e) h w = same_taken s _ refl refl h

  -- the code that operands are is taken
  operands_named : (xs : List Operand) → ((b : ℕ) → Contains (flat_map operand_code xs) b → Contains (taken_blocks m.words) b) → AllByRecursion (IsNamed m.words) xs
  operands_named [] h = tt
  operands_named (operand.Var v ∷ xs) h = (tt, operands_named xs h)
  operands_named (operand.Word n ∷ xs) h = (tt, operands_named xs h)
  operands_named (operand.Static p ∷ xs) h = (tt, operands_named xs h)
  operands_named (operand.Slot n ∷ xs) h = (tt, operands_named xs h)
  operands_named (operand.Code b ∷ xs) h =
      (h b (0, omega arith, refl), operands_named xs (λ c there. let low : there.0 < length (flat_map operand_code xs) = there.1 in h c (suc there.0, omega arith, there.2)))

  pub line_named : (b k : ℕ) (line : Line) → line_at m.words b k ≡ Some line → AllByRecursion (IsNamed m.words) (operands_of line)
  line_named b k line e =
      operands_named (operands_of line)
      (λ c named. Contains-append_right (flat_map static_code m.words.statics.items) (each_line codes_of m.words) c (in_program codes_of m.words b k line c (stands m.words b k line e) named))

  done_taken : (s : State) (line : Option Line) → HoldsTaken m s → ((l : Line) → line ≡ Some l → AllByRecursion (IsNamed m.words) (operands_of l)) → HoldsTaken m (done m s line)
  done_taken s None h w = same_taken s _ refl refl h
  done_taken s (Some line) h w =
      same_taken (changed s (line_effect m s line)) _ refl refl (changed_taken s (line_effect m s line) h (line_code m s h line (w line refl)).code)

  unless_taken : (s t : State) (end : Option End) → HoldsTaken m s → HoldsTaken m t → HoldsTaken m (unless_ended end s t)
  unless_taken s t (Some e) h k = h
  unless_taken s t None h k = k

  pub step_taken : (s : State) → HoldsTaken m s → HoldsTaken m (step m s)
  unfolding step
  step_taken s h = unless_taken s _ s.end h (done_taken s (line_at m.words s.block s.place) h (line_named s.block s.place))

  statics_taken : (statics : List StaticWord) → ((b : ℕ) → Contains (flat_map static_code statics) b → Contains (taken_blocks m.words) b) → AllByRecursion (IsTaken m.words) (map static_word statics)
  statics_taken [] h = tt
  statics_taken (first.Word n ∷ statics) h = (tt, statics_taken statics h)
  statics_taken (first.Static place ∷ statics) h = (tt, statics_taken statics h)
  statics_taken (first.Code block ∷ statics) h =
      (h block (0, omega arith, refl), statics_taken statics (λ c there. let low : there.0 < length (flat_map static_code statics) = there.1 in h c (suc there.0, omega arith, there.2)))

  pub start_taken : HoldsTaken m (start m)
  start_taken = record {
    statics = statics_taken m.words.statics.items (λ b c. Contains-append_left (flat_map static_code m.words.statics.items) (each_line codes_of m.words) b c);
    heap = all_replicate (IsTaken m.words) (m.sizes.heap / 4) (Number 0) tt;
    stack = all_replicate (IsTaken m.words) (m.sizes.stack / 4) (Number 0) tt;
    env = tt;
  }

  -- the code that an operand has is taken
  pub code_taken : (s : State) (x : Operand) (block : ℕ) → HoldsTaken m s → IsNamed m.words x → word_of m s x ≡ Some (Code block) → Contains (taken_blocks m.words) block
  code_taken s x block h k e = found_is (IsTaken m.words) (word_of m s x) (Code block) (word_found m s x h k) e
