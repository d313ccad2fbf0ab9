-- What the operations of a tree lead to.
use Rattle.std.proofs.Common.{◌≡◌, ℕ, suc, ◌+◌, ◌-◌, ◌*◌, ◌/◌, ◌%◌, ◌<◌, ◌≤◌, ◌&&◌, nat_lt, Bool, true, false, List, [], ◌∷◌, Some, None, ℤ, refl, ◌∙◌, arith}
use Rattle.std.specs.List.{list_all}
use Rattle.std.proofs.lemmas.Bool.{and_from, lt-ltb, le-ltb, le-leb, eq-eqb}
use Rattle.program_runs.specs.Runs.{End}
use Rattle.t_base.specs.declared.basics.Var.{Var}
use Rattle.word_ir.specs.declared.operands.Operand.{Operand}
use Rattle.word_ir.specs.declared.words.Arith.{Arith}
use Rattle.word_ir.specs.declared.words.Arith.TheVariants as kind
use Rattle.word_ir.specs.declared.words.WordOp.{WordOp}
use Rattle.word_ir.specs.declared.words.WordOp.TheVariants as op
use Rattle.word_ir.specs.declared.words.Words.{Words}
use Rattle.word_ir.specs.Word.{Word, Number, moved}
use Rattle.word_ir.specs.Storage.{Sizes, STACK_START, long_at, byte_at, is_in_stack}
use Rattle.word_ir.specs.Lines.{Op}
use Rattle.word_ir.specs.Computing.{Gives, Over, computed}
use Rattle.word_ir.specs.State.{Setting, State, Own}
use Rattle.word_ir.specs.Effects.{Binds, Stores, Takes, SetsTop, Puts, Turns, Ends, bind_result, line_effect, service_effect}
use Rattle.word_ir.specs.Step.{words_in}
use Rattle.word_ir.specs.Stamps.{stamped_step, line_may, reaches, may_load, number_at, if_number, op_reads, operand_may, is_birth, birth_at}
use Rattle.word_trees.specs.Trees.{Tree, Do, Or, Compute, Take, Push, Spells}
use Rattle.word_trees.specs.Cores.{Core, at, word_in, read_in, stamp_in, some_stamp, binding, storing, taking, pushing, resetting, putting, heap_left, stack_left}
use Rattle.word_trees.specs.Leads.{StepsTo, Steps, EndsBy, MayReach, MayRead}
use Rattle.word_trees.proofs.Lines.{line_steps, word_at_core, stamp_at_core, may_use, may_use_all, reaches_at_core}

module _ (words : Words) (sizes : Sizes) where
  abbrev setting : Setting
  setting = words_in words sizes

  -- a step to the next line
  follows : (c d : Core) (block place moves steps cost : ℕ) (rest : Tree) → Spells words block (place + 1) rest → stamped_step setting (at c block place moves steps) ≡ at d block (place + 1) (moves + cost) (suc steps) → StepsTo words sizes rest d (moves + cost) (suc steps) (at c block place moves steps)
  follows c d block place moves steps cost rest spelled step = record { block = block; place = place + 1; spelled = spelled; step = step }

  -- a step into another block
  turns : (c d : Core) (block place moves steps cost turn : ℕ) (rest : Tree) → Spells words turn 0 rest → stamped_step setting (at c block place moves steps) ≡ at d turn 0 (moves + cost) (suc steps) → StepsTo words sizes rest d (moves + cost) (suc steps) (at c block place moves steps)
  turns c d block place moves steps cost turn rest spelled step = record { block = turn; place = 0; spelled = spelled; step = step }

  -- ---- Move

  pub move_steps : (c : Core) (to : Var) (from : Operand) (x : Word) (rest : Tree) → word_in c from ≡ Some x → Steps words sizes 2 (Do (op.Move to from) rest) c rest (binding c to x (stamp_in setting c from))
  move_steps c to from x rest e block place moves steps h =
      let s : State = (at c block place moves steps).state in
      let effect : line_effect setting s (Op (op.Move to from)) ≡ Binds (Own to.0) x = rw (word_at_core words sizes c block place moves steps from, e) refl in
      let may : line_may setting s (at c block place moves steps).marks (Op (op.Move to from)) ≡ true = rw (may_use words sizes c block place moves steps from) refl in
      follows c _ block place moves steps 2 rest h.1
      (line_steps words sizes c block place moves steps (Op (op.Move to from)) (Binds (Own to.0) x) h.0 effect may ∙ rw (stamp_at_core words sizes c block place moves steps from) refl)

  -- ---- Load

  number_is : (c : Core) (block place moves steps : ℕ) (base : Operand) (n : ℕ) → word_in c base ≡ Some (Number n) → number_at setting (at c block place moves steps).state base ≡ Some n
  number_is c block place moves steps base n e = rw (word_at_core words sizes c block place moves steps base, e) refl

  if_number_is : (c : Core) (block place moves steps : ℕ) (base : Operand) (n : ℕ) (go : ℕ → Bool) → word_in c base ≡ Some (Number n) → go n ≡ true → if_number setting (at c block place moves steps).state base go ≡ true
  if_number_is c block place moves steps base n go e h = rw (number_is c block place moves steps base n e) h

  may_of : (c : Core) (block place moves steps : ℕ) (o : WordOp) (b : Bool) → b ≡ true → (list_all (operand_may setting (at c block place moves steps).state (at c block place moves steps).marks) (op_reads o) && b) ≡ true
  may_of c block place moves steps o b h = and_from (list_all (operand_may setting (at c block place moves steps).state (at c block place moves steps).marks) (op_reads o)) b (may_use_all words sizes c block place moves steps (op_reads o)) h

  pub load_steps : (c : Core) (to : Var) (base : Operand) (n : ℕ) (offset : ℤ) (x : Word) (rest : Tree) → word_in c base ≡ Some (Number n) → read_in c (moved n offset) ≡ Some x → MayRead setting c base (moved n offset) → Steps words sizes 2 (Do (op.Load to base offset) rest) c rest (binding c to x (some_stamp (long_at c.longs (moved n offset))))
  load_steps c to base n offset x rest e read may block place moves steps h =
      let s : State = (at c block place moves steps).state in
      let effect : line_effect setting s (Op (op.Load to base offset)) ≡ Binds (Own to.0) x = rw (word_at_core words sizes c block place moves steps base, e, read) refl in
      let reached : may_load setting s (at c block place moves steps).marks base (moved n offset) ≡ true =
      and_from (reaches setting s (at c block place moves steps).marks base (moved n offset)) _
      (reaches_at_core words sizes c block place moves steps base (moved n offset) ∙ may.reached.reached) may.written in
      let allowed : line_may setting s (at c block place moves steps).marks (Op (op.Load to base offset)) ≡ true =
      may_of c block place moves steps (op.Load to base offset) _
      (if_number_is c block place moves steps base n (λ a. may_load setting s (at c block place moves steps).marks base (moved a offset)) e reached) in
      follows c _ block place moves steps 2 rest h.1
      (line_steps words sizes c block place moves steps (Op (op.Load to base offset)) (Binds (Own to.0) x) h.0 effect allowed ∙ rw (number_is c block place moves steps base n e) refl)

  -- ---- Store

  pub store_steps : (c : Core) (base from : Operand) (n : ℕ) (offset : ℤ) (x old : Word) (rest : Tree) → word_in c base ≡ Some (Number n) → word_in c from ≡ Some x → read_in c (moved n offset) ≡ Some old → MayReach setting c base (moved n offset) → Steps words sizes 3 (Do (op.Store base offset from) rest) c rest (storing c (moved n offset) x (stamp_in setting c from))
  store_steps c base from n offset x old rest e f read may block place moves steps h =
      let s : State = (at c block place moves steps).state in
      let effect : line_effect setting s (Op (op.Store base offset from)) ≡ Stores (moved n offset) x =
      rw (word_at_core words sizes c block place moves steps base, e, word_at_core words sizes c block place moves steps from, f, read) refl in
      let allowed : line_may setting s (at c block place moves steps).marks (Op (op.Store base offset from)) ≡ true =
      may_of c block place moves steps (op.Store base offset from) _
      (if_number_is c block place moves steps base n (λ a. reaches setting s (at c block place moves steps).marks base (moved a offset)) e
      (reaches_at_core words sizes c block place moves steps base (moved n offset) ∙ may.reached)) in
      follows c _ block place moves steps 3 rest h.1
      (line_steps words sizes c block place moves steps (Op (op.Store base offset from)) (Stores (moved n offset) x) h.0 effect allowed
      ∙ rw (stamp_at_core words sizes c block place moves steps from) refl)

  -- ---- arithmetic

  -- a shift doesn't look at its second operand
  arith_result : (c : Core) (block place moves steps : ℕ) (to : Var) (kind : Arith) (a b : Operand) (x y turn : ℕ) → word_in c a ≡ Some (Number x) → word_in c b ≡ Some (Number y) → line_effect setting (at c block place moves steps).state (Op (op.Arith to kind a b turn)) ≡ bind_result setting (at c block place moves steps).state to turn (computed kind x y)
  arith_result c block place moves steps to kind.Add a b x y turn e f = rw (word_at_core words sizes c block place moves steps a, e, word_at_core words sizes c block place moves steps b, f) refl
  arith_result c block place moves steps to kind.Sub a b x y turn e f = rw (word_at_core words sizes c block place moves steps a, e, word_at_core words sizes c block place moves steps b, f) refl
  arith_result c block place moves steps to kind.Mul a b x y turn e f = rw (word_at_core words sizes c block place moves steps a, e, word_at_core words sizes c block place moves steps b, f) refl
  arith_result c block place moves steps to kind.Quotient a b x y turn e f = rw (word_at_core words sizes c block place moves steps a, e, word_at_core words sizes c block place moves steps b, f) refl
  arith_result c block place moves steps to kind.Remainder a b x y turn e f = rw (word_at_core words sizes c block place moves steps a, e, word_at_core words sizes c block place moves steps b, f) refl
  arith_result c block place moves steps to (kind.Shift count) a b x y turn e f = rw (word_at_core words sizes c block place moves steps a, e) refl
  arith_result c block place moves steps to kind.And a b x y turn e f = rw (word_at_core words sizes c block place moves steps a, e, word_at_core words sizes c block place moves steps b, f) refl
  arith_result c block place moves steps to kind.Or a b x y turn e f = rw (word_at_core words sizes c block place moves steps a, e, word_at_core words sizes c block place moves steps b, f) refl

  pub compute_steps : (c : Core) (to : Var) (how : Arith) (a b : Operand) (x y n : ℕ) (exit rest : Tree) → word_in c a ≡ Some (Number x) → word_in c b ≡ Some (Number y) → computed how x y ≡ Gives n → Steps words sizes 3 (Or (Compute to how a b) exit rest) c rest (binding c to (Number n) None)
  compute_steps c to how a b x y n exit rest e f r block place moves steps h =
      let s : State = (at c block place moves steps).state in
      let turn : ℕ = h.0 in
      let effect : line_effect setting s (Op (op.Arith to how a b turn)) ≡ Binds (Own to.0) (Number n) = arith_result c block place moves steps to how a b x y turn e f ∙ rw r refl in
      let allowed : line_may setting s (at c block place moves steps).marks (Op (op.Arith to how a b turn)) ≡ true = may_of c block place moves steps (op.Arith to how a b turn) true refl in
      follows c _ block place moves steps 3 rest h.3 (line_steps words sizes c block place moves steps (Op (op.Arith to how a b turn)) (Binds (Own to.0) (Number n)) h.1 effect allowed)

  pub compute_turns : (c : Core) (to : Var) (how : Arith) (a b : Operand) (x y : ℕ) (exit rest : Tree) → word_in c a ≡ Some (Number x) → word_in c b ≡ Some (Number y) → computed how x y ≡ Over → Steps words sizes 3 (Or (Compute to how a b) exit rest) c exit c
  compute_turns c to how a b x y exit rest e f r block place moves steps h =
      let s : State = (at c block place moves steps).state in
      let turn : ℕ = h.0 in
      let effect : line_effect setting s (Op (op.Arith to how a b turn)) ≡ Turns turn = arith_result c block place moves steps to how a b x y turn e f ∙ rw r refl in
      let allowed : line_may setting s (at c block place moves steps).marks (Op (op.Arith to how a b turn)) ≡ true = may_of c block place moves steps (op.Arith to how a b turn) true refl in
      turns c c block place moves steps 3 turn exit h.2 (line_steps words sizes c block place moves steps (Op (op.Arith to how a b turn)) (Turns turn) h.1 effect allowed)

  -- ---- LoadByte

  pub load_byte_steps : (c : Core) (to : Var) (base index : Operand) (n i : ℕ) (offset : ℤ) (byte : ℕ) (rest : Tree) → word_in c base ≡ Some (Number n) → word_in c index ≡ Some (Number i) → byte_at (read_in c) (moved (n + i) offset) ≡ Some byte → is_in_stack c.storage (moved (n + i) offset) ≡ false → Steps words sizes 3 (Do (op.LoadByte to base index offset) rest) c rest (binding c to (Number byte) None)
  load_byte_steps c to base index n i offset byte rest e f read outside block place moves steps h =
      let s : State = (at c block place moves steps).state in
      let effect : line_effect setting s (Op (op.LoadByte to base index offset)) ≡ Binds (Own to.0) (Number byte) =
      rw (word_at_core words sizes c block place moves steps base, e, word_at_core words sizes c block place moves steps index, f, read) refl in
      let allowed : line_may setting s (at c block place moves steps).marks (Op (op.LoadByte to base index offset)) ≡ true =
      may_of c block place moves steps (op.LoadByte to base index offset) _
      (if_number_is c block place moves steps base n _ e (if_number_is c block place moves steps index i _ f (rw outside refl))) in
      follows c _ block place moves steps 3 rest h.1
      (line_steps words sizes c block place moves steps (Op (op.LoadByte to base index offset)) (Binds (Own to.0) (Number byte)) h.0 effect allowed)

  -- ---- Take

  pub take_steps : (c : Core) (to : Var) (bytes : Operand) (n : ℕ) (exit rest : Tree) → word_in c bytes ≡ Some (Number n) → n ≤ heap_left sizes c → n % 8 ≡ 0 → Steps words sizes 2 (Or (Take to bytes) exit rest) c rest (taking c to n)
  take_steps c to bytes n exit rest e le whole block place moves steps h =
      let s : State = (at c block place moves steps).state in
      let turn : ℕ = h.0 in
      let effect : line_effect setting s (Op (op.Take to bytes turn)) ≡ Takes (Own to.0) n =
      rw (word_at_core words sizes c block place moves steps bytes, e, le-ltb (heap_left sizes c) n le, eq-eqb (n % 8) 0 whole) refl in
      let allowed : line_may setting s (at c block place moves steps).marks (Op (op.Take to bytes turn)) ≡ true = may_of c block place moves steps (op.Take to bytes turn) true refl in
      follows c _ block place moves steps 2 rest h.3 (line_steps words sizes c block place moves steps (Op (op.Take to bytes turn)) (Takes (Own to.0) n) h.1 effect allowed)

  pub take_turns : (c : Core) (to : Var) (bytes : Operand) (n : ℕ) (exit rest : Tree) → word_in c bytes ≡ Some (Number n) → heap_left sizes c < n → Steps words sizes 2 (Or (Take to bytes) exit rest) c exit c
  take_turns c to bytes n exit rest e lt block place moves steps h =
      let s : State = (at c block place moves steps).state in
      let turn : ℕ = h.0 in
      let effect : line_effect setting s (Op (op.Take to bytes turn)) ≡ Turns turn = rw (word_at_core words sizes c block place moves steps bytes, e, lt-ltb (heap_left sizes c) n lt) refl in
      let allowed : line_may setting s (at c block place moves steps).marks (Op (op.Take to bytes turn)) ≡ true = may_of c block place moves steps (op.Take to bytes turn) true refl in
      turns c c block place moves steps 2 turn exit h.2 (line_steps words sizes c block place moves steps (Op (op.Take to bytes turn)) (Turns turn) h.1 effect allowed)

  -- ---- Push, Pop and Reset

  lowered : (top count : ℕ) → 1 ≤ count → 4 * count ≤ top → nat_lt (top - 4 * count) top ≡ true
  lowered top count some le = lt-ltb (top - 4 * count) top (omega (arith, some, le))

  words_between : (top count : ℕ) → 4 * count ≤ top → (top - (top - 4 * count)) / 4 ≡ count
  words_between top count le = omega (arith, le)

  pub push_steps : (c : Core) (count : ℕ) (exit rest : Tree) → 1 ≤ count → 4 * count ≤ stack_left c → (block place moves steps : ℕ) → Spells words block place (Or (Push count) exit rest) → StepsTo words sizes rest (pushing c count (suc steps)) (moves + 1) (suc steps) (at c block place moves steps)
  push_steps c count exit rest some le block place moves steps h =
      let s : State = (at c block place moves steps).state in
      let turn : ℕ = h.0 in
      let below : 4 * count ≤ c.top = omega (arith, le) in
      let effect : line_effect setting s (Op (op.Push count turn)) ≡ SetsTop (c.top - 4 * count) = rw (le-ltb (stack_left c) (4 * count) le) refl in
      let allowed : line_may setting s (at c block place moves steps).marks (Op (op.Push count turn)) ≡ true = may_of c block place moves steps (op.Push count turn) true refl in
      follows c _ block place moves steps 1 rest h.3
      (line_steps words sizes c block place moves steps (Op (op.Push count turn)) (SetsTop (c.top - 4 * count)) h.1 effect allowed
      ∙ rw (lowered c.top count some below, words_between c.top count below) refl)

  pub push_turns : (c : Core) (count : ℕ) (exit rest : Tree) → stack_left c < 4 * count → Steps words sizes 1 (Or (Push count) exit rest) c exit c
  push_turns c count exit rest lt block place moves steps h =
      let s : State = (at c block place moves steps).state in
      let turn : ℕ = h.0 in
      let effect : line_effect setting s (Op (op.Push count turn)) ≡ Turns turn = rw (lt-ltb (stack_left c) (4 * count) lt) refl in
      let allowed : line_may setting s (at c block place moves steps).marks (Op (op.Push count turn)) ≡ true = may_of c block place moves steps (op.Push count turn) true refl in
      turns c c block place moves steps 1 turn exit h.2 (line_steps words sizes c block place moves steps (Op (op.Push count turn)) (Turns turn) h.1 effect allowed)

  pub pop_steps : (c : Core) (count : ℕ) (rest : Tree) → c.top + 4 * count ≤ STACK_START + sizes.stack → Steps words sizes 1 (Do (op.Pop count) rest) c rest (resetting c (c.top + 4 * count))
  pop_steps c count rest le block place moves steps h =
      let s : State = (at c block place moves steps).state in
      let effect : line_effect setting s (Op (op.Pop count)) ≡ SetsTop (c.top + 4 * count) = rw (le-leb (c.top + 4 * count) (STACK_START + sizes.stack) le) refl in
      let allowed : line_may setting s (at c block place moves steps).marks (Op (op.Pop count)) ≡ true = may_of c block place moves steps (op.Pop count) true refl in
      follows c _ block place moves steps 1 rest h.1
      (line_steps words sizes c block place moves steps (Op (op.Pop count)) (SetsTop (c.top + 4 * count)) h.0 effect allowed
      ∙ rw (le-ltb (c.top + 4 * count) c.top (omega arith)) refl)

  pub reset_steps : (c : Core) (to : Operand) (n : ℕ) (rest : Tree) → word_in c to ≡ Some (Number n) → n % 4 ≡ 0 → c.top ≤ n → STACK_START ≤ n → n ≤ STACK_START + sizes.stack → is_birth (stamp_in setting c to) (birth_at setting (at c 0 0 0 0).state (at c 0 0 0 0).marks n) ≡ true → Steps words sizes 2 (Do (op.Reset to) rest) c rest (resetting c n)
  reset_steps c to n rest e whole up from le born block place moves steps h =
      let s : State = (at c block place moves steps).state in
      let effect : line_effect setting s (Op (op.Reset to)) ≡ SetsTop n =
      rw (word_at_core words sizes c block place moves steps to, e, eq-eqb (n % 4) 0 whole, le-leb STACK_START n from, le-leb n (STACK_START + sizes.stack) le) refl in
      let allowed : line_may setting s (at c block place moves steps).marks (Op (op.Reset to)) ≡ true =
      may_of c block place moves steps (op.Reset to) _ (if_number_is c block place moves steps to n _ e (rw (stamp_at_core words sizes c block place moves steps to) born)) in
      follows c _ block place moves steps 2 rest h.1
      (line_steps words sizes c block place moves steps (Op (op.Reset to)) (SetsTop n) h.0 effect allowed ∙ rw (le-ltb n c.top up) refl)

  -- ---- Service

  pub put_steps : (c : Core) (number : ℕ) (a : Operand) (n : ℕ) (bytes : List ℕ) (rest : Tree) → word_in c a ≡ Some (Number n) → service_effect setting (at c 0 0 0 0).state number (n ∷ []) ≡ Puts bytes → Steps words sizes 2 (Do (op.Service number (a ∷ [])) rest) c rest (putting c bytes)
  put_steps c number a n bytes rest e served block place moves steps h =
      let s : State = (at c block place moves steps).state in
      let effect : line_effect setting s (Op (op.Service number (a ∷ []))) ≡ Puts bytes = rw (word_at_core words sizes c block place moves steps a, e) served in
      let allowed : line_may setting s (at c block place moves steps).marks (Op (op.Service number (a ∷ []))) ≡ true = may_of c block place moves steps (op.Service number (a ∷ [])) true refl in
      follows c _ block place moves steps 2 rest h.1 (line_steps words sizes c block place moves steps (Op (op.Service number (a ∷ []))) (Puts bytes) h.0 effect allowed)

  pub service_ends : (c : Core) (number : ℕ) (a : Operand) (n : ℕ) (end : End) (rest : Tree) → word_in c a ≡ Some (Number n) → service_effect setting (at c 0 0 0 0).state number (n ∷ []) ≡ Ends end → EndsBy words sizes 2 (Do (op.Service number (a ∷ [])) rest) c end
  service_ends c number a n end rest e served block place moves steps h =
      let s : State = (at c block place moves steps).state in
      let effect : line_effect setting s (Op (op.Service number (a ∷ []))) ≡ Ends end = rw (word_at_core words sizes c block place moves steps a, e) served in
      let allowed : line_may setting s (at c block place moves steps).marks (Op (op.Service number (a ∷ []))) ≡ true = may_of c block place moves steps (op.Service number (a ∷ [])) true refl in
      line_steps words sizes c block place moves steps (Op (op.Service number (a ∷ []))) (Ends end) h.0 effect allowed

  pub service_of_two_ends : (c : Core) (number : ℕ) (a b : Operand) (n k : ℕ) (end : End) (rest : Tree) → word_in c a ≡ Some (Number n) → word_in c b ≡ Some (Number k) → service_effect setting (at c 0 0 0 0).state number (n ∷ k ∷ []) ≡ Ends end → EndsBy words sizes 3 (Do (op.Service number (a ∷ b ∷ [])) rest) c end
  service_of_two_ends c number a b n k end rest e f served block place moves steps h =
      let s : State = (at c block place moves steps).state in
      let effect : line_effect setting s (Op (op.Service number (a ∷ b ∷ []))) ≡ Ends end =
      rw (word_at_core words sizes c block place moves steps a, e, word_at_core words sizes c block place moves steps b, f) served in
      let allowed : line_may setting s (at c block place moves steps).marks (Op (op.Service number (a ∷ b ∷ []))) ≡ true = may_of c block place moves steps (op.Service number (a ∷ b ∷ [])) true refl in
      line_steps words sizes c block place moves steps (Op (op.Service number (a ∷ b ∷ []))) (Ends end) h.0 effect allowed
