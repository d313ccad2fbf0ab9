-- Operations but services, and tests, put nothing, end no run and enter no block; and services do nothing else than to put and to end.
use Rattle.std.proofs.Common.{ℕ, ◌+◌, ◌*◌, ◌%◌, ◌==◌, nat_lt, Bool, true, false, List, [], ◌∷◌, Option, Some, None, ℤ}
use Rattle.std.specs.Prelude.{if◌then◌else◌, is_some, ◌&&◌, nat_le}
use Rattle.t_base.specs.declared.basics.Var.{Var}
use Rattle.program_runs.specs.Runs.{Value, Faulted, Full, Broken}
use Rattle.word_ir.specs.declared.operands.Operand.{Operand}
use Rattle.word_ir.specs.declared.words.Arith.{Arith}
use Rattle.word_ir.specs.declared.words.Test.{Test}
use Rattle.word_ir.specs.declared.words.WordEnd.TheVariants as last
use Rattle.word_ir.specs.declared.words.WordOp.TheVariants as op
use Rattle.word_faces.specs.Faces.{face_of, character_of, fixnum_of}
use Rattle.word_faces.specs.Operands.{fault_of, string_of}
use Rattle.word_ir.specs.Word.{Word, Number, moved, number_of}
use Rattle.word_ir.specs.Storage.{STACK_START, byte_at}
use Rattle.word_ir.specs.Computing.{Result, Gives, Over, Bad, computed, is_shift, compared, is_of_tag}
use Rattle.word_ir.specs.State.{Setting, State as WordState, keeper_of, has_room, word_at, stack_end}
use Rattle.word_ir.specs.Effects.{Effect, Binds, Stores, Takes, SetsTop, Puts, Turns, Enters, Ends, breaks, or_broken, word_of, with_word, with_number, kept_at, binds, bind_result, heap_room, stack_room, store_effect, op_effect, turned, end_effect, with_numbers, with_one, with_two, raised, lacking, service_effect, reader, names_of}

abbrev pub IsQuiet : Effect → Type 0
IsQuiet (Binds to x) = Unit {0}
IsQuiet (Stores at x) = Unit {0}
IsQuiet (Takes to bytes) = Unit {0}
IsQuiet (SetsTop top) = Unit {0}
IsQuiet (Turns block) = Unit {0}
IsQuiet (Puts bytes) = ⊥
IsQuiet (Enters block env) = ⊥
IsQuiet (Ends (Value shown)) = ⊥
IsQuiet (Ends (Faulted fault)) = ⊥
IsQuiet (Ends (Full stack asked left)) = ⊥
IsQuiet (Ends Broken) = Unit {0}

or_quiet : {X : Type 0} (o : Option X) (go : X → Effect) → ((x : X) → IsQuiet (go x)) → IsQuiet (or_broken o go)
or_quiet (Some x) go h = h x
or_quiet None go h = tt

if_quiet : (b : Bool) (x y : Effect) → IsQuiet x → IsQuiet y → IsQuiet (if b then x else y)
if_quiet true x y h k = h
if_quiet false x y h k = k

module _ (m : Setting) (s : WordState) where
  number_quiet : (x : Operand) (go : ℕ → Effect) → ((n : ℕ) → IsQuiet (go n)) → IsQuiet (with_number m s x go)
  number_quiet x go h = or_quiet (word_of m s x) (λ w. or_broken (number_of w) go) (λ w. or_quiet (number_of w) go h)

  binds_quiet : (to : Var) (x : Word) → IsQuiet (binds m s to x)
  binds_quiet to x = if_quiet (has_room s (keeper_of m.homes to)) (Binds (keeper_of m.homes to) x) breaks tt tt

  result_quiet : (to : Var) (over : ℕ) (r : Result) → IsQuiet (bind_result m s to over r)
  result_quiet to over (Gives n) = binds_quiet to (Number n)
  result_quiet to over Over = tt
  result_quiet to over Bad = tt

  pub move_quiet : (to : Var) (from : Operand) → IsQuiet (op_effect m s (op.Move to from))
  move_quiet to from = or_quiet (word_of m s from) (λ x. binds m s to x) (λ x. binds_quiet to x)

  pub load_quiet : (to : Var) (base : Operand) (offset : ℤ) → IsQuiet (op_effect m s (op.Load to base offset))
  load_quiet to base offset = number_quiet base _ (λ at. or_quiet (word_at m s (moved at offset)) (λ x. binds m s to x) (λ x. binds_quiet to x))

  pub byte_quiet : (to : Var) (base index : Operand) (offset : ℤ) → IsQuiet (op_effect m s (op.LoadByte to base index offset))
  byte_quiet to base index offset =
      number_quiet base _ (λ at. number_quiet index _ (λ i. or_quiet (byte_at (word_at m s) (moved (at + i) offset)) (λ n. binds m s to (Number n)) (λ n. binds_quiet to (Number n))))

  pub store_quiet : (base from : Operand) (offset : ℤ) → IsQuiet (op_effect m s (op.Store base offset from))
  store_quiet base from offset =
      number_quiet base _ (λ at. or_quiet (word_of m s from) (λ x. store_effect m s (moved at offset) x) (λ x. if_quiet (is_some (word_at m s (moved at offset))) (Stores (moved at offset) x) breaks tt tt))

  pub arith_quiet : (to : Var) (k : Arith) (x y : Operand) (over : ℕ) → IsQuiet (op_effect m s (op.Arith to k x y over))
  arith_quiet to k x y over =
      number_quiet x _ (λ v. if_quiet (is_shift k) (bind_result m s to over (computed k v 0)) (with_number m s y (λ w. bind_result m s to over (computed k v w))) (result_quiet to over (computed k v 0))
      (number_quiet y _ (λ w. result_quiet to over (computed k v w))))

  pub take_quiet : (to : Var) (bytes : Operand) (full : ℕ) → IsQuiet (op_effect m s (op.Take to bytes full))
  take_quiet to bytes full =
      number_quiet bytes _ (λ n. if_quiet (nat_lt (heap_room m s) n) (Turns full) (if n % 8 == 0 then kept_at s (keeper_of m.homes to) (λ k. Takes k n) else breaks) tt
      (if_quiet (n % 8 == 0) (kept_at s (keeper_of m.homes to) (λ k. Takes k n)) breaks (if_quiet (has_room s (keeper_of m.homes to)) (Takes (keeper_of m.homes to) n) breaks tt tt) tt))

  pub push_quiet : (words full : ℕ) → IsQuiet (op_effect m s (op.Push words full))
  push_quiet words full = if_quiet (nat_lt (stack_room s) (4 * words)) _ _ tt tt

  pub pop_quiet : (words : ℕ) → IsQuiet (op_effect m s (op.Pop words))
  pop_quiet words = if_quiet (nat_le (s.top + 4 * words) (stack_end m)) _ _ tt tt

  pub reset_quiet : (to : Operand) → IsQuiet (op_effect m s (op.Reset to))
  reset_quiet to = number_quiet to _ (λ at. if_quiet ((at % 4 == 0) && nat_le STACK_START at && nat_le at (stack_end m)) _ _ tt tt)

module _ (m : Setting) (s : WordState) where
  turned_quiet : (at_true at_false : ℕ) (answer : Bool) → IsQuiet (turned at_true at_false answer)
  turned_quiet at_true at_false true = tt
  turned_quiet at_true at_false false = tt

  pub test_quiet : (k : Test) (x y : Operand) (at_true at_false : ℕ) → IsQuiet (end_effect m s (last.Test k x y at_true at_false))
  test_quiet k x y at_true at_false =
      or_quiet (word_of m s x) _ (λ v. if_quiet (is_of_tag k) (or_broken (compared k v v) (turned at_true at_false)) (with_word m s y (λ w. or_broken (compared k v w) (turned at_true at_false)))
      (or_quiet (compared k v v) (turned at_true at_false) (turned_quiet at_true at_false))
      (or_quiet (word_of m s y) _ (λ w. or_quiet (compared k v w) (turned at_true at_false) (turned_quiet at_true at_false))))

-- ---- services

abbrev pub IsSpoken : Effect → Type 0
IsSpoken (Binds to x) = ⊥
IsSpoken (Stores at x) = ⊥
IsSpoken (Takes to bytes) = ⊥
IsSpoken (SetsTop top) = ⊥
IsSpoken (Turns block) = ⊥
IsSpoken (Puts bytes) = Unit {0}
IsSpoken (Enters block env) = ⊥
IsSpoken (Ends e) = Unit {0}

or_spoken : {X : Type 0} (o : Option X) (go : X → Effect) → ((x : X) → IsSpoken (go x)) → IsSpoken (or_broken o go)
or_spoken (Some x) go h = h x
or_spoken None go h = tt

if_spoken : (b : Bool) (x y : Effect) → IsSpoken x → IsSpoken y → IsSpoken (if b then x else y)
if_spoken true x y h k = h
if_spoken false x y h k = k

one_spoken : (args : List ℕ) (go : ℕ → Effect) → ((n : ℕ) → IsSpoken (go n)) → IsSpoken (with_one args go)
one_spoken [] go h = tt
one_spoken (a ∷ []) go h = h a
one_spoken (a ∷ b ∷ rest) go h = tt

two_spoken : (args : List ℕ) (go : ℕ → ℕ → Effect) → ((n k : ℕ) → IsSpoken (go n k)) → IsSpoken (with_two args go)
two_spoken [] go h = tt
two_spoken (a ∷ []) go h = tt
two_spoken (a ∷ b ∷ []) go h = h a b
two_spoken (a ∷ b ∷ c ∷ rest) go h = tt

raised_spoken : (args : List ℕ) → IsSpoken (raised args)
raised_spoken [] = tt
raised_spoken (number ∷ []) = if_spoken (number == 15) breaks (or_broken (fault_of number 0) (λ f. Ends (Faulted f))) tt (or_spoken (fault_of number 0) (λ f. Ends (Faulted f)) (λ f. tt))
raised_spoken (number ∷ x ∷ []) = if_spoken (number == 15) (or_broken (fault_of number x) (λ f. Ends (Faulted f))) breaks (or_spoken (fault_of number x) (λ f. Ends (Faulted f)) (λ f. tt)) tt
raised_spoken (number ∷ x ∷ more ∷ rest) = tt

module _ (m : Setting) (s : WordState) where
  lacking_spoken : (asked kind : ℕ) → IsSpoken (lacking m s asked kind)
  lacking_spoken asked kind = if_spoken (kind == 0) _ _ tt (if_spoken (kind == 1) _ _ tt tt)

  effect_spoken : (number : ℕ) (args : List ℕ) → IsSpoken (service_effect m s number args)
  effect_spoken number args =
      if_spoken (number == 0) _ _ (one_spoken args _ (λ w. or_spoken (face_of (reader m s) (names_of m) w) _ (λ f. tt)))
      (if_spoken (number == 1) _ _ (one_spoken args _ (λ w. or_spoken (character_of w) _ (λ c. tt)))
      (if_spoken (number == 2) _ _ (one_spoken args _ (λ w. or_spoken (fixnum_of w) _ (λ n. tt)))
      (if_spoken (number == 3) _ _ (raised_spoken args)
      (if_spoken (number == 4) _ _ (two_spoken args _ lacking_spoken)
      (if_spoken (number == 5) _ _ (one_spoken args _ (λ w. or_spoken (string_of (reader m s) w) _ (λ b. tt))) tt)))))

  numbers_spoken : (xs : List Operand) (go : List ℕ → Effect) → ((ns : List ℕ) → IsSpoken (go ns)) → IsSpoken (with_numbers m s xs go)
  numbers_spoken [] go h = h []
  numbers_spoken (x ∷ xs) go h = or_spoken (word_of m s x) _ (λ w. or_spoken (number_of w) _ (λ n. numbers_spoken xs (λ ns. go (n ∷ ns)) (λ ns. h (n ∷ ns))))

  pub service_spoken : (number : ℕ) (args : List Operand) → IsSpoken (op_effect m s (op.Service number args))
  service_spoken number args = numbers_spoken args (λ ns. service_effect m s number ns) (effect_spoken number)
