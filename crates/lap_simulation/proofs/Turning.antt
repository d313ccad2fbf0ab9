-- An operation turns to no other blocks than those it names as its exits.
use Rattle.std.proofs.Common.{ℕ, ◌+◌, ◌*◌, ◌%◌, ◌==◌, nat_lt, Bool, true, false, List, [], ◌∷◌, Option, Some, None, refl}
use Rattle.std.specs.Prelude.{if◌then◌else◌, is_some, ◌&&◌, nat_le}
use Rattle.t_base.specs.declared.basics.Var.{Var}
use Rattle.word_ir.specs.declared.operands.Operand.{Operand}
use Rattle.word_ir.specs.declared.words.WordOp.{WordOp}
use Rattle.word_ir.specs.declared.words.WordOp.TheVariants as op
use Rattle.word_ir.specs.Lines.{op_exits}
use Rattle.word_ir.specs.Word.{Word, Number, moved, number_of}
use Rattle.word_ir.specs.Storage.{STACK_START, byte_at}
use Rattle.word_ir.specs.Computing.{Result, Gives, Over, Bad, computed, is_shift}
use Rattle.word_ir.specs.State.{Setting, State as WordState, keeper_of, has_room, word_at, stack_end}
use Rattle.word_ir.specs.Effects.{Effect, Binds, Stores, Takes, SetsTop, Puts, Turns, Enters, Ends, breaks, or_broken, word_of, with_number, kept_at, binds, bind_result, heap_room, stack_room, store_effect, op_effect}
use Rattle.lap_operations.proofs.Quiet.{IsSpoken, service_spoken}
use Rattle.lap_whole.proofs.Listed.{Listed}

-- it turns to one of these, it enters none
abbrev pub TurnsTo : List ℕ → Effect → Type 0
TurnsTo xs (Turns block) = Listed xs block
TurnsTo xs (Enters block env) = ⊥
TurnsTo xs (Binds to x) = Unit {0}
TurnsTo xs (Stores at x) = Unit {0}
TurnsTo xs (Takes to bytes) = Unit {0}
TurnsTo xs (SetsTop top) = Unit {0}
TurnsTo xs (Puts bytes) = Unit {0}
TurnsTo xs (Ends e) = Unit {0}

or_to : {X : Type 0} (xs : List ℕ) (o : Option X) (go : X → Effect) → ((x : X) → TurnsTo xs (go x)) → TurnsTo xs (or_broken o go)
or_to xs (Some x) go h = h x
or_to xs None go h = tt

if_to : (xs : List ℕ) (b : Bool) (x y : Effect) → TurnsTo xs x → TurnsTo xs y → TurnsTo xs (if b then x else y)
if_to xs true x y h k = h
if_to xs false x y h k = k

spoken_to : (xs : List ℕ) (e : Effect) → IsSpoken e → TurnsTo xs e
spoken_to xs (Turns block) h = absurd h
spoken_to xs (Enters block env) h = absurd h
spoken_to xs (Binds to x) h = tt
spoken_to xs (Stores at x) h = tt
spoken_to xs (Takes to bytes) h = tt
spoken_to xs (SetsTop top) h = tt
spoken_to xs (Puts bytes) h = tt
spoken_to xs (Ends e) h = tt

one : (x : ℕ) → Listed (x ∷ []) x
one x = record { at = 0; is = refl }

module _ (m : Setting) (s : WordState) where
  number_to : (xs : List ℕ) (x : Operand) (go : ℕ → Effect) → ((n : ℕ) → TurnsTo xs (go n)) → TurnsTo xs (with_number m s x go)
  number_to xs x go h = or_to xs (word_of m s x) (λ w. or_broken (number_of w) go) (λ w. or_to xs (number_of w) go h)

  binds_to : (xs : List ℕ) (to : Var) (x : Word) → TurnsTo xs (binds m s to x)
  binds_to xs to x = if_to xs (has_room s (keeper_of m.homes to)) (Binds (keeper_of m.homes to) x) breaks tt tt

  result_to : (to : Var) (over : ℕ) (r : Result) → TurnsTo (over ∷ []) (bind_result m s to over r)
  result_to to over (Gives n) = binds_to (over ∷ []) to (Number n)
  result_to to over Over = one over
  result_to to over Bad = tt

  pub op_turns : (o : WordOp) → TurnsTo (op_exits o) (op_effect m s o)
  op_turns (op.Move to from) = or_to [] (word_of m s from) (λ x. binds m s to x) (λ x. binds_to [] to x)
  op_turns (op.Load to base offset) = number_to [] base _ (λ at. or_to [] (word_at m s (moved at offset)) (λ x. binds m s to x) (λ x. binds_to [] to x))
  op_turns (op.LoadByte to base index offset) =
      number_to [] base _ (λ at. number_to [] index _ (λ i. or_to [] (byte_at (word_at m s) (moved (at + i) offset)) (λ n. binds m s to (Number n)) (λ n. binds_to [] to (Number n))))
  op_turns (op.Store base offset from) =
      number_to [] base _ (λ at. or_to [] (word_of m s from) (λ x. store_effect m s (moved at offset) x) (λ x. if_to [] (is_some (word_at m s (moved at offset))) (Stores (moved at offset) x) breaks tt tt))
  op_turns (op.Arith to k x y over) =
      number_to (over ∷ []) x _ (λ v. if_to (over ∷ []) (is_shift k) (bind_result m s to over (computed k v 0)) (with_number m s y (λ w. bind_result m s to over (computed k v w))) (result_to to over (computed k v 0))
      (number_to (over ∷ []) y _ (λ w. result_to to over (computed k v w))))
  op_turns (op.Take to bytes full) =
      number_to (full ∷ []) bytes _ (λ n. if_to (full ∷ []) (nat_lt (heap_room m s) n) (Turns full) (if n % 8 == 0 then kept_at s (keeper_of m.homes to) (λ k. Takes k n) else breaks) (one full)
      (if_to (full ∷ []) (n % 8 == 0) (kept_at s (keeper_of m.homes to) (λ k. Takes k n)) breaks (if_to (full ∷ []) (has_room s (keeper_of m.homes to)) (Takes (keeper_of m.homes to) n) breaks tt tt) tt))
  op_turns (op.Push words full) = if_to (full ∷ []) (nat_lt (stack_room s) (4 * words)) _ _ (one full) tt
  op_turns (op.Pop words) = if_to [] (nat_le (s.top + 4 * words) (stack_end m)) _ _ tt tt
  op_turns (op.Service number args) = spoken_to [] (op_effect m s (op.Service number args)) (service_spoken m s number args)
  op_turns (op.Reset to) = number_to [] to _ (λ at. if_to [] ((at % 4 == 0) && nat_le STACK_START at && nat_le at (stack_end m)) _ _ tt tt)
