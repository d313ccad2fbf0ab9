-- All services.
use Rattle.std.proofs.Common.{◌≡◌, ℕ, zero, suc, ◌≤◌, ◌<◌, ◌==◌, Bool, true, false, List, [], ◌∷◌, Option, Some, None, refl, arith}
use Rattle.std.specs.Prelude.{IsTrue}
use Rattle.std.proofs.lemmas.Bool.{ne_eqb}
use Rattle.program_runs.specs.Runs.{End, Value, Faulted, Full, Broken}
use Rattle.word_ir.specs.declared.operands.Operand.{Operand}
use Rattle.word_ir.specs.declared.operands.Operand.TheVariants as operand
use Rattle.word_ir.specs.declared.words.WordOp.TheVariants as op
use Rattle.word_ir.specs.Whole.{is_op_shaped}
use Rattle.word_ir.specs.State.{Setting, State as WordState}
use Rattle.word_ir.specs.Effects.{Effect, Binds, Stores, Takes, SetsTop, Puts, Turns, Enters, Ends, op_effect}
use Rattle.m68020_step.specs.Step.{State}
use Rattle.m68020_asm.specs.declared.item.Item.{Item}
use Rattle.machine_services.specs.declared.exit.Exit.{Exit}
use Rattle.lap_paths.specs.Paths.{Assembly}
use Rattle.lap_services.specs.Tells.{Tells, EndsSo, Serves}
use Rattle.lap_services.proofs.Lines.{characters_arrive, fixnums_arrive, faults_arrive, room_reported}
use Rattle.lap_values.specs.Laws.{NamedServiceArrives, AllServicesArrive}
use Rattle.lap_values.proofs.Lines.{values_arrive, strings_arrive}

-- no more instructions than so many are no more than a greater number
pub more_told : (a : Assembly) (n k : ℕ) (t : State) (bytes : List ℕ) (end : Option Exit) (Q : State → Type 0) → n ≤ k → Tells a n t bytes end Q → Tells a k t bytes end Q
more_told a n k t bytes end Q le r = record {
  count = r.count;
  few = omega (arith, r.few, le);
  some = r.some;
  to = r.to;
  runs = r.runs;
  costs = r.costs;
  there = r.there;
}

module _ (a : Assembly) (m : Setting) (s : WordState) (t : State) (items : List Item) (n k : ℕ) (le : n ≤ k) where
  more_ends : (e : End) → EndsSo a s t n e → EndsSo a s t k e
  more_ends e x = (x.0, x.1, more_told a n k t [] (Some x.0) _ le x.2)

  pub more_serves : (e : Effect) → Serves a m s t items n e → Serves a m s t items k e
  more_serves (Puts bytes) x = more_told a n k t bytes None _ le x
  more_serves (Ends (Value shown)) x = more_ends (Value shown) x
  more_serves (Ends (Faulted fault)) x = more_ends (Faulted fault) x
  more_serves (Ends (Full stack asked left)) x = more_ends (Full stack asked left) x
  more_serves (Ends Broken) x = tt
  more_serves (Binds to w) x = tt
  more_serves (Stores at w) x = tt
  more_serves (Takes to bytes) x = tt
  more_serves (SetsTop top) x = tt
  more_serves (Turns block) x = tt
  more_serves (Enters block env) x = tt

-- ---- what no service is

greater : (n k : ℕ) → k < n → (n == k) ≡ false
greater n k lt = ne_eqb n k (λ e. absurd (omega (arith, e, lt)))

no_service : (b : Bool) → b ≡ false → IsTrue b → ⊥
no_service false e h = absurd (cc)
no_service true e h = absurd (cc)

none_of_one : (n : ℕ) (x : Operand) → is_op_shaped (op.Service (suc (suc (suc (suc (suc (suc n)))))) (x ∷ [])) ≡ false
none_of_one n x = rw (greater (suc (suc (suc (suc (suc (suc n)))))) 0 (omega arith), greater (suc (suc (suc (suc (suc (suc n)))))) 1 (omega arith), greater (suc (suc (suc (suc (suc (suc n)))))) 2 (omega arith), greater (suc (suc (suc (suc (suc (suc n)))))) 3 (omega arith), greater (suc (suc (suc (suc (suc (suc n)))))) 5 (omega arith)) refl

none_of_two : (n : ℕ) (x y : Operand) → is_op_shaped (op.Service (suc (suc (suc (suc (suc n))))) (x ∷ y ∷ [])) ≡ false
none_of_two n x y = rw (greater (suc (suc (suc (suc (suc n))))) 3 (omega arith), greater (suc (suc (suc (suc (suc n))))) 4 (omega arith)) refl

-- ---- of one operand

one : (number : ℕ) (x : Operand) → IsTrue (is_op_shaped (op.Service number (x ∷ []))) → NamedServiceArrives 9 number (x ∷ [])
one zero x shaped a m s t items named housed place is usable stands =
    more_serves a m s t items 5 9 (omega arith) (op_effect m s (op.Service 0 (x ∷ []))) (values_arrive x a m s t items named housed place is usable stands)
one (suc zero) x shaped a m s t items named housed place is usable stands =
    more_serves a m s t items 6 9 (omega arith) (op_effect m s (op.Service 1 (x ∷ []))) (characters_arrive x a m s t items housed place is usable stands)
one (suc (suc zero)) x shaped a m s t items named housed place is usable stands =
    more_serves a m s t items 6 9 (omega arith) (op_effect m s (op.Service 2 (x ∷ []))) (fixnums_arrive x a m s t items housed place is usable stands)
one (suc (suc (suc zero))) x shaped a m s t items named housed place is usable stands =
    more_serves a m s t items 4 9 (omega arith) (op_effect m s (op.Service 3 (x ∷ []))) (faults_arrive.plain x a m s t items housed place is usable stands)
one (suc (suc (suc (suc zero)))) x shaped a m s t items named housed place is usable stands = absurd (cc)
one (suc (suc (suc (suc (suc zero))))) x shaped a m s t items named housed place is usable stands =
    more_serves a m s t items 6 9 (omega arith) (op_effect m s (op.Service 5 (x ∷ []))) (strings_arrive x a m s t items housed place is usable stands)
one (suc (suc (suc (suc (suc (suc n)))))) x shaped a m s t items named housed place is usable stands = absurd (no_service _ (none_of_one n x) shaped)

no_kind : (n : ℕ) (x : Operand) → is_op_shaped (op.Service 4 (x ∷ operand.Word (suc (suc n)) ∷ [])) ≡ false
no_kind n x = rw (greater (suc (suc n)) 0 (omega arith), greater (suc (suc n)) 1 (omega arith)) refl

-- of the heap, or of the stack
room : (x kind : Operand) → IsTrue (is_op_shaped (op.Service 4 (x ∷ kind ∷ []))) → NamedServiceArrives 9 4 (x ∷ kind ∷ [])
room x (operand.Word zero) shaped a m s t items named housed place is usable stands =
    more_serves a m s t items 7 9 (omega arith) (op_effect m s (op.Service 4 (x ∷ operand.Word 0 ∷ []))) (room_reported.heap x a m s t items housed place is usable stands)
room x (operand.Word (suc zero)) shaped a m s t items named housed place is usable stands =
    more_serves a m s t items 7 9 (omega arith) (op_effect m s (op.Service 4 (x ∷ operand.Word 1 ∷ []))) (room_reported.stack x a m s t items housed place is usable stands)
room x (operand.Word (suc (suc n))) shaped a m s t items named housed place is usable stands = absurd (no_service _ (no_kind n x) shaped)
room x (operand.Var v) shaped a m s t items named housed place is usable stands = absurd (cc)
room x (operand.Static p) shaped a m s t items named housed place is usable stands = absurd (cc)
room x (operand.Code b) shaped a m s t items named housed place is usable stands = absurd (cc)
room x (operand.Slot b) shaped a m s t items named housed place is usable stands = absurd (cc)

-- of two operands
two : (number : ℕ) (x y : Operand) → IsTrue (is_op_shaped (op.Service number (x ∷ y ∷ []))) → NamedServiceArrives 9 number (x ∷ y ∷ [])
two zero x y shaped a m s t items named housed place is usable stands = absurd (cc)
two (suc zero) x y shaped a m s t items named housed place is usable stands = absurd (cc)
two (suc (suc zero)) x y shaped a m s t items named housed place is usable stands = absurd (cc)
two (suc (suc (suc zero))) x y shaped a m s t items named housed place is usable stands = faults_arrive.with_fixnum x y a m s t items housed place is usable stands
two (suc (suc (suc (suc zero)))) x y shaped a m s t items named housed place is usable stands = room x y shaped a m s t items named housed place is usable stands
two (suc (suc (suc (suc (suc n))))) x y shaped a m s t items named housed place is usable stands = absurd (no_service _ (none_of_two n x y) shaped)

pub all_services_arrive : AllServicesArrive
all_services_arrive number [] shaped a m s t items named housed place is usable stands = absurd (cc)
all_services_arrive number (x ∷ []) shaped a m s t items named housed place is usable stands = one number x shaped a m s t items named housed place is usable stands
all_services_arrive number (x ∷ y ∷ []) shaped a m s t items named housed place is usable stands = two number x y shaped a m s t items named housed place is usable stands
all_services_arrive number (x ∷ y ∷ z ∷ rest) shaped a m s t items named housed place is usable stands = absurd (cc)
