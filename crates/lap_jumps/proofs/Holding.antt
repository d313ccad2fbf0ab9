-- What is held after a word is put into a home.
use Rattle.std.proofs.Common.{◌≡◌, ◌≢◌, ℕ, zero, suc, ◌+◌, ◌*◌, ◌≤◌, true, List, [], ◌∷◌, Some, slice_set, length, refl, ap, ◌∙◌, arith}
use Rattle.std.proofs.lemmas.Bool.{ne_eqb, eq-eqb, le-ltb, lt-ltb}
use Rattle.std.proofs.lemmas.Option.{slice_get_within}
use Rattle.word_ir.specs.declared.placed.Home.{Home}
use Rattle.word_ir.specs.declared.placed.Home.TheVariants as home
use Rattle.word_ir.specs.Word.{Word}
use Rattle.word_ir.specs.Storage.{HEAP_START, STACK_START, place_from}
use Rattle.word_ir.specs.State.{Setting, State as WordState, At, held, hold, has_room, stack_at}
use Rattle.word_ir.specs.Ranges.{IsInPlace}
use Rattle.lap_paths.proofs.WordStorage.{Stands, InStatics, InHeap, InStack, stands, stored_same, stored_other}
use Rattle.lap_jumps.specs.Carries.{IsOne, KeepsOthers}

pub held_same : (s : WordState) (h : Home) (w old : Word) → held s (At h) ≡ Some old → held (hold s (At h) w) (At h) ≡ Some w
held_same s (home.D i) w old has = rw (eq-eqb i i refl) refl
held_same s (home.A i) w old has = rw (eq-eqb i i refl) refl
held_same s (home.Static p) w old has = rw (eq-eqb p p refl) refl
held_same s (home.Stack n) w old has = stored_same s.storage (stack_at s n) w old has

pub held_other : (s : WordState) (h k : Home) (w old : Word) → held s (At h) ≡ Some old → h ≢ k → held (hold s (At h) w) (At k) ≡ held s (At k)
held_other s (home.D i) (home.D j) w old has ne = rw (ne_eqb i j (λ e. ne (ap home.D e))) refl
held_other s (home.D i) (home.A j) w old has ne = refl
held_other s (home.D i) (home.Static j) w old has ne = refl
held_other s (home.D i) (home.Stack j) w old has ne = refl
held_other s (home.A i) (home.D j) w old has ne = refl
held_other s (home.A i) (home.A j) w old has ne = rw (ne_eqb i j (λ e. ne (ap home.A e))) refl
held_other s (home.A i) (home.Static j) w old has ne = refl
held_other s (home.A i) (home.Stack j) w old has ne = refl
held_other s (home.Static i) (home.D j) w old has ne = refl
held_other s (home.Static i) (home.A j) w old has ne = refl
held_other s (home.Static i) (home.Static j) w old has ne = rw (ne_eqb i j (λ e. ne (ap home.Static e))) refl
held_other s (home.Static i) (home.Stack j) w old has ne = refl
held_other s (home.Stack i) (home.D j) w old has ne = refl
held_other s (home.Stack i) (home.A j) w old has ne = refl
held_other s (home.Stack i) (home.Static j) w old has ne = refl
held_other s (home.Stack i) (home.Stack j) w old has ne =
    stored_other s.storage (stack_at s i) (stack_at s j) w old has (λ e. let same : i ≡ j = omega (arith, e) in ne (ap home.Stack same))

-- a home in the stack that holds a word has room
pub room_there : (m : Setting) (s : WordState) (h : Home) (old : Word) → IsInPlace m s → held s (At h) ≡ Some old → has_room s (At h) ≡ true
room_there m s (home.D i) old place has = refl
room_there m s (home.A i) old place has = refl
room_there m s (home.Static p) old place has = refl
room_there m s (home.Stack n) old place has = by (stands s.storage (stack_at s n) old has)
  where
    low : STACK_START ≤ stack_at s n
    low = omega (arith, place.top_from)

    by : Stands s.storage (stack_at s n) old → has_room s (At (home.Stack n)) ≡ true
    by (InStatics from to there) = absurd (omega (arith, to, low))
    by (InHeap from to there) = absurd (omega (arith, to, low))
    by (InStack from there) = rw (le-ltb (stack_at s n) STACK_START low) (lt-ltb _ _ (slice_get_within s.storage.stack (place_from STACK_START (stack_at s n)) old there))

set_length : {X : Type 0} (xs : List X) (i : ℕ) (x : X) → length (slice_set xs i x) ≡ length xs
set_length [] i x = refl
set_length (y ∷ xs) zero x = refl
set_length (y ∷ xs) (suc i) x = ap suc (set_length xs i x)

pub hold_in_place : (m : Setting) (s : WordState) (h : Home) (w : Word) → IsInPlace m s → IsInPlace m (hold s (At h) w)
hold_in_place m s (home.D i) w place = record { next_from = place.next_from; next_to = place.next_to; next_whole = place.next_whole; top_from = place.top_from; top_to = place.top_to; top_whole = place.top_whole; statics = place.statics; heap = place.heap; stack = place.stack }
hold_in_place m s (home.A i) w place = record { next_from = place.next_from; next_to = place.next_to; next_whole = place.next_whole; top_from = place.top_from; top_to = place.top_to; top_whole = place.top_whole; statics = place.statics; heap = place.heap; stack = place.stack }
hold_in_place m s (home.Static p) w place = record { next_from = place.next_from; next_to = place.next_to; next_whole = place.next_whole; top_from = place.top_from; top_to = place.top_to; top_whole = place.top_whole; statics = place.statics; heap = place.heap; stack = place.stack }
hold_in_place m s (home.Stack n) w place =
    let low : STACK_START ≤ stack_at s n = omega (arith, place.top_from) in
    let behind : HEAP_START ≤ stack_at s n = omega (arith, low) in
    record {
      next_from = place.next_from;
      next_to = place.next_to;
      next_whole = place.next_whole;
      top_from = place.top_from;
      top_to = place.top_to;
      top_whole = place.top_whole;
      statics = rw (le-ltb (stack_at s n) HEAP_START behind, le-ltb (stack_at s n) STACK_START low) place.statics;
      heap = rw (le-ltb (stack_at s n) HEAP_START behind, le-ltb (stack_at s n) STACK_START low) place.heap;
      stack = rw (le-ltb (stack_at s n) HEAP_START behind, le-ltb (stack_at s n) STACK_START low) (set_length s.storage.stack (place_from STACK_START (stack_at s n)) w ∙ place.stack);
    }

-- ---- what else is there

pub keeps_all : (homes : List Home) (s : WordState) → KeepsOthers homes s s
keeps_all homes s = record { storage = λ at other. refl; next = refl; top = refl }

pub keeps_trans : (homes : List Home) (s t u : WordState) → KeepsOthers homes s t → KeepsOthers homes t u → KeepsOthers homes s u
keeps_trans homes s t u x y = record {
  storage = λ at other. y.storage at (λ n is e. other n is (e ∙ ap (λ (top : ℕ). top + 4 * n) x.top)) ∙ x.storage at other;
  next = y.next ∙ x.next;
  top = y.top ∙ x.top;
}

pub hold_keeps : (homes : List Home) (s : WordState) (h : Home) (w old : Word) → IsOne homes h → held s (At h) ≡ Some old → KeepsOthers homes s (hold s (At h) w)
hold_keeps homes s (home.D i) w old is has = record { storage = λ at other. refl; next = refl; top = refl }
hold_keeps homes s (home.A i) w old is has = record { storage = λ at other. refl; next = refl; top = refl }
hold_keeps homes s (home.Static p) w old is has = record { storage = λ at other. refl; next = refl; top = refl }
hold_keeps homes s (home.Stack n) w old is has = record { storage = λ at other. stored_other s.storage (stack_at s n) at w old has (other n is); next = refl; top = refl }
