-- The code of a term does what the term comes to.
use Rattle.std.proofs.Common.{◌≡◌, ℕ, suc, ◌+◌, ◌*◌, ◌^◌, ◌≤◌, ◌<◌, Bool, true, false, List, [], ◌++◌, length, Some, refl, sym, ap, ◌∙◌, subst, arith, append_assoc, append-nil, inl}
use Rattle.std.specs.Prelude.{ℤ, ◌+ℤ◌, if◌then◌else◌, max}
use Rattle.std.proofs.Math.Nat.{le-max_left, le-max_right}
use Rattle.std.proofs.lemmas.Bool.{lt-ltb}
use Rattle.std.proofs.lemmas.List.{get_or-set_same, length-set}
use Rattle.t_base.specs.declared.faults.Fault.TheVariants.{FixnumOverflow}
use Rattle.m68020_code.specs.Table.{is_row, spelling}
use Rattle.m68020_step.specs.declared.registers.Registers.{Registers}
use Rattle.m68020_step.specs.Storage.{long_at, can_write}
use Rattle.m68020_step.specs.ConditionCodes.{flags_of_result}
use Rattle.m68020_step.specs.Operand.{data_at, with_data, with_flags, with_pc}
use Rattle.m68020_step.specs.Step.{State}
use Rattle.m68020_step.proofs.Executing.{IsAt, past}
use Rattle.m68020_step.proofs.Memory.{long_written, long_kept, can_write_statics, code_kept, shape_kept}
use Rattle.m68020_step.proofs.Rows.{move_immediate, move_to_storage}
use Rattle.t_prim.specs.Operands.{in_range}
use Rattle.orbit_build.specs.Sums.{most_open, Term, Literal, Sum, HasFixnums}
use Rattle.orbit_build.proofs.Evaluation.{Outcome, Value, Faulted, Counters, Evaluation, entered, gives, passed, with_value, sum_of, whole}
use Rattle.orbit_build.specs.Code.{word, slot, load, save, add_saved, bytes_of, term_code}
use Rattle.orbit_build.proofs.Words.{word_fits}
use Rattle.orbit_build.proofs.Runs.{Passes, with_registers, with_written, passes_one, passes_writing, passes_both, finishes_on}
use Rattle.orbit_build.proofs.Sums.{Fit, Kept, Gives, Ending, fetch, add, branch_over, load_seven, raise, sum_given, sum_faulted}

-- how many of its sums are open at once
abbrev pub nesting : Term → ℕ
nesting (Literal v) = 0
nesting (Sum a b) = suc (max (nesting a) (nesting b))

-- ---- what is kept

kept_trans : (depth : ℕ) (s t u : State) → Kept depth s t → Kept depth t u → Kept depth s u
kept_trans depth s t u h k = record { registers = k.registers ∙ h.registers; statics = k.statics ∙ h.statics; slots = λ j lt. k.slots j lt ∙ h.slots j lt }

kept_less : (depth : ℕ) (s t : State) → Kept (depth + 1) s t → Kept depth s t
kept_less depth s t h = record { registers = h.registers; statics = h.statics; slots = λ j lt. h.slots j (omega arith) }

pub fit_kept : (depth : ℕ) (s t : State) → Fit s → Kept depth s t → Fit t
fit_kept depth s t f h = record { registers = h.registers ∙ f.registers; statics = h.statics ∙ f.statics }

-- what comes of an evaluation, from s on within so many instructions
pub record Comes (s : State) (depth : ℕ) (front rest : List ℕ) (before : ℕ) (r : Evaluation) : Type 0 where
  pub count : ℕ
  pub few : count + 6 * before ≤ 6 * r.counters.work
  pub ending : Ending s depth front rest count r.outcome

-- ---- a literal

load_is_row : (v : ℕ) → v < 2 ^ 32 → is_row (load v) ≡ true
load_is_row v lt = rw (lt-ltb v (2 ^ 32) lt) refl

-- D0 gets a word
pub record Loads (s : State) (front rest : List ℕ) (v : ℕ) : Type 0 where
  pub state : State
  pub passes : Passes s 1 state
  pub at : IsAt state (front ++ spelling (load v)) rest
  pub value : data_at state.registers 0 ≡ v
  pub kept : (depth : ℕ) → Kept depth s state

pub loads : (s : State) (front rest : List ℕ) (v : ℕ) → v < 2 ^ 32 → Fit s → IsAt s front (spelling (load v) ++ rest) → Loads s front rest v
loads s front rest v lt fit at =
    let r : Registers = with_flags (with_data (with_pc s.registers (s.registers.pc + length (spelling (load v)))) 0 v) (flags_of_result s.registers.flags v) in
    let t = with_registers s r in
    record {
      state = t;
      passes = passes_one s front (load v) rest r (load_is_row v lt) at (move_immediate s.storage s.registers.pc _ v 0) refl;
      at = past s t front (load v) rest at refl refl;
      value = get_or-set_same s.registers.d 0 v 0 (omega (arith, fit.registers));
      kept = λ depth. record { registers = length-set s.registers.d 0 v; statics = refl; slots = λ j lt. refl };
    }

-- ---- the first operand is kept

save_is_row : (depth : ℕ) → depth < most_open → is_row (save depth) ≡ true
save_is_row depth lt = rw (lt-ltb (slot depth) (2 ^ 32) (omega arith)) refl

record Saves (s : State) (front rest : List ℕ) (depth v : ℕ) : Type 0 where
  state : State
  passes : Passes s 1 state
  at : IsAt state (front ++ spelling (save depth)) rest
  saved : long_at state.storage (slot depth) ≡ Some v
  kept : Kept depth s state

saves : (s : State) (front rest : List ℕ) (depth v : ℕ) → v < 2 ^ 32 → depth < most_open → Fit s → data_at s.registers 0 ≡ v → IsAt s front (spelling (save depth) ++ rest) → Saves s front rest depth v
saves s front rest depth v lt low fit d0 at =
    let r : Registers = with_flags (with_pc s.registers (s.registers.pc + length (spelling (save depth)))) (flags_of_result s.registers.flags (data_at s.registers 0)) in
    let w = data_at s.registers 0 in
    let t = with_written s r (slot depth) w in
    let writes : can_write s.storage (slot depth) 4 ≡ true = can_write_statics s.storage (slot depth) (omega arith) (omega (arith, fit.statics)) (omega (arith, fit.statics)) in
    let small : w < 2 ^ 32 = subst (λ n. n < 2 ^ 32) (sym d0) lt in
    record {
      state = t;
      passes = passes_writing s front (save depth) rest r (slot depth) w (save_is_row depth low) at (move_to_storage s.storage s.registers.pc _ 0 (slot depth) writes) refl;
      at = past s t front (save depth) rest at (code_kept s.storage (slot depth) _) refl;
      saved = long_written s.storage (slot depth) w small writes ∙ ap (λ (n : ℕ). Some n) d0;
      kept = record { registers = refl; statics = (shape_kept s.storage (slot depth) _ writes).statics; slots = λ j lt. long_kept s.storage (slot depth) w (slot j) writes (inl (omega arith)) };
    }

-- ---- a sum

-- the sum of what was kept and D0, by what it comes to
added : (s : State) (front rest : List ℕ) (depth : ℕ) (x y : ℤ) → in_range x ≡ true → in_range y ≡ true → Fit s → depth < most_open → IsAt s front (bytes_of (add_saved depth) ++ rest)
    → data_at s.registers 0 ≡ word y → long_at s.storage (slot depth) ≡ Some (word x) → (k : ℕ) × ((k ≤ 5) × Ending s depth (front ++ bytes_of (add_saved depth)) rest k (sum_of x y))
added s front rest depth x y fx fy fit low at d0 saved = by_test (in_range (x +ℤ y)) refl
  where
    grouped : (a b c d e r : List ℕ) → (a ++ (b ++ (c ++ (d ++ (e ++ []))))) ++ r ≡ a ++ (b ++ (c ++ (d ++ (e ++ r))))
    grouped a b c d e r = simp (append-nil, append_assoc)

    joined : (f a b c d e : List ℕ) → ((((f ++ a) ++ b) ++ c) ++ d) ++ e ≡ f ++ (a ++ (b ++ (c ++ (d ++ (e ++ [])))))
    joined f a b c d e = simp (append-nil, append_assoc)

    here : IsAt s front (spelling (fetch depth) ++ (spelling add ++ (spelling branch_over ++ (spelling load_seven ++ (spelling raise ++ rest)))))
    here = subst (λ l. IsAt s front l) (grouped (spelling (fetch depth)) (spelling add) (spelling branch_over) (spelling load_seven) (spelling raise) rest) at

    by_test : (t : Bool) → in_range (x +ℤ y) ≡ t → (k : ℕ) × ((k ≤ 5) × Ending s depth (front ++ bytes_of (add_saved depth)) rest k (sum_of x y))
    by_test true e =
        let g = sum_given s front rest depth x y fx fy fit low here d0 saved e in
        let w = subst (λ l. Gives s depth l rest 3 (x +ℤ y)) (joined front (spelling (fetch depth)) (spelling add) (spelling branch_over) (spelling load_seven) (spelling raise)) g in
        (3, (omega arith, subst (λ o. Ending s depth (front ++ bytes_of (add_saved depth)) rest 3 o) (sym (ap (λ (t : Bool). if t then Value (x +ℤ y) else Faulted FixnumOverflow) e)) w))
    by_test false e =
        let g = sum_faulted s front rest depth x y fx fy fit low here d0 saved e in
        (5, (omega arith, subst (λ o. Ending s depth (front ++ bytes_of (add_saved depth)) rest 5 o) (sym (ap (λ (t : Bool). if t then Value (x +ℤ y) else Faulted FixnumOverflow) e)) g))

-- an ending after what went before
ending_on : (s t : State) (depth : ℕ) (front rest : List ℕ) (j k : ℕ) (o : Outcome) → Passes s j t → Kept depth s t → Ending t depth front rest k o → Ending s depth front rest (j + k) o
ending_on s t depth front rest j k (Value v) p h e = record { state = e.state; passes = passes_both s t e.state j k p e.passes; at = e.at; value = e.value; fixnum = e.fixnum; kept = kept_trans depth s t e.state h e.kept }
ending_on s t depth front rest j k (Faulted fault) p h e = finishes_on s t j k _ p e

-- the second operand and the sum, from behind the first operand
second_comes : (s : State) (front rest : List ℕ) (depth : ℕ) (code_b : List ℕ) (before : ℕ) (x : ℤ) (r : Evaluation) → in_range x ≡ true → Fit s → depth < most_open → IsAt s front (spelling (save depth) ++ (code_b ++ (bytes_of (add_saved depth) ++ rest)))
    → data_at s.registers 0 ≡ word x
    → ((t : State) → Fit t → IsAt t (front ++ spelling (save depth)) (code_b ++ (bytes_of (add_saved depth) ++ rest)) → Comes t (depth + 1) ((front ++ spelling (save depth)) ++ code_b) (bytes_of (add_saved depth) ++ rest) before r)
    → (k : ℕ) × ((k + 6 * before ≤ 6 * r.counters.work + 6) × Ending s depth (((front ++ spelling (save depth)) ++ code_b) ++ bytes_of (add_saved depth)) rest k (passed r.counters r.outcome (λ u y. gives u (sum_of x y))).outcome)
second_comes s front rest depth code_b before x r fx fit low at d0 more =
    let w = saves s front _ depth (word x) (word_fits x fx) low fit d0 at in
    let fit2 = fit_kept depth s w.state fit w.kept in
    let c = more w.state fit2 w.at in
    by_outcome w fit2 c.count c.few r.outcome c.ending
  where
    by_outcome : (w : Saves s front (code_b ++ (bytes_of (add_saved depth) ++ rest)) depth (word x)) → Fit w.state → (k : ℕ) → k + 6 * before ≤ 6 * r.counters.work → (o : Outcome) → Ending w.state (depth + 1) ((front ++ spelling (save depth)) ++ code_b) (bytes_of (add_saved depth) ++ rest) k o
        → (j : ℕ) × ((j + 6 * before ≤ 6 * r.counters.work + 6) × Ending s depth (((front ++ spelling (save depth)) ++ code_b) ++ bytes_of (add_saved depth)) rest j (passed r.counters o (λ u y. gives u (sum_of x y))).outcome)
    by_outcome w fit2 k few (Value y) e =
        let fit3 = fit_kept (depth + 1) w.state e.state fit2 e.kept in
        let saved : long_at e.state.storage (slot depth) ≡ Some (word x) = e.kept.slots depth (omega arith) ∙ w.saved in
        let a = added e.state _ rest depth x y fx e.fixnum fit3 low e.at e.value saved in
        let kept = kept_trans depth s w.state e.state w.kept (kept_less depth w.state e.state e.kept) in
        (1 + k + a.0, (omega (arith, few, a.1.0), ending_on s e.state depth _ rest (1 + k) a.0 (sum_of x y) (passes_both s w.state e.state 1 k w.passes e.passes) kept a.1.1))
    by_outcome w fit2 k few (Faulted fault) e = (1 + k, (omega (arith, few), finishes_on s w.state 1 k _ w.passes e))

-- the whole sum
sum_comes : (s : State) (front rest : List ℕ) (depth : ℕ) (code_a code_b : List ℕ) (c : ℕ) (r : Evaluation) (second : Counters → Evaluation) → Fit s → depth < most_open
    → Comes s depth (front ++ code_a) (spelling (save depth) ++ (code_b ++ (bytes_of (add_saved depth) ++ rest))) (c + 1) r
    → ((t : State) → Fit t → IsAt t ((front ++ code_a) ++ spelling (save depth)) (code_b ++ (bytes_of (add_saved depth) ++ rest)) → Comes t (depth + 1) (((front ++ code_a) ++ spelling (save depth)) ++ code_b) (bytes_of (add_saved depth) ++ rest) r.counters.work (second r.counters))
    → Comes s depth (front ++ (code_a ++ (spelling (save depth) ++ (code_b ++ bytes_of (add_saved depth))))) rest c (with_value r (λ t x. with_value (second t) (λ u y. gives u (sum_of x y))))
sum_comes s front rest depth code_a code_b c r second fit low first more = by_outcome r.outcome first.count first.few first.ending
  where
    joined : (f a g b h : List ℕ) → (((f ++ a) ++ g) ++ b) ++ h ≡ f ++ (a ++ (g ++ (b ++ h)))
    joined f a g b h = simp append_assoc

    kept_work : (q : Evaluation) (x : ℤ) → (passed q.counters q.outcome (λ u y. gives u (sum_of x y))).counters.work ≡ q.counters.work
    kept_work q x = by_part q.outcome
      where
        by_part : (o : Outcome) → (passed q.counters o (λ u y. gives u (sum_of x y))).counters.work ≡ q.counters.work
        by_part (Value y) = refl
        by_part (Faulted fault) = refl

    by_outcome : (o : Outcome) (k : ℕ) → k + 6 * (c + 1) ≤ 6 * r.counters.work → Ending s depth (front ++ code_a) (spelling (save depth) ++ (code_b ++ (bytes_of (add_saved depth) ++ rest))) k o
        → Comes s depth (front ++ (code_a ++ (spelling (save depth) ++ (code_b ++ bytes_of (add_saved depth))))) rest c (passed r.counters o (λ t x. with_value (second t) (λ u y. gives u (sum_of x y))))
    by_outcome (Value x) k few e =
        let fit2 = fit_kept depth s e.state fit e.kept in
        let q = second r.counters in
        let w = second_comes e.state (front ++ code_a) rest depth code_b r.counters.work x q e.fixnum fit2 low e.at e.value more in
        let end_ = subst (λ l. Ending s depth l rest (k + w.0) (passed q.counters q.outcome (λ u y. gives u (sum_of x y))).outcome) (joined front code_a (spelling (save depth)) code_b (bytes_of (add_saved depth)))
        (ending_on s e.state depth _ rest k w.0 _ e.passes e.kept w.1.1) in
        record { count = k + w.0; few = omega (arith, few, w.1.0, kept_work q x); ending = end_ }
    by_outcome (Faulted fault) k few e = record { count = k; few = omega (arith, few); ending = e }

pub term_comes : (f : Term) (depth e : ℕ) (c : Counters) (s : State) (front rest : List ℕ) → HasFixnums f → depth + nesting f ≤ most_open → Fit s → IsAt s front (term_code depth f ++ rest)
    → Comes s depth (front ++ term_code depth f) rest c.work (whole e f c)
unfolding whole
term_comes (Literal v) depth e c s front rest h le fit at =
    let l = loads s front rest (word v) (word_fits v h) fit at in
    record { count = 1; few = omega arith; ending = record { state = l.state; passes = l.passes; at = l.at; value = l.value; fixnum = h; kept = l.kept depth } }
term_comes (Sum a b) depth e c s front rest h le fit at =
    let la = le-max_left (nesting a) (nesting b) in
    let lb = le-max_right (nesting a) (nesting b) in
    let here = subst (λ l. IsAt s front l) (grouped (term_code depth a) (spelling (save depth)) (term_code (depth + 1) b) (bytes_of (add_saved depth)) rest) at in
    sum_comes s front rest depth (term_code depth a) (term_code (depth + 1) b) c.work (whole (suc e) a (entered e c)) (λ t. whole (suc e) b t) fit (omega (arith, le))
    (term_comes a depth (suc e) (entered e c) s front _ h.0 (omega (arith, le, la)) fit here)
    (λ t fit2 at2. term_comes b (depth + 1) (suc e) (whole (suc e) a (entered e c)).counters t _ _ h.1 (omega (arith, le, lb)) fit2 at2)
  where
    grouped : (f g b h r : List ℕ) → (f ++ (g ++ (b ++ h))) ++ r ≡ f ++ (g ++ (b ++ (h ++ r)))
    grouped f g b h r = simp append_assoc
