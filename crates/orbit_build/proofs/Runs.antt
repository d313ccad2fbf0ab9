-- The machine runs through code: what is kept on the way, and how runs join.
use Rattle.std.proofs.Common.{◌≡◌, ℕ, zero, suc, ◌+◌, ◌-◌, ◌≤◌, true, List, [], ◌++◌, length, Some, refl, sym, ap, ◌∙◌, arith, ⊎_elim}
use Rattle.std.proofs.lemmas.Bool.{cases_lt}
use Rattle.m68020_code.specs.declared.instr.Instr.{Instr}
use Rattle.m68020_code.specs.Table.{is_row, spelling}
use Rattle.m68020_step.specs.declared.registers.Registers.{Registers}
use Rattle.m68020_step.specs.declared.registers.Effect.TheVariants.{Nothing, WriteLong, Service}
use Rattle.m68020_step.specs.declared.machine.Step.TheVariants as step
use Rattle.m68020_step.specs.Storage.{with_long}
use Rattle.m68020_step.specs.Operand.{next, with_pc}
use Rattle.m68020_step.specs.Step.{State, executed, step_of, after}
use Rattle.m68020_step.proofs.Executing.{IsAt, step_at}
use Rattle.machine_services.specs.declared.exit.Exit.{Exit}
use Rattle.machine_services.specs.Services.{Exits, serve}
use Rattle.machine_services.specs.Runs.{Progress, start_of, act, stepped, served, followed, run_from}
use Rattle.machine_services.proofs.Goes.{going_to, Goes, goes-on, goes-one, goes-both}

-- The address registers are the same throughout the first k instructions.
abbrev pub Still : State → ℕ → Type 0
Still s k = (i : ℕ) → i ≤ k → (run_from [] (start_of s) i).state.registers.a ≡ s.registers.a

-- From s the machine comes to t by k instructions that put nothing.
pub record Passes (s : State) (k : ℕ) (t : State) : Type 0 where
  pub goes : Goes [] s [] k t
  pub still : Still s k

-- From s the program ends so, after k instructions that put nothing.
pub record Finishes (s : State) (k : ℕ) (how : Exit) : Type 0 where
  pub state : State
  pub by : run_from [] (start_of s) k ≡ record { state = state; output = []; end = Some how; instructions = k }
  pub still : Still s k

pub passes_a : (s t : State) (k : ℕ) → Passes s k t → t.registers.a ≡ s.registers.a
passes_a s t k p = sym (ap (λ (x : Progress). x.state.registers.a) p.goes.by) ∙ p.still k (omega arith)

-- on from t
still_on : (s t : State) (j k : ℕ) → Passes s j t → Still t k → Still s (j + k)
still_on s t j k p still i le = ⊎_elim
    (λ lt. p.still i (omega arith))
    (λ ge.
    let e : i ≡ j + (i - j) = omega arith in
    ap (λ (n : ℕ). (run_from [] (start_of s) n).state.registers.a) e
    ∙ ap (λ (x : Progress). x.state.registers.a) (goes-on [] s t [] j (i - j) p.goes)
    ∙ still (i - j) (omega arith) ∙ passes_a s t j p)
    (cases_lt i j)

pub passes_both : (s t u : State) (j k : ℕ) → Passes s j t → Passes t k u → Passes s (j + k) u
passes_both s t u j k p q = record { goes = goes-both [] s t u [] [] j k p.goes q.goes; still = still_on s t j k p q.still }

pub finishes_on : (s t : State) (j k : ℕ) (how : Exit) → Passes s j t → Finishes t k how → Finishes s (j + k) how
finishes_on s t j k how p q = record {
  state = q.state;
  by = goes-on [] s t [] j k p.goes ∙ ap (λ (x : Progress). followed (going_to [] j t) x) q.by;
  still = still_on s t j k p q.still;
}

still_one : (s : State) (p : Progress) → act [] s ≡ p → p.state.registers.a ≡ s.registers.a → Still s 1
still_one s p is a zero le = refl
still_one s p is a (suc zero) le = ap (λ (x : Progress). x.state.registers.a) is ∙ a
still_one s p is a (suc (suc i)) le = absurd (omega arith)

-- ---- one instruction

-- the state behind an instruction that writes nothing to storage
abbrev pub with_registers : State → Registers → State
with_registers s r = record { registers = r; storage = s.storage }

-- the instruction at the front of the code from here on, and what it comes to
pub passes_one : (s : State) (front : List ℕ) (i : Instr) (rest : List ℕ) (r : Registers) → is_row i ≡ true → IsAt s front (spelling i ++ rest)
    → executed s.storage s.registers.pc (with_pc s.registers (s.registers.pc + length (spelling i))) i ≡ next r Nothing → r.a ≡ s.registers.a → Passes s 1 (with_registers s r)
passes_one s front i rest r row at is a =
    let t = with_registers s r in
    let here : step_of s ≡ (step.On, t) = step_at s front i rest row at ∙ ap (after s) is in
    let one : act [] s ≡ going_to [] 1 t = ap (stepped [] s.registers.pc) here in
    record { goes = goes-one [] s t [] one; still = still_one s (going_to [] 1 t) one a }

abbrev pub with_written : State → Registers → ℕ → ℕ → State
with_written s r at v = record { registers = r; storage = with_long s.storage at v }

-- the same where it writes a long word
pub passes_writing : (s : State) (front : List ℕ) (i : Instr) (rest : List ℕ) (r : Registers) (to v : ℕ) → is_row i ≡ true → IsAt s front (spelling i ++ rest)
    → executed s.storage s.registers.pc (with_pc s.registers (s.registers.pc + length (spelling i))) i ≡ next r (WriteLong to v) → r.a ≡ s.registers.a → Passes s 1 (with_written s r to v)
passes_writing s front i rest r to v row at is a =
    let t = with_written s r to v in
    let here : step_of s ≡ (step.On, t) = step_at s front i rest row at ∙ ap (after s) is in
    let one : act [] s ≡ going_to [] 1 t = ap (stepped [] s.registers.pc) here in
    record { goes = goes-one [] s t [] one; still = still_one s (going_to [] 1 t) one a }

-- the same where it is a TRAP whose service ends the program
pub finishes_one : (s : State) (front : List ℕ) (i : Instr) (rest : List ℕ) (r : Registers) (vector : ℕ) (how : Exit) → is_row i ≡ true → IsAt s front (spelling i ++ rest)
    → executed s.storage s.registers.pc (with_pc s.registers (s.registers.pc + length (spelling i))) i ≡ next r (Service vector) → r.a ≡ s.registers.a
    → serve [] (with_registers s r) vector ≡ Exits how → Finishes s 1 how
finishes_one s front i rest r vector how row at is a service =
    let t = with_registers s r in
    let here : step_of s ≡ (step.Service vector, t) = step_at s front i rest row at ∙ ap (after s) is in
    let p : Progress = record { state = t; output = []; end = Some how; instructions = 1 } in
    let one : act [] s ≡ p = ap (stepped [] s.registers.pc) here ∙ ap (served t s.registers.pc) service in
    record { state = t; by = ap (followed (start_of s)) one; still = still_one s p one a }
