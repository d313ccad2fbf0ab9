-- How the run of the program goes on while the unit is evaluated.
use Rattle.std.proofs.Common.{◌≡◌, ℕ, zero, suc, ◌+◌, ◌-◌, ◌*◌, ◌≤◌, ◌<◌, sum_by, None, refl, sym, ap, ◌∙◌, subst, arith, le_trans, ⊎_elim}
use Rattle.std.proofs.lemmas.Bool.{cases_lt}
use Rattle.program_runs.specs.Runs as runs
use Rattle.program_runs.specs.Follows.{after}
use Rattle.program_runs.proofs.Simulate.{after_add}
use Rattle.t_prim.specs.Values.{Val, Store}
use Rattle.t_meaning.specs.State.{State as Made}
use Rattle.t_meaning.specs.Outcomes.{Outcome, Value, Escaping, Faulted, Out, with_value}
use Rattle.cps_ir.specs.States.{Program, State, Ended, count_of, end_of}
use Rattle.cps_ir.specs.Running.{step}

-- how much waits
abbrev pub waiting_of : State → ℕ
waiting_of t = sum_by count_of t.waiting

-- what is equal wherever the two stand, and what is bounded
pub record CommonTo (store : Store) (work : ℕ) (store2 : Store) (moves2 : ℕ) : Type 0 where
  pub output : store2.output ≡ store.output
  pub heap : store2.heap ≤ store.heap
  pub moves : moves2 ≤ 5 * work

abbrev pub Common : Made → State → Type 0
Common s t = CommonTo s.store s.work t.store t.moves

module _ (q : Program) (M : ℕ) where
  -- the program goes from c to d while s becomes r, and never more waits than r is deep
  pub record Gone (c : State) (s r : Made) (d : State) : Type 0 where
    pub count : ℕ
    pub lands : after (step q) count c ≡ d
    pub waits : (i : ℕ) → i ≤ count → waiting_of (after (step q) i c) ≤ r.deepest
    pub deep : s.deepest ≤ r.deepest

  -- From c the program follows an evaluation from s with this outcome. The evaluation's bound was n, and m may be nested yet without a step.
  abbrev pub Runs : (Made → ℕ → Val → State → Type 0) → ℕ → ℕ → State → Made → Outcome → (Made → Val → State → Type 0) → Type 0
  Runs Away m n c s (Value r v) Done = (d : State) × Gone c s r d × Done r v d
  Runs Away m n c s (Escaping r i v) Done = (d : State) × Gone c s r d × Away r i v d
  Runs Away m n c s (Faulted r e) Done = (d : State) × Gone c s r d × (d.control ≡ Ended (runs.Faulted e)) × Common r d
  Runs Away m n c s (Out r) Done = (d : State) × (g : Gone c s r d) × (end_of d.control ≡ None) × Common r d × (n ≤ g.count * M + m)

  pub gone_none : (c : State) (s r : Made) → waiting_of c ≤ r.deepest → s.deepest ≤ r.deepest → Gone c s r c
  gone_none c s r low deep = record { count = 0; lands = refl; waits = λ i le. (let e : i ≡ 0 = omega arith in subst (λ j. waiting_of (after (step q) j c) ≤ r.deepest) (sym e) low); deep = deep }

  pub gone_more : (c d e : State) (s r u : Made) → Gone c s r d → Gone d r u e → Gone c s u e
  gone_more c d e s r u g h =
      let joint : (j : ℕ) → after (step q) (g.count + j) c ≡ after (step q) j d = (λ j. after_add (step q) g.count j c ∙ ap (after (step q) j) g.lands) in
      record {
        count = g.count + h.count;
        lands = joint h.count ∙ h.lands;
        waits = λ i le. ⊎_elim
            (λ lt. le_trans (g.waits i (omega arith)) h.deep)
            (λ ge.
            let e : i ≡ g.count + (i - g.count) = omega arith in
            let same : after (step q) i c ≡ after (step q) (i - g.count) d = ap (λ j. after (step q) j c) e ∙ joint (i - g.count) in
            subst (λ x. waiting_of x ≤ u.deepest) (sym same) (h.waits (i - g.count) (omega arith)))
            (cases_lt i g.count);
        deep = le_trans g.deep h.deep;
      }

  one_gone : (c d e : State) (s r u : Made) → step q c ≡ d → waiting_of c ≤ r.deepest → s.deepest ≤ r.deepest → Gone d r u e → Gone c s u e
  one_gone c d e s r u at low deep g =
      record {
        count = suc g.count;
        lands = ap (after (step q) g.count) at ∙ g.lands;
        waits = λ i le. waited i le;
        deep = le_trans deep g.deep;
      }
    where
      waited : (i : ℕ) → i ≤ suc g.count → waiting_of (after (step q) i c) ≤ u.deepest
      waited zero le = le_trans low g.deep
      waited (suc i) le = subst (λ x. waiting_of (after (step q) i x) ≤ u.deepest) (sym at) (g.waits i (omega arith))

  module _ (Away : Made → ℕ → Val → State → Type 0) where
    -- first a stretch, and then what follows
    pub runs_after : (m n : ℕ) (c d : State) (s r : Made) (o : Outcome) (Done : Made → Val → State → Type 0) → Gone c s r d → Runs Away m n d r o Done → Runs Away m n c s o Done
    unfolding gone_more
    runs_after m n c d s r (Value u v) Done g h = (h.0, gone_more c d h.0 s r u g h.1, h.2)
    runs_after m n c d s r (Escaping u i v) Done g h = (h.0, gone_more c d h.0 s r u g h.1, h.2)
    runs_after m n c d s r (Faulted u e) Done g h = (h.0, gone_more c d h.0 s r u g h.1, h.2, h.3)
    runs_after m n c d s r (Out u) Done g h = (h.0, gone_more c d h.0 s r u g h.1, h.2, h.3, omega (arith, h.4))

    -- a value, and what is done with it
    pub runs_bind : (m n : ℕ) (c : State) (s : Made) (o : Outcome) (go : Made → Val → Outcome) (Part Done : Made → Val → State → Type 0) → Runs Away m n c s o Part → ((r : Made) (v : Val) (d : State) → s.deepest ≤ r.deepest → Part r v d → Runs Away m n d r (go r v) Done) → Runs Away m n c s (with_value o go) Done
    runs_bind m n c s (Value r v) go Part Done h k = runs_after m n c h.0 s r (go r v) Done h.1 (k r v h.0 h.1.deep h.2)
    runs_bind m n c s (Escaping r i v) go Part Done h k = h
    runs_bind m n c s (Faulted r e) go Part Done h k = h
    runs_bind m n c s (Out r) go Part Done h k = h

    -- the same ends, told more widely
    pub runs_wider : (m n : ℕ) (c : State) (s : Made) (o : Outcome) (Part Done : Made → Val → State → Type 0) → Runs Away m n c s o Part → ((r : Made) (v : Val) (d : State) → s.deepest ≤ r.deepest → Part r v d → Done r v d) → Runs Away m n c s o Done
    runs_wider m n c s (Value r v) Part Done h k = (h.0, h.1, k r v h.0 h.1.deep h.2)
    runs_wider m n c s (Escaping r i v) Part Done h k = h
    runs_wider m n c s (Faulted r e) Part Done h k = h
    runs_wider m n c s (Out r) Part Done h k = h

    -- a node nests once more
    pub runs_node : (m n : ℕ) (c : State) (s r : Made) (o : Outcome) (Done : Made → Val → State → Type 0) → s.deepest ≤ r.deepest → Runs Away m n c r o Done → Runs Away (suc m) (suc n) c s o Done
    runs_node m n c s r (Value u v) Done deep h = (h.0, record { count = h.1.count; lands = h.1.lands; waits = h.1.waits; deep = le_trans deep h.1.deep }, h.2)
    runs_node m n c s r (Escaping u i v) Done deep h = (h.0, record { count = h.1.count; lands = h.1.lands; waits = h.1.waits; deep = le_trans deep h.1.deep }, h.2)
    runs_node m n c s r (Faulted u e) Done deep h = (h.0, record { count = h.1.count; lands = h.1.lands; waits = h.1.waits; deep = le_trans deep h.1.deep }, h.2, h.3)
    runs_node m n c s r (Out u) Done deep h = (h.0, record { count = h.1.count; lands = h.1.lands; waits = h.1.waits; deep = le_trans deep h.1.deep }, h.2, h.3, omega (arith, h.4))

    -- one step that begins a task with a new budget of nesting
    pub runs_enter : (m b n : ℕ) (c d : State) (s r : Made) (o : Outcome) (Done : Made → Val → State → Type 0) → step q c ≡ d → waiting_of c ≤ r.deepest → s.deepest ≤ r.deepest → b < M → Runs Away b n d r o Done → Runs Away m (suc n) c s o Done
    unfolding one_gone
    runs_enter m b n c d s r (Value u v) Done e low deep lt h = (h.0, one_gone c d h.0 s r u e low deep h.1, h.2)
    runs_enter m b n c d s r (Escaping u i v) Done e low deep lt h = (h.0, one_gone c d h.0 s r u e low deep h.1, h.2)
    runs_enter m b n c d s r (Faulted u x) Done e low deep lt h = (h.0, one_gone c d h.0 s r u e low deep h.1, h.2, h.3)
    runs_enter m b n c d s r (Out u) Done e low deep lt h = (h.0, one_gone c d h.0 s r u e low deep h.1, h.2, h.3, omega (arith, h.4, lt))

    -- one step
    pub runs_step : (m n : ℕ) (c d : State) (s : Made) (o : Outcome) (Done : Made → Val → State → Type 0) → step q c ≡ d → waiting_of c ≤ s.deepest → Runs Away m n d s o Done → Runs Away m n c s o Done
    unfolding one_gone
    runs_step m n c d s (Value u v) Done e low h = (h.0, one_gone c d h.0 s s u e low (omega arith) h.1, h.2)
    runs_step m n c d s (Escaping u i v) Done e low h = (h.0, one_gone c d h.0 s s u e low (omega arith) h.1, h.2)
    runs_step m n c d s (Faulted u x) Done e low h = (h.0, one_gone c d h.0 s s u e low (omega arith) h.1, h.2, h.3)
    runs_step m n c d s (Out u) Done e low h = (h.0, one_gone c d h.0 s s u e low (omega arith) h.1, h.2, h.3, omega (arith, h.4))

    -- counted from an earlier state
    pub runs_since : (m n : ℕ) (c : State) (s r : Made) (o : Outcome) (Done : Made → Val → State → Type 0) → s.deepest ≤ r.deepest → Runs Away m n c r o Done → Runs Away m n c s o Done
    runs_since m n c s r (Value u v) Done deep h = (h.0, record { count = h.1.count; lands = h.1.lands; waits = h.1.waits; deep = le_trans deep h.1.deep }, h.2)
    runs_since m n c s r (Escaping u i v) Done deep h = (h.0, record { count = h.1.count; lands = h.1.lands; waits = h.1.waits; deep = le_trans deep h.1.deep }, h.2)
    runs_since m n c s r (Faulted u e) Done deep h = (h.0, record { count = h.1.count; lands = h.1.lands; waits = h.1.waits; deep = le_trans deep h.1.deep }, h.2, h.3)
    runs_since m n c s r (Out u) Done deep h = (h.0, record { count = h.1.count; lands = h.1.lands; waits = h.1.waits; deep = le_trans deep h.1.deep }, h.2, h.3, h.4)
