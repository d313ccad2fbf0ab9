-- A unit whose forms stand for terms means what the terms come to.
use Rattle.std.proofs.Common.{◌≡◌, ℕ, zero, suc, ◌+◌, ◌≤◌, List, [], ◌∷◌, Option, Some, Bool, true, false, slice_get, refl, ap, ◌∙◌, subst, arith, le_trans}
use Rattle.std.specs.Prelude.{ℤ, ◌+ℤ◌, if◌then◌else◌, option_and_then}
use Rattle.std.proofs.Math.Nat.{le-max_left, le-max_right}
use Rattle.program_runs.specs.Runs.{Shown, Fixnum, EmptyList, Observation}
use Rattle.t_base.specs.declared.faults.Fault.TheVariants.{FixnumOverflow}
use Rattle.t_base.specs.declared.builtins.Builtin.TheVariants.{Add}
use Rattle.t_core.specs.declared.forms.Core.{Core}
use Rattle.t_core.specs.declared.forms.FormKind.{FormKind}
use Rattle.t_core.specs.declared.forms.FormKind.TheVariants.{Plain}
use Rattle.t_core.specs.declared.forms.Form.{Form}
use Rattle.t_core.specs.declared.forms.UnitCore.{UnitCore}
use Rattle.t_prim.specs.Values.{Val, FixV, NilV, shown_of}
use Rattle.t_prim.specs.Operands.{in_range}
use Rattle.t_prim.specs.Operands as operands
use Rattle.t_prim.specs.Table.{row}
use Rattle.t_meaning.specs.Programs.{Marking, Program, node_at}
use Rattle.t_meaning.specs.State.{State}
use Rattle.t_meaning.specs.State as state
use Rattle.t_meaning.specs.Outcomes as meant
use Rattle.t_meaning.specs.Outcomes.{Context, Evaluate, after_row}
use Rattle.t_meaning.specs.Operations.{lambda_of}
use Rattle.t_meaning.specs.Expressions.{evaluate}
use Rattle.t_meaning.specs.Performing.{perform}
use Rattle.t_meaning.specs.Units.{start, form_gives, run_forms, observed, meaning}
use Rattle.orbit_build.specs.Sums.{Term, Literal, Sum, IsTerm, AreTerms}
use Rattle.orbit_build.proofs.Evaluation.{Outcome, Value, Faulted, Counters, Evaluation, entered, gives, passed, with_value, sum_of, whole, height, Progress, counted, continued, whole_run, top, fresh}

-- the state with these counters
abbrev pub counting : State → Counters → State
counting s c = record s { work = c.work; deepest = c.deepest }

abbrev lifted_to : State → Outcome → meant.Outcome
lifted_to s (Value v) = meant.Value s (FixV v)
lifted_to s (Faulted fault) = meant.Faulted s fault

-- what the unit gives where the term comes to this
abbrev lifted : State → Evaluation → meant.Outcome
lifted s r = lifted_to (counting s r.counters) r.outcome

lifted_passed : (s : State) (r : Evaluation) (f : State → Val → meant.Outcome) (g : Counters → ℤ → Evaluation) → ((t : Counters) (x : ℤ) → f (counting s t) (FixV x) ≡ lifted s (g t x))
    → meant.with_value (lifted s r) f ≡ lifted s (with_value r g)
lifted_passed s r f g h = by_outcome r.outcome
  where
    by_outcome : (o : Outcome) → meant.with_value (lifted_to (counting s r.counters) o) f ≡ lifted s (passed r.counters o g)
    by_outcome (Value v) = h r.counters v
    by_outcome (Faulted fault) = refl

sum_lifted : (s : State) (u : Counters) (x y : ℤ) → after_row (counting s u) (row Add (FixV x ∷ FixV y ∷ []) s.store) ≡ lifted s (gives u (sum_of x y))
sum_lifted s u x y = by_test (in_range (x +ℤ y))
  where
    by_test : (b : Bool) → after_row (counting s u) (if b then operands.Gives (FixV (x +ℤ y)) else operands.Faults FixnumOverflow) ≡ lifted s (gives u (if b then Value (x +ℤ y) else Faulted FixnumOverflow))
    by_test true = refl
    by_test false = refl

-- ---- a term

module _ (p : Program) (at : ℕ) (nodes : List Core) (looks : (k : ℕ) → node_at p.unit at k ≡ slice_get nodes k) where
  abbrev here : Context
  here = record { form = at; tail = false; env = [] }

  performed : (n d k : ℕ) (s : State) (o : Option Core) → slice_get nodes k ≡ o → perform p (suc n) d (Evaluate k here) s ≡ evaluate p (perform p n) d k here o (state.entered d s)
  performed n d k s o e = ap (λ (x : Option Core). evaluate p (perform p n) d k here x (state.entered d s)) (looks k ∙ e)

  pub performs : (t : Term) (n d k : ℕ) (s : State) (q : Counters) → IsTerm nodes k t → height t ≤ n → perform p n d (Evaluate k here) (counting s q) ≡ lifted s (whole d t q)
  unfolding whole height
  performs (Literal v) zero d k s q h le = absurd (omega arith)
  performs (Sum a b) zero d k s q h le = absurd (omega arith)
  performs (Literal v) (suc n) d k s q h le = performed n d k (counting s q) _ h
  performs (Sum a b) (suc n) d k s q h le =
      let la : height a ≤ n = le_trans (le-max_left (height a) (height b)) (omega arith) in
      let lb : height b ≤ n = le_trans (le-max_right (height a) (height b)) (omega arith) in
      let i = h.0 in
      let j = h.1 in
      let last = λ (v : Val) (u : State) (w : Val). after_row u (row Add (v ∷ w ∷ []) u.store) in
      let second = λ (t : State) (v : Val). meant.with_value (perform p n (suc d) (Evaluate j here) t) (last v) in
      performed n d k (counting s q) _ h.2
      ∙ ap (λ (o : meant.Outcome). meant.with_value o second) (performs a n (suc d) i s (entered d q) h.5 la)
      ∙ lifted_passed s (whole (suc d) a (entered d q)) second _
      (λ t x. ap (λ (o : meant.Outcome). meant.with_value o (last (FixV x))) (performs b n (suc d) j s t h.6 lb)
      ∙ lifted_passed s (whole (suc d) b t) (last (FixV x)) _ (λ u y. sum_lifted s u x y))

-- ---- a unit

abbrev pub seen : Progress → Observation
seen p = record { output = []; end = Some p.end; heap = 0; waiting = p.counters.deepest; moves = p.counters.work }

plain_gives : (unit : UnitCore) (kind : FormKind) (f : Option state.Procedure) (root : State → meant.Outcome) (s : State) → kind ≡ Plain → form_gives unit kind f root s ≡ root s
plain_gives unit kind f root s e = ap (λ (x : FormKind). form_gives unit x f root s) e

module _ (p : Program) where
  continued_seen : (s : State) (r : Evaluation) (f : State → Val → meant.Outcome) (g : Counters → Shown → Progress) → ((t : Counters) (x : ℤ) → observed (f (counting s t) (FixV x)) ≡ seen (g t (Fixnum x)))
      → s.store.output ≡ [] → s.store.heap ≡ 0 → observed (meant.with_value (lifted s r) f) ≡ seen (continued r.counters r.outcome g)
  continued_seen s r f g h o w = by_outcome r.outcome
    where
      by_outcome : (x : Outcome) → observed (meant.with_value (lifted_to (counting s r.counters) x) f) ≡ seen (continued r.counters x g)
      by_outcome (Value v) = h r.counters v
      by_outcome (Faulted fault) = rw (o, w) refl

  forms_seen : (ts : List Term) (forms : List Form) (n at : ℕ) (q : Counters) (v : Val) (last : Shown) → AreTerms forms ts → ((k : ℕ) → slice_get p.unit.forms.items (at + k) ≡ slice_get forms k)
      → shown_of (start p.unit).store v ≡ last → top ts ≤ n → observed (run_forms p n at forms (counting (start p.unit) q) v) ≡ seen (whole_run ts q last)
  unfolding whole_run top
  forms_seen [] [] n at q v last h there shown le = rw shown refl
  forms_seen [] (form ∷ forms) n at q v last h there shown le = absurd h
  forms_seen (t ∷ ts) [] n at q v last h there shown le = absurd h
  forms_seen (t ∷ ts) (form ∷ forms) n at q v last h there shown le =
      let s = start p.unit in
      let lt : height t ≤ n = le_trans (le-max_left (height t) (top ts)) le in
      let lts : top ts ≤ n = le_trans (le-max_right (height t) (top ts)) le in
      let here : slice_get p.unit.forms.items at ≡ Some form = subst (λ (k : ℕ). slice_get p.unit.forms.items k ≡ Some form) (let i : at + 0 ≡ at = omega arith in i) (there 0) in
      let looks = λ (k : ℕ). ap (λ (o : Option Form). option_and_then (λ (f : Form). slice_get f.nodes.items k) o) here in
      let behind = λ (k : ℕ). subst (λ (i : ℕ). slice_get p.unit.forms.items i ≡ slice_get forms k) (let i : at + suc k ≡ suc at + k = omega arith in i) (there (suc k)) in
      let rest = λ (u : State) (w : Val). run_forms p n (suc at) forms u w in
      let root = λ (u : State). perform p n 1 (Evaluate form.root (record { form = at; tail = false; env = [] })) u in
      ap (λ (o : meant.Outcome). observed (meant.with_value o rest)) (plain_gives p.unit form.kind (lambda_of at form) root (counting s (counted q)) h.0.0)
      ∙ ap (λ (o : meant.Outcome). observed (meant.with_value o rest)) (performs p at form.nodes.items looks t n 1 form.root s (counted q) h.0.1.is lt)
      ∙ continued_seen s (whole 1 t (counted q)) rest _ (λ u x. forms_seen ts forms n (suc at) u (FixV x) (Fixnum x) h.1 behind refl lts) refl refl

-- The meaning of the unit, at every bound that is large enough, whichever LAMBDAs escape.
pub meaning_whole : (unit : UnitCore) (escapes : Marking) (ts : List Term) (n : ℕ) → AreTerms unit.forms.items ts → top ts ≤ n → meaning unit escapes n ≡ seen (whole_run ts fresh EmptyList)
meaning_whole unit escapes ts n h le =
    let p : Program = record { unit = unit; escapes = escapes } in
    forms_seen p ts unit.forms.items n 0 fresh NilV EmptyList h (λ k. ap (λ (i : ℕ). slice_get unit.forms.items i) (let i : 0 + k ≡ k = omega arith in i)) refl le
