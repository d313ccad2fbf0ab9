-- With cells the meaning is kept.
use Rattle.std.specs.Prelude.{◌==◌, IsSomeAnd}
use Rattle.std.specs.List.{AllByRecursion, filter}
use Rattle.std.specs.Option.{option_map_or, option_map}
use Rattle.std.proofs.Common.{◌≡◌, ℕ, zero, suc, ◌+◌, ◌≤◌, List, [], ◌∷◌, length, take, map, Option, Some, None, Bool, true, false, cond, if◌then◌else◌, slice_get, refl, sym, ap, ◌∙◌, subst, arith}
use Rattle.t_base.specs.declared.shared_parts.OpInfo.{OpInfo}
use Rattle.t_base.specs.declared.shared_parts.Global1.{Global1}
use Rattle.program_runs.specs.Runs.{End, Observation, Run, IsProper}
use Rattle.program_runs.specs.Follows.{after}
use Rattle.program_runs.specs.Keeps.{Keeps}
use Rattle.program_runs.proofs.Prefixes.{prefix_of_eq}
use Rattle.t_prim.specs.Values.{Val}
use Rattle.cps_ir.specs.declared.terms.Term.{Term}
use Rattle.cps_ir.specs.declared.terms.Cps.{Cps}
use Rattle.cps_ir.specs.Terms.{moves_of}
use Rattle.cps_ir.specs.States.{Marking, Program, marked, Scope, Closure, Handler, Control, At, Calling, Looking, Entering, Ended, State, going, counting, seen}
use Rattle.cps_ir.specs.Giving.{or_broken}
use Rattle.cps_ir.specs.Calls.{defaulted, default_at, default_of, looked}
use Rattle.cps_ir.specs.Running.{performed, advanced, step, start, first_closures, run}
use Rattle.cps_ir.specs.Parts.{global_lams, first_lams, is_procedure, is_assigned}
use Rattle.cps_ir.specs.Whole.{IsFormed, IsWhole}
use Rattle.cps_ir.specs.Loads.{HasLoads}
use Rattle.cps_ir.proofs.ProperLists.{some_same, none_some, fewer_before}
use Rattle.cps_ir.proofs.Proper.{whole_ends_properly}
use Rattle.assign_convert.specs.AssignedCells.{celled, AreCells}
use Rattle.assign_convert.specs.CellLaws.{CellsKeep}
use Rattle.assign_convert.proofs.Terms.{with_terms, at_place, no_more_moves, unassigned}
use Rattle.assign_convert.proofs.Ruled.{Has, has, root_at, entry_ruled}
use Rattle.assign_convert.proofs.Steps.{ScopeRuled, ClosureRuled, HandlersRuled, Kept, ControlRuled, lighter, Same, called_same, entered_same, performs}

-- ---- steps

module _ (a d : Cps) (formed : IsFormed a) (loads : HasLoads a) (m : Marking) (terms : d.terms.items ≡ map (celled (is_assigned a)) a.terms.items) where
  abbrev p : Program
  p = marked a m

  abbrev q : Program
  q = marked (with_terms a d) m

  none : (x : ℕ) → is_assigned (with_terms a d) x ≡ false
  none x = unassigned (is_assigned a) a.terms.items (with_terms a d) terms x

  default_ruled : (o : ℕ) (i : Option OpInfo) (c : Closure) → slice_get a.shared.ops.items o ≡ i → option_map_or (default_at a o) i None ≡ Some c → ClosureRuled a c
  default_ruled o None c r e = none_some c e
  default_ruled o (Some info) c r e = by_test info.default refl e
    where
      by_test : (b : Bool) → info.default ≡ b → (if b then Some (record { lam = global_lams a + length (filter (λ other. other.default) (take o a.shared.ops.items)); scope = [] }) else None) ≡ Some c → ClosureRuled a c
      by_test true t e = subst (ClosureRuled a) (some_same _ _ e) (record { lam = root_at a formed loads _ (let fewer = fewer_before (λ other. other.default) a.shared.ops.items o info r t in omega (arith, fewer)); scope = tt })
      by_test false t e = none_some c e

  defaulted_same : (n o : ℕ) (c : Option Closure) (args : List Val) (s : State) → Kept a s → n ≤ s.moves → default_of a o ≡ c → Same a (defaulted c args s) (defaulted c args (lighter n s))
  defaulted_same n o None args s kept le e = record { kept = kept; control = tt; fewer = le; same = refl }
  defaulted_same n o (Some c) args s kept le e = record { kept = kept; control = default_ruled o (slice_get a.shared.ops.items o) c refl e; fewer = le; same = refl }

  looked_same : (n o : ℕ) (hs : List Handler) (args : List Val) (s : State) → HandlersRuled a hs → Kept a s → n ≤ s.moves → Same a (looked p o hs args s) (looked q o hs args (lighter n s))
  looked_same n o [] args s h kept le = defaulted_same n o (default_of a o) args s kept le refl
  looked_same n o (x ∷ hs) args s h kept le = by_test (x.op == o)
    where
      by_test : (b : Bool) → Same a (going (if b then Entering x.closure args else Looking o hs args) s) (going (if b then Entering x.closure args else Looking o hs args) (lighter n s))
      by_test true = record { kept = kept; control = h.0; fewer = le; same = refl }
      by_test false = record { kept = kept; control = h.1; fewer = le; same = refl }

  term_same : (n : ℕ) (scope : Scope) (s : State) (o : Option Term) → IsSomeAnd o (Has a) → ScopeRuled a scope → Kept a s → n ≤ s.moves
      → Same a (or_broken o s (λ t. performed p scope t (counting (moves_of t) s))) (or_broken (option_map (celled (is_assigned a)) o) (lighter n s) (λ t. performed q scope t (counting (moves_of t) (lighter n s))))
  term_same n scope s None h r kept le = absurd h
  term_same n scope s (Some term) h r kept le =
      let fewer = no_more_moves (is_assigned a) term in
      performs a d m none (n + moves_of (celled (is_assigned a) term)) scope term (counting (moves_of term) s) h r kept (omega (arith, fewer, le))

  advanced_same : (n : ℕ) (c : Control) (s : State) → ControlRuled a s.control → ControlRuled a c → Kept a s → n ≤ s.moves → Same a (advanced p c s) (advanced q c (lighter n s))
  advanced_same n (At t scope) s own h kept le =
      subst (λ o. Same a (advanced p (At t scope) s) (or_broken o (lighter n s) (λ t. performed q scope t (counting (moves_of t) (lighter n s)))))
      (sym (ap (λ ts. slice_get ts t) terms ∙ at_place (is_assigned a) a.terms.items t)) (term_same n scope s (slice_get a.terms.items t) (has a formed loads t h.0) h.1 kept le)
  advanced_same n (Calling f args) s own h kept le = called_same a d m none (n + 1) f args (counting 1 s) kept (omega (arith, le))
  advanced_same n (Looking o hs args) s own h kept le = looked_same (n + 1) o hs args (counting 1 s) h kept (omega (arith, le))
  advanced_same n (Entering c args) s own h kept le = entered_same a d m none (n + 1) c args (counting 1 s) h kept (omega (arith, le))
  advanced_same n (Ended e) s own h kept le = record { kept = kept; control = own; fewer = le; same = refl }

  step_same : (s t : State) → Same a s t → Same a (step p s) (step q t)
  step_same s t h = subst (λ z. Same a (step p s) (step q z)) (sym h.same) (advanced_same t.moves s.control s h.control h.control h.kept h.fewer)

  after_same : (k : ℕ) (s t : State) → Same a s t → Same a (after (step p) k s) (after (step q) k t)
  after_same zero s t h = h
  after_same (suc k) s t h = after_same k (step p s) (step q t) (step_same s t h)

  -- ---- the start

  first_ruled : (next : ℕ) (globals : List Global1) → next + length (filter is_procedure globals) ≤ first_lams a → AllByRecursion (ClosureRuled a) (first_closures next globals)
  first_ruled next [] le = tt
  first_ruled next (g ∷ globals) le = by_test (is_procedure g) le (λ h. first_ruled (suc next) globals h) (λ h. first_ruled next globals h)
    where
      by_test : (b : Bool) → next + length (cond b (g ∷ filter is_procedure globals) (filter is_procedure globals)) ≤ first_lams a
          → (suc next + length (filter is_procedure globals) ≤ first_lams a → AllByRecursion (ClosureRuled a) (first_closures (suc next) globals))
          → (next + length (filter is_procedure globals) ≤ first_lams a → AllByRecursion (ClosureRuled a) (first_closures next globals))
          → AllByRecursion (ClosureRuled a) (if b then record { lam = next; scope = [] } ∷ first_closures (suc next) globals else first_closures next globals)
      by_test true le go on = (record { lam = root_at a formed loads next (omega (arith, le)); scope = tt }, go (omega (arith, le)))
      by_test false le go on = on le

  start_same : Same a (start a) (start (with_terms a d))
  start_same = record { kept = (first_ruled 0 a.shared.globals.items (omega arith), tt, tt); control = (entry_ruled a formed loads, tt); fewer = omega arith; same = refl }

  pub runs_same : (n : ℕ) → Same a (after (step p) n (start a)) (after (step q) n (start (with_terms a d)))
  runs_same n = after_same n (start a) (start (with_terms a d)) start_same

-- ---- what is seen

-- y is seen as x is, with no more heap and no more moves
pub record IsNoMore (x y : Observation) : Type 0 where
  pub output : y.output ≡ x.output
  pub end : y.end ≡ x.end
  pub heap : y.heap ≤ x.heap
  pub waiting : y.waiting ≡ x.waiting
  pub moves : y.moves ≤ x.moves

-- a run that is so at each bound keeps the other one's meaning
pub no_more_keeps : (x y : Run) → ((n : ℕ) → IsNoMore (x n) (y n)) → ((n : ℕ) (e : End) → (x n).end ≡ Some e → IsProper e) → Keeps 1 0 x y
no_more_keeps x y h proper = record {
  ends_only = λ k e q. (proper k e (sym (h k).end ∙ q), (k, record { ended = sym (h k).end ∙ q; output = sym (h k).output }));
  ends = λ k e q. (k, (h k).end ∙ q, (h k).output, let le = (h k).moves in omega (arith, le));
  shows = λ k. (k, prefix_of_eq _ _ (sym (h k).output), let le = (h k).moves in omega (arith, le));
  shows_only = λ k. (k, prefix_of_eq _ _ (h k).output);
  heap = λ k. (k, (h k).heap);
  waiting = λ k. (k, let e = (h k).waiting in omega (arith, e));
}

seen_no_more : (a : Cps) (r s : State) → Same a r s → IsNoMore (seen r) (seen s)
seen_no_more a r s h = subst (λ z. z.moves ≤ r.moves → IsNoMore (seen r) (seen z)) (sym h.same) (λ le. record { output = refl; end = refl; heap = omega arith; waiting = refl; moves = le }) h.fewer

-- ---- the whole

pub same_parts : (a b : Cps) → AreCells a b → b ≡ with_terms a b
same_parts a b e =
    ap {A = Rattle.t_base.specs.declared.shared_parts.Shared.Shared} (λ s. record b { shared = s }) e.shared ∙ ap (λ l. record b { shared = a.shared; lams = l }) e.lams ∙ ap (λ n. record b { shared = a.shared; lams = a.lams; entry = n }) e.entry

pub cells_no_more : (a b : Cps) → IsWhole a → HasLoads a → AreCells a b → (escapes : Marking) (n : ℕ) → IsNoMore (run escapes a n) (run escapes b n)
cells_no_more a b whole loads e escapes n =
    subst (λ c. IsNoMore (run escapes a n) (run escapes c n)) (sym (same_parts a b e)) (seen_no_more a _ _ (runs_same a b whole.formed loads escapes e.terms n))

pub cells_keep : CellsKeep
cells_keep a b whole loads e escapes = no_more_keeps (run escapes a) (run escapes b) (cells_no_more a b whole loads e escapes) (λ n d q. whole_ends_properly a escapes whole n d q)
