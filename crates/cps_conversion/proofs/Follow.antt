-- The run of the program follows the meaning of the unit.
use Rattle.std.specs.Prelude.{IsTrue, if◌then◌else◌}
use Rattle.std.specs.Option.{option_map_or}
use Rattle.std.proofs.Common.{◌≡◌, ℕ, zero, suc, ◌+◌, ◌*◌, ◌≤◌, ◌⊎◌, Bool, true, false, List, [], ◌∷◌, Option, Some, None, slice_get, refl, sym, ap, ◌∙◌, subst, arith, le_trans, inl, inr, ⊎_elim, lt_of_mul-lt-mul_right, le_of_lt}
use Rattle.std.proofs.lemmas.Bool.{false≢true}
use Rattle.t_base.specs.declared.shared_parts.Const.TheVariants as Constant
use Rattle.t_base.specs.declared.shared_parts.Global1.{Global1}
use Rattle.program_runs.specs.Runs as runs
use Rattle.program_runs.specs.Runs.{IsPrefix, End, Observation, Run, HasEnded, IsProper}
use Rattle.program_runs.specs.Keeps.{Keeps}
use Rattle.program_runs.specs.MoreHeap.{IsAtMost}
use Rattle.program_runs.specs.Follows.{Near, Follows}
use Rattle.program_runs.proofs.Follow.{follows_keeps, below_by, steady_goes_on}
use Rattle.t_prim.specs.Values.{Val, NilV, ClosureV, first_store, shown_of}
use Rattle.t_meaning.specs.Programs.{Marking, all_escape}
use Rattle.t_meaning.specs.State.{Procedure}
use Rattle.t_meaning.specs.Outcomes.{Outcome, Value, Escaping, Faulted, Out}
use Rattle.t_meaning.specs.Operations.{default_of}
use Rattle.t_meaning.specs.Units.{start, outcome, observed, meaning}
use Rattle.cps_ir.specs.declared.args.Arg.TheVariants as Argument
use Rattle.cps_ir.specs.Parts.{is_procedure}
use Rattle.cps_ir.specs.Calls.{default_of as cps_default_of}
use Rattle.cps_ir.specs.States.{Marking as CpsMarking, all_escape as cps_all_escape, Closure, Waiting, end_of, seen}
use Rattle.cps_ir.specs.Running.{first_globals, start as cps_start, run}
use Rattle.cps_ir.proofs.Steady.{run_is_steady}
use Rattle.cps_conversion.specs.Conversion.{Translation, ConvertsWithin, RootAs, RootsAs, DefaultAs, IsTranslated}
use Rattle.cps_ir.specs.RunLaws.{MarksMore}
use Rattle.cps_ir.proofs.Dearer.{marks_change_heap_alone}
use Rattle.cps_conversion.specs.Law.{IsCarried, ConversionKeeps, ConversionKeepsMost}
use Rattle.cps_conversion.proofs.Zips.{Zipped, Both}
use Rattle.cps_conversion.proofs.Relate.{Kinds, grown_same, ProcedureAs, Sync}
use Rattle.cps_conversion.proofs.Paths.{Runs}
use Rattle.cps_conversion.proofs.Claims.{IsAlike, before, behind, Facts, Base, Away}
use Rattle.cps_conversion.proofs.Units.{Halted, forms_run, no_variable}

-- ---- the start

-- the procedures of globals have values from the start
procs_begin : (globals : List Global1) (next g : ℕ) → option_map_or is_procedure (slice_get globals g) false ≡ true → (v : Val) × (slice_get (first_globals next globals) g ≡ Some (Some v))
procs_begin [] next g h = absurd (false≢true h)
procs_begin (a ∷ globals) next zero h = (ClosureV next, ap (λ b. slice_get (if b then Some (ClosureV next) ∷ first_globals (suc next) globals else None ∷ first_globals next globals) 0) h)
procs_begin (a ∷ globals) next (suc g) h = by_test (λ i. procs_begin globals i g h) (is_procedure a)
  where
    by_test : ((i : ℕ) → (v : Val) × (slice_get (first_globals i globals) g ≡ Some (Some v))) → (b : Bool) → (v : Val) × (slice_get (if b then Some (ClosureV next) ∷ first_globals (suc next) globals else None ∷ first_globals next globals) (suc g) ≡ Some (Some v))
    by_test f true = f (suc next)
    by_test f false = f next

module _ (x : Translation) (marks : Marking) (escapes : CpsMarking) (c : IsTranslated x) (carried : IsAlike x.origins marks escapes) where
  abbrev M : ℕ
  M = suc c.depth

  root_as : (kinds : Kinds) (ls : List Val) (f : Procedure) (k : Closure) → RootAs x (ConvertsWithin x c.depth) f k → ProcedureAs x M kinds ls f k
  root_as kinds ls f k h = record { depth = c.depth; bound = []; shallow = omega arith; lam_at = h; env_as = λ y i. no_variable y i }

  default_as : (kinds : Kinds) (ls : List Val) (o : Option Procedure) (k : Option Closure) → DefaultAs x (ConvertsWithin x c.depth) o k → Both (ProcedureAs x M kinds ls) o k
  default_as kinds ls None None h = tt
  default_as kinds ls (Some f) (Some k) h = root_as kinds ls f k h
  default_as kinds ls None (Some k) h = absurd h
  default_as kinds ls (Some f) None h = absurd h

  roots_as : (kinds : Kinds) (ls : List Val) (fs : List Procedure) (ks : List Closure) → RootsAs x (ConvertsWithin x c.depth) fs ks → Zipped (ProcedureAs x M kinds ls) fs ks
  roots_as kinds ls [] [] h = tt
  roots_as kinds ls (f ∷ fs) (k ∷ ks) h = (root_as kinds ls f k h.0, roots_as kinds ls fs ks h.1)
  roots_as kinds ls [] (k ∷ ks) h = absurd h
  roots_as kinds ls (f ∷ fs) [] h = absurd h

  facts : Facts x M marks escapes
  facts = record { shared = c.shared; assigned = c.assigned; carried = carried; some = omega arith; defaults = λ o kinds ls. default_as kinds ls (default_of x.unit o) (cps_default_of x.cps o) (c.defaults o) }

  abbrev base : Base x M marks escapes
  base = record {
    kinds = [];
    made = start x.unit;
    owed = 0;
    procs = λ g e. (let w = procs_begin x.cps.shared.globals.items 0 g (ap (λ sh. option_map_or is_procedure (slice_get sh.globals.items g) false) c.shared ∙ e) in (w.0, ap (λ l. slice_get l g) (sym c.globals) ∙ w.1));
  }

  begun : Sync x M 0 [] (start x.unit) (cps_start x.cps)
  begun = record {
    world = record {
      store_as = ap first_store c.shared;
      globals_as = c.globals;
      catches_as = refl;
      live_as = refl;
      locations_as = record { as_many = refl; within = λ l m e. nothing (Some m) e; same = λ l m e. nothing (Some m) e; apart = λ l j m e f. nothing (Some m) e };
      closures_as = roots_as [] [] (start x.unit).closures (cps_start x.cps).closures c.closures;
      objects_as = tt;
    };
    moves = omega arith;
  }
    where
      nothing : {Z : Type 0} (o : Option ℕ) → None ≡ Some o → Z
      nothing o e = cc

  abbrev ProperIf : Option End → Type 0
  ProperIf None = Unit {0}
  ProperIf (Some e) = IsProper e

  -- where the run stands when the evaluation with bound n does
  record Place (n : ℕ) (o : Outcome) : Type 0 where
    count : ℕ
    near : Near 5 5 (observed o) (run escapes x.cps count)
    far : HasEnded (observed o) ⊎ (n ≤ count * M + M)
    heap : (run escapes x.cps count).heap ≤ (observed o).heap
    waits : (i : ℕ) → i ≤ count → (run escapes x.cps i).waiting ≤ (observed o).waiting
    proper : ProperIf (observed o).end

  found : (n : ℕ) (o : Outcome) → Runs (behind x M marks escapes) M (Away x M marks escapes [] base) c.depth n (cps_start x.cps) (start x.unit) o (Halted x M marks escapes facts n c.depth (omega arith) base refl) → Place n o
  found n (Value r v) h =
      let g = h.1 in
      let d = h.2 in
      record {
        count = g.count;
        near = subst (λ e. Near 5 5 (observed (Value r v)) (seen e)) (sym g.lands) (record { alike = record { end = ap end_of d.end; output = d.output }; moves = d.moves });
        far = inl (runs.Value (shown_of r.store v), refl);
        heap = subst (λ e. (seen e).heap ≤ r.store.heap) (sym g.lands) d.heap;
        waits = g.waits;
        proper = tt;
      }
  found n (Escaping r i v) h = absurd (nowhere_live h.2.rest h.2.live)
    where
      nowhere_live : (rest : List Waiting) → None ≡ Some rest → ⊥
      nowhere_live rest e = cc
  found n (Faulted r e) h = record {
    count = h.1.count;
    near = subst (λ z. Near 5 5 (observed (Faulted r e)) (seen z)) (sym h.1.lands) (record { alike = record { end = ap end_of h.2; output = h.3.output }; moves = omega (arith, h.3.moves) });
    far = inl (runs.Faulted e, refl);
    heap = subst (λ z. (seen z).heap ≤ r.store.heap) (sym h.1.lands) h.3.heap;
    waits = h.1.waits;
    proper = tt;
  }
  found n (Out r) h = record {
    count = h.1.count;
    near = subst (λ z. Near 5 5 (observed (Out r)) (seen z)) (sym h.1.lands) (record { alike = record { end = h.2; output = h.3.output }; moves = omega (arith, h.3.moves) });
    far = inr (omega (arith, h.4));
    heap = subst (λ z. (seen z).heap ≤ r.store.heap) (sym h.1.lands) h.3.heap;
    waits = h.1.waits;
    proper = tt;
  }

  place : (n : ℕ) → Place n (outcome (before x M marks escapes) n)
  place n = found n (outcome (before x M marks escapes) n)
      (forms_run x M marks escapes facts n c.depth (omega arith) base refl 0 x.unit.forms.items (Argument.Const Constant.Nil) x.cps.entry [] [] [] (start x.unit) (cps_start x.cps) NilV c.forms refl refl (grown_same x [] (start x.unit) (start x.unit) refl refl) begun)

  pub follows : Follows 5 5 (meaning x.unit marks) (run escapes x.cps)
  follows = record {
    at = λ n. (place n).count;
    near = λ n. (place n).near;
    far = far;
    costs = λ n. below_by (meaning x.unit marks) (run escapes x.cps) (run_is_steady escapes x.cps) (place n).count n (place n).heap (λ i le. (n, (place n).waits i le));
  }
    where
      far : (k : ℕ) → (n : ℕ) × (HasEnded (meaning x.unit marks n) ⊎ k ≤ (place n).count)
      far k =
          let n = suc (k * M + M) in
          let p = place n in
          (n, ⊎_elim (λ e. inl e) (λ le. inr (le_of_lt (lt_of_mul-lt-mul_right M {m = k} {n = p.count} (omega (arith, le))))) p.far)

  pub keeps : Keeps 5 5 (meaning x.unit marks) (run escapes x.cps)
  keeps = follows_keeps 5 5 (meaning x.unit marks) (run escapes x.cps) (steady_goes_on (run escapes x.cps) (run_is_steady escapes x.cps)) follows IsProper (λ n e h. subst ProperIf h (place n).proper)

-- ---- with fewer marks

-- the same but for fewer words of heap
less_keeps : (f c : ℕ) (a b d : Run) → ((n : ℕ) → IsAtMost (d n) (b n)) → Keeps f c a b → Keeps f c a d
less_keeps f c a b d h k = record {
  ends_only = λ n e q. (let w = h n in let x = k.ends_only n e (w.end ∙ q) in (x.0, (x.1.0, record { ended = x.1.1.ended; output = x.1.1.output ∙ w.output })));
  ends = λ m e q. (let x = k.ends m e q in let w = h x.0 in (x.0, sym w.end ∙ x.1, sym w.output ∙ x.2, (let y = x.3 in let z = w.moves in omega (arith, y, z))));
  shows = λ m. (let x = k.shows m in let w = h x.0 in (x.0, subst (λ o. IsPrefix (a m).output o) w.output x.1, (let y = x.2 in let z = w.moves in omega (arith, y, z))));
  shows_only = λ n. (let x = k.shows_only n in (x.0, subst (λ o. IsPrefix o (a x.0).output) (h n).output x.1));
  heap = λ n. (let x = k.heap n in (x.0, le_trans (h n).heap x.1));
  waiting = λ n. (let x = k.waiting n in (x.0, (let w = (h n).waiting in let y = x.1 in omega (arith, w, y))));
}

-- the marking that is carried along; a procedure that stands for no LAMBDA counts as escaping
carried_marks : List (ℕ × ℕ) → Marking → CpsMarking
carried_marks origins marks l = option_map_or (λ o. marks o.0 o.1) (slice_get origins l) true

carried_alike : (origins : List (ℕ × ℕ)) (marks : Marking) → IsAlike origins marks (carried_marks origins marks)
unfolding carried_marks
carried_alike origins marks l form node e = ap (λ o. option_map_or (λ a. marks a.0 a.1) o true) e

carried_more : (origins : List (ℕ × ℕ)) (marks : Marking) (escapes : CpsMarking) → IsCarried origins marks escapes → MarksMore escapes (carried_marks origins marks)
unfolding carried_marks
carried_more origins marks escapes h l t = by_origin (slice_get origins l) refl
  where
    by_origin : (o : Option (ℕ × ℕ)) → slice_get origins l ≡ o → IsTrue (option_map_or (λ a. marks a.0 a.1) o true)
    by_origin None e = refl
    by_origin (Some a) e = h l a.0 a.1 e t

pub conversion_keeps : ConversionKeeps
conversion_keeps unit cps marks escapes c carried =
    let all = carried_marks c.origins marks in
    less_keeps 5 5 (meaning unit marks) (run all cps) (run escapes cps) (marks_change_heap_alone cps escapes all (carried_more c.origins marks escapes carried))
    (keeps (record { unit = unit; cps = cps; origins = c.origins }) marks all c.translated (carried_alike c.origins marks))

pub conversion_keeps_most : ConversionKeepsMost
conversion_keeps_most unit cps c = conversion_keeps unit cps all_escape cps_all_escape c (λ l form node e t. t)
