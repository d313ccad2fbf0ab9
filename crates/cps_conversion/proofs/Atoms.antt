-- Nodes without parts: constants, variables, globals, builtins, operations; and LAMBDAs.
use Rattle.std.proofs.Common.{◌≡◌, ℕ, ◌+◌, ◌≤◌, Bool, true, false, if◌then◌else◌, List, [], ◌∷◌, length, sum_by, Option, Some, None, option_and_then, slice_get, refl, sym, ap, ◌∙◌, subst, arith}
use Rattle.std.proofs.lemmas.Bool.{le-ltb}
use Rattle.t_base.specs.declared.basics.Var.{Var}
use Rattle.t_base.specs.declared.faults.Fault.TheVariants.{Unbound}
use Rattle.t_base.specs.declared.shared_parts.Const.{Const}
use Rattle.t_base.specs.declared.builtins.Builtin.{Builtin}
use Rattle.t_prim.specs.Values.{Val, Store, val_of, ClosureV, BuiltinV, OperationV}
use Rattle.t_meaning.specs.Programs.{Marking}
use Rattle.t_meaning.specs.Environment.{location_of}
use Rattle.t_meaning.specs.Costs.{is_assigned, lambda_words}
use Rattle.t_meaning.specs.State.{Procedure, State as Made, taking as taken, with_closure}
use Rattle.t_meaning.specs.Outcomes.{Outcome, Value, Faulted, or_unbound}
use Rattle.t_meaning.specs.Expressions.{closing as closed}
use Rattle.cps_ir.specs.declared.args.Arg.TheVariants as Argument
use Rattle.cps_ir.specs.declared.terms.Cont.{Cont}
use Rattle.cps_ir.specs.declared.terms.Cont.TheVariants as Continuation
use Rattle.cps_ir.specs.declared.terms.Term.TheVariants as Step
use Rattle.cps_ir.specs.Parts.{first_lams}
use Rattle.cps_ir.specs.States.{Marking as CpsMarking, Direct, Bound, Scope, Closure, State, At, going, counting, faulted, taking, with_closures}
use Rattle.cps_ir.specs.Giving.{or_unbound as cps_unbound, meant_by, value_of, lam_words, record_words as cps_record_words, closing, located, give}
use Rattle.cps_ir.specs.Running.{step}
use Rattle.cps_ir.specs.Reaches.{is_in}
use Rattle.cps_conversion.specs.Conversion.{Translation, Stands, ConvertsWithin, is_proc, LambdaAt, LambdaFor}
use Rattle.cps_conversion.proofs.Zips.{zipped_append, zipped_length}
use Rattle.cps_conversion.proofs.Scopes.{extends_bound}
use Rattle.cps_conversion.proofs.Relate.{Kinds, grown_same, EntryAs, EnvAs, env_extends, ProcedureAs, Sync}
use Rattle.cps_conversion.proofs.Claims.{before, behind, Facts, Claims, step_at, common_of}
use Rattle.cps_conversion.proofs.Operands.{given_plain}
use Rattle.cps_conversion.proofs.Spots.{Spot, at, Goal, atom, fails}

module _ (x : Translation) (M : ℕ) (marks : Marking) (escapes : CpsMarking) (facts : Facts x M marks escapes) where
  -- a closure takes the words that its LAMBDA takes
  pub lambda_words_as : (form key l : ℕ) (bound : List ℕ) (m : ℕ) (params : List Var) (body : ℕ) → LambdaAt x (ConvertsWithin x m) form bound key params body l → lam_words (behind x M marks escapes) l ≡ lambda_words (before x M marks escapes) form key
  lambda_words_as form key l bound m params body a =
      ap (λ b. if b then 0 else if escapes l then cps_record_words x.cps else 0) (le-ltb l (first_lams x.cps) a.behind)
      ∙ ap (λ b. if b then cps_record_words x.cps else 0) (facts.carried l form key a.origin)
      ∙ ap (λ sh. if marks form key then 4 + sh.size else 0) facts.shared

module _ (x : Translation) (M : ℕ) (marks : Marking) (escapes : CpsMarking) (facts : Facts x M marks escapes) (n : ℕ) (cl : Claims x M marks escapes n) where
  abbrev S : Type 0
  S = Spot x M marks escapes facts n cl

  abbrev G : S → Outcome → Type 0
  G z o = Goal x M marks escapes facts n cl z o

  -- a value that changes nothing
  plainly : (z : S) (v : Val) (k : ℕ) → z.owed + 3 + k ≤ z.has → step (behind x M marks escapes) (at x M marks escapes facts n cl z) ≡ give (behind x M marks escapes) z.sc z.k v (counting k (at x M marks escapes facts n cl z)) → G z (Value z.s v)
  plainly z v k le e = atom x M marks escapes facts n cl z z.kinds z.s v (counting k (at x M marks escapes facts n cl z)) e (omega arith) (grown_same x z.kinds z.s z.s refl refl) z.here.ready.waiting
      (record { world = z.here.ready.sync.world; moves = omega (arith, z.here.ready.sync.moves, le) })

  unbound : (z : S) (k : ℕ) → k ≤ z.has → step (behind x M marks escapes) (at x M marks escapes facts n cl z) ≡ faulted Unbound (counting k (at x M marks escapes facts n cl z)) → G z (Faulted z.s Unbound)
  unbound z k le e = fails x M marks escapes facts n cl z Unbound (counting k (at x M marks escapes facts n cl z)) e z.here.ready.waiting
      (common_of x M marks escapes 0 z.kinds z.s (counting k (at x M marks escapes facts n cl z)) (record { world = z.here.ready.sync.world; moves = omega (arith, z.here.ready.sync.moves, le) }))

  pub const_runs : (z : S) (k : Const) → z.owed + 5 ≤ z.has → Stands x z.place (Step.Give z.k (Argument.Const k)) → G z (Value z.s (val_of k))
  const_runs z k le h = plainly z (val_of k) 2 (omega (arith, le)) (step_at x M marks escapes z.place z.sc z.t _ h)

  pub builtin_runs : (z : S) (k : Builtin) → z.owed + 5 ≤ z.has → Stands x z.place (Step.Give z.k (Argument.Builtin k)) → G z (Value z.s (BuiltinV k))
  builtin_runs z k le h = plainly z (BuiltinV k) 2 (omega (arith, le)) (step_at x M marks escapes z.place z.sc z.t _ h)

  pub op_runs : (z : S) (k : ℕ) → z.owed + 5 ≤ z.has → Stands x z.place (Step.Give z.k (Argument.Op k)) → G z (Value z.s (OperationV k))
  op_runs z k le h = plainly z (OperationV k) 2 (omega (arith, le)) (step_at x M marks escapes z.place z.sc z.t _ h)

  -- ---- globals

  global_by : (z : S) (g k : ℕ) → z.owed + 3 + k ≤ z.has → (o : Option (Option Val)) → slice_get z.s.globals g ≡ o
      → step (behind x M marks escapes) (at x M marks escapes facts n cl z) ≡ cps_unbound (slice_get z.t.globals g) (counting k (at x M marks escapes facts n cl z)) (λ global. cps_unbound global (counting k (at x M marks escapes facts n cl z)) (λ v. give (behind x M marks escapes) z.sc z.k v (counting k (at x M marks escapes facts n cl z))))
      → G z (or_unbound o z.s (λ global. or_unbound global z.s (λ v. Value z.s v)))
  global_by z g k le o f e = by_case o (e ∙ ap (λ l. cps_unbound l (counting k (at x M marks escapes facts n cl z)) (λ global. cps_unbound global (counting k (at x M marks escapes facts n cl z)) (λ v. give (behind x M marks escapes) z.sc z.k v (counting k (at x M marks escapes facts n cl z))))) (ap (λ l. slice_get l g) z.here.ready.sync.world.globals_as ∙ f))
    where
      by_case : (p : Option (Option Val)) → step (behind x M marks escapes) (at x M marks escapes facts n cl z) ≡ cps_unbound p (counting k (at x M marks escapes facts n cl z)) (λ global. cps_unbound global (counting k (at x M marks escapes facts n cl z)) (λ v. give (behind x M marks escapes) z.sc z.k v (counting k (at x M marks escapes facts n cl z)))) → G z (or_unbound p z.s (λ global. or_unbound global z.s (λ v. Value z.s v)))
      by_case None h = unbound z k (omega (arith, le)) h
      by_case (Some None) h = unbound z k (omega (arith, le)) h
      by_case (Some (Some v)) h = plainly z v k le h

  pub global_runs : (z : S) (g : ℕ) → z.owed + 5 ≤ z.has → Stands x z.place (if is_proc x.unit g then Step.Give z.k (Argument.Global g) else Step.GlobalGet g z.k) → G z (or_unbound (slice_get z.s.globals g) z.s (λ global. or_unbound global z.s (λ v. Value z.s v)))
  global_runs z g le h = by_kind (is_proc x.unit g) h
    where
      by_kind : (b : Bool) → Stands x z.place (if b then Step.Give z.k (Argument.Global g) else Step.GlobalGet g z.k) → G z (or_unbound (slice_get z.s.globals g) z.s (λ global. or_unbound global z.s (λ v. Value z.s v)))
      by_kind true k = global_by z g 2 (omega (arith, le)) (slice_get z.s.globals g) refl (step_at x M marks escapes z.place z.sc z.t (Step.Give z.k (Argument.Global g)) k)
      by_kind false k = global_by z g 1 (omega (arith, le)) (slice_get z.s.globals g) refl (step_at x M marks escapes z.place z.sc z.t (Step.GlobalGet g z.k) k)

  -- ---- variables

  cell_by : (z : S) (i l : ℕ) → z.owed + 5 ≤ z.has → slice_get z.t.locations i ≡ slice_get z.s.locations l
      → step (behind x M marks escapes) (at x M marks escapes facts n cl z) ≡ cps_unbound (slice_get z.t.locations i) (counting 2 (at x M marks escapes facts n cl z)) (λ v. give (behind x M marks escapes) z.sc z.k v (counting 2 (at x M marks escapes facts n cl z)))
      → G z (or_unbound (slice_get z.s.locations l) z.s (λ v. Value z.s v))
  cell_by z i l le same e = by_case (slice_get z.s.locations l) (e ∙ ap (λ o. cps_unbound o (counting 2 (at x M marks escapes facts n cl z)) (λ v. give (behind x M marks escapes) z.sc z.k v (counting 2 (at x M marks escapes facts n cl z)))) same)
    where
      by_case : (o : Option Val) → step (behind x M marks escapes) (at x M marks escapes facts n cl z) ≡ cps_unbound o (counting 2 (at x M marks escapes facts n cl z)) (λ v. give (behind x M marks escapes) z.sc z.k v (counting 2 (at x M marks escapes facts n cl z))) → G z (or_unbound o z.s (λ v. Value z.s v))
      by_case None h = unbound z 2 (omega (arith, le)) h
      by_case (Some v) h = plainly z v 2 (omega (arith, le)) h

  entry_by : (z : S) (v : Var) (l : ℕ) (ko : Option (Option ℕ)) → z.owed + 5 ≤ z.has → Stands x z.place (Step.Give z.k (Argument.Var v)) → slice_get z.kinds l ≡ ko → EntryAs (is_assigned x.unit v) ko (slice_get z.s.locations l) (meant_by z.sc v.0) → G z (or_unbound (slice_get z.s.locations l) z.s (λ w. Value z.s w))
  entry_by z v l None le h e a = absurd a
  entry_by z v l (Some None) le h e a =
      let w = a.1 in
      subst (λ o. G z (or_unbound o z.s (λ u. Value z.s u))) (sym w.1)
      (plainly z w.0 2 (omega (arith, le)) (step_at x M marks escapes z.place z.sc z.t (Step.Give z.k (Argument.Var v)) h ∙ ap (λ o. cps_unbound (option_and_then (value_of (counting 2 (at x M marks escapes facts n cl z))) o) (counting 2 (at x M marks escapes facts n cl z)) (λ u. give (behind x M marks escapes) z.sc z.k u (counting 2 (at x M marks escapes facts n cl z)))) w.2))
  entry_by z v l (Some (Some i)) le h e a =
      cell_by z i l le (z.here.ready.sync.world.locations_as.same l i e) (step_at x M marks escapes z.place z.sc z.t (Step.Give z.k (Argument.Var v)) h ∙ ap (λ o. cps_unbound (option_and_then (value_of (counting 2 (at x M marks escapes facts n cl z))) o) (counting 2 (at x M marks escapes facts n cl z)) (λ u. give (behind x M marks escapes) z.sc z.k u (counting 2 (at x M marks escapes facts n cl z)))) a.1)

  pub local_runs : (z : S) (v : Var) → z.owed + 5 ≤ z.has → is_in z.bound v.0 ≡ true → Stands x z.place (Step.Give z.k (Argument.Var v)) → G z (or_unbound (location_of z.c.env v.0) z.s (λ l. or_unbound (slice_get z.s.locations l) z.s (λ w. Value z.s w)))
  local_runs z v le i h =
      let a = z.here.env_as v.0 i in
      subst (λ o. G z (or_unbound o z.s (λ l. or_unbound (slice_get z.s.locations l) z.s (λ w. Value z.s w)))) (sym a.found)
      (entry_by z v a.location (slice_get z.kinds a.location) le h refl a.entry)

  -- ---- LAMBDAs

  -- one more closure on both sides
  pub closing_sync : (owed w w2 : ℕ) (kinds : Kinds) (s : Made) (t : State) (f : Procedure) (c : Closure) → w2 ≡ w → ProcedureAs x M kinds s.locations f c → Sync x M owed kinds s t → Sync x M owed kinds (taken w (with_closure s f)) (taking w2 (with_closures t (c ∷ [])))
  closing_sync owed w w2 kinds s t f c e a y = record {
    world = record {
      store_as = ap {A = Store} (λ st. record st { heap = st.heap + w2 }) y.world.store_as ∙ ap (λ k. record s.store { heap = s.store.heap + k }) e;
      globals_as = y.world.globals_as;
      catches_as = y.world.catches_as;
      live_as = y.world.live_as;
      locations_as = y.world.locations_as;
      closures_as = zipped_append (ProcedureAs x M kinds s.locations) s.closures (f ∷ []) t.closures (c ∷ []) y.world.closures_as (a, tt);
      objects_as = y.world.objects_as;
    };
    moves = y.moves;
  }

  lambda_gives : (z : S) (key : ℕ) (params : List Var) (body l : ℕ) (sd : Scope) → z.owed + 5 ≤ z.has → LambdaAt x (ConvertsWithin x z.m) z.c.form z.bound key params body l → EnvAs x z.bound z.kinds z.s.locations z.c.env sd → (w2 : ℕ) → w2 ≡ lam_words (behind x M marks escapes) l
      → step (behind x M marks escapes) (at x M marks escapes facts n cl z) ≡ give (behind x M marks escapes) z.sc z.k (ClosureV (length z.t.closures)) (taking w2 (with_closures (counting 2 (at x M marks escapes facts n cl z)) (record { lam = l; scope = sd } ∷ [])))
      → G z (closed (before x M marks escapes) key (record { params = params; form = z.c.form; body = body; env = z.c.env }) z.s)
  lambda_gives z key params body l sd le a ea w2 we e =
      let w = lambda_words (before x M marks escapes) z.c.form key in
      let f : Procedure = record { params = params; form = z.c.form; body = body; env = z.c.env } in
      let k : Closure = record { lam = l; scope = sd } in
      let y = z.here.ready.sync in
      let count : length z.t.closures ≡ length z.s.closures = zipped_length (ProcedureAs x M z.kinds z.s.locations) z.s.closures z.t.closures y.world.closures_as in
      atom x M marks escapes facts n cl z z.kinds (taken w (with_closure z.s f)) (ClosureV (length z.s.closures)) (taking w2 (with_closures (counting 2 (at x M marks escapes facts n cl z)) (k ∷ [])))
      (e ∙ ap (λ i. give (behind x M marks escapes) z.sc z.k (ClosureV i) (taking w2 (with_closures (counting 2 (at x M marks escapes facts n cl z)) (k ∷ [])))) count)
      (omega arith) (grown_same x z.kinds z.s (taken w (with_closure z.s f)) refl refl) z.here.ready.waiting
      (closing_sync (z.owed + 3) w w2 z.kinds z.s (counting 2 (at x M marks escapes facts n cl z)) f k (we ∙ lambda_words_as x M marks escapes facts z.c.form key l z.bound z.m params body a)
      (record { depth = z.m; bound = z.bound; shallow = z.shallow; lam_at = a.lam_at; env_as = ea })
      (record { world = y.world; moves = omega (arith, y.moves, le) }))

  lambda_for : (z : S) (key : ℕ) (params : List Var) (body : ℕ) (k : Cont) → z.k ≡ k → z.owed + 5 ≤ z.has → LambdaFor x (ConvertsWithin x z.m) z.c.form z.bound z.held key params body k z.place → G z (closed (before x M marks escapes) key (record { params = params; form = z.c.form; body = body; env = z.c.env }) z.s)
  lambda_for z key params body (Continuation.Var j) e le h =
      lambda_gives z key params body h.0 z.sc le h.1 z.here.env_as (lam_words (behind x M marks escapes) h.0) refl
      (step_at x M marks escapes z.place z.sc z.t (Step.Give (Continuation.Var j) (Argument.Proc h.0)) h.2
      ∙ ap (λ k. give (behind x M marks escapes) z.sc k (ClosureV (length z.t.closures)) (closing (behind x M marks escapes) h.0 z.sc (counting 2 (at x M marks escapes facts n cl z)))) (sym e))
  lambda_for z key params body (Continuation.Lam v b) e le h =
      let l = h.0 in
      let new = h.1 in
      let sd : Scope = Bound v.0 (Direct (ClosureV (length z.t.closures))) ∷ z.sc in
      let w2 : ℕ = sum_by (lam_words (behind x M marks escapes)) (l ∷ []) in
      let u : State = taking w2 (with_closures (counting 2 (at x M marks escapes facts n cl z)) (record { lam = l; scope = sd } ∷ [])) in
      let over = extends_bound z.held v.0 (Direct (ClosureV (length z.t.closures))) z.sc new.apart in
      lambda_gives z key params body l sd le h.2 (env_extends x z.bound z.kinds z.s.locations z.c.env z.sc sd (record { meant = λ y i. over.meant y (z.here.inside y i); ways = over.ways }) z.here.env_as) w2 (omega arith)
      (step_at x M marks escapes z.place z.sc z.t (Step.Labels (v ∷ []) (l ∷ []) b) h.3
      ∙ ap (λ bl. if bl then located v.0 (ClosureV (length z.t.closures)) z.sc (counting 2 (at x M marks escapes facts n cl z)) (λ inner t. going (At b inner) (taking w2 (with_closures t (record { lam = l; scope = inner } ∷ [])))) else going (At b sd) u) (facts.assigned v ∙ new.unassigned)
      ∙ sym (given_plain x M marks escapes facts v b z.sc (ClosureV (length z.t.closures)) u new.unassigned)
      ∙ ap (λ k. give (behind x M marks escapes) z.sc k (ClosureV (length z.t.closures)) u) (sym e))

  pub lambda_runs : (z : S) (key : ℕ) (params : List Var) (body : ℕ) → z.owed + 5 ≤ z.has → LambdaFor x (ConvertsWithin x z.m) z.c.form z.bound z.held key params body z.k z.place → G z (closed (before x M marks escapes) key (record { params = params; form = z.c.form; body = body; env = z.c.env }) z.s)
  lambda_runs z key params body le h = lambda_for z key params body z.k refl le h
