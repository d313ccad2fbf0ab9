-- Primitives, IF, BLOCK, SET of a global, OBJECT and calls.
use Rattle.std.proofs.Common.{◌≡◌, ℕ, zero, suc, ◌+◌, ◌*◌, ◌≤◌, ◌<◌, Bool, true, false, if◌then◌else◌, List, [], ◌∷◌, length, Option, Some, None, slice_get, slice_set, refl, sym, ap, ◌∙◌, subst, arith, le_trans, eq-eqb}
use Rattle.std.proofs.lemmas.Bool.{true≢false}
use Rattle.t_base.specs.declared.builtins.Builtin.{Builtin}
use Rattle.t_base.specs.declared.faults.Fault.TheVariants.{Unbound}
use Rattle.t_prim.specs.Values.{Val, Store, ObjectV}
use Rattle.t_prim.specs.Kinds.{is_nil}
use Rattle.t_prim.specs.Operands.{Row, Gives, Changes, Faults}
use Rattle.t_prim.specs.Table.{row}
use Rattle.t_core.specs.declared.forms.Method.{Method}
use Rattle.t_meaning.specs.Programs.{Marking}
use Rattle.t_meaning.specs.Costs.{object_words}
use Rattle.t_meaning.specs.State.{Object, State as Made, with_store as stored, with_global_at as global_set, with_object as object_made, taking as taken}
use Rattle.t_meaning.specs.Outcomes.{Outcome, Value, Faulted, Context, Doing, with_value, with_values, or_unbound, after_row, early, last}
use Rattle.t_meaning.specs.Operations.{handlers_of as methods_of}
use Rattle.t_meaning.specs.Expressions.{in_order, with_global, creating as created}
use Rattle.cps_ir.specs.declared.args.Arg.{Arg}
use Rattle.cps_ir.specs.declared.terms.Cont.{Cont}
use Rattle.cps_ir.specs.declared.terms.Cont.TheVariants as Continuation
use Rattle.cps_ir.specs.declared.terms.Term.{Term}
use Rattle.cps_ir.specs.declared.terms.Term.TheVariants as Step
use Rattle.cps_ir.specs.States.{Marking as CpsMarking, Object as CpsObject, Scope, State, At, going, counting, taking, with_store, with_object, with_global_at}
use Rattle.cps_ir.specs.Giving.{or_unbound as cps_unbound, provided, record_words, with_arg, give, after_row as cps_after_row}
use Rattle.cps_ir.specs.Running.{step, handlers_of, creating}
use Rattle.cps_conversion.specs.Conversion.{Translation, Stands, ConvertsWithin, is_proc, OverOne, IfAs, BlockAs, MethodsAs, ObjectAs, PrimAs, WithName}
use Rattle.cps_conversion.proofs.Zips.{Zipped, zipped_append, zipped_length}
use Rattle.cps_conversion.proofs.Scopes.{Extends, extends_same, extends_trans, total}
use Rattle.cps_conversion.proofs.Relate.{Kinds, Grown, grown_same, grown_trans, EnvAs, HandlerAs, ThingAs}
use Rattle.cps_conversion.proofs.Paths.{runs_step}
use Rattle.cps_conversion.proofs.Claims.{before, behind, Facts, Here, Away, Claims, step_at, common_of, ArgMeans, arg_means, args_mean}
use Rattle.cps_conversion.proofs.Operands.{Valued, value_then}
use Rattle.cps_conversion.proofs.Spots.{Spot, Path, Done, Goal, part, low, stays, last_run, over_run, gives_last, fails_last, named, joined}

get_none : {X : Type 0} (i : ℕ) (v : X) → slice_get (slice_set [] i v) i ≡ None
get_none i v = refl

pub get_set_other : {X : Type 0} (xs : List X) (i j : ℕ) (v : X) → (i ≡ j → ⊥) → slice_get (slice_set xs i v) j ≡ slice_get xs j
get_set_other [] i j v ne = refl
get_set_other (x ∷ xs) zero zero v ne = absurd (ne refl)
get_set_other (x ∷ xs) zero (suc j) v ne = refl
get_set_other (x ∷ xs) (suc i) zero v ne = refl
get_set_other (x ∷ xs) (suc i) (suc j) v ne = get_set_other xs i j v (λ e. ne (ap suc e))

module _ (x : Translation) (M : ℕ) (marks : Marking) (escapes : CpsMarking) (facts : Facts x M marks escapes) (n : ℕ) (cl : Claims x M marks escapes n) where
  abbrev S : Type 0
  S = Spot x M marks escapes facts n cl

  abbrev G : S → Outcome → Type 0
  G z o = Goal x M marks escapes facts n cl z o

  abbrev P : S → State → Made → Outcome → Type 0
  P z c s o = Path x M marks escapes facts n cl z c s o (Done x M marks escapes facts n cl z)

  abbrev V : S → List ℕ → List Arg → ℕ → Made → List Val → Scope → State → Kinds → Type 0
  V z inner args has r vs sd u now = Valued x M marks escapes z.c z.bound z.held inner args z.sc z.ws z.b has z.kinds z.s r vs sd u now

  abbrev pt : Doing
  pt = part x M marks escapes facts n cl

  -- what arguments stand for, in the program's own state
  pub means_there : (z : S) (inner : List ℕ) (args : List Arg) (has : ℕ) (r : Made) (vs : List Val) (sd : Scope) (u : State) (now : Kinds) → V z inner args has r vs sd u now → Zipped (ArgMeans x M marks escapes inner u.globals sd) args vs
  means_there z inner args has r vs sd u now k = subst (λ g. Zipped (ArgMeans x M marks escapes inner g sd) args vs) (sym k.here.ready.sync.world.globals_as) k.means

  -- ---- primitives

  row_by : (z : S) (inner : List ℕ) (args : List Arg) (has : ℕ) (r : Made) (vs : List Val) (sd : Scope) (u : State) (now : Kinds) (place cost : ℕ) (o : Row) → V z inner args has r vs sd u now → z.owed + 3 + cost ≤ has → step (behind x M marks escapes) (going (At place sd) u) ≡ cps_after_row o (counting cost (going (At place sd) u)) (λ v w. give (behind x M marks escapes) sd z.k v w) → P z (going (At place sd) u) r (after_row r o)
  row_by z inner args has r vs sd u now place cost (Gives v) k le e =
      gives_last x M marks escapes facts n cl z inner args has now r vs sd u place now r v (counting cost (going (At place sd) u)) k e (omega arith) (grown_same x now r r refl refl) k.here.ready.waiting
      (record { world = k.here.ready.sync.world; moves = omega (arith, k.here.ready.sync.moves, le) })
  row_by z inner args has r vs sd u now place cost (Changes st v) k le e =
      let w = k.here.ready.sync.world in
      gives_last x M marks escapes facts n cl z inner args has now r vs sd u place now (stored r st) v (with_store (counting cost (going (At place sd) u)) st) k e (omega arith) (grown_same x now r (stored r st) refl refl) k.here.ready.waiting
      (record { world = record { store_as = refl; globals_as = w.globals_as; catches_as = w.catches_as; live_as = w.live_as; locations_as = w.locations_as; closures_as = w.closures_as; objects_as = w.objects_as }; moves = omega (arith, k.here.ready.sync.moves, le) })
  row_by z inner args has r vs sd u now place cost (Faults fault) k le e =
      fails_last x M marks escapes facts n cl z inner args has now r vs sd u place fault (counting cost (going (At place sd) u)) k e k.here.ready.waiting
      (common_of x M marks escapes 0 now r (counting cost (going (At place sd) u)) (record { world = k.here.ready.sync.world; moves = omega (arith, k.here.ready.sync.moves, le) }))

  pub prim_runs : (z : S) (b : Builtin) (keys : List ℕ) → z.owed + 5 ≤ z.has → PrimAs x (ConvertsWithin x z.m) z.c.form z.bound z.held b keys z.k z.place → G z (with_values pt z.d z.c keys z.s (λ t args. after_row t (row b args t.store)))
  prim_runs z b keys le h =
      over_run x M marks escapes facts n cl z keys h.args (Step.Prim b h.args z.k) (λ t args. after_row t (row b args t.store)) h.over
      (λ inner place r vs sd u now st len k.
      let u1 = counting (1 + length h.args) (going (At place sd) u) in
      let e = step_at x M marks escapes place sd u (Step.Prim b h.args z.k) st
      ∙ args_mean x M marks escapes inner sd h.args vs u1 (λ t us. cps_after_row (row b us t.store) t (λ v w. give (behind x M marks escapes) sd z.k v w)) (means_there z inner h.args _ r vs sd u now k)
      ∙ ap (λ a. cps_after_row (row b vs a) u1 (λ v w. give (behind x M marks escapes) sd z.k v w)) k.here.ready.sync.world.store_as in
      row_by z inner h.args (z.has + 3 * length keys) r vs sd u now place (1 + length h.args) (row b vs r.store) k (omega (arith, le, len)) e)

  -- ---- one operand

  -- what is done with the only value
  abbrev only : (Made → Val → Outcome) → Made → List Val → Outcome
  only go t [] = Faulted t Unbound
  only go t (v ∷ vs) = go t v

  pub one_run : (z : S) (key : ℕ) (term : Arg → Term) (go : Made → Val → Outcome) → OverOne x (ConvertsWithin x z.m) z.c.form z.bound z.held key term z.place → ((inner : List ℕ) (a : Arg) (place : ℕ) (r : Made) (v : Val) (sd : Scope) (u : State) (now : Kinds) → Stands x place (term a) → V z inner (a ∷ []) (z.has + 3) r (v ∷ []) sd u now → P z (going (At place sd) u) r (go r v)) → G z (with_value (early pt z.d z.c key z.s) go)
  one_run z key term go o cont = over_run x M marks escapes facts n cl z (key ∷ []) (o.0 ∷ []) (term o.0) (only go) o.1 (λ inner place r vs sd u now st len k. by_values inner place r vs sd u now st k)
    where
      by_values : (inner : List ℕ) (place : ℕ) (r : Made) (vs : List Val) (sd : Scope) (u : State) (now : Kinds) → Stands x place (term o.0) → V z inner (o.0 ∷ []) (z.has + 3 * length (key ∷ [])) r vs sd u now → P z (going (At place sd) u) r (only go r vs)
      by_values inner place r [] sd u now st k = absurd k.means
      by_values inner place r (v ∷ []) sd u now st k = cont inner o.0 place r v sd u now st k
      by_values inner place r (v ∷ w ∷ vs) sd u now st k = absurd k.means.1

  -- ---- IF

  pub if_as : (z : S) (test first second : ℕ) → z.owed + 4 ≤ z.has → IfAs x (ConvertsWithin x z.m) z.c.form z.bound z.held test first second z.k z.place → G z (with_value (early pt z.d z.c test z.s) (λ t v. last pt z.d z.c (if is_nil v then second else first) t))
  if_as z test first second le h =
      one_run z test (λ a. Step.If a h.first_at h.second_at) (λ t v. last pt z.d z.c (if is_nil v then second else first) t) h.over
      (λ inner a place r v sd u now st k.
      let u1 = counting 2 (going (At place sd) u) in
      let s0 = stays x M marks escapes facts n cl z in
      let dp = k.deep in
      runs_step (behind x M marks escapes) M (Away x M marks escapes z.ws z.b) z.m n (going (At place sd) u) (going (At (if is_nil v then h.second_at else h.first_at) sd) u1) r (last pt z.d z.c (if is_nil v then second else first) r) (Done x M marks escapes facts n cl z)
      (step_at x M marks escapes place sd u (Step.If a h.first_at h.second_at) st ∙ arg_means x M marks escapes inner sd a v u1 (λ t w. going (At (if is_nil w then h.second_at else h.first_at) sd) t) (means_there z inner (a ∷ []) (z.has + 3) r (v ∷ []) sd u now k).0)
      (omega (arith, s0, dp, ap total k.here.ready.waiting))
      (arm (is_nil v) r sd u1 now k.over k.deep k.grown
      (record { ready = record { waiting = k.here.ready.waiting; least = z.least; grown = k.here.ready.grown; sync = record { world = k.here.ready.sync.world; moves = omega (arith, k.here.ready.sync.moves, le) } }; inside = k.here.inside; env_as = k.here.env_as })))
    where
      arm : (bl : Bool) (r : Made) (sd : Scope) (u1 : State) (now : Kinds) → Extends z.held z.sc sd → z.s.deepest ≤ r.deepest → Grown x z.kinds z.s now r → Here x M marks escapes z.bound z.held sd z.c.env z.ws z.b z.owed now r u1 → P z (going (At (if bl then h.second_at else h.first_at) sd) u1) r (last pt z.d z.c (if bl then second else first) r)
      arm true r sd u1 now over deep g here = last_run x M marks escapes facts n cl z second h.second_at sd z.owed now r u1 h.second_as over deep g (omega arith) here
      arm false r sd u1 now over deep g here = last_run x M marks escapes facts n cl z first h.first_at sd z.owed now r u1 h.first_as over deep g (omega arith) here

  if_by : (z : S) (test first second : ℕ) (k : Cont) → z.k ≡ k → z.owed + 5 ≤ z.has → WithName x k z.place (IfAs x (ConvertsWithin x z.m) z.c.form z.bound z.held test first second) → G z (with_value (early pt z.d z.c test z.s) (λ t v. last pt z.d z.c (if is_nil v then second else first) t))
  unfolding named
  if_by z test first second (Continuation.Var j) e le h = if_as z test first second (omega (arith, le)) (subst (λ k. IfAs x (ConvertsWithin x z.m) z.c.form z.bound z.held test first second k z.place) (sym e) h)
  if_by z test first second (Continuation.Lam p b) e le h =
      joined x M marks escapes facts n cl z p h.0 b h.1 e le _ h.2 (if_as (named x M marks escapes facts n cl z p h.0 b h.1 e le) test first second (omega arith) h.3)

  pub if_runs : (z : S) (test first second : ℕ) → z.owed + 5 ≤ z.has → WithName x z.k z.place (IfAs x (ConvertsWithin x z.m) z.c.form z.bound z.held test first second) → G z (with_value (early pt z.d z.c test z.s) (λ t v. last pt z.d z.c (if is_nil v then second else first) t))
  if_runs z test first second le h = if_by z test first second z.k refl le h

  -- ---- BLOCK

  block_from : (z : S) (keys : List ℕ) (place : ℕ) (sd : Scope) (kinds : Kinds) (r : Made) (u : State) → BlockAs x (ConvertsWithin x z.m) z.c.form z.bound z.held keys z.k place → Extends z.held z.sc sd → z.s.deepest ≤ r.deepest → Grown x z.kinds z.s kinds r → Here x M marks escapes z.bound z.held sd z.c.env z.ws z.b z.owed kinds r u → P z (going (At place sd) u) r (in_order pt z.d z.c keys r)
  block_from z [] place sd kinds r u h over deep g here = absurd h
  block_from z (key ∷ []) place sd kinds r u h over deep g here = last_run x M marks escapes facts n cl z key place sd z.owed kinds r u h over deep g (omega arith) here
  block_from z (key ∷ next ∷ keys) place sd kinds r u h over deep g here =
      let s0 = stays x M marks escapes facts n cl z in
      value_then x M marks escapes facts n cl z.m z.c z.bound z.held key h.0 place h.1 z.d z.owed sd z.ws z.b kinds r u (λ t v. in_order pt z.d z.c (next ∷ keys) t) (Done x M marks escapes facts n cl z) h.2 h.3 (let sh = z.shallow in omega (arith, sh)) (low x M marks escapes facts n cl z) (omega (arith, s0, deep)) here
      (λ q w se v now o. block_from z (next ∷ keys) h.1 se now q v h.4 (extends_trans z.held z.sc sd se over o.over) (le_trans deep o.deep) (grown_trans x z.kinds kinds now z.s r q g o.grown)
      (record { ready = record { waiting = o.here.ready.waiting; least = z.least; grown = o.here.ready.grown; sync = record { world = o.here.ready.sync.world; moves = omega (arith, o.here.ready.sync.moves) } }; inside = z.here.inside; env_as = o.here.env_as }))

  pub block_runs : (z : S) (keys : List ℕ) → z.owed + 5 ≤ z.has → BlockAs x (ConvertsWithin x z.m) z.c.form z.bound z.held keys z.k z.place → G z (in_order pt z.d z.c keys z.s)
  block_runs z keys le h = block_from z keys z.place z.sc z.kinds z.s z.t h (extends_same z.held z.sc) (omega arith) (grown_same x z.kinds z.s z.s refl refl)
      (record { ready = record { waiting = z.here.ready.waiting; least = z.least; grown = z.here.ready.grown; sync = record { world = z.here.ready.sync.world; moves = omega (arith, z.here.ready.sync.moves, le) } }; inside = z.here.inside; env_as = z.here.env_as })

  -- ---- SET of a global

  other_global : (g j : ℕ) → is_proc x.unit g ≡ false → is_proc x.unit j ≡ true → g ≡ j → ⊥
  other_global g j e f same = true≢false (sym f ∙ ap (is_proc x.unit) (sym same) ∙ e)

  pub global_grown : (kinds : Kinds) (r : Made) (g : ℕ) (v : Val) → is_proc x.unit g ≡ false → Grown x kinds r kinds (global_set r g v)
  global_grown kinds r g v e = let same = grown_same x kinds r r refl refl in record { rest = same.rest; more = same.more; kept = λ l w k h. h; procs = λ j p. get_set_other r.globals g j (Some v) (other_global g j e p) }

  pub set_global_runs : (z : S) (g key : ℕ) → z.owed + 5 ≤ z.has → is_proc x.unit g ≡ false → OverOne x (ConvertsWithin x z.m) z.c.form z.bound z.held key (λ a. Step.GlobalSet g a z.k) z.place → G z (with_value (early pt z.d z.c key z.s) (λ t v. with_global g t (λ old. Value (global_set t g v) v)))
  set_global_runs z g key le e h =
      one_run z key (λ a. Step.GlobalSet g a z.k) (λ t v. with_global g t (λ old. Value (global_set t g v) v)) h
      (λ inner a place r v sd u now st k.
      let u1 = counting 2 (going (At place sd) u) in
      by_case inner a place r v sd u now k (slice_get r.globals g)
      (step_at x M marks escapes place sd u (Step.GlobalSet g a z.k) st
      ∙ arg_means x M marks escapes inner sd a v u1 (λ t w. cps_unbound (slice_get t.globals g) t (λ global. cps_unbound global t (λ old. give (behind x M marks escapes) sd z.k w (with_global_at t g w)))) (means_there z inner (a ∷ []) (z.has + 3) r (v ∷ []) sd u now k).0
      ∙ ap (λ l. cps_unbound (slice_get l g) u1 (λ global. cps_unbound global u1 (λ old. give (behind x M marks escapes) sd z.k v (with_global_at u1 g v)))) k.here.ready.sync.world.globals_as))
    where
      by_case : (inner : List ℕ) (a : Arg) (place : ℕ) (r : Made) (v : Val) (sd : Scope) (u : State) (now : Kinds) → V z inner (a ∷ []) (z.has + 3) r (v ∷ []) sd u now → (o : Option (Option Val)) → step (behind x M marks escapes) (going (At place sd) u) ≡ cps_unbound o (counting 2 (going (At place sd) u)) (λ global. cps_unbound global (counting 2 (going (At place sd) u)) (λ old. give (behind x M marks escapes) sd z.k v (with_global_at (counting 2 (going (At place sd) u)) g v))) → P z (going (At place sd) u) r (or_unbound o r (λ global. or_unbound global r (λ old. Value (global_set r g v) v)))
      by_case inner a place r v sd u now k None f = fails_last x M marks escapes facts n cl z inner (a ∷ []) (z.has + 3) now r (v ∷ []) sd u place Unbound (counting 2 (going (At place sd) u)) k f k.here.ready.waiting (common_of x M marks escapes 0 now r (counting 2 (going (At place sd) u)) (record { world = k.here.ready.sync.world; moves = omega (arith, k.here.ready.sync.moves, le) }))
      by_case inner a place r v sd u now k (Some None) f = fails_last x M marks escapes facts n cl z inner (a ∷ []) (z.has + 3) now r (v ∷ []) sd u place Unbound (counting 2 (going (At place sd) u)) k f k.here.ready.waiting (common_of x M marks escapes 0 now r (counting 2 (going (At place sd) u)) (record { world = k.here.ready.sync.world; moves = omega (arith, k.here.ready.sync.moves, le) }))
      by_case inner a place r v sd u now k (Some (Some w)) f =
          let y = k.here.ready.sync.world in
          gives_last x M marks escapes facts n cl z inner (a ∷ []) (z.has + 3) now r (v ∷ []) sd u place now (global_set r g v) v (with_global_at (counting 2 (going (At place sd) u)) g v) k f (omega arith) (global_grown now r g v e) k.here.ready.waiting
          (record { world = record { store_as = y.store_as; globals_as = ap (λ l. slice_set l g (Some v)) y.globals_as; catches_as = y.catches_as; live_as = y.live_as; locations_as = y.locations_as; closures_as = y.closures_as; objects_as = y.objects_as }; moves = omega (arith, k.here.ready.sync.moves, le) })

  -- ---- OBJECT

  methods_length : (m form : ℕ) (bound : List ℕ) (methods : List Method) (ops lams : List ℕ) → MethodsAs x (ConvertsWithin x m) form bound methods ops lams → length ops ≡ length lams
  methods_length m form bound [] [] [] h = refl
  methods_length m form bound (a ∷ methods) (o ∷ ops) (l ∷ lams) h = ap suc (methods_length m form bound methods ops lams h.2)
  methods_length m form bound [] [] (l ∷ lams) h = absurd h
  methods_length m form bound [] (o ∷ ops) lams h = absurd h
  methods_length m form bound (a ∷ methods) [] lams h = absurd h
  methods_length m form bound (a ∷ methods) (o ∷ ops) [] h = absurd h

  handlers_zipped : (m : ℕ) (c : Context) (bound : List ℕ) (kinds : Kinds) (ls : List Val) (sd : Scope) (methods : List Method) (ops lams : List ℕ) → m < M → EnvAs x bound kinds ls c.env sd → MethodsAs x (ConvertsWithin x m) c.form bound methods ops lams → Zipped (HandlerAs x M kinds ls) (methods_of methods c) (handlers_of ops lams sd)
  handlers_zipped m c bound kinds ls sd [] [] [] lt ea h = tt
  handlers_zipped m c bound kinds ls sd (a ∷ methods) (o ∷ ops) (l ∷ lams) lt ea h =
      (record { op = h.0; procedure_as = record { depth = m; bound = bound; shallow = lt; lam_at = h.1; env_as = ea } }, handlers_zipped m c bound kinds ls sd methods ops lams lt ea h.2)
  handlers_zipped m c bound kinds ls sd [] [] (l ∷ lams) lt ea h = absurd h
  handlers_zipped m c bound kinds ls sd [] (o ∷ ops) lams lt ea h = absurd h
  handlers_zipped m c bound kinds ls sd (a ∷ methods) [] lams lt ea h = absurd h
  handlers_zipped m c bound kinds ls sd (a ∷ methods) (o ∷ ops) [] lt ea h = absurd h

  pub object_runs : (z : S) (key : ℕ) (methods : List Method) → z.owed + 5 ≤ z.has → ObjectAs x (ConvertsWithin x z.m) z.c.form z.bound z.held key methods z.k z.place → G z (with_value (early pt z.d z.c key z.s) (λ t v. created (before x M marks escapes) (record { procedure = v; handlers = methods_of methods z.c }) t))
  object_runs z key methods le h =
      one_run z key (λ a. Step.Object a h.ops h.lams z.k) (λ t v. created (before x M marks escapes) (record { procedure = v; handlers = methods_of methods z.c }) t) h.over
      (λ inner a place r v sd u now st k.
      let u1 = counting 2 (going (At place sd) u) in
      let object : CpsObject = record { procedure = v; handlers = handlers_of h.ops h.lams sd } in
      let thing : Object = record { procedure = v; handlers = methods_of methods z.c } in
      let w = record_words x.cps in
      let w0 = object_words (before x M marks escapes) in
      let same : w ≡ w0 = ap (λ sh. 4 + sh.size) facts.shared in
      let u2 = taking w (with_object u1 object) in
      let q = taken w0 (object_made r thing) in
      let y = k.here.ready.sync.world in
      let count : length u.objects ≡ length r.objects = zipped_length (ThingAs x M now r.locations) r.objects u.objects y.objects_as in
      gives_last x M marks escapes facts n cl z inner (a ∷ []) (z.has + 3) now r (v ∷ []) sd u place now q (ObjectV (length r.objects)) u2 k
      (step_at x M marks escapes place sd u (Step.Object a h.ops h.lams z.k) st
      ∙ ap (λ bl. provided bl u1 (λ t. with_arg (behind x M marks escapes) sd a t (λ s' w'. creating (behind x M marks escapes) (record { procedure = w'; handlers = handlers_of h.ops h.lams sd }) s' (λ o' i'. give (behind x M marks escapes) sd z.k i' o')))) (eq-eqb (length h.ops) (length h.lams) (methods_length z.m z.c.form z.bound methods h.ops h.lams h.methods_as))
      ∙ arg_means x M marks escapes inner sd a v u1 (λ s' w'. creating (behind x M marks escapes) (record { procedure = w'; handlers = handlers_of h.ops h.lams sd }) s' (λ o' i'. give (behind x M marks escapes) sd z.k i' o')) (means_there z inner (a ∷ []) (z.has + 3) r (v ∷ []) sd u now k).0
      ∙ ap (λ i. give (behind x M marks escapes) sd z.k (ObjectV i) u2) count)
      (omega arith) (grown_same x now r q refl refl) k.here.ready.waiting
      (record {
        world = record {
          store_as = ap {A = Store} (λ s'. record s' { heap = s'.heap + w }) y.store_as ∙ ap (λ j. record r.store { heap = r.store.heap + j }) same;
          globals_as = y.globals_as;
          catches_as = y.catches_as;
          live_as = y.live_as;
          locations_as = y.locations_as;
          closures_as = y.closures_as;
          objects_as = zipped_append (ThingAs x M now r.locations) r.objects (thing ∷ []) u.objects (object ∷ []) y.objects_as (record { procedure = refl; handlers = handlers_zipped z.m z.c z.bound now r.locations sd methods h.ops h.lams z.shallow k.here.env_as h.methods_as }, tt);
        };
        moves = omega (arith, k.here.ready.sync.moves, le);
      }))
