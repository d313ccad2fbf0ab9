-- Calls that are made: procedures, builtins, objects, operations and escapes.
use Rattle.std.proofs.Common.{◌≡◌, ℕ, suc, ◌+◌, ◌*◌, ◌≤◌, ◌⊎◌, ◌==◌, Bool, true, false, ◌||◌, if◌then◌else◌, List, [], ◌∷◌, length, Option, Some, None, slice_get, refl, sym, ap, ◌∙◌, subst, arith, inl, inr, ⊎_elim}
use Rattle.std.proofs.lemmas.Bool.{eqb-true}
use Rattle.std.specs.List.{list_any}
use Rattle.std.specs.Option.{option_map_or}
use Rattle.t_base.specs.declared.basics.Var.{Var}
use Rattle.t_base.specs.declared.faults.Fault.{Fault}
use Rattle.t_base.specs.declared.faults.Fault.TheVariants.{Unbound, NotProcedure, WrongCount, DeadEscape, NotHandled}
use Rattle.t_prim.specs.Values.{Val, FixV, CharV, NilV, TrueV, SymbolV, StringV, PairV, VectorV, ClosureV, ObjectV, OperationV, BuiltinV, EscapeV}
use Rattle.t_prim.specs.Operands.{Row, Gives, Changes, Faults}
use Rattle.t_prim.specs.Table.{row}
use Rattle.t_meaning.specs.Programs.{Marking}
use Rattle.t_meaning.specs.Environment.{extended}
use Rattle.t_meaning.specs.State.{Procedure, Handler, Object, State as Made, with_store as stored, working}
use Rattle.t_meaning.specs.Outcomes.{Outcome, Value, Escaping, Faulted, Context, Evaluate, Apply, Enter, provided, or_unbound, after_row}
use Rattle.t_meaning.specs.Bindings.{binding}
use Rattle.t_meaning.specs.Catches.{escape}
use Rattle.t_meaning.specs.Operations.{handlers_at, looked_at, chosen, default_of, handled, operate}
use Rattle.t_meaning.specs.Application.{enter, apply}
use Rattle.t_meaning.specs.Performing.{perform}
use Rattle.cps_ir.specs.declared.terms.Cont.TheVariants as Continuation
use Rattle.cps_ir.specs.declared.terms.Lam.{Lam}
use Rattle.cps_ir.specs.States.{Marking as CpsMarking, Direct, Bound, Begun, Scope, Closure, Handler as CpsHandler, Object as CpsObject, Waiting, Back, Live, Control, At, Calling, Looking, Entering, State, going, counting, faulted, with_store}
use Rattle.cps_ir.specs.Giving.{or_broken, or_unbound as cps_unbound, located, binding_all, Out as Outwards, Lost, way_of, given, returned, after_row as cps_after_row}
use Rattle.cps_ir.specs.Calls.{begun, entered as cps_entered, default_of as cps_default_of, handlers_at as cps_handlers_at, operated, defaulted, unwound, escaped, escape as cps_escape, called}
use Rattle.cps_ir.specs.Running.{step}
use Rattle.cps_conversion.specs.Conversion.{Translation, AreNew, adding, variables}
use Rattle.cps_conversion.proofs.Zips.{Zipped, Both, zipped_get}
use Rattle.cps_conversion.proofs.Scopes.{Extends, extends_same, extends_trans, extends_less, extends_bound, in_here, in_more, in_adding, meant_here, same_number, total, total_live, total_back, Waits}
use Rattle.cps_conversion.proofs.Relate.{Kinds, Grown, grown_same, grown_trans, EnvAs, env_meant, env_extends, HandlerAs, ThingAs, ProcedureAs, live_of, Sync}
use Rattle.cps_conversion.proofs.Paths.{waiting_of, Runs, gone_none, runs_step, runs_enter, runs_wider}
use Rattle.cps_conversion.proofs.Claims.{before, behind, Facts, Base, Ready, Given, Returned, Away, Claims, returned_waits, returned_most, fault_now, common_of, ArgMeans}
use Rattle.cps_conversion.proofs.Bindings.{assigned_run}
use Rattle.cps_conversion.proofs.Lets.{words_most, assigned_length, bound_state, bound_grown, bound_sync}

pub variables_length : (vars : List Var) → length (variables vars) ≡ length vars
variables_length [] = refl
variables_length (v ∷ vars) = ap suc (variables_length vars)

-- names that hold values
abbrev pub naming : List Var → List Val → Scope → Scope
naming [] vs sc = sc
naming (y ∷ names) [] sc = sc
naming (y ∷ names) (v ∷ vs) sc = naming names vs (Bound y.0 (Direct v) ∷ sc)

-- whether catch i is live, and what waits behind it
pub record LiveAs (i : ℕ) (live : Bool) (ws : List Waiting) (found : Option (List Waiting)) : Type 0 where
  pub case : (live ≡ false) × (found ≡ None) ⊎ (live ≡ true) × ((rest : List Waiting) × (found ≡ Some rest) × (total rest ≤ total ws))

module _ (x : Translation) (M : ℕ) (marks : Marking) (escapes : CpsMarking) (facts : Facts x M marks escapes) where
  pub naming_all : (held : List ℕ) (names : List Var) (vs : List Val) (sc : Scope) (u : State) (rest : Scope → State → State) → AreNew x held names → length names ≡ length vs → binding_all (behind x M marks escapes) names vs sc u rest ≡ rest (naming names vs sc) u
  naming_all held [] [] sc u rest h e = refl
  naming_all held [] (v ∷ vs) sc u rest h e = absurd (omega (arith, e))
  naming_all held (y ∷ names) [] sc u rest h e = absurd (omega (arith, e))
  naming_all held (y ∷ names) (v ∷ vs) sc u rest h e =
      ap (λ b. if b then located y.0 v sc u (λ inner t. binding_all (behind x M marks escapes) names vs inner t rest) else binding_all (behind x M marks escapes) names vs (Bound y.0 (Direct v) ∷ sc) u rest) (facts.assigned y ∙ h.0.unassigned)
      ∙ naming_all (y.0 ∷ held) names vs (Bound y.0 (Direct v) ∷ sc) u rest h.1 (omega (arith, e))

  pub naming_extends : (held : List ℕ) (names : List Var) (vs : List Val) (sc : Scope) → AreNew x held names → Extends held sc (naming names vs sc)
  naming_extends held [] vs sc h = extends_same held sc
  naming_extends held (y ∷ names) [] sc h = extends_same held sc
  naming_extends held (y ∷ names) (v ∷ vs) sc h =
      extends_trans held sc (Bound y.0 (Direct v) ∷ sc) (naming names vs (Bound y.0 (Direct v) ∷ sc)) (extends_bound held y.0 (Direct v) sc h.0.apart)
      (extends_less (y.0 ∷ held) held (Bound y.0 (Direct v) ∷ sc) (naming names vs (Bound y.0 (Direct v) ∷ sc)) (λ z i. in_more y.0 z held i) (naming_extends (y.0 ∷ held) names vs (Bound y.0 (Direct v) ∷ sc) h.1))

  pub naming_means : (held : List ℕ) (names : List Var) (vs : List Val) (globals : List (Option Val)) (sc : Scope) → AreNew x held names → length names ≡ length vs → Zipped (ArgMeans x M marks escapes (adding names held) globals (naming names vs sc)) (variables names) vs
  naming_means held [] [] globals sc h e = tt
  naming_means held [] (v ∷ vs) globals sc h e = absurd (omega (arith, e))
  naming_means held (y ∷ names) [] globals sc h e = absurd (omega (arith, e))
  naming_means held (y ∷ names) (v ∷ vs) globals sc h e = (
    (in_adding names y.0 (y.0 ∷ held) (in_here y.0 held), (naming_extends (y.0 ∷ held) names vs (Bound y.0 (Direct v) ∷ sc) h.1).meant y.0 (in_here y.0 held) ∙ meant_here y.0 (Direct v) sc),
    naming_means (y.0 ∷ held) names vs globals (Bound y.0 (Direct v) ∷ sc) h.1 (omega (arith, e)),
  )

  own_way : (k : ℕ) (sc : Scope) → way_of (Begun k ∷ sc) k ≡ Outwards
  own_way k sc = ap (λ b. if b then Outwards else Lost) (same_number k)

  pub live_found : (i : ℕ) (ws : List Waiting) → LiveAs i (list_any (λ j. j == i) (live_of x M ws)) ws (unwound i ws)
  live_found i [] = record { case = inl (refl, refl) }
  live_found i (Back pending ∷ ws) = record { case = ⊎_elim (λ e. inl e) (λ e. inr (e.0, (e.1.0, e.1.1, (let a = e.1.2 in omega (arith, a, total_back pending ws))))) (live_found i ws).case }
  live_found i (Live j None ∷ ws) = by_test (j == i) (live_found i ws)
    where
      by_test : (b : Bool) → LiveAs i (list_any (λ k. k == i) (live_of x M ws)) ws (unwound i ws) → LiveAs i (b || list_any (λ k. k == i) (live_of x M ws)) (Live j None ∷ ws) (if b then Some ws else unwound i ws)
      by_test true h = record { case = inr (refl, (ws, refl, omega (arith, total_live j None ws))) }
      by_test false h = record { case = ⊎_elim (λ e. inl e) (λ e. inr (e.0, (e.1.0, e.1.1, (let a = e.1.2 in omega (arith, a, total_live j None ws))))) h.case }
  live_found i (Live j (Some pending) ∷ ws) = by_test (j == i) (live_found i ws)
    where
      by_test : (b : Bool) → LiveAs i (list_any (λ k. k == i) (live_of x M ws)) ws (unwound i ws) → LiveAs i (b || list_any (λ k. k == i) (live_of x M ws)) (Live j (Some pending) ∷ ws) (if b then Some (Back pending ∷ ws) else unwound i ws)
      by_test true h = record { case = inr (refl, (Back pending ∷ ws, refl, omega (arith, total_live j (Some pending) ws, total_back pending ws))) }
      by_test false h = record { case = ⊎_elim (λ e. inl e) (λ e. inr (e.0, (e.1.0, e.1.1, (let a = e.1.2 in omega (arith, a, total_live j (Some pending) ws))))) h.case }

  -- a call that is made at depth d, which is noted already: its operands owe two moves each
  pub record Call : Type 0 where
    pub m : ℕ
    pub d : ℕ
    pub owed : ℕ
    pub args : List Val
    pub ws : List Waiting
    pub b : Base x M marks escapes
    pub since : Kinds
    pub from : Made
    pub kinds : Kinds
    pub s : Made
    pub control : Control
    pub t : State
    pub waits : Waits Outwards ws d
    pub deep : d ≤ s.deepest
    pub least : b.owed ≤ owed
    pub grown : Grown x since from kinds s
    pub ready : Ready x M marks escapes ws b (owed + 4 + 2 * length args) kinds s (counting 1 (going control t))

  abbrev pub at : Call → State
  at z = going z.control z.t

  -- one move was made
  abbrev pub moved : Call → State
  moved z = counting 1 (going z.control z.t)

  abbrev pub Path : Call → ℕ → State → Made → Outcome → Type 0
  Path z n c s o = Runs (behind x M marks escapes) M (Away x M marks escapes z.ws z.b) z.m n c s o (Returned x M marks escapes z.ws z.since z.from z.owed)

  pub low : (z : Call) → total z.ws ≤ z.s.deepest
  low z = let a = z.waits.1 in let e = z.deep in omega (arith, a, e)

  pub fails : (z : Call) (n : ℕ) (e : Fault) → step (behind x M marks escapes) (at z) ≡ faulted e (moved z) → Path z n (at z) z.s (Faulted z.s e)
  fails z n e h =
      let a = low z in
      runs_step (behind x M marks escapes) M (Away x M marks escapes z.ws z.b) z.m n (at z) (faulted e (moved z)) z.s (Faulted z.s e) (Returned x M marks escapes z.ws z.since z.from z.owed) h (omega (arith, a, ap total z.ready.waiting))
      (fault_now x M marks escapes (Away x M marks escapes z.ws z.b) z.m n e (faulted e (moved z)) z.s (Returned x M marks escapes z.ws z.since z.from z.owed) (omega (arith, a, ap total z.ready.waiting)) refl (common_of x M marks escapes (z.owed + 4 + 2 * length z.args) z.kinds z.s (moved z) z.ready.sync))

  -- a value that comes back at once
  pub comes_back : (z : Call) (n : ℕ) (r : Made) (v : Val) (u : State) → step (behind x M marks escapes) (at z) ≡ returned (behind x M marks escapes) z.ws v u → r.deepest ≡ z.s.deepest → Grown x z.kinds z.s z.kinds r → u.waiting ≡ z.ws → Sync x M (z.owed + 3) z.kinds r u → Path z n (at z) z.s (Value r v)
  comes_back z n r v u h e g f y =
      let a = low z in
      runs_step (behind x M marks escapes) M (Away x M marks escapes z.ws z.b) z.m n (at z) (returned (behind x M marks escapes) z.ws v u) z.s (Value r v) (Returned x M marks escapes z.ws z.since z.from z.owed) h (omega (arith, a, ap total z.ready.waiting)) (
        returned (behind x M marks escapes) z.ws v u,
        gone_none (behind x M marks escapes) M (returned (behind x M marks escapes) z.ws v u) z.s r (let w = returned_waits (behind x M marks escapes) z.ws v u f in omega (arith, a, w, e)) (omega (arith, e)),
        record { state = u; kinds = z.kinds; lands = refl; waiting = f; grown = grown_trans x z.since z.kinds z.kinds z.from z.s r z.grown g; sync = y },
      )

  -- ---- builtins

  pub row_runs : (z : Call) (n : ℕ) (o : Row) → step (behind x M marks escapes) (at z) ≡ cps_after_row o (moved z) (λ v t. returned (behind x M marks escapes) t.waiting v t) → Path z n (at z) z.s (after_row z.s o)
  row_runs z n (Gives v) h = comes_back z n z.s v (moved z) (h ∙ ap (λ l. returned (behind x M marks escapes) l v (moved z)) z.ready.waiting) refl (grown_same x z.kinds z.s z.s refl refl) z.ready.waiting (record { world = z.ready.sync.world; moves = omega (arith, z.ready.sync.moves) })
  row_runs z n (Changes st v) h =
      let w = z.ready.sync.world in
      comes_back z n (stored z.s st) v (with_store (moved z) st) (h ∙ ap (λ l. returned (behind x M marks escapes) l v (with_store (moved z) st)) z.ready.waiting) refl (grown_same x z.kinds z.s (stored z.s st) refl refl) z.ready.waiting
      (record { world = record { store_as = refl; globals_as = w.globals_as; catches_as = w.catches_as; live_as = w.live_as; locations_as = w.locations_as; closures_as = w.closures_as; objects_as = w.objects_as }; moves = omega (arith, z.ready.sync.moves) })
  row_runs z n (Faults fault) h = fails z n fault h

  -- ---- escapes

  pub escape_runs : (z : Call) (n i : ℕ) (vs : List Val) → step (behind x M marks escapes) (at z) ≡ cps_escape (behind x M marks escapes) i vs (moved z) → Path z n (at z) z.s (escape i vs z.s)
  escape_runs z n i [] h = fails z n WrongCount h
  escape_runs z n i (v ∷ w ∷ vs) h = fails z n WrongCount h
  escape_runs z n i (v ∷ []) h = by_case (live_found i z.ws).case
    where
      same : live_of x M z.ws ≡ z.s.live
      same = sym (ap (live_of x M) z.ready.waiting) ∙ z.ready.sync.world.live_as

      by_case : (list_any (λ j. j == i) (live_of x M z.ws) ≡ false) × (unwound i z.ws ≡ None) ⊎ (list_any (λ j. j == i) (live_of x M z.ws) ≡ true) × ((rest : List Waiting) × (unwound i z.ws ≡ Some rest) × (total rest ≤ total z.ws)) → Path z n (at z) z.s (provided (list_any (λ j. j == i) z.s.live) DeadEscape z.s (λ t. Escaping t i v))
      by_case (inl e) =
          subst (λ bl. Path z n (at z) z.s (provided bl DeadEscape z.s (λ t. Escaping t i v))) (sym (ap (list_any (λ j. j == i)) (sym same) ∙ e.0))
          (fails z n DeadEscape (h ∙ ap (λ l. escaped (behind x M marks escapes) (unwound i l) v (moved z)) z.ready.waiting ∙ ap (λ o. escaped (behind x M marks escapes) o v (moved z)) e.1))
      by_case (inr e) =
          let rest = e.1.0 in
          let d = returned (behind x M marks escapes) rest v (moved z) in
          let a = low z in
          let w = z.ready.sync.world in
          subst (λ bl. Path z n (at z) z.s (provided bl DeadEscape z.s (λ t. Escaping t i v))) (sym (ap (list_any (λ j. j == i)) (sym same) ∙ e.0))
          (runs_step (behind x M marks escapes) M (Away x M marks escapes z.ws z.b) z.m n (at z) d z.s (Escaping z.s i v) (Returned x M marks escapes z.ws z.since z.from z.owed)
          (h ∙ ap (λ l. escaped (behind x M marks escapes) (unwound i l) v (moved z)) z.ready.waiting ∙ ap (λ o. escaped (behind x M marks escapes) o v (moved z)) e.1.1)
          (omega (arith, a, ap total z.ready.waiting)) (
            d,
            gone_none (behind x M marks escapes) M d z.s z.s (let f = returned_most (behind x M marks escapes) rest z.ws v (moved z) z.ready.waiting e.1.2 in omega (arith, a, f)) (omega arith),
            record {
              rest = rest;
              live = e.1.1;
              state = moved z;
              kinds = z.kinds;
              lands = refl;
              grown = z.ready.grown;
              sync = record { world = record { store_as = w.store_as; globals_as = w.globals_as; catches_as = w.catches_as; live_as = refl; locations_as = w.locations_as; closures_as = w.closures_as; objects_as = w.objects_as }; moves = (let l = z.least in omega (arith, z.ready.sync.moves, l)) };
            },
          ))

  -- ---- procedures

  module _ (n : ℕ) (cl : Claims x M marks escapes n) where
    body_run : (z : Call) (f : Procedure) (c : Closure) (a : ProcedureAs x M z.kinds z.s.locations f c) → length a.lam_at.0.params ≡ length z.args → step (behind x M marks escapes) (at z) ≡ begun (behind x M marks escapes) a.lam_at.0 c z.args (moved z) → Path z (suc n) (at z) z.s (binding (before x M marks escapes) f.params z.args f.env z.s (λ env u. perform (before x M marks escapes) n z.d (Evaluate f.body (record { form = f.form; tail = true; env = env })) u))
    body_run z f c a count h =
        let lam = a.lam_at.0 in
        let las = a.lam_at.2 in
        let base : Scope = Begun lam.k.0 ∷ c.scope in
        let sb = naming lam.params z.args base in
        let q = bound_state x M marks escapes facts f.params z.args z.s in
        let env = extended f.params (length z.s.locations) f.env in
        let ctx : Context = record { form = f.form; tail = true; env = env } in
        let o = perform (before x M marks escapes) n z.d (Evaluate f.body ctx) q in
        let low' = low z in
        let over0 : Extends a.bound base sb = naming_extends a.bound lam.params z.args base las.names_new in
        let ea0 : EnvAs x a.bound z.kinds z.s.locations f.env base = env_meant x a.bound z.kinds z.s.locations f.env c.scope base (λ y i. refl) a.env_as in
        let ea : EnvAs x a.bound z.kinds z.s.locations f.env sb = env_extends x a.bound z.kinds z.s.locations f.env base sb over0 ea0 in
        let shallow = a.shallow in
        let most = words_most x M marks escapes facts f.params in
        let many = assigned_length x M marks escapes facts (adding lam.params a.bound) f.params (variables lam.params) lam.body las.start las.assigned in
        let many2 = variables_length lam.params in
        runs_enter (behind x M marks escapes) M (Away x M marks escapes z.ws z.b) z.m a.depth n (at z) (going (At lam.body sb) (moved z)) z.s q o (Returned x M marks escapes z.ws z.since z.from z.owed)
        (h ∙ naming_all a.bound lam.params z.args base (moved z) (λ scope t. going (At lam.body scope) t) las.names_new count)
        (omega (arith, low', ap total z.ready.waiting)) (omega arith) shallow
        (assigned_run x M marks escapes facts (Away x M marks escapes z.ws z.b) a.depth n q o (Returned x M marks escapes z.ws z.since z.from z.owed) las.start f.params (variables lam.params) z.args a.bound (adding lam.params a.bound) f.env z.kinds z.s.locations sb (moved z) lam.body
        las.assigned (naming_means a.bound lam.params z.args z.t.globals base las.names_new count) (λ y i. in_adding lam.params y a.bound i) ea z.ready.sync.world.locations_as (omega (arith, low', ap total z.ready.waiting))
        (λ se v now bd.
        let g = bound_grown x M marks escapes facts a.bound (adding lam.params a.bound) f.env z.kinds f.params z.args sb z.s (moved z) se v now bd in
        let out : way_of se lam.k.0 ≡ Outwards = bd.over.ways lam.k.0 ∙ over0.ways lam.k.0 ∙ own_way lam.k.0 c.scope in
        runs_wider (behind x M marks escapes) M (Away x M marks escapes z.ws z.b) a.depth n (going (At las.start se) v) q o (Given x M marks escapes (adding f.params a.bound) (Continuation.Var lam.k) se z.ws z.since z.from z.owed) (Returned x M marks escapes z.ws z.since z.from z.owed)
        (cl.evaluates a.depth ctx f.body (adding f.params a.bound) (adding f.params a.bound) (Continuation.Var lam.k) las.start z.d z.owed se z.ws z.b z.since z.from now q v
        (grown_trans x z.since z.kinds now z.from z.s q z.grown g) las.body_as (omega (arith, shallow)) (subst (λ w. Waits w z.ws z.d) (sym out) z.waits) (omega (arith, low'))
        (record {
          ready = record {
            waiting = bd.waiting_as ∙ z.ready.waiting;
            least = z.least;
            grown = grown_trans x z.b.kinds z.kinds now z.b.made z.s q z.ready.grown g;
            sync = bound_sync x M marks escapes facts z.owed (z.owed + 4 + 2 * length z.args) a.bound (adding lam.params a.bound) f.env z.kinds f.params z.args sb z.s (moved z) se v now (omega (arith, most, many, many2, count)) bd z.ready.sync;
          };
          inside = λ y i. i;
          env_as = bd.env_as;
        }))
        (λ r w e deeper gv. record {
          state = gv.state;
          kinds = gv.kinds;
          lands = gv.lands ∙ ap (λ y. given (behind x M marks escapes) y w gv.state) (gv.over.ways lam.k.0 ∙ out) ∙ ap (λ l. returned (behind x M marks escapes) l w gv.state) gv.waiting;
          waiting = gv.waiting;
          grown = gv.grown;
          sync = gv.sync;
        })))

    pub enter_run : (z : Call) (f : Procedure) (c : Closure) → ProcedureAs x M z.kinds z.s.locations f c → step (behind x M marks escapes) (at z) ≡ cps_entered (behind x M marks escapes) c z.args (moved z) → Path z (suc n) (at z) z.s (enter (before x M marks escapes) (perform (before x M marks escapes) n) z.d f z.args z.s)
    enter_run z f c a h = by_count (length f.params == length z.args) refl
      where
        lam : Lam
        lam = a.lam_at.0

        as_many : length lam.params ≡ length f.params
        as_many = sym (variables_length lam.params) ∙ assigned_length x M marks escapes facts (adding lam.params a.bound) f.params (variables lam.params) lam.body a.lam_at.2.start a.lam_at.2.assigned

        found : step (behind x M marks escapes) (at z) ≡ (if length f.params == length z.args then begun (behind x M marks escapes) lam c z.args (moved z) else faulted WrongCount (moved z))
        found = h ∙ ap (λ o. or_broken o (moved z) (λ l. if length l.params == length z.args then begun (behind x M marks escapes) l c z.args (moved z) else faulted WrongCount (moved z))) a.lam_at.1
            ∙ ap (λ i. if i == length z.args then begun (behind x M marks escapes) lam c z.args (moved z) else faulted WrongCount (moved z)) as_many

        by_count : (b : Bool) → (length f.params == length z.args) ≡ b → Path z (suc n) (at z) z.s (provided (length f.params == length z.args) WrongCount z.s (λ t. binding (before x M marks escapes) f.params z.args f.env t (λ env u. perform (before x M marks escapes) n z.d (Evaluate f.body (record { form = f.form; tail = true; env = env })) u)))
        by_count true e =
            subst (λ b. Path z (suc n) (at z) z.s (provided b WrongCount z.s (λ t. binding (before x M marks escapes) f.params z.args f.env t (λ env u. perform (before x M marks escapes) n z.d (Evaluate f.body (record { form = f.form; tail = true; env = env })) u)))) (sym e)
            (body_run z f c a (as_many ∙ eqb-true (length f.params) (length z.args) e) (found ∙ ap (λ b. if b then begun (behind x M marks escapes) lam c z.args (moved z) else faulted WrongCount (moved z)) e))
        by_count false e =
            subst (λ b. Path z (suc n) (at z) z.s (provided b WrongCount z.s (λ t. binding (before x M marks escapes) f.params z.args f.env t (λ env u. perform (before x M marks escapes) n z.d (Evaluate f.body (record { form = f.form; tail = true; env = env })) u)))) (sym e)
            (fails z (suc n) WrongCount (found ∙ ap (λ b. if b then begun (behind x M marks escapes) lam c z.args (moved z) else faulted WrongCount (moved z)) e))

    closure_by : (z : Call) (o : Option Procedure) (k : Option Closure) → Both (ProcedureAs x M z.kinds z.s.locations) o k → step (behind x M marks escapes) (at z) ≡ cps_unbound k (moved z) (λ c. cps_entered (behind x M marks escapes) c z.args (moved z)) → Path z (suc n) (at z) z.s (or_unbound o z.s (λ f. enter (before x M marks escapes) (perform (before x M marks escapes) n) z.d f z.args z.s))
    closure_by z None None a h = fails z (suc n) Unbound h
    closure_by z (Some f) (Some c) a h = enter_run z f c a h
    closure_by z None (Some c) a h = absurd a
    closure_by z (Some f) None a h = absurd a

    object_by : (z : Call) (o : Option Object) (k : Option CpsObject) → Both (ThingAs x M z.kinds z.s.locations) o k → step (behind x M marks escapes) (at z) ≡ cps_unbound k (moved z) (λ object. going (Calling object.procedure z.args) (moved z)) → Path z (suc n) (at z) z.s (or_unbound o z.s (λ object. perform (before x M marks escapes) n z.d (Apply object.procedure z.args) z.s))
    object_by z None None a h = fails z (suc n) Unbound h
    object_by z (Some p) (Some k) a h =
        let low' = low z in
        runs_enter (behind x M marks escapes) M (Away x M marks escapes z.ws z.b) z.m 0 n (at z) (going (Calling p.procedure z.args) (moved z)) z.s z.s (perform (before x M marks escapes) n z.d (Apply p.procedure z.args) z.s) (Returned x M marks escapes z.ws z.since z.from z.owed)
        (h ∙ ap (λ g. going (Calling g z.args) (moved z)) a.procedure) (omega (arith, low', ap total z.ready.waiting)) (omega arith) facts.some
        (cl.applies 0 z.d z.owed p.procedure z.args z.ws z.b z.since z.from z.kinds z.s (moved z) z.grown z.waits low' z.least (record { waiting = z.ready.waiting; least = (let l = z.least in omega (arith, l)); grown = z.ready.grown; sync = record { world = z.ready.sync.world; moves = omega (arith, z.ready.sync.moves) } }))
    object_by z None (Some k) a h = absurd a
    object_by z (Some p) None a h = absurd a

    -- ---- operations

    handlers_as : (kinds : Kinds) (ls : List Val) (o : Option Object) (k : Option CpsObject) → Both (ThingAs x M kinds ls) o k → Zipped (HandlerAs x M kinds ls) (option_map_or (λ object. object.handlers) o []) (option_map_or (λ object. object.handlers) k [])
    handlers_as kinds ls None None h = tt
    handlers_as kinds ls (Some a) (Some b) h = h.handlers
    handlers_as kinds ls None (Some b) h = absurd h
    handlers_as kinds ls (Some a) None h = absurd h

    handlers_there : (z : Call) (v : Val) → Zipped (HandlerAs x M z.kinds z.s.locations) (handlers_at z.s v) (cps_handlers_at (moved z) v)
    handlers_there z (ObjectV i) = handlers_as z.kinds z.s.locations (slice_get z.s.objects i) (slice_get z.t.objects i) (zipped_get (ThingAs x M z.kinds z.s.locations) z.s.objects z.t.objects i z.ready.sync.world.objects_as)
    handlers_there z (FixV a) = tt
    handlers_there z (CharV a) = tt
    handlers_there z NilV = tt
    handlers_there z TrueV = tt
    handlers_there z (SymbolV a) = tt
    handlers_there z (StringV a) = tt
    handlers_there z (PairV a) = tt
    handlers_there z (VectorV a) = tt
    handlers_there z (ClosureV a) = tt
    handlers_there z (OperationV a) = tt
    handlers_there z (BuiltinV a) = tt
    handlers_there z (EscapeV a) = tt

    abbrev Looked : Call → State → Made → Outcome → Type 0
    Looked z c r o = Runs (behind x M marks escapes) M (Away x M marks escapes z.ws z.b) 0 n c r o (Returned x M marks escapes z.ws z.since z.from z.owed)

    default_by : (z : Call) (count : ℕ) (u w : State) (o : Option Procedure) (k : Option Closure) → Both (ProcedureAs x M z.kinds z.s.locations) o k → step (behind x M marks escapes) u ≡ defaulted k z.args w → waiting_of u ≤ z.s.deepest → Ready x M marks escapes z.ws z.b (z.owed + 2 * length z.args) z.kinds (working count z.s) w → Looked z u (working count z.s) (handled (perform (before x M marks escapes) n) z.d o z.args (working count z.s))
    default_by z count u w None None a h less y =
        let low' = low z in
        runs_step (behind x M marks escapes) M (Away x M marks escapes z.ws z.b) 0 n u (faulted NotHandled w) (working count z.s) (Faulted (working count z.s) NotHandled) (Returned x M marks escapes z.ws z.since z.from z.owed) h less
        (fault_now x M marks escapes (Away x M marks escapes z.ws z.b) 0 n NotHandled (faulted NotHandled w) (working count z.s) (Returned x M marks escapes z.ws z.since z.from z.owed) (omega (arith, low', ap total y.waiting)) refl (common_of x M marks escapes (z.owed + 2 * length z.args) z.kinds (working count z.s) w y.sync))
    default_by z count u w (Some f) (Some c) a h less y =
        runs_step (behind x M marks escapes) M (Away x M marks escapes z.ws z.b) 0 n u (going (Entering c z.args) w) (working count z.s) (perform (before x M marks escapes) n z.d (Enter f z.args) (working count z.s)) (Returned x M marks escapes z.ws z.since z.from z.owed) h less
        (cl.enters 0 z.d z.owed f c z.args z.ws z.b z.since z.from z.kinds (working count z.s) w z.grown z.waits (low z) z.least a y)
    default_by z count u w None (Some c) a h less y = absurd a
    default_by z count u w (Some f) None a h less y = absurd a

    looking_run : (z : Call) (o count : ℕ) (hs : List Handler) (ks : List CpsHandler) (u : State) → Zipped (HandlerAs x M z.kinds z.s.locations) hs ks
        → Ready x M marks escapes z.ws z.b (z.owed + looked_at o hs + 1 + 2 * length z.args) z.kinds (working count z.s) u
        → Looked z (going (Looking o ks z.args) u) (working count z.s) (handled (perform (before x M marks escapes) n) z.d (chosen o hs (default_of x.unit o)) z.args (working count z.s))
    looking_run z o count [] [] u h y =
        let low' = low z in
        default_by z count (going (Looking o [] z.args) u) (counting 1 (going (Looking o [] z.args) u)) (default_of x.unit o) (cps_default_of x.cps o) (facts.defaults o z.kinds z.s.locations) refl (omega (arith, low', ap total y.waiting))
        (record { waiting = y.waiting; least = (let l = z.least in omega (arith, l)); grown = y.grown; sync = record { world = y.sync.world; moves = omega (arith, y.sync.moves) } })
    looking_run z o count (a ∷ hs) (k ∷ ks) u h y = by_test (looking_run z o count hs ks (counting 1 (going (Looking o (k ∷ ks) z.args) u)) h.1) (a.op == o) (ap (λ i. going (if i == o then Entering k.closure z.args else Looking o ks z.args) (counting 1 (going (Looking o (k ∷ ks) z.args) u))) h.0.op) y
      where
        w : State
        w = counting 1 (going (Looking o (k ∷ ks) z.args) u)

        by_test : (Ready x M marks escapes z.ws z.b (z.owed + looked_at o hs + 1 + 2 * length z.args) z.kinds (working count z.s) w → Looked z (going (Looking o ks z.args) w) (working count z.s) (handled (perform (before x M marks escapes) n) z.d (chosen o hs (default_of x.unit o)) z.args (working count z.s))) → (b : Bool) → step (behind x M marks escapes) (going (Looking o (k ∷ ks) z.args) u) ≡ going (if b then Entering k.closure z.args else Looking o ks z.args) w → Ready x M marks escapes z.ws z.b (z.owed + (if b then 1 else suc (looked_at o hs)) + 1 + 2 * length z.args) z.kinds (working count z.s) u
            → Looked z (going (Looking o (k ∷ ks) z.args) u) (working count z.s) (handled (perform (before x M marks escapes) n) z.d (if b then Some a.procedure else chosen o hs (default_of x.unit o)) z.args (working count z.s))
        by_test more true e r =
            let low' = low z in
            default_by z count (going (Looking o (k ∷ ks) z.args) u) w (Some a.procedure) (Some k.closure) h.0.procedure_as e (omega (arith, low', ap total r.waiting))
            (record { waiting = r.waiting; least = (let l = z.least in omega (arith, l)); grown = r.grown; sync = record { world = r.sync.world; moves = omega (arith, r.sync.moves) } })
        by_test more false e r =
            let low' = low z in
            runs_step (behind x M marks escapes) M (Away x M marks escapes z.ws z.b) 0 n (going (Looking o (k ∷ ks) z.args) u) (going (Looking o ks z.args) w) (working count z.s) (handled (perform (before x M marks escapes) n) z.d (chosen o hs (default_of x.unit o)) z.args (working count z.s)) (Returned x M marks escapes z.ws z.since z.from z.owed) e (omega (arith, low', ap total r.waiting))
            (more (record { waiting = r.waiting; least = (let l = z.least in omega (arith, l)); grown = r.grown; sync = record { world = r.sync.world; moves = omega (arith, r.sync.moves) } }))
    looking_run z o count [] (k ∷ ks) u h y = absurd h
    looking_run z o count (a ∷ hs) [] u h y = absurd h

    operate_by : (z : Call) (o : ℕ) (vs : List Val) → z.args ≡ vs → step (behind x M marks escapes) (at z) ≡ operated o vs (moved z) → Path z (suc n) (at z) z.s (operate (before x M marks escapes) (perform (before x M marks escapes) n) z.d o vs z.s)
    operate_by z o [] e h = fails z (suc n) WrongCount h
    operate_by z o (v ∷ vs) e h =
        let hs = handlers_at z.s v in
        let ks = cps_handlers_at (moved z) v in
        let count = looked_at o hs in
        let low' = low z in
        subst (λ l. Path z (suc n) (at z) z.s (handled (perform (before x M marks escapes) n) z.d (chosen o hs (default_of x.unit o)) l (working count z.s))) e
        (runs_enter (behind x M marks escapes) M (Away x M marks escapes z.ws z.b) z.m 0 n (at z) (going (Looking o ks z.args) (moved z)) z.s (working count z.s) (handled (perform (before x M marks escapes) n) z.d (chosen o hs (default_of x.unit o)) z.args (working count z.s)) (Returned x M marks escapes z.ws z.since z.from z.owed)
        (h ∙ ap (λ l. going (Looking o ks l) (moved z)) (sym e)) (omega (arith, low', ap total z.ready.waiting)) (omega arith) facts.some
        (looking_run z o count hs ks (moved z) (handlers_there z v)
        (record { waiting = z.ready.waiting; least = (let l = z.least in omega (arith, l)); grown = z.ready.grown; sync = record { world = z.ready.sync.world; moves = omega (arith, z.ready.sync.moves) } })))

    pub apply_run : (z : Call) (g : Val) → step (behind x M marks escapes) (at z) ≡ called (behind x M marks escapes) g z.args (moved z) → Path z (suc n) (at z) z.s (apply (before x M marks escapes) (perform (before x M marks escapes) n) z.d g z.args z.s)
    apply_run z (ClosureV i) h = closure_by z (slice_get z.s.closures i) (slice_get z.t.closures i) (zipped_get (ProcedureAs x M z.kinds z.s.locations) z.s.closures z.t.closures i z.ready.sync.world.closures_as) h
    apply_run z (ObjectV i) h = object_by z (slice_get z.s.objects i) (slice_get z.t.objects i) (zipped_get (ThingAs x M z.kinds z.s.locations) z.s.objects z.t.objects i z.ready.sync.world.objects_as) h
    apply_run z (OperationV o) h = operate_by z o z.args refl h
    apply_run z (BuiltinV b) h = row_runs z (suc n) (row b z.args z.s.store) (h ∙ ap (λ st. cps_after_row (row b z.args st) (moved z) (λ v t. returned (behind x M marks escapes) t.waiting v t)) z.ready.sync.world.store_as)
    apply_run z (EscapeV i) h = escape_runs z (suc n) i z.args h
    apply_run z (FixV a) h = fails z (suc n) NotProcedure h
    apply_run z (CharV a) h = fails z (suc n) NotProcedure h
    apply_run z NilV h = fails z (suc n) NotProcedure h
    apply_run z TrueV h = fails z (suc n) NotProcedure h
    apply_run z (SymbolV a) h = fails z (suc n) NotProcedure h
    apply_run z (StringV a) h = fails z (suc n) NotProcedure h
    apply_run z (PairV a) h = fails z (suc n) NotProcedure h
    apply_run z (VectorV a) h = fails z (suc n) NotProcedure h
