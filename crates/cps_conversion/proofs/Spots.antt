-- A node that is evaluated, and where the program stands then.
use Rattle.std.proofs.Common.{◌≡◌, ℕ, suc, ◌+◌, ◌*◌, ◌≤◌, ◌<◌, Bool, true, false, if◌then◌else◌, List, [], ◌∷◌, length, Option, Some, None, refl, sym, ap, ◌∙◌, subst, arith, inl, inr}
use Rattle.t_base.specs.declared.basics.Var.{Var}
use Rattle.t_base.specs.declared.faults.Fault.{Fault}
use Rattle.t_prim.specs.Values.{Val}
use Rattle.t_meaning.specs.Programs.{Marking}
use Rattle.t_meaning.specs.Environment.{Env}
use Rattle.t_meaning.specs.State.{State as Made}
use Rattle.t_meaning.specs.Outcomes.{Outcome, Value, Faulted, Context, Doing, last, with_values}
use Rattle.t_meaning.specs.Performing.{perform}
use Rattle.cps_ir.specs.declared.args.Arg.{Arg}
use Rattle.cps_ir.specs.declared.terms.Cont.{Cont}
use Rattle.cps_ir.specs.declared.terms.Cont.TheVariants as Continuation
use Rattle.cps_ir.specs.declared.terms.Term.{Term}
use Rattle.cps_ir.specs.declared.terms.Term.TheVariants as Step
use Rattle.cps_ir.specs.States.{Marking as CpsMarking, Joined, Scope, Waiting, At, State, going, counting, faulted}
use Rattle.cps_ir.specs.Giving.{On, way, way_of, given, give}
use Rattle.cps_ir.specs.Running.{step}
use Rattle.cps_conversion.specs.Conversion.{Translation, Stands, ConvertsWithin, Values, nowhere, OverAll}
use Rattle.cps_conversion.proofs.Scopes.{Extends, extends_same, extends_trans, same_number, total, Waits, waits_least, waits_more}
use Rattle.cps_conversion.proofs.Relate.{Kinds, Grown, grown_trans, env_meant, EnvAs, Sync}
use Rattle.cps_conversion.proofs.Paths.{waiting_of, Common, Runs, runs_step, runs_wider}
use Rattle.cps_conversion.proofs.Claims.{before, behind, Facts, Base, Here, Given, Away, Claims, step_at, fault_now, gives_now}
use Rattle.cps_conversion.proofs.Operands.{Valued, values_run}

pub values_length : (x : Translation) (m form : ℕ) (bound held inner : List ℕ) (tos : List (Option Var)) (keys : List ℕ) (args : List Arg) (t last : ℕ) → Values x (ConvertsWithin x m) form bound held tos keys args t last inner → length args ≡ length keys
values_length x m form bound held inner [] [] [] t last h = refl
values_length x m form bound held inner (None ∷ tos) (key ∷ keys) (a ∷ args) t last (inl h) = ap suc (values_length x m form bound held inner tos keys args t last h.2)
values_length x m form bound held inner (None ∷ tos) (key ∷ keys) (a ∷ args) t last (inr h) = ap suc (values_length x m form bound (h.1.0.0 ∷ held) inner tos keys args h.1.1 last h.1.5)
values_length x m form bound held inner (Some v ∷ tos) (key ∷ keys) (a ∷ args) t last h = ap suc (values_length x m form bound (v.0 ∷ held) inner tos keys args h.0 last h.4)
values_length x m form bound held inner [] [] (a ∷ args) t last h = absurd h
values_length x m form bound held inner [] (key ∷ keys) args t last h = absurd h
values_length x m form bound held inner (None ∷ tos) [] args t last h = absurd h
values_length x m form bound held inner (Some v ∷ tos) [] args t last h = absurd h
values_length x m form bound held inner (None ∷ tos) (key ∷ keys) [] t last h = absurd h
values_length x m form bound held inner (Some v ∷ tos) (key ∷ keys) [] t last h = absurd h

module _ (x : Translation) (M : ℕ) (marks : Marking) (escapes : CpsMarking) (facts : Facts x M marks escapes) (n : ℕ) (cl : Claims x M marks escapes n) where
  -- the node is noted at depth d already; `has` is what may be moved yet, of which `owed` stays owed
  pub record Spot : Type 0 where
    pub m : ℕ
    pub c : Context
    pub bound : List ℕ
    pub held : List ℕ
    pub k : Cont
    pub place : ℕ
    pub d : ℕ
    pub has : ℕ
    pub owed : ℕ
    pub sc : Scope
    pub ws : List Waiting
    pub b : Base x M marks escapes
    pub since : Kinds
    pub from : Made
    pub kinds : Kinds
    pub s : Made
    pub t : State
    pub shallow : m < M
    pub waits : Waits (way sc k) ws d
    pub deep : d ≤ s.deepest
    pub least : b.owed ≤ owed
    pub grown : Grown x since from kinds s
    pub here : Here x M marks escapes bound held sc c.env ws b has kinds s t

  abbrev pub at : Spot → State
  at z = going (At z.place z.sc) z.t

  abbrev pub Path : Spot → State → Made → Outcome → (Made → Val → State → Type 0) → Type 0
  Path z c s o Done = Runs (behind x M marks escapes) M (Away x M marks escapes z.ws z.b) z.m n c s o Done

  abbrev pub Done : Spot → Made → Val → State → Type 0
  Done z = Given x M marks escapes z.held z.k z.sc z.ws z.since z.from z.owed

  abbrev pub Goal : Spot → Outcome → Type 0
  Goal z o = Path z (at z) z.s o (Done z)

  abbrev pub part : Doing
  part = perform (before x M marks escapes) n

  abbrev pub Conv : Spot → ℕ → Cont → ℕ → Type 0
  Conv z key k place = ConvertsWithin x z.m z.c.form z.bound z.held key k place

  pub low : (z : Spot) → total z.ws ≤ z.d
  low z = waits_least (way z.sc z.k) z.ws z.d z.waits

  pub stays : (z : Spot) → total z.ws ≤ z.s.deepest
  stays z = let a = low z in let e = z.deep in omega (arith, a, e)

  pub now_waits : (z : Spot) → waiting_of (at z) ≤ z.s.deepest
  now_waits z = let a = stays z in omega (arith, a, ap total z.here.ready.waiting)

  -- the value is given by the node's first step
  pub atom : (z : Spot) (kinds : Kinds) (r : Made) (v : Val) (u : State) → step (behind x M marks escapes) (at z) ≡ give (behind x M marks escapes) z.sc z.k v u → z.s.deepest ≤ r.deepest → Grown x z.kinds z.s kinds r → u.waiting ≡ z.ws → Sync x M (z.owed + 3) kinds r u → Goal z (Value r v)
  atom z kinds r v u e deeper g f y =
      let a = stays z in
      gives_now x M marks escapes z.m n z.held z.k z.sc z.sc z.ws z.b z.since z.from z.owed kinds (at z) z.s r v u e (now_waits z) deeper (extends_same z.held z.sc) (omega (arith, a, deeper)) (grown_trans x z.since z.kinds kinds z.from z.s r z.grown g) f y

  -- a fault by the first step
  pub fails : (z : Spot) (e : Fault) (u : State) → step (behind x M marks escapes) (at z) ≡ faulted e u → u.waiting ≡ z.ws → Common z.s u → Goal z (Faulted z.s e)
  fails z e u h f y =
      let a = stays z in
      runs_step (behind x M marks escapes) M (Away x M marks escapes z.ws z.b) z.m n (at z) (faulted e u) z.s (Faulted z.s e) (Done z) h (now_waits z)
      (fault_now x M marks escapes (Away x M marks escapes z.ws z.b) z.m n e (faulted e u) z.s (Done z) (omega (arith, a, ap total f)) refl y)

  -- a value from a scope that binds more
  pub given_over : (held : List ℕ) (k : Cont) (sc sd : Scope) (ws : List Waiting) (since : Kinds) (from r : Made) (owed : ℕ) (v : Val) (e : State) → Extends held sc sd → Given x M marks escapes held k sd ws since from owed r v e → Given x M marks escapes held k sc ws since from owed r v e
  given_over held k sc sd ws since from r owed v e o g = record { scope = g.scope; state = g.state; kinds = g.kinds; lands = g.lands; waiting = g.waiting; over = extends_trans held sc sd g.scope o g.over; grown = g.grown; sync = g.sync }

  waits_over : (k : Cont) (sc sd : Scope) (ws : List Waiting) (d : ℕ) → ((j : ℕ) → way_of sd j ≡ way_of sc j) → Waits (way sc k) ws d → Waits (way sd k) ws d
  waits_over (Continuation.Var k) sc sd ws d f h = subst (λ w. Waits w ws d) (sym (f k.0)) h
  waits_over (Continuation.Lam p b) sc sd ws d f h = h

  pub still_waits : (z : Spot) (sd : Scope) → Extends z.held z.sc sd → Waits (way sd z.k) z.ws z.d
  still_waits z sd o = waits_over z.k z.sc sd z.ws z.d o.ways z.waits

  pub deeper_last : (tail : Bool) (d : ℕ) → d ≤ (if tail then d else suc d)
  deeper_last true d = omega arith
  deeper_last false d = omega arith

  -- the part whose value is the node's, later
  pub last_run : (z : Spot) (key place : ℕ) (sd : Scope) (has : ℕ) (kinds : Kinds) (r : Made) (u : State) → Conv z key z.k place → Extends z.held z.sc sd → z.s.deepest ≤ r.deepest → Grown x z.kinds z.s kinds r → z.owed ≤ has → Here x M marks escapes z.bound z.held sd z.c.env z.ws z.b has kinds r u → Path z (going (At place sd) u) r (last part z.d z.c key r) (Done z)
  last_run z key place sd has kinds r u conv over deeper g le h =
      let a = stays z in
      runs_wider (behind x M marks escapes) M (Away x M marks escapes z.ws z.b) z.m n (going (At place sd) u) r (last part z.d z.c key r) (Given x M marks escapes z.held z.k sd z.ws z.since z.from z.owed) (Done z)
      (cl.evaluates z.m z.c key z.bound z.held z.k place (if z.c.tail then z.d else suc z.d) z.owed sd z.ws z.b z.since z.from kinds r u (grown_trans x z.since z.kinds kinds z.from z.s r z.grown g) conv (let sh = z.shallow in omega (arith, sh)) (waits_more (way sd z.k) z.ws z.d (if z.c.tail then z.d else suc z.d) (deeper_last z.c.tail z.d) (still_waits z sd over)) (omega (arith, a, deeper))
      (record { ready = record { waiting = h.ready.waiting; least = z.least; grown = h.ready.grown; sync = record { world = h.ready.sync.world; moves = omega (arith, h.ready.sync.moves, le) } }; inside = h.inside; env_as = h.env_as }))
      (λ q v e deeper2 gv. given_over z.held z.k z.sc sd z.ws z.since z.from q z.owed v e over gv)

  -- the values of operands, and then a term over them
  pub over_run : (z : Spot) (keys : List ℕ) (args : List Arg) (term : Term) (go : Made → List Val → Outcome) → OverAll x (ConvertsWithin x z.m) z.c.form z.bound z.held keys args term z.place → ((inner : List ℕ) (last : ℕ) (r : Made) (vs : List Val) (sd : Scope) (u : State) (now : Kinds) → Stands x last term → length args ≡ length keys → Valued x M marks escapes z.c z.bound z.held inner args z.sc z.ws z.b (z.has + 3 * length keys) z.kinds z.s r vs sd u now → Path z (going (At last sd) u) r (go r vs) (Done z)) → Goal z (with_values part z.d z.c keys z.s go)
  over_run z keys args term go o cont =
      let a = low z in
      let e = stays z in
      values_run x M marks escapes facts n cl z.m z.c z.bound z.held o.inner (nowhere keys) keys args z.place o.last z.d z.has z.sc z.ws z.b z.kinds z.s z.t go (Done z) o.values (let sh = z.shallow in omega (arith, sh)) a e z.here
      (λ r vs sd u now k. cont o.inner o.last r vs sd u now o.stands (values_length x z.m z.c.form z.bound z.held o.inner (nowhere keys) keys args z.place o.last o.values) k)

  -- the step of a term over values, where it gives a value
  pub gives_last : (z : Spot) (inner : List ℕ) (args : List Arg) (has : ℕ) (now : Kinds) (r : Made) (vs : List Val) (sd : Scope) (u : State) (place : ℕ) (later : Kinds) (q : Made) (v : Val) (e : State) → Valued x M marks escapes z.c z.bound z.held inner args z.sc z.ws z.b has z.kinds z.s r vs sd u now → step (behind x M marks escapes) (going (At place sd) u) ≡ give (behind x M marks escapes) sd z.k v e → r.deepest ≤ q.deepest → Grown x now r later q → e.waiting ≡ z.ws → Sync x M (z.owed + 3) later q e → Path z (going (At place sd) u) r (Value q v) (Done z)
  gives_last z inner args has now r vs sd u place later q v e k at' deeper g f y =
      let a = stays z in
      let dp = k.deep in
      gives_now x M marks escapes z.m n z.held z.k z.sc sd z.ws z.b z.since z.from z.owed later (going (At place sd) u) r q v e at' (omega (arith, a, dp, ap total k.here.ready.waiting)) deeper k.over (omega (arith, a, dp, deeper)) (grown_trans x z.since now later z.from r q (grown_trans x z.since z.kinds now z.from z.s r z.grown k.grown) g) f y

  pub fails_last : (z : Spot) (inner : List ℕ) (args : List Arg) (has : ℕ) (now : Kinds) (r : Made) (vs : List Val) (sd : Scope) (u : State) (place : ℕ) (fault : Fault) (e : State) → Valued x M marks escapes z.c z.bound z.held inner args z.sc z.ws z.b has z.kinds z.s r vs sd u now → step (behind x M marks escapes) (going (At place sd) u) ≡ faulted fault e → e.waiting ≡ z.ws → Common r e → Path z (going (At place sd) u) r (Faulted r fault) (Done z)
  fails_last z inner args has now r vs sd u place fault e k at' f y =
      let a = stays z in
      let dp = k.deep in
      runs_step (behind x M marks escapes) M (Away x M marks escapes z.ws z.b) z.m n (going (At place sd) u) (faulted fault e) r (Faulted r fault) (Done z) at' (omega (arith, a, dp, ap total k.here.ready.waiting))
      (fault_now x M marks escapes (Away x M marks escapes z.ws z.b) z.m n fault (faulted fault e) r (Done z) (omega (arith, a, dp, ap total f)) refl y)

  -- ---- a continuation that has a name

  way_here : (j p b : ℕ) (sc : Scope) → way_of (Joined j p b ∷ sc) j ≡ On (record { param = p; body = b; scope = sc })
  way_here j p b sc = ap (λ bl. if bl then On (record { param = p; body = b; scope = sc }) else way_of sc j) (same_number j)

  pub env_named : (bound : List ℕ) (kinds : Kinds) (ls : List Val) (env : Env) (sc : Scope) (j p b : ℕ) → EnvAs x bound kinds ls env sc → EnvAs x bound kinds ls env (Joined j p b ∷ sc)
  env_named bound kinds ls env sc j p b h = env_meant x bound kinds ls env sc (Joined j p b ∷ sc) (λ y i. refl) h

  pub waits_named : (k : Cont) (p j : Var) (b : ℕ) (sc : Scope) (ws : List Waiting) (d : ℕ) → k ≡ Continuation.Lam p b → Waits (way sc k) ws d → Waits (way_of (Joined j.0 p.0 b ∷ sc) j.0) ws d
  waits_named k p j b sc ws d e h = subst (λ w. Waits w ws d) (sym (way_here j.0 p.0 b sc)) (subst (λ z. Waits (way sc z) ws d) e h)

  -- the same node, where its continuation has a name
  unfoldable pub named : (z : Spot) (p j : Var) (b rest : ℕ) → z.k ≡ Continuation.Lam p b → z.owed + 5 ≤ z.has → Spot
  named z p j b rest e le = record {
    m = z.m;
    c = z.c;
    bound = z.bound;
    held = z.held;
    k = Continuation.Var j;
    place = rest;
    d = z.d;
    has = z.owed + 4;
    owed = z.owed;
    sc = Joined j.0 p.0 b ∷ z.sc;
    ws = z.ws;
    b = z.b;
    since = z.since;
    from = z.from;
    kinds = z.kinds;
    s = z.s;
    t = counting 1 (at z);
    shallow = z.shallow;
    waits = waits_named z.k p j b z.sc z.ws z.d e z.waits;
    deep = z.deep;
    least = z.least;
    grown = z.grown;
    here = record {
      ready = record { waiting = z.here.ready.waiting; least = (let l = z.least in omega (arith, l)); grown = z.here.ready.grown; sync = record { world = z.here.ready.sync.world; moves = omega (arith, z.here.ready.sync.moves, le) } };
      inside = z.here.inside;
      env_as = env_named z.bound z.kinds z.s.locations z.c.env z.sc j.0 p.0 b z.here.env_as;
    };
  }

  pub joined : (z : Spot) (p j : Var) (b rest : ℕ) (e : z.k ≡ Continuation.Lam p b) (le : z.owed + 5 ≤ z.has) (o : Outcome) → Stands x z.place (Step.Join j p b rest) → Goal (named z p j b rest e le) o → Goal z o
  unfolding named
  joined z p j b rest e le o h g =
      let y = named z p j b rest e le in
      runs_step (behind x M marks escapes) M (Away x M marks escapes z.ws z.b) z.m n (at z) (at y) z.s o (Done z) (step_at x M marks escapes z.place z.sc z.t (Step.Join j p b rest) h) (now_waits z)
      (runs_wider (behind x M marks escapes) M (Away x M marks escapes z.ws z.b) z.m n (at y) z.s o (Done y) (Done z) g
      (λ r v q deeper gv. record {
        scope = z.sc;
        state = gv.state;
        kinds = gv.kinds;
        lands = gv.lands ∙ ap (λ w. given (behind x M marks escapes) w v gv.state) (gv.over.ways j.0 ∙ way_here j.0 p.0 b z.sc) ∙ ap (λ k. give (behind x M marks escapes) z.sc k v gv.state) (sym e);
        waiting = gv.waiting;
        over = extends_same z.held z.sc;
        grown = gv.grown;
        sync = gv.sync;
      }))
