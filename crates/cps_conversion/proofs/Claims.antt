-- What is claimed of each task, and what a single step does.
use Rattle.std.proofs.Common.{◌≡◌, ℕ, suc, ◌+◌, ◌*◌, ◌≤◌, ◌<◌, Bool, true, false, if◌then◌else◌, List, [], ◌∷◌, length, Option, Some, None, option_and_then, slice_get, refl, sym, ap, ◌∙◌, subst, arith}
use Rattle.std.proofs.lemmas.Bool.{true≢false}
use Rattle.t_base.specs.declared.basics.Var.{Var}
use Rattle.t_base.specs.declared.faults.Fault.{Fault}
use Rattle.program_runs.specs.Runs as runs
use Rattle.t_prim.specs.Values.{Val, val_of, BuiltinV, OperationV}
use Rattle.t_core.specs.declared.forms.Core.{Core}
use Rattle.t_core.specs.declared.forms.Core.TheVariants as Node
use Rattle.t_meaning.specs.Programs.{Marking, Program, marked}
use Rattle.t_meaning.specs.Environment.{Env, location_of}
use Rattle.t_meaning.specs.Costs.{is_assigned}
use Rattle.t_meaning.specs.State.{Procedure, State as Made, with_live, entered}
use Rattle.t_meaning.specs.Outcomes.{Outcome, Value, Faulted, Out, Context, Evaluate, Apply, Enter, Doing, or_unbound}
use Rattle.t_meaning.specs.Operations.{default_of}
use Rattle.t_meaning.specs.Expressions.{evaluate}
use Rattle.t_meaning.specs.Performing.{perform}
use Rattle.cps_ir.specs.declared.args.Arg.{Arg}
use Rattle.cps_ir.specs.declared.args.Arg.TheVariants as Argument
use Rattle.cps_ir.specs.declared.terms.Cont.{Cont}
use Rattle.cps_ir.specs.declared.terms.Term.{Term}
use Rattle.cps_ir.specs.Terms.{moves_of}
use Rattle.cps_ir.specs.Parts.{is_assigned as cps_assigned}
use Rattle.cps_ir.specs.States.{Marking as CpsMarking, Program as CpsProgram, marked as cps_marked, Direct, Bound, Scope, Closure, Pending, Waiting, Back, Live, At, Calling, Entering, Ended, State, going, counting, with_waiting, end_of}
use Rattle.cps_ir.specs.Giving.{or_broken, or_unbound as cps_unbound, meant_by, value_of, with_arg, with_args, located, Way, Out as Outwards, On, Lost, way, resumed, returned, given, give}
use Rattle.cps_ir.specs.Calls.{default_of as cps_default_of, unwound}
use Rattle.cps_ir.specs.Running.{performed, step}
use Rattle.cps_ir.specs.Reaches.{is_in}
use Rattle.cps_conversion.specs.Conversion.{Translation, Stands, ConvertsWithin, is_proc, ready_arg, IsBound}
use Rattle.cps_conversion.proofs.Zips.{Zipped, Both}
use Rattle.cps_conversion.proofs.Scopes.{Extends, total, total_back, Waits}
use Rattle.cps_conversion.proofs.Relate.{Kinds, Grown, EntryAs, EnvAs, ProcedureAs, live_of, Sync}
use Rattle.cps_conversion.proofs.Paths.{waiting_of, Common, Runs, gone_none, runs_step}

-- ---- whatever is given, no more waits

module _ (q : CpsProgram) where
  resumed_waits : (pending : Pending) (v : Val) (t : State) → waiting_of (resumed q pending v t) ≡ total t.waiting
  resumed_waits pending v t = by_test (cps_assigned q.cps pending.param)
    where
      by_test : (b : Bool) → waiting_of (if b then located pending.param v pending.scope t (λ scope u. going (At pending.body scope) u) else going (At pending.body (Bound pending.param (Direct v) ∷ pending.scope)) t) ≡ total t.waiting
      by_test true = refl
      by_test false = refl

  -- also where less waits than at first
  pub returned_most : (rest ws : List Waiting) (v : Val) (t : State) → t.waiting ≡ ws → total rest ≤ total ws → waiting_of (returned q rest v t) ≤ total ws
  returned_most [] ws v t e le = omega (arith, ap total e)
  returned_most (Back pending ∷ rest) ws v t e le = omega (arith, resumed_waits pending v (with_waiting t rest), total_back pending rest, le)
  returned_most (Live i own ∷ rest) ws v t e le = omega (arith, ap total e)

  pub returned_waits : (ws : List Waiting) (v : Val) (t : State) → t.waiting ≡ ws → waiting_of (returned q ws v t) ≤ total ws
  returned_waits [] v t e = omega (arith, ap total e)
  returned_waits (Back pending ∷ ws) v t e = omega (arith, resumed_waits pending v (with_waiting t ws), total_back pending ws)
  returned_waits (Live i own ∷ ws) v t e = omega (arith, ap total e)

  given_waits : (w : Way) (v : Val) (t : State) → waiting_of (given q w v t) ≤ total t.waiting
  given_waits Outwards v t = returned_waits t.waiting v t refl
  given_waits (On pending) v t = omega (arith, resumed_waits pending v t)
  given_waits Lost v t = omega arith

  pub give_waits : (sc : Scope) (k : Cont) (v : Val) (t : State) → waiting_of (give q sc k v t) ≤ total t.waiting
  give_waits sc k v t = given_waits (way sc k) v t

-- ---- claims

-- the procedure that stands for a LAMBDA counts as escaping exactly where the LAMBDA does
abbrev pub IsAlike : List (ℕ × ℕ) → Marking → CpsMarking → Type 0
IsAlike origins marks escapes = (l form node : ℕ) → slice_get origins l ≡ Some (form, node) → escapes l ≡ marks form node

module _ (x : Translation) (M : ℕ) (marks : Marking) (escapes : CpsMarking) where
  abbrev pub before : Program
  before = marked x.unit marks

  abbrev pub behind : CpsProgram
  behind = cps_marked x.cps escapes

  pub record Facts : Type 0 where
    pub shared : x.cps.shared ≡ x.unit.shared
    pub assigned : (v : Var) → cps_assigned x.cps v.0 ≡ is_assigned x.unit v
    pub carried : IsAlike x.origins marks escapes
    pub some : 0 < M
    pub defaults : (o : ℕ) (kinds : Kinds) (ls : List Val) → Both (ProcedureAs x M kinds ls) (default_of x.unit o) (cps_default_of x.cps o)

  -- where a stretch began: the unit's state, the kinds of its locations, and the moves that are owed behind it
  pub record Base : Type 0 where
    pub kinds : Kinds
    pub made : Made
    pub owed : ℕ
    pub procs : (g : ℕ) → is_proc x.unit g ≡ true → (v : Val) × (slice_get made.globals g ≡ Some (Some v))

  -- a state and a state of the program on the stretch
  pub record Ready (ws : List Waiting) (b : Base) (owed : ℕ) (kinds : Kinds) (s : Made) (t : State) : Type 0 where
    pub waiting : t.waiting ≡ ws
    pub least : b.owed ≤ owed
    pub grown : Grown x b.kinds b.made kinds s
    pub sync : Sync x M owed kinds s t

  pub record Here (bound held : List ℕ) (sc : Scope) (env : Env) (ws : List Waiting) (b : Base) (owed : ℕ) (kinds : Kinds) (s : Made) (t : State) : Type 0 where
    pub ready : Ready ws b owed kinds s t
    pub inside : (y : ℕ) → is_in bound y ≡ true → is_in held y ≡ true
    pub env_as : EnvAs x bound kinds s.locations env sc

  -- the value went to the continuation
  pub record Given (held : List ℕ) (k : Cont) (sc : Scope) (ws : List Waiting) (since : Kinds) (from : Made) (owed : ℕ) (r : Made) (v : Val) (d : State) : Type 0 where
    pub scope : Scope
    pub state : State
    pub kinds : Kinds
    pub lands : d ≡ give behind scope k v state
    pub waiting : state.waiting ≡ ws
    pub over : Extends held sc scope
    pub grown : Grown x since from kinds r
    pub sync : Sync x M (owed + 3) kinds r state

  -- the value went to what waits
  pub record Returned (ws : List Waiting) (since : Kinds) (from : Made) (owed : ℕ) (r : Made) (v : Val) (d : State) : Type 0 where
    pub state : State
    pub kinds : Kinds
    pub lands : d ≡ returned behind ws v state
    pub waiting : state.waiting ≡ ws
    pub grown : Grown x since from kinds r
    pub sync : Sync x M (owed + 3) kinds r state

  -- the value went to what waits behind a catch
  pub record Escaped (found : Option (List Waiting)) (b : Base) (r : Made) (v : Val) (d : State) : Type 0 where
    pub rest : List Waiting
    pub live : found ≡ Some rest
    pub state : State
    pub kinds : Kinds
    pub lands : d ≡ returned behind rest v state
    pub grown : Grown x b.kinds b.made kinds r
    pub sync : Sync x M (b.owed + 3) kinds (with_live r (live_of x M state.waiting)) state

  abbrev pub Away : List Waiting → Base → Made → ℕ → Val → State → Type 0
  Away ws b r i v d = Escaped (unwound i ws) b r v d

  abbrev pub EvalClaim : ℕ → Doing → Type 0
  EvalClaim n part =
      (m : ℕ) (c : Context) (key : ℕ) (bound held : List ℕ) (k : Cont) (place d owed : ℕ) (sc : Scope) (ws : List Waiting) (b : Base) (since : Kinds) (from : Made) (kinds : Kinds) (s : Made) (t : State)
      → Grown x since from kinds s → ConvertsWithin x m c.form bound held key k place → m ≤ M → Waits (way sc k) ws d → total ws ≤ s.deepest → Here bound held sc c.env ws b owed kinds s t
      → Runs behind M (Away ws b) m n (going (At place sc) t) s (part d (Evaluate key c) s) (Given held k sc ws since from owed)

  -- The same where more may wait yet than was deep so far, told from where the depth is noted. The bound isn't over.
  abbrev pub LateClaim : ℕ → Doing → Type 0
  LateClaim n part =
      (m : ℕ) (c : Context) (key : ℕ) (bound held : List ℕ) (k : Cont) (place d owed : ℕ) (sc : Scope) (ws : List Waiting) (b : Base) (since : Kinds) (from : Made) (kinds : Kinds) (s : Made) (t : State)
      → Grown x since from kinds s → ConvertsWithin x m c.form bound held key k place → m ≤ M → Waits (way sc k) ws d → Here bound held sc c.env ws b owed kinds s t
      → Runs behind M (Away ws b) m n (going (At place sc) t) (entered d s) (part d (Evaluate key c) s) (Given held k sc ws since from owed)

  abbrev pub ApplyClaim : ℕ → Doing → Type 0
  ApplyClaim n part =
      (m d owed : ℕ) (g : Val) (args : List Val) (ws : List Waiting) (b : Base) (since : Kinds) (from : Made) (kinds : Kinds) (s : Made) (t : State)
      → Grown x since from kinds s → Waits Outwards ws d → total ws ≤ s.deepest → b.owed ≤ owed → Ready ws b (owed + 2 * length args) kinds s t
      → Runs behind M (Away ws b) m n (going (Calling g args) t) s (part d (Apply g args) s) (Returned ws since from owed)

  abbrev pub EnterClaim : ℕ → Doing → Type 0
  EnterClaim n part =
      (m d owed : ℕ) (f : Procedure) (c : Closure) (args : List Val) (ws : List Waiting) (b : Base) (since : Kinds) (from : Made) (kinds : Kinds) (s : Made) (t : State)
      → Grown x since from kinds s → Waits Outwards ws d → total ws ≤ s.deepest → b.owed ≤ owed → ProcedureAs x M kinds s.locations f c → Ready ws b (owed + 2 * length args) kinds s t
      → Runs behind M (Away ws b) m n (going (Entering c args) t) s (part d (Enter f args) s) (Returned ws since from owed)

  pub record Claims (n : ℕ) : Type 0 where
    pub evaluates : EvalClaim n (perform before n)
    pub late : (j : ℕ) → n ≡ suc j → LateClaim n (perform before n)
    pub applies : ApplyClaim n (perform before n)
    pub enters : EnterClaim n (perform before n)

  -- ---- a step

  pub step_at : (place : ℕ) (sc : Scope) (t : State) (term : Term) → Stands x place term → step behind (going (At place sc) t) ≡ performed behind sc term (counting (moves_of term) (going (At place sc) t))
  step_at place sc t term h = ap (λ o. or_broken o (going (At place sc) t) (λ u. performed behind sc u (counting (moves_of u) (going (At place sc) t)))) h

  -- with another debt
  pub less_owed : (ws : List Waiting) (b : Base) (owed less : ℕ) (kinds : Kinds) (s : Made) (t : State) → b.owed ≤ less → less ≤ owed → Ready ws b owed kinds s t → Ready ws b less kinds s t
  less_owed ws b owed less kinds s t least le h = record { waiting = h.waiting; least = least; grown = h.grown; sync = record { world = h.sync.world; moves = omega (arith, h.sync.moves) } }

  pub common_of : (owed : ℕ) (kinds : Kinds) (s : Made) (t : State) → Sync x M owed kinds s t → Common s t
  common_of owed kinds s t y = record { output = ap (λ a. a.output) y.world.store_as; heap = omega (arith, ap (λ a. a.heap) y.world.store_as); moves = omega (arith, y.moves) }

  -- nothing is done yet, and the bound is over
  pub out_now : (Away' : Made → ℕ → Val → State → Type 0) (m owed : ℕ) (c : State) (kinds : Kinds) (s : Made) (t : State) (Done : Made → Val → State → Type 0) → waiting_of c ≤ s.deepest → end_of c.control ≡ None → Common s c → Runs behind M Away' m 0 c s (Out s) Done
  out_now Away' m owed c kinds s t Done low at y = (c, gone_none behind M c s s low (omega arith), at, y, omega arith)

  pub fault_now : (Away' : Made → ℕ → Val → State → Type 0) (m n : ℕ) (e : Fault) (c : State) (s : Made) (Done : Made → Val → State → Type 0) → waiting_of c ≤ s.deepest → c.control ≡ Ended (runs.Faulted e) → Common s c → Runs behind M Away' m n c s (Faulted s e) Done
  fault_now Away' m n e c s Done low at y = (c, gone_none behind M c s s low (omega arith), at, y)

  -- one step by which a value is given
  pub gives_now : (m n : ℕ) (held : List ℕ) (k : Cont) (sc sd : Scope) (ws : List Waiting) (b : Base) (since : Kinds) (from : Made) (owed : ℕ) (kinds : Kinds) (c : State) (s r : Made) (v : Val) (u : State) → step behind c ≡ give behind sd k v u → waiting_of c ≤ s.deepest → s.deepest ≤ r.deepest → Extends held sc sd → total ws ≤ r.deepest → Grown x since from kinds r → u.waiting ≡ ws → Sync x M (owed + 3) kinds r u → Runs behind M (Away ws b) m n c s (Value r v) (Given held k sc ws since from owed)
  gives_now m n held k sc sd ws b since from owed kinds c s r v u at low deep over bound g e y =
      runs_step behind M (Away ws b) m n c (give behind sd k v u) s (Value r v) (Given held k sc ws since from owed) at low (
        give behind sd k v u,
        gone_none behind M (give behind sd k v u) s r (omega (arith, give_waits behind sd k v u, ap total e, bound)) deep,
        record { scope = sd; state = u; kinds = kinds; lands = refl; waiting = e; over = over; grown = g; sync = y },
      )

  -- ---- arguments

  -- what an argument stands for, wherever these variables mean the same
  abbrev pub ArgMeans : List ℕ → List (Option Val) → Scope → Arg → Val → Type 0
  ArgMeans held globals sc (Argument.Const c) v = v ≡ val_of c
  ArgMeans held globals sc (Argument.Var y) v = (is_in held y.0 ≡ true) × (meant_by sc y.0 ≡ Some (Direct v))
  ArgMeans held globals sc (Argument.Proc l) v = ⊥
  ArgMeans held globals sc (Argument.Global g) v = (is_proc x.unit g ≡ true) × (slice_get globals g ≡ Some (Some v))
  ArgMeans held globals sc (Argument.Builtin b) v = v ≡ BuiltinV b
  ArgMeans held globals sc (Argument.Op o) v = v ≡ OperationV o

  pub arg_means : (held : List ℕ) (sc : Scope) (a : Arg) (v : Val) (t : State) (rest : State → Val → State) → ArgMeans held t.globals sc a v → with_arg behind sc a t rest ≡ rest t v
  arg_means held sc (Argument.Const c) v t rest h = ap (rest t) (sym h)
  arg_means held sc (Argument.Var y) v t rest h = ap (λ o. cps_unbound (option_and_then (value_of t) o) t (rest t)) h.1
  arg_means held sc (Argument.Proc l) v t rest h = absurd h
  arg_means held sc (Argument.Global g) v t rest h = ap (λ o. cps_unbound o t (λ global. cps_unbound global t (rest t))) h.1
  arg_means held sc (Argument.Builtin b) v t rest h = ap (rest t) (sym h)
  arg_means held sc (Argument.Op o) v t rest h = ap (rest t) (sym h)

  pub args_mean : (held : List ℕ) (sc : Scope) (args : List Arg) (vs : List Val) (t : State) (rest : State → List Val → State) → Zipped (ArgMeans held t.globals sc) args vs → with_args behind sc args t rest ≡ rest t vs
  args_mean held sc [] [] t rest h = refl
  args_mean held sc (a ∷ args) (v ∷ vs) t rest h = arg_means held sc a v t (λ u w. with_args behind sc args u (λ z ws. rest z (w ∷ ws))) h.0 ∙ args_mean held sc args vs t (λ z ws. rest z (v ∷ ws)) h.1
  args_mean held sc [] (v ∷ vs) t rest h = absurd h
  args_mean held sc (a ∷ args) [] t rest h = absurd h

  -- later, in a scope that binds more
  pub means_later : (held more : List ℕ) (globals later : List (Option Val)) (sc sd : Scope) → ((y : ℕ) → is_in held y ≡ true → is_in more y ≡ true) → ((g : ℕ) → is_proc x.unit g ≡ true → slice_get later g ≡ slice_get globals g) → Extends held sc sd → (a : Arg) (v : Val) → ArgMeans held globals sc a v → ArgMeans more later sd a v
  means_later held more globals later sc sd f g o (Argument.Const c) v h = h
  means_later held more globals later sc sd f g o (Argument.Var y) v h = (f y.0 h.0, o.meant y.0 h.0 ∙ h.1)
  means_later held more globals later sc sd f g o (Argument.Proc l) v h = absurd h
  means_later held more globals later sc sd f g o (Argument.Global i) v h = (h.0, g i h.0 ∙ h.1)
  means_later held more globals later sc sd f g o (Argument.Builtin b) v h = h
  means_later held more globals later sc sd f g o (Argument.Op i) v h = h

  -- ---- a node that is ready

  -- it has its value at once
  pub record IsReady (held : List ℕ) (sc : Scope) (a : Arg) (s : Made) (o : Outcome) : Type 0 where
    pub value : Val
    pub gives : o ≡ Value s value
    pub means : ArgMeans held s.globals sc a value

  none_arg : {Z : Type 0} (a : Arg) → None ≡ Some a → Z
  none_arg a h = cc

  module _ (part : Doing) (d key : ℕ) (c : Context) (bound : List ℕ) (sc : Scope) (a : Arg) (kinds : Kinds) (s : Made) where
    local_entry : (v : Var) (bl : Bool) (ko : Option (Option ℕ)) (l : ℕ) → bl ≡ false → a ≡ Argument.Var v → is_in bound v.0 ≡ true → location_of c.env v.0 ≡ Some l → EntryAs bl ko (slice_get s.locations l) (meant_by sc v.0) → IsReady bound sc a s (evaluate before part d key c (Some (Node.Local v)) s)
    local_entry v bl None l e f i at h = absurd h
    local_entry v bl (Some None) l e f i at h = record {
      value = h.1.0;
      gives = ap (λ o. or_unbound o s (λ j. or_unbound (slice_get s.locations j) s (λ w. Value s w))) at ∙ ap (λ o. or_unbound o s (λ w. Value s w)) h.1.1;
      means = subst (λ z. ArgMeans bound s.globals sc z h.1.0) (sym f) (i, h.1.2);
    }
    local_entry v bl (Some (Some j)) l e f i at h = absurd (true≢false (sym h.0 ∙ e))

    local_ready : (v : Var) (bl : Bool) → is_assigned x.unit v ≡ bl → (if bl then None else Some (Argument.Var v)) ≡ Some a → IsBound bound a → EnvAs x bound kinds s.locations c.env sc → IsReady bound sc a s (evaluate before part d key c (Some (Node.Local v)) s)
    local_ready v true e h i ea = none_arg a h
    local_ready v false e h i ea =
        let f : a ≡ Argument.Var v = cc in
        let j : is_in bound v.0 ≡ true = subst (IsBound bound) f i in
        let w = ea v.0 j in
        local_entry v (is_assigned x.unit v) (slice_get kinds w.location) w.location e f j w.found w.entry

    global_ready : (g : ℕ) (bl : Bool) → is_proc x.unit g ≡ bl → (if bl then Some (Argument.Global g) else None) ≡ Some a → ((i : ℕ) → is_proc x.unit i ≡ true → (v : Val) × (slice_get s.globals i ≡ Some (Some v))) → IsReady bound sc a s (evaluate before part d key c (Some (Node.Global g)) s)
    global_ready g false e h pr = none_arg a h
    global_ready g true e h pr =
        let f : a ≡ Argument.Global g = cc in
        let w = pr g e in
        record {
          value = w.0;
          gives = ap (λ o. or_unbound o s (λ global. or_unbound global s (λ v. Value s v))) w.1;
          means = subst (λ z. ArgMeans bound s.globals sc z w.0) (sym f) (e, w.1);
        }

    pub node_ready : (o : Option Core) → option_and_then (ready_arg x.unit) o ≡ Some a → IsBound bound a → EnvAs x bound kinds s.locations c.env sc → ((i : ℕ) → is_proc x.unit i ≡ true → (v : Val) × (slice_get s.globals i ≡ Some (Some v))) → IsReady bound sc a s (evaluate before part d key c o s)
    node_ready None h i ea pr = none_arg a h
    node_ready (Some (Node.Const k)) h i ea pr = let f : a ≡ Argument.Const k = cc in record { value = val_of k; gives = refl; means = subst (λ z. ArgMeans bound s.globals sc z (val_of k)) (sym f) refl }
    node_ready (Some (Node.Local v)) h i ea pr = local_ready v (is_assigned x.unit v) refl h i ea
    node_ready (Some (Node.Global g)) h i ea pr = global_ready g (is_proc x.unit g) refl h pr
    node_ready (Some (Node.Builtin b)) h i ea pr = let f : a ≡ Argument.Builtin b = cc in record { value = BuiltinV b; gives = refl; means = subst (λ z. ArgMeans bound s.globals sc z (BuiltinV b)) (sym f) refl }
    node_ready (Some (Node.Op k)) h i ea pr = let f : a ≡ Argument.Op k = cc in record { value = OperationV k; gives = refl; means = subst (λ z. ArgMeans bound s.globals sc z (OperationV k)) (sym f) refl }
    node_ready (Some (Node.Lambda params body)) h i ea pr = none_arg a h
    node_ready (Some (Node.If test first second)) h i ea pr = none_arg a h
    node_ready (Some (Node.Block items)) h i ea pr = none_arg a h
    node_ready (Some (Node.Let vars values body)) h i ea pr = none_arg a h
    node_ready (Some (Node.Labels vars lambdas body)) h i ea pr = none_arg a h
    node_ready (Some (Node.SetLocal v value)) h i ea pr = none_arg a h
    node_ready (Some (Node.SetGlobal g value)) h i ea pr = none_arg a h
    node_ready (Some (Node.Catch v body)) h i ea pr = none_arg a h
    node_ready (Some (Node.Object proc methods)) h i ea pr = none_arg a h
    node_ready (Some (Node.Call operator operands tail)) h i ea pr = none_arg a h
    node_ready (Some (Node.Prim b operands)) h i ea pr = none_arg a h
