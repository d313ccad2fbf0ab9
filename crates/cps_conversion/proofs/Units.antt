-- The forms of a unit in order, and the whole.
use Rattle.std.proofs.Common.{◌≡◌, ℕ, suc, ◌+◌, ◌*◌, ◌≤◌, true, false, List, [], ◌∷◌, length, Option, Some, None, option_map, slice_get, slice_set, refl, sym, ap, ◌∙◌, subst, arith, le_of_eq}
use Rattle.std.proofs.lemmas.Bool.{false≢true}
use Rattle.t_base.specs.declared.faults.Fault.TheVariants.{Unbound}
use Rattle.t_base.specs.declared.shared_parts.Const.TheVariants as Constant
use Rattle.t_base.specs.declared.shared_parts.Global1.{Global1}
use Rattle.t_base.specs.declared.shared_parts.Shared.{Shared}
use Rattle.t_base.specs.declared.shared_parts.OpInfo.{OpInfo}
use Rattle.program_runs.specs.Runs as runs
use Rattle.program_runs.specs.Runs.{End, Observation, Run, HasEnded, IsProper}
use Rattle.t_prim.specs.Values.{Val, SymbolV, shown_of}
use Rattle.t_core.specs.declared.forms.FormKind.{FormKind}
use Rattle.t_core.specs.declared.forms.FormKind.TheVariants.{Define, Lset, Operation, Plain}
use Rattle.t_core.specs.declared.forms.Form.{Form}
use Rattle.t_meaning.specs.Programs.{Marking}
use Rattle.t_meaning.specs.State.{Procedure, State as Made, with_global_at as global_set, working}
use Rattle.t_meaning.specs.Outcomes.{Outcome, Value, Faulted, Context, Evaluate, or_unbound}
use Rattle.t_meaning.specs.Operations.{lambda_of}
use Rattle.t_meaning.specs.Performing.{perform}
use Rattle.t_meaning.specs.Units.{name_of_global, name_of_op, storing, form_gives, run_form, run_forms}
use Rattle.cps_ir.specs.declared.args.Arg.{Arg}
use Rattle.cps_ir.specs.declared.args.Arg.TheVariants as Argument
use Rattle.cps_ir.specs.declared.terms.Cont.TheVariants as Continuation
use Rattle.cps_ir.specs.declared.terms.Term.TheVariants as Step
use Rattle.cps_ir.specs.States.{Marking as CpsMarking, Direct, Bound, Scope, Ended, At, State, going, ended, counting, with_global_at}
use Rattle.cps_ir.specs.Giving.{give}
use Rattle.cps_ir.specs.Reaches.{is_in}
use Rattle.cps_conversion.specs.Conversion.{Translation, nowhere, ConvertsWithin, name_of_global as named_global, name_of_op as named_op, PlainAs, InitAs, FormAs, FormsAs}
use Rattle.cps_conversion.proofs.Scopes.{meant_here, in_here, total}
use Rattle.cps_conversion.proofs.Relate.{Kinds, Grown, grown_trans, Sync}
use Rattle.cps_conversion.proofs.Paths.{Runs, gone_none, runs_bind, runs_step, runs_since, runs_wider}
use Rattle.cps_conversion.proofs.Claims.{before, behind, Facts, Base, Here, Given, Away, step_at, ArgMeans, arg_means}
use Rattle.cps_conversion.proofs.Operands.{Valued, values_run, given_plain}
use Rattle.cps_conversion.proofs.Terms.{global_grown}
use Rattle.cps_conversion.proofs.Tasks.{claims}

none_some : {X Z : Type 0} (v : X) → None ≡ Some v → Z
none_some v h = cc

pub no_variable : {Z : Type 0} (y : ℕ) → is_in [] y ≡ true → Z
no_variable y e = absurd (false≢true e)

module _ (x : Translation) (M : ℕ) (marks : Marking) (escapes : CpsMarking) (facts : Facts x M marks escapes) (n depth : ℕ) (shallow : depth ≤ M) (b : Base x M marks escapes) (free : b.owed ≡ 0) where
  -- what stands between two forms, at the term `next`
  record Between (next : ℕ) (a : Arg) (r : Made) (w : Val) (d : State) : Type 0 where
    scope : Scope
    state : State
    kinds : Kinds
    held : List ℕ
    lands : d ≡ going (At next scope) state
    means : ArgMeans x M marks escapes held r.globals scope a w
    waiting : state.waiting ≡ []
    grown : Grown x b.kinds b.made kinds r
    sync : Sync x M 0 kinds r state

  abbrev Path : State → Made → Outcome → (Made → Val → State → Type 0) → Type 0
  Path c s o Done = Runs (behind x M marks escapes) M (Away x M marks escapes [] b) depth n c s o Done

  abbrev context : ℕ → Context
  context form = record { form = form; tail = false; env = [] }

  -- a form that makes no term
  between_now : (next : ℕ) (a : Arg) (held : List ℕ) (sc : Scope) (kinds : Kinds) (s : Made) (t : State) (w : Val) → ArgMeans x M marks escapes held s.globals sc a w → t.waiting ≡ [] → Grown x b.kinds b.made kinds s → Sync x M 0 kinds s t → Path (going (At next sc) t) s (Value s w) (Between next a)
  between_now next a held sc kinds s t w means e g y = (going (At next sc) t, gone_none (behind x M marks escapes) M (going (At next sc) t) s s (omega (arith, ap total e)) (omega arith), record { scope = sc; state = t; kinds = kinds; held = held; lands = refl; means = means; waiting = e; grown = g; sync = y })

  name_by : (sh : Shared) (g : ℕ) (a : Arg) (o : Option Global1) → option_map (λ info. Argument.Const (Constant.Sym info.name)) o ≡ Some a → (info : Global1) × (o ≡ Some info) × (a ≡ Argument.Const (Constant.Sym info.name))
  name_by sh g a None h = none_some a h
  name_by sh g a (Some info) h = (info, refl, cc)

  global_named : (g : ℕ) (a : Arg) (next : ℕ) (sc : Scope) (kinds : Kinds) (s : Made) (t : State) → named_global x.cps.shared g ≡ Some a → t.waiting ≡ [] → Grown x b.kinds b.made kinds s → Sync x M 0 kinds s t → Path (going (At next sc) t) s (name_of_global x.unit g s) (Between next a)
  global_named g a next sc kinds s t h e gr y =
      let w = name_by x.unit.shared g a (slice_get x.unit.shared.globals.items g) (ap (λ sh. named_global sh g) (sym facts.shared) ∙ h) in
      subst (λ o. Path (going (At next sc) t) s (or_unbound o s (λ info. Value s (SymbolV info.name.0))) (Between next a)) (sym w.1)
      (between_now next a [] sc kinds s t (SymbolV w.0.name.0) (subst (λ z. ArgMeans x M marks escapes [] s.globals sc z (SymbolV w.0.name.0)) (sym w.2) refl) e gr y)

  op_by : (a : Arg) (o : Option OpInfo) → option_map (λ info. Argument.Const (Constant.Sym info.name)) o ≡ Some a → (info : OpInfo) × (o ≡ Some info) × (a ≡ Argument.Const (Constant.Sym info.name))
  op_by a None h = none_some a h
  op_by a (Some info) h = (info, refl, cc)

  op_named : (o : ℕ) (a : Arg) (next : ℕ) (sc : Scope) (kinds : Kinds) (s : Made) (t : State) → named_op x.cps.shared o ≡ Some a → t.waiting ≡ [] → Grown x b.kinds b.made kinds s → Sync x M 0 kinds s t → Path (going (At next sc) t) s (name_of_op x.unit o s) (Between next a)
  op_named o a next sc kinds s t h e gr y =
      let w = op_by a (slice_get x.unit.shared.ops.items o) (ap (λ sh. named_op sh o) (sym facts.shared) ∙ h) in
      subst (λ z. Path (going (At next sc) t) s (or_unbound z s (λ info. Value s (SymbolV info.name.0))) (Between next a)) (sym w.1)
      (between_now next a [] sc kinds s t (SymbolV w.0.name.0) (subst (λ z. ArgMeans x M marks escapes [] s.globals sc z (SymbolV w.0.name.0)) (sym w.2) refl) e gr y)

  here_at : (form : ℕ) (sc : Scope) (kinds : Kinds) (s : Made) (t : State) → t.waiting ≡ [] → Grown x b.kinds b.made kinds s → Sync x M 5 kinds s t → Here x M marks escapes [] [] sc [] [] b 5 kinds s t
  here_at form sc kinds s t e g y = record { ready = record { waiting = e; least = omega (arith, free); grown = g; sync = y }; inside = λ y i. i; env_as = λ y i. no_variable y i }

  plain_run : (form root place next : ℕ) (a : Arg) (sc : Scope) (kinds : Kinds) (s : Made) (t : State) → PlainAs x (ConvertsWithin x depth) form root place next a → t.waiting ≡ [] → Grown x b.kinds b.made kinds s → Sync x M 5 kinds s t → Path (going (At place sc) t) s (perform (before x M marks escapes) n 1 (Evaluate root (context form)) s) (Between next a)
  plain_run form root place next a sc kinds s t h e g y =
      runs_wider (behind x M marks escapes) M (Away x M marks escapes [] b) depth n (going (At place sc) t) s (perform (before x M marks escapes) n 1 (Evaluate root (context form)) s) (Given x M marks escapes [] (Continuation.Lam h.value next) sc [] b.kinds b.made 5) (Between next a)
      ((claims x M marks escapes facts n).evaluates depth (context form) root [] [] (Continuation.Lam h.value next) place 1 5 sc [] b b.kinds b.made kinds s t g h.root_as shallow (omega arith) (omega arith) (here_at form sc kinds s t e g y))
      (λ r w d deeper gv. record {
        scope = Bound h.value.0 (Direct w) ∷ gv.scope;
        state = gv.state;
        kinds = gv.kinds;
        held = h.value.0 ∷ [];
        lands = gv.lands ∙ given_plain x M marks escapes facts h.value next gv.scope w gv.state h.unassigned;
        means = subst (λ z. ArgMeans x M marks escapes (h.value.0 ∷ []) r.globals (Bound h.value.0 (Direct w) ∷ gv.scope) z w) (sym h.gives) (in_here h.value.0 [], meant_here h.value.0 (Direct w) gv.scope);
        waiting = gv.waiting;
        grown = gv.grown;
        sync = record { world = gv.sync.world; moves = omega (arith, gv.sync.moves) };
      })

  -- the value is stored
  abbrev keeping : ℕ → Made → List Val → Outcome
  keeping g t [] = Faulted t Unbound
  keeping g t (v ∷ vs) = name_of_global x.unit g (global_set t g v)

  init_run : (form root g place next : ℕ) (a : Arg) (sc : Scope) (kinds : Kinds) (s : Made) (t : State) → InitAs x (ConvertsWithin x depth) form root g place next a → t.waiting ≡ [] → Grown x b.kinds b.made kinds s → Sync x M 5 kinds s t → Path (going (At place sc) t) s (storing x.unit g (perform (before x M marks escapes) n 1 (Evaluate root (context form)) s)) (Between next a)
  init_run form root g place next a sc kinds s t h e gr y =
      values_run x M marks escapes facts n (claims x M marks escapes facts n) depth (context form) [] [] h.over.1.inner (nowhere (root ∷ [])) (root ∷ []) (h.over.0 ∷ []) place h.over.1.last 0 5 sc [] b kinds s t (keeping g) (Between next a) h.over.1.values shallow (omega arith) (omega arith) (here_at form sc kinds s t e gr y) by_values
    where
      by_values : (r : Made) (vs : List Val) (sd : Scope) (u : State) (now : Kinds) → Valued x M marks escapes (context form) [] [] h.over.1.inner (h.over.0 ∷ []) sc [] b (5 + 3 * length (root ∷ [])) kinds s r vs sd u now → Path (going (At h.over.1.last sd) u) r (keeping g r vs) (Between next a)
      by_values r [] sd u now k = absurd k.means
      by_values r (v ∷ w ∷ vs) sd u now k = absurd k.means.1
      by_values r (v ∷ []) sd u now k =
          let u1 = counting 2 (going (At h.over.1.last sd) u) in
          let y1 = k.here.ready.sync.world in
          let q = global_set r g v in
          let gq = grown_trans x b.kinds now now b.made r q k.here.ready.grown (global_grown x M marks escapes facts n (claims x M marks escapes facts n) now r g v h.no_procedure) in
          runs_step (behind x M marks escapes) M (Away x M marks escapes [] b) depth n (going (At h.over.1.last sd) u) (going (At next (Bound h.unused.0 (Direct v) ∷ sd)) (with_global_at u1 g v)) r (name_of_global x.unit g q) (Between next a)
          (step_at x M marks escapes h.over.1.last sd u (Step.GlobalInit g h.over.0 (Continuation.Lam h.unused next)) h.over.1.stands
          ∙ arg_means x M marks escapes h.over.1.inner sd h.over.0 v u1 (λ t' v'. give (behind x M marks escapes) sd (Continuation.Lam h.unused next) v' (with_global_at t' g v')) (subst (λ gl. ArgMeans x M marks escapes h.over.1.inner gl sd h.over.0 v) (sym y1.globals_as) k.means.0)
          ∙ given_plain x M marks escapes facts h.unused next sd v (with_global_at u1 g v) h.unassigned)
          (omega (arith, ap total k.here.ready.waiting))
          (runs_since (behind x M marks escapes) M (Away x M marks escapes [] b) depth n (going (At next (Bound h.unused.0 (Direct v) ∷ sd)) (with_global_at u1 g v)) r q (name_of_global x.unit g q) (Between next a) (omega arith)
          (global_named g a next (Bound h.unused.0 (Direct v) ∷ sd) now q (with_global_at u1 g v) h.gives k.here.ready.waiting gq
          (record { world = record { store_as = y1.store_as; globals_as = ap (λ l. slice_set l g (Some v)) y1.globals_as; catches_as = y1.catches_as; live_as = y1.live_as; locations_as = y1.locations_as; closures_as = y1.closures_as; objects_as = y1.objects_as }; moves = omega (arith, k.here.ready.sync.moves) })))

  form_by : (form : ℕ) (kind : FormKind) (f : Option Procedure) (root place next : ℕ) (a : Arg) (sc : Scope) (kinds : Kinds) (s : Made) (t : State) → FormAs x (ConvertsWithin x depth) form kind f root place next a → t.waiting ≡ [] → Grown x b.kinds b.made kinds s → Sync x M 5 kinds s t → Path (going (At place sc) t) s (form_gives x.unit kind f (λ u. perform (before x M marks escapes) n 1 (Evaluate root (context form)) u) s) (Between next a)
  form_by form (Define g) (Some f) root place next a sc kinds s t h e gr y = subst (λ z. Path (going (At z sc) t) s (name_of_global x.unit g s) (Between next a)) h.0 (global_named g a next sc kinds s t h.2 e gr (record { world = y.world; moves = omega (arith, y.moves) }))
  form_by form (Define g) None root place next a sc kinds s t h e gr y = init_run form root g place next a sc kinds s t h e gr y
  form_by form (Lset g) f root place next a sc kinds s t h e gr y = init_run form root g place next a sc kinds s t h e gr y
  form_by form (Operation o) f root place next a sc kinds s t h e gr y = subst (λ z. Path (going (At z sc) t) s (name_of_op x.unit o s) (Between next a)) h.0 (op_named o a next sc kinds s t h.1 e gr (record { world = y.world; moves = omega (arith, y.moves) }))
  form_by form Plain f root place next a sc kinds s t h e gr y = plain_run form root place next a sc kinds s t h e gr y

  -- the end
  pub record Halted (r : Made) (v : Val) (d : State) : Type 0 where
    pub end : d.control ≡ Ended (runs.Value (shown_of r.store v))
    pub output : d.store.output ≡ r.store.output
    pub heap : d.store.heap ≤ r.store.heap
    pub moves : d.moves ≤ 5 * r.work + 5

  pub forms_run : (form : ℕ) (forms : List Form) (a : Arg) (place : ℕ) (held : List ℕ) (sc : Scope) (kinds : Kinds) (s : Made) (t : State) (v : Val) → FormsAs x (ConvertsWithin x depth) form forms a place → ArgMeans x M marks escapes held s.globals sc a v → t.waiting ≡ [] → Grown x b.kinds b.made kinds s → Sync x M 0 kinds s t → Path (going (At place sc) t) s (run_forms (before x M marks escapes) n form forms s v) Halted
  forms_run form [] a place held sc kinds s t v h means e gr y =
      let t1 = counting 2 (going (At place sc) t) in
      let d = ended (runs.Value (shown_of t.store v)) t1 in
      runs_step (behind x M marks escapes) M (Away x M marks escapes [] b) depth n (going (At place sc) t) d s (Value s v) Halted
      (step_at x M marks escapes place sc t (Step.Halt a) h ∙ arg_means x M marks escapes held sc a v t1 (λ t' v'. ended (runs.Value (shown_of t'.store v')) t') (subst (λ gl. ArgMeans x M marks escapes held gl sc a v) (sym y.world.globals_as) means))
      (omega (arith, ap total e)) (
        d,
        gone_none (behind x M marks escapes) M d s s (omega (arith, ap total e)) (omega arith),
        record {
          end = ap (λ st. Ended (runs.Value (shown_of st v))) y.world.store_as;
          output = ap (λ st. st.output) y.world.store_as;
          heap = le_of_eq (ap (λ st. st.heap) y.world.store_as);
          moves = omega (arith, y.moves);
        },
      )
  forms_run form (f ∷ forms) a place held sc kinds s t v h means e gr y =
      let next = h.0 in
      let a2 = h.1 in
      runs_since (behind x M marks escapes) M (Away x M marks escapes [] b) depth n (going (At place sc) t) s (working 1 s) (run_forms (before x M marks escapes) n form (f ∷ forms) s v) Halted (omega arith)
      (runs_bind (behind x M marks escapes) M (Away x M marks escapes [] b) depth n (going (At place sc) t) (working 1 s) (run_form (before x M marks escapes) n form f (working 1 s)) (λ q w. run_forms (before x M marks escapes) n (suc form) forms q w) (Between next a2) Halted
      (form_by form f.kind (lambda_of form f) f.root place next a2 sc kinds (working 1 s) t h.2 e gr (record { world = y.world; moves = omega (arith, y.moves) }))
      (λ r w d deeper g.
      subst (λ z. Path z r (run_forms (before x M marks escapes) n (suc form) forms r w) Halted) (sym g.lands)
      (forms_run (suc form) forms a2 next g.held g.scope g.kinds r g.state w h.3 g.means g.waiting g.grown g.sync)))
