-- Each form starts with a closed term, whose load is at most the nodes of the form.
use Rattle.std.specs.Prelude.{All, IsTrue}
use Rattle.std.specs.List.{AllByRecursion, flat_map, filter}
use Rattle.std.specs.Option.{option_map, option_map_or, option_and_then}
use Rattle.std.proofs.Common.{◌≡◌, ◌==◌, ◌||◌, ◌≤◌, ◌<◌, ◌+◌, ℕ, zero, suc, Bool, true, false, if◌then◌else◌, inl, inr, List, [], ◌∷◌, length, map, take, Option, Some, None, slice_get, refl, sym, ap, ◌∙◌, subst, arith}
use Rattle.std.proofs.lemmas.Bool.{true≢false, false≢true, cases_lt}
use Rattle.t_base.specs.declared.basics.Var.{Var}
use Rattle.t_base.specs.declared.shared_parts.Const.{Const}
use Rattle.t_base.specs.declared.shared_parts.Const.TheVariants as Constant
use Rattle.t_base.specs.declared.shared_parts.Global1.{Global1}
use Rattle.t_base.specs.declared.shared_parts.OpInfo.{OpInfo}
use Rattle.t_core.specs.declared.forms.Core.{Core}
use Rattle.t_core.specs.declared.forms.Core.TheVariants as Node
use Rattle.t_core.specs.declared.forms.FormKind.{FormKind}
use Rattle.t_core.specs.declared.forms.FormKind.TheVariants.{Define, Lset, Operation, Plain}
use Rattle.t_core.specs.declared.forms.Form.{Form}
use Rattle.t_core.specs.Counts.{definition_count}
use Rattle.t_core.specs.Whole.{IsWhole, defines_global, defines_op}
use Rattle.t_meaning.specs.State.{Procedure}
use Rattle.t_meaning.specs.Operations.{procedure_of, lambda_of, default_in, default_of}
use Rattle.t_meaning.specs.Units.{defined_by, definition_in, definitions, first_closures, start}
use Rattle.cps_ir.specs.declared.args.Arg.{Arg}
use Rattle.cps_ir.specs.declared.args.Arg.TheVariants as Argument
use Rattle.cps_ir.specs.declared.terms.Cont.TheVariants as Continuation
use Rattle.cps_ir.specs.declared.terms.Lam.{Lam}
use Rattle.cps_ir.specs.declared.terms.Term.TheVariants as Step
use Rattle.t_base.specs.declared.shared_parts.Shared.{Shared}
use Rattle.cps_ir.specs.States.{Closure}
use Rattle.cps_ir.specs.Calls.{default_of as cps_default_of, default_at}
use Rattle.cps_ir.specs.Running.{start as cps_start}
use Rattle.cps_ir.specs.Parts.{Part, lambda_part, global_lams, first_lams, root_lams, walked, depth_of, walked_within}
use Rattle.cps_ir.specs.Reaches.{is_in, free_at}
use Rattle.cps_ir.specs.Loads.{is_empty, is_closed, term_load, lam_load}
use Rattle.cps_ir.proofs.ProperLists.{some_same, none_some, each_append, each_more}
use Rattle.cps_ir.proofs.Closed.{all_of_each}
use Rattle.cps_conversion.specs.Conversion.{Translation, ConvertsWithin, InitAs, FormAs, FormsAs, RootAs, RootsAs, DefaultAs, IsTranslated}
use Rattle.conversion_laws.specs.Owed.{IsOwed}
use Rattle.conversion_laws.proofs.Roots.{has_default, first_at, Ranked, ranked, zero_plus, gap}
use Rattle.conversion_loads.specs.Loaded.{LoadsAreFew}
use Rattle.conversion_loads.proofs.Free.{Free, ArgOk, term_used, nothing_used, no_procs, free_made, plain_free, values_free, within_free}
use Rattle.conversion_loads.proofs.Opened.{NoProc, procs_none}
use Rattle.conversion_loads.proofs.Sums.{Sum, Within, LamLight, Light, Behind, behind, made, parts_none, lams_none, Lams}
use Rattle.conversion_loads.proofs.Weigh.{Ctx, front_least, simple_light, lam_light, within_light}
use Rattle.conversion_loads.proofs.Trees.{weight, weighs, root_within}

module _ (x : Translation) (w : IsWhole x.unit) (tr : IsTranslated x) (owed : IsOwed x.cps) where
  abbrev cap : ℕ
  cap = x.unit.shared.size

  -- a name is a constant
  named_ok : (y : ℕ) (Q : Type 0) (i : Const) (a : Arg) → Argument.Const i ≡ a → ArgOk x y Q a
  named_ok y Q i a e = subst (ArgOk x y Q) e tt

  global_ok : (y : ℕ) (Q : Type 0) (o : Option Global1) (a : Arg) → option_map (λ info. Argument.Const (Constant.Sym info.name)) o ≡ Some a → ArgOk x y Q a
  global_ok y Q None a e = none_some a e
  global_ok y Q (Some info) a e = named_ok y Q (Constant.Sym info.name) a (some_same (Argument.Const (Constant.Sym info.name)) a e)

  op_ok : (y : ℕ) (Q : Type 0) (o : Option OpInfo) (a : Arg) → option_map (λ info. Argument.Const (Constant.Sym info.name)) o ≡ Some a → ArgOk x y Q a
  op_ok y Q None a e = none_some a e
  op_ok y Q (Some info) a e = named_ok y Q (Constant.Sym info.name) a (some_same (Argument.Const (Constant.Sym info.name)) a e)

  -- ---- what is free where a form starts

  module _ (y : ℕ) (Q : Type 0) where
    not_in : is_in [] y ≡ true → Q
    not_in e = absurd (false≢true e)

    init_free : (at : ℕ) (f : Form) (g t next : ℕ) (a : Arg) → (ArgOk x y Q a → Free x next y → Q) → InitAs x (ConvertsWithin x tr.depth) at f.root g t next a → Free x t y → Q
    init_free at f g t next a rest h =
        let n = tr.depth in
        let z = h.over.1 in
        values_free x y Q n (within_free x y Q n) at [] [] (None ∷ []) (f.root ∷ []) (h.over.0 ∷ []) t z.last z.inner not_in
        (λ given q. plain_free x y Q n (within_free x y Q n) z.last (Step.GlobalInit g h.over.0 (Continuation.Lam h.unused next)) (Continuation.Lam h.unused next) z.stands given refl refl refl not_in
        (λ r. rest (global_ok y Q (slice_get x.cps.shared.globals.items g) a h.gives) r.0) q) z.values

    form_free : (at : ℕ) (f : Form) (kind : FormKind) (p : Option Procedure) (t next : ℕ) (a : Arg) → (ArgOk x y Q a → Free x next y → Q) → FormAs x (ConvertsWithin x tr.depth) at kind p f.root t next a → Free x t y → Q
    form_free at f (Define g) (Some p) t next a rest h r = rest (global_ok y Q (slice_get x.cps.shared.globals.items g) a h.2) (subst (λ u. Free x u y) (sym h.0) r)
    form_free at f (Define g) None t next a rest h r = init_free at f g t next a rest h r
    form_free at f (Lset g) p t next a rest h r = init_free at f g t next a rest h r
    form_free at f (Operation o) p t next a rest h r = rest (op_ok y Q (slice_get x.cps.shared.ops.items o) a h.1) (subst (λ u. Free x u y) (sym h.0) r)
    form_free at f Plain p t next a rest h r =
        within_free x y Q tr.depth at [] [] f.root (Continuation.Lam h.value next) t not_in (λ q. rest (subst (ArgOk x y Q) (sym h.gives) (λ e. absurd (true≢false (sym e ∙ q.1)))) q.0) h.root_as r

    forms_free : (at : ℕ) (forms : List Form) (before : Arg) (t : ℕ) → ArgOk x y Q before → FormsAs x (ConvertsWithin x tr.depth) at forms before t → Free x t y → Q
    forms_free at [] before t ok h = free_made x y Q t (Step.Halt before) h (term_used x y Q (Step.Halt before) (ok, tt) (nothing_used x y Q) (nothing_used x y Q)) (no_procs x y Q [] (before ∷ []) (ok, tt)) tt
    forms_free at (f ∷ forms) before t ok h = form_free at f f.kind (lambda_of at f) t h.0 h.1 (λ given. forms_free (suc at) forms h.1 h.0 given h.3) h.2

  -- ---- loads

  nothing_free : (t : ℕ) → ((y : ℕ) → Free x t y → ⊥) → is_closed x.cps t ≡ true
  nothing_free t f = by (free_at x.cps t) (λ y e. f y (depth_of x.cps, e))
    where
      equal_self : (n : ℕ) → (n == n) ≡ true
      equal_self n = grind arith

      by : (ys : List ℕ) → ((y : ℕ) → is_in ys y ≡ true → ⊥) → is_empty ys ≡ true
      by [] g = refl
      by (y ∷ ys) g = absurd (g y (ap (λ b. b || is_in ys y) (equal_self y)))

  closed_behind : (m t : ℕ) → ((y : ℕ) → Free x t y → ⊥) → Light x.cps cap m t → Behind x.cps cap 0 t
  closed_behind m t f l = record { each = λ d. subst (λ b. (if b then 0 else Sum x.cps cap d t) ≤ 0) (sym (nothing_free t f)) (omega arith); all = l.all }

  abbrev AreAt : ℕ → List Form → Type 0
  AreAt at forms = (i : ℕ) (f : Form) → slice_get forms i ≡ Some f → slice_get x.unit.forms.items (at + i) ≡ Some f

  first_form : (at : ℕ) (f : Form) (forms : List Form) → AreAt at (f ∷ forms) → slice_get x.unit.forms.items at ≡ Some f
  first_form at f forms all = subst (λ n. slice_get x.unit.forms.items n ≡ Some f) (omega arith) (all 0 f refl)

  later_forms : (at : ℕ) (f : Form) (forms : List Form) → AreAt at (f ∷ forms) → AreAt (suc at) forms
  later_forms at f forms all i g e = subst (λ n. slice_get x.unit.forms.items n ≡ Some g) (omega arith) (all (suc i) g e)

  empty_ctx : (t : ℕ) (v : Var) → ((y : ℕ) (Q : Type 0) → ArgOk x y Q (Argument.Var v) → Free x t y → Q) → Ctx x tr.assigned owed.bound_once cap (weight x.unit w) (weighs x.unit w) [] [] (Continuation.Lam v t)
  empty_ctx t v f = record { inside = λ y e. e; cont = λ y r. f y _ (λ e. absurd (true≢false (sym e ∙ r.1))) r.0 }

  init_light : (at : ℕ) (f : Form) (g t next : ℕ) (a : Arg) → slice_get x.unit.forms.items at ≡ Some f → definition_count f.kind f.nodes.items ≡ 1 → ((y : ℕ) (Q : Type 0) → ArgOk x y Q a → Free x next y → Q) → Behind x.cps cap 0 next → InitAs x (ConvertsWithin x tr.depth) at f.root g t next a → Behind x.cps cap 0 t
  init_light at f g t next a there one free rest h =
      let le = root_within x.unit w at f there in
      let n = tr.depth in
      let k = Continuation.Lam h.unused next in
      closed_behind (weight x.unit w at f.root + 1) t (λ y. init_free y ⊥ at f g t next a (free y ⊥) h)
      (simple_light x tr.assigned owed.bound_once cap (weight x.unit w) (weighs x.unit w) n (within_light x tr.assigned owed.bound_once cap (weight x.unit w) (weighs x.unit w) n) at [] [] (f.root ∷ []) (h.over.0 ∷ []) (Step.GlobalInit g h.over.0 k) k t 1 (weight x.unit w at f.root + 1)
      (empty_ctx next h.unused (λ y Q ok r. free y Q (global_ok y Q (slice_get x.cps.shared.globals.items g) a h.gives) r)) (0, omega arith, rest) refl refl refl refl refl refl refl (λ y e. absurd (false≢true e)) (omega arith) (omega (arith, le, one)) h.over.1)

  form_light : (at : ℕ) (f : Form) (kind : FormKind) (p : Option Procedure) (t next : ℕ) (a : Arg) → slice_get x.unit.forms.items at ≡ Some f → f.kind ≡ kind → ((y : ℕ) (Q : Type 0) → ArgOk x y Q a → Free x next y → Q) → (NoProc x a → Behind x.cps cap 0 next) → FormAs x (ConvertsWithin x tr.depth) at kind p f.root t next a → Behind x.cps cap 0 t
  form_light at f (Define g) (Some p) t next a there q free rest h = subst (Behind x.cps cap 0) h.0 (rest (global_ok 0 (Unit {0}) (slice_get x.cps.shared.globals.items g) a h.2))
  form_light at f (Define g) None t next a there q free rest h = init_light at f g t next a there (ap (λ k. definition_count k f.nodes.items) q) free (rest (global_ok 0 (Unit {0}) (slice_get x.cps.shared.globals.items g) a h.gives)) h
  form_light at f (Lset g) p t next a there q free rest h = init_light at f g t next a there (ap (λ k. definition_count k f.nodes.items) q) free (rest (global_ok 0 (Unit {0}) (slice_get x.cps.shared.globals.items g) a h.gives)) h
  form_light at f (Operation o) p t next a there q free rest h = subst (Behind x.cps cap 0) h.0 (rest (op_ok 0 (Unit {0}) (slice_get x.cps.shared.ops.items o) a h.1))
  form_light at f Plain p t next a there q free rest h =
      let le = root_within x.unit w at f there in
      closed_behind (weight x.unit w at f.root) t (λ y. form_free y ⊥ at f Plain p t next a (free y ⊥) h)
      (within_light x tr.assigned owed.bound_once cap (weight x.unit w) (weighs x.unit w) tr.depth at [] [] f.root (Continuation.Lam h.value next) t 1 (weight x.unit w at f.root)
      (empty_ctx next h.value (λ y Q ok r. free y Q (subst (ArgOk x y Q) (sym h.gives) ok) r)) (0, omega arith, rest (subst (NoProc x) (sym h.gives) (λ e. tt))) (omega arith) (omega (arith, le)) h.root_as)

  forms_light : (at : ℕ) (forms : List Form) (before : Arg) (t : ℕ) → AreAt at forms → NoProc x before → FormsAs x (ConvertsWithin x tr.depth) at forms before t → Behind x.cps cap 0 t
  forms_light at [] before t all ok h =
      behind x.cps cap 0 t
      (made x.cps cap t (Step.Halt before) 0 0 0 0 h (front_least x tr.assigned owed.bound_once cap (weight x.unit w) (weighs x.unit w) (Step.Halt before) [] refl (procs_none x (before ∷ []) (ok, tt)) refl refl)
      (subst (Lams x.cps cap 0 []) (sym (procs_none x (before ∷ []) (ok, tt))) (lams_none x.cps cap [])) (parts_none x.cps cap) (omega arith) (omega arith))
  forms_light at (f ∷ forms) before t all ok h =
      form_light at f f.kind (lambda_of at f) t h.0 h.1 (first_form at f forms all) refl (λ y Q given. forms_free y Q (suc at) forms h.1 h.0 given h.3)
      (λ given. forms_light (suc at) forms h.1 h.0 (later_forms at f forms all) given h.3) h.2

  -- ---- the procedures of globals and operations

  -- a LAMBDA at the root of a form
  abbrev Small : Procedure → Type 0
  Small f = length f.params + weight x.unit w f.form f.body ≤ cap

  of_node : (at : ℕ) (form : Form) (o : Option Core) (f : Procedure) → slice_get x.unit.forms.items at ≡ Some form → slice_get form.nodes.items form.root ≡ o → procedure_of at o ≡ Some f → Small f
  of_node at form (Some (Node.Lambda params body)) f there q e =
      let a = weighs x.unit w at form.root (Node.Lambda params body) (ap (λ o. option_and_then (λ (g : Form). slice_get g.nodes.items form.root) o) there ∙ q) in
      let b = root_within x.unit w at form there in
      subst Small (some_same (record { params = params; form = at; body = body; env = [] }) f e) (omega (arith, a, b))
  of_node at form None f there q e = none_some f e
  of_node at form (Some (Node.Const c)) f there q e = none_some f e
  of_node at form (Some (Node.Local v)) f there q e = none_some f e
  of_node at form (Some (Node.Global g)) f there q e = none_some f e
  of_node at form (Some (Node.Builtin b)) f there q e = none_some f e
  of_node at form (Some (Node.Op o)) f there q e = none_some f e
  of_node at form (Some (Node.If test first second)) f there q e = none_some f e
  of_node at form (Some (Node.Block items)) f there q e = none_some f e
  of_node at form (Some (Node.Let vars values body)) f there q e = none_some f e
  of_node at form (Some (Node.Labels vars lambdas body)) f there q e = none_some f e
  of_node at form (Some (Node.SetLocal v value)) f there q e = none_some f e
  of_node at form (Some (Node.SetGlobal g value)) f there q e = none_some f e
  of_node at form (Some (Node.Catch v body)) f there q e = none_some f e
  of_node at form (Some (Node.Object proc methods)) f there q e = none_some f e
  of_node at form (Some (Node.Call operator operands tail)) f there q e = none_some f e
  of_node at form (Some (Node.Prim b operands)) f there q e = none_some f e

  of_form : (at : ℕ) (form : Form) (f : Procedure) → slice_get x.unit.forms.items at ≡ Some form → lambda_of at form ≡ Some f → Small f
  of_form at form f there e = of_node at form (slice_get form.nodes.items form.root) f there refl e

  by_kind : (kind : FormKind) (p : Option Procedure) (f : Procedure) → defined_by kind p ≡ Some f → p ≡ Some f
  by_kind (Define g) p f e = e
  by_kind (Lset g) p f e = none_some f e
  by_kind (Operation o) p f e = none_some f e
  by_kind Plain p f e = none_some f e

  definition_small : (g at : ℕ) (forms : List Form) (f : Procedure) → AreAt at forms → definition_in g at forms ≡ Some f → Small f
  definition_small g at [] f all e = none_some f e
  definition_small g at (form ∷ forms) f all e = by (defines_global g form.kind) e (definition_small g (suc at) forms f (later_forms at form forms all))
    where
      by : (b : Bool) → (if b then defined_by form.kind (lambda_of at form) else definition_in g (suc at) forms) ≡ Some f → (definition_in g (suc at) forms ≡ Some f → Small f) → Small f
      by true e go = of_form at form f (first_form at form forms all) (by_kind form.kind (lambda_of at form) f e)
      by false e go = go e

  from_start : AreAt 0 x.unit.forms.items
  from_start i h e = subst (λ n. slice_get x.unit.forms.items n ≡ Some h) (omega arith) e

  closure_small : (g : ℕ) (globals : List Global1) (i : ℕ) (f : Procedure) → slice_get (first_closures (definitions g globals x.unit.forms.items)) i ≡ Some f → Small f
  closure_small g [] i f e = none_some f e
  closure_small g (info ∷ globals) i f e = by (definition_in g 0 x.unit.forms.items) refl i e (λ j. closure_small (suc g) globals j f)
    where
      by : (o : Option Procedure) → definition_in g 0 x.unit.forms.items ≡ o → (i : ℕ) → slice_get (first_closures (o ∷ definitions (suc g) globals x.unit.forms.items)) i ≡ Some f
          → ((j : ℕ) → slice_get (first_closures (definitions (suc g) globals x.unit.forms.items)) j ≡ Some f → Small f) → Small f
      by None q i e go = go i e
      by (Some p) q zero e go = definition_small g 0 x.unit.forms.items f from_start (q ∙ e)
      by (Some p) q (suc i) e go = go i e

  default_small : (o at : ℕ) (forms : List Form) (f : Procedure) → AreAt at forms → default_in o at forms ≡ Some f → Small f
  default_small o at [] f all e = none_some f e
  default_small o at (form ∷ forms) f all e = by (defines_op o form.kind) e (default_small o (suc at) forms f (later_forms at form forms all))
    where
      by : (b : Bool) → (if b then lambda_of at form else default_in o (suc at) forms) ≡ Some f → (default_in o (suc at) forms ≡ Some f → Small f) → Small f
      by true e go = of_form at form f (first_form at form forms all) e
      by false e go = go e

  abbrev LightLam : ℕ → Type 0
  LightLam l = (lam : Lam) → slice_get x.cps.lams.items l ≡ Some lam → LamLight x.cps cap cap lam

  root_light : (f : Procedure) (c : Closure) → Small f → RootAs x (ConvertsWithin x tr.depth) f c → LightLam c.lam
  root_light f c small h =
      lam_light x tr.assigned owed.bound_once cap (weight x.unit w) (weighs x.unit w) tr.depth (within_light x tr.assigned owed.bound_once cap (weight x.unit w) (weighs x.unit w) tr.depth) f.form [] f.params f.body c.lam cap h (omega (arith, small)) (omega arith)

  global_root : (fs : List Procedure) (cs : List Closure) (i : ℕ) (c : Closure) → ((i : ℕ) (f : Procedure) → slice_get fs i ≡ Some f → Small f) → slice_get cs i ≡ Some c → RootsAs x (ConvertsWithin x tr.depth) fs cs → LightLam c.lam
  global_root [] [] i c r e h = none_some c e
  global_root (f ∷ fs) (d ∷ cs) zero c r e h = root_light f c (r 0 f refl) (subst (RootAs x (ConvertsWithin x tr.depth) f) (some_same d c e) h.0)
  global_root (f ∷ fs) (d ∷ cs) (suc i) c r e h = global_root fs cs i c (λ j. r (suc j)) e h.1
  global_root [] (d ∷ cs) i c r e h = absurd h
  global_root (f ∷ fs) [] i c r e h = absurd h

  default_root : (p : Option Procedure) (q : Option Closure) (c : Closure) → ((f : Procedure) → p ≡ Some f → Small f) → q ≡ Some c → DefaultAs x (ConvertsWithin x tr.depth) p q → LightLam c.lam
  default_root None None c r e h = none_some c e
  default_root (Some f) (Some d) c r e h = root_light f c (r f refl) (subst (RootAs x (ConvertsWithin x tr.depth) f) (some_same d c e) h)
  default_root None (Some d) c r e h = absurd h
  default_root (Some f) None c r e h = absurd h

  first_light : (l : ℕ) → l < first_lams x.cps → LightLam l
  first_light l lt = elim (cases_lt l (global_lams x.cps)) [
    | inl low ↦ global_root (start x.unit).closures (cps_start x.cps).closures l (record { lam = l; scope = [] }) (λ i f e. closure_small 0 x.unit.shared.globals.items i f e) (first_at 0 x.cps.shared.globals.items l low ∙ ap (λ n. Some (record { lam = n; scope = [] })) (zero_plus l)) tr.closures
    | inr high ↦ let j = gap (global_lams x.cps) l (omega (arith, high)) in after l j.0 j.1 (ranked x.cps.shared.ops.items j.0 (omega (arith, lt, j.1)))
  ]
    where
      after : (l j : ℕ) → l ≡ global_lams x.cps + j → Ranked x.cps.shared.ops.items j → LightLam l
      after l j e r =
          subst LightLam (sym e)
          (default_root (default_of x.unit r.at) (cps_default_of x.cps r.at) (record { lam = global_lams x.cps + j; scope = [] }) (λ f q. default_small r.at 0 x.unit.forms.items f from_start q)
          (ap (λ o. option_map_or (default_at x.cps r.at) o None) r.there ∙ ap (λ b. if b then Some (record { lam = global_lams x.cps + length (filter has_default (take r.at x.cps.shared.ops.items)); scope = [] }) else None) r.has ∙ ap (λ n. Some (record { lam = global_lams x.cps + n; scope = [] })) r.before)
          (tr.defaults r.at))

  roots_light : (n : ℕ) (lams : List Lam) → ((l : ℕ) (lam : Lam) → l < n → slice_get lams l ≡ Some lam → LamLight x.cps cap cap lam) → AllByRecursion (LamLight x.cps cap cap) (take n lams)
  roots_light zero lams f = tt
  roots_light (suc n) [] f = tt
  roots_light (suc n) (lam ∷ lams) f = (f 0 lam (omega arith) refl, roots_light n lams (λ l m lt e. f (suc l) m (omega (arith, lt)) e))

  pub procedures_light : AllByRecursion (LamLight x.cps cap cap) (root_lams x.cps)
  procedures_light = roots_light (first_lams x.cps) x.cps.lams.items (λ l lam lt e. first_light l lt lam e)

  lam_walks : (lams : List Lam) → AllByRecursion (LamLight x.cps cap cap) lams → AllByRecursion (Within x.cps cap) (flat_map (λ (p : Part). walked_within x.cps (depth_of x.cps) p.at) (map (lambda_part []) lams))
  lam_walks [] h = tt
  lam_walks (lam ∷ lams) h = each_append (Within x.cps cap) (walked_within x.cps (depth_of x.cps) lam.body) (flat_map (λ (p : Part). walked_within x.cps (depth_of x.cps) p.at) (map (lambda_part []) lams)) (h.0.body.all (depth_of x.cps)) (lam_walks lams h.1)

  pub walked_light : AllByRecursion (Within x.cps cap) (walked x.cps)
  walked_light =
      each_append (Within x.cps cap) (walked_within x.cps (depth_of x.cps) x.cps.entry) (flat_map (λ (p : Part). walked_within x.cps (depth_of x.cps) p.at) (map (lambda_part []) (root_lams x.cps)))
      ((forms_light 0 x.unit.forms.items (Argument.Const Constant.Nil) x.cps.entry from_start tt tr.forms).all (depth_of x.cps)) (lam_walks (root_lams x.cps) procedures_light)

  lam_within : (lam : Lam) → LamLight x.cps cap cap lam → lam_load x.cps lam ≤ cap
  lam_within lam l = let a = l.fits in let b = l.body.each (depth_of x.cps) in omega (arith, a, b)

pub loads_are_few : LoadsAreFew
loads_are_few unit cps w c owed =
    let x : Translation = record { unit = unit; cps = cps; origins = c.origins } in
    let same : unit.shared.size ≡ cps.shared.size = ap (λ (s : Shared). s.size) (sym c.translated.shared) in
    record {
      terms = subst (λ n. All (λ t. IsTrue (is_closed cps t) → term_load cps t ≤ n) (walked cps)) same
          (all_of_each (λ t. IsTrue (is_closed cps t) → term_load cps t ≤ unit.shared.size) (walked cps) (each_more (Within cps unit.shared.size) (λ t. IsTrue (is_closed cps t) → term_load cps t ≤ unit.shared.size) (walked cps) (λ t h closed. h (depth_of cps)) (walked_light x w c.translated owed)));
      procedures = subst (λ n. All (λ lam. lam_load cps lam ≤ n) (root_lams cps)) same
          (all_of_each (λ lam. lam_load cps lam ≤ unit.shared.size) (root_lams cps) (each_more (LamLight cps unit.shared.size unit.shared.size) (λ lam. lam_load cps lam ≤ unit.shared.size) (root_lams cps) (lam_within x w c.translated owed) (procedures_light x w c.translated owed)));
    }
