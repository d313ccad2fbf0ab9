-- A task keeps a sound state sound: one lemma for each way of going on.
use Rattle.std.specs.Prelude.{◌==◌, IsSomeAnd}
use Rattle.std.specs.List.{AllByRecursion, list_any}
use Rattle.std.specs.Option.{option_map_or}
use Rattle.std.proofs.Common.{◌≡◌, ℕ, zero, suc, ◌+◌, ◌<◌, List, [], ◌∷◌, ◌++◌, length, map, replicate, Option, Some, None, option_and_then, Bool, true, false, if◌then◌else◌, slice_get, refl, sym, ap, ◌∙◌, subst, arith, length-append}
use Rattle.std.proofs.lemmas.Bool.{true≢false, eqb-true}
use Rattle.t_base.specs.declared.basics.Var.{Var}
use Rattle.t_base.specs.declared.faults.Fault.{Fault}
use Rattle.t_base.specs.declared.faults.Fault.TheVariants.{WrongCount, DeadEscape, NotProcedure, NotHandled}
use Rattle.t_base.specs.declared.shared_parts.Const.{Const}
use Rattle.t_base.specs.declared.shared_parts.Const.TheVariants as Constant
use Rattle.t_core.specs.declared.forms.Core.{Core}
use Rattle.t_core.specs.declared.forms.Core.TheVariants as Node
use Rattle.t_core.specs.declared.forms.Form.{Form}
use Rattle.t_core.specs.declared.forms.Method.{Method}
use Rattle.t_core.specs.declared.forms.UnitCore.{UnitCore}
use Rattle.t_core.specs.Nodes.{Part, part, early as early_part, block_parts, parts_of}
use Rattle.t_core.specs.Whole.{IsWhole, HasPlaces, HasShapes, NamesAreThere, IsShaped, IsScoped, IsScopedWithin, IsInPlace, defines_op}
use Rattle.t_prim.specs.Values.{Val, FixV, CharV, NilV, TrueV, SymbolV, StringV, PairV, VectorV, ClosureV, ObjectV, OperationV, BuiltinV, EscapeV, val_of}
use Rattle.t_prim.specs.Kinds.{is_nil}
use Rattle.t_prim.specs.Operands.{Row, Gives, Changes, Faults}
use Rattle.t_prim.specs.Table.{row}
use Rattle.made_values.specs.Made.{Made, IsLater, IsMade, AreMade, is_unbound, IsMadeRow}
use Rattle.made_values.proofs.Lists.{some_same, none_some, all_at, each_left, each_right, each_there, there_within}
use Rattle.made_values.proofs.Later.{later_same, later_later, made_later}
use Rattle.made_values.proofs.Rows.{row_kept}
use Rattle.t_meaning.specs.Programs.{Program, node_at}
use Rattle.t_meaning.specs.Environment.{Env, location_of, extended}
use Rattle.t_meaning.specs.State.{Procedure, Handler, Object, State, with_locations, with_location_at, with_closure, with_object, with_live, with_catch, taking, working, entered}
use Rattle.t_meaning.specs.Costs.{binding_words, catch_words, object_words, lambda_words}
use Rattle.t_meaning.specs.Outcomes.{Outcome, Value, Escaping, Faulted, Out, Context, under, Task, Evaluate, Apply, Enter, Doing, with_value, provided, or_unbound, after_row, early, last, with_values}
use Rattle.t_meaning.specs.Bindings.{binding, filling}
use Rattle.t_meaning.specs.Catches.{opened, arrived, closed, escape}
use Rattle.t_meaning.specs.Operations.{handlers_of, procedure_of, lambda_of, handlers_at, looked_at, chosen, default_in, default_of, handled, operate}
use Rattle.t_meaning.specs.Application.{enter, apply}
use Rattle.t_meaning.specs.Expressions.{with_global, in_order, evaluate}
use Rattle.t_meaning.specs.Performing.{act, perform}
use Rattle.t_meaning.specs.Soundness.{made, IsInScope, Covers, IsMadeEnv, CanEnter, HandlersCanEnter, IsSoundObject, IsSound, CanDo, global_used, LacksGlobal, ComesTo, IsSoundOutcome, TasksKeepSound}
use Rattle.t_meaning.proofs.SoundStates.{covers_extended, env_extended, HasLocation, location_there, env_later, live_sound, catch_sound, working_sound, entered_sound, taking_sound, store_sound, locations_more, locations_sound, location_more_at, location_sound, closure_more, closure_sound, object_more, object_sound, global_sound, GlobalThere, global_there}

-- ---- what a node that can be evaluated is made of

abbrev PartIs : UnitCore → ℕ → List Var → Part → Type 0
PartIs u form scope q = IsInScope u form q.at (q.binds ++ scope)

-- the node that stands at a place under a scope
pub record NodeIs (u : UnitCore) (form at : ℕ) (scope : List Var) : Type 0 where
  pub node : Core
  pub found : node_at u form at ≡ Some node
  pub tail : Bool
  pub place : IsInPlace scope tail node
  pub parts : AllByRecursion (PartIs u form scope) (parts_of node tail)
  pub names : NamesAreThere u.shared node
  pub nodes : List Core
  pub shape : IsShaped u.shared nodes node

parts_in : (u : UnitCore) (form : ℕ) (f : Form) (depth : ℕ) (scope : List Var) (qs : List Part) → slice_get u.forms.items form ≡ Some f
    → AllByRecursion (λ (q : Part). IsScopedWithin f.nodes.items depth (q.binds ++ scope) q.tail q.at) qs → AllByRecursion (PartIs u form scope) qs
parts_in u form f depth scope [] there h = tt
parts_in u form f depth scope (q ∷ qs) there h = (record { nodes = f; there = there; depth = depth; tail = q.tail; scoped = h.0 }, parts_in u form f depth scope qs there h.1)

pub node_is : (u : UnitCore) → IsWhole u → (form at : ℕ) (scope : List Var) → IsInScope u form at scope → NodeIs u form at scope
unfolding IsScopedWithin
node_is u whole form at scope h = by_depth h.depth h.scoped
  where
    f : Form
    f = h.nodes

    places : HasPlaces u.shared f
    places = all_at (HasPlaces u.shared) u.forms.items form f whole.places h.there

    shapes : HasShapes u.shared f
    shapes = all_at (HasShapes u.shared) u.forms.items form f whole.shapes h.there

    by_node : (depth : ℕ) (o : Option Core) → slice_get f.nodes.items at ≡ o
        → IsSomeAnd o (λ node. IsInPlace scope h.tail node × AllByRecursion (λ (q : Part). IsScopedWithin f.nodes.items depth (q.binds ++ scope) q.tail q.at) (parts_of node h.tail))
        → NodeIs u form at scope
    by_node depth None e k = absurd k
    by_node depth (Some node) e k = record {
      node = node;
      found = ap (λ (o : Option Form). option_and_then (λ (x : Form). slice_get x.nodes.items at) o) h.there ∙ e;
      tail = h.tail;
      place = k.0;
      parts = parts_in u form f depth scope (parts_of node h.tail) h.there k.1;
      names = all_at (NamesAreThere u.shared) f.nodes.items at node places.names e;
      nodes = f.nodes.items;
      shape = all_at (IsShaped u.shared f.nodes.items) f.nodes.items at node shapes e;
    }

    by_depth : (depth : ℕ) → IsScopedWithin f.nodes.items depth scope h.tail at → NodeIs u form at scope
    by_depth zero k = absurd k
    by_depth (suc depth) k = by_node depth (slice_get f.nodes.items at) refl k

-- ---- going on

module _ (u : UnitCore) where
  abbrev pub Fine : State → Outcome → Type 0
  Fine s o = IsSoundOutcome u (made s) o

  from_later : (s t : State) (o : Outcome) → IsLater (made s) (made t) → Fine t o → Fine s o
  from_later s t (Value r v) m h = record { later = later_later (made s) (made t) (made r) m h.later; sound = h.sound; value = h.value }
  from_later s t (Escaping r i v) m h = record { later = later_later (made s) (made t) (made r) m h.later; sound = h.sound; value = h.value }
  from_later s t (Faulted r fault) m h = h
  from_later s t (Out r) m h = tt

  pub gives : (s : State) (v : Val) → IsSound u s → IsMade (made s) v → Fine s (Value s v)
  gives s v sound k = record { later = later_same (made s); sound = sound; value = k }

  faults : (s : State) (fault : Fault) → is_unbound fault ≡ false → Fine s (Faulted s fault)
  faults s fault e q = absurd (true≢false (sym q ∙ e))

  pub value_fine : (s : State) (o : Outcome) (rest : State → Val → Outcome) → Fine s o → ((t : State) (v : Val) → ComesTo u (made s) t v → Fine t (rest t v)) → Fine s (with_value o rest)
  value_fine s (Value t v) rest h k = from_later s t (rest t v) h.later (k t v h)
  value_fine s (Escaping t i v) rest h k = h
  value_fine s (Faulted t fault) rest h k = h
  value_fine s (Out t) rest h k = tt

  provided_fine : (s : State) (t : Bool) (fault : Fault) (rest : State → Outcome) → is_unbound fault ≡ false → (t ≡ true → Fine s (rest s)) → Fine s (provided t fault s rest)
  provided_fine s true fault rest e k = k refl
  provided_fine s false fault rest e k = faults s fault e

  pub there_fine : {X : Type 0} (s : State) (o : Option X) (x : X) (rest : X → Outcome) → o ≡ Some x → Fine s (rest x) → Fine s (or_unbound o s rest)
  there_fine s None x rest e h = none_some x e
  there_fine s (Some y) x rest e h = subst (λ z. Fine s (rest z)) (sym (some_same y x e)) h

  row_fine : (s : State) (r : Row) → IsSound u s → IsMadeRow (made s) r → Fine s (after_row s r)
  row_fine s (Gives v) sound h = gives s v sound h
  row_fine s (Changes t v) sound h = record { later = later_same (made s); sound = store_sound u (made s) s t sound h.0; value = h.1 }
  row_fine s (Faults fault) sound h = faults s fault h

  closed_fine : (s : State) (i : ℕ) (outer : List ℕ) (o : Outcome) → Fine s o → Fine s (closed i outer o)
  closed_fine s i outer (Value t v) h = record { later = h.later; sound = live_sound u (made t) t outer h.sound; value = h.value }
  closed_fine s i outer (Escaping t j v) h = by_test (i == j)
    where
      by_test : (b : Bool) → Fine s (arrived b (with_live t outer) j v)
      by_test true = record { later = h.later; sound = live_sound u (made t) t outer h.sound; value = h.value }
      by_test false = record { later = h.later; sound = live_sound u (made t) t outer h.sound; value = h.value }
  closed_fine s i outer (Faulted t fault) h = h
  closed_fine s i outer (Out t) h = tt

  escape_fine : (s : State) (i : ℕ) (args : List Val) → IsSound u s → AreMade (made s) args → Fine s (escape i args s)
  escape_fine s i [] sound h = faults s WrongCount refl
  escape_fine s i (v ∷ []) sound h = provided_fine s (list_any (λ j. j == i) s.live) DeadEscape (λ t. Escaping t i v) refl (λ e. record { later = later_same (made s); sound = sound; value = h.0 })
  escape_fine s i (v ∷ w ∷ vs) sound h = faults s WrongCount refl

  abbrev pub AllFine : Doing → Type 0
  AllFine f = (d : ℕ) (task : Task) (s : State) → IsSound u s → CanDo u (made s) task → Fine s (f d task s)

pub const_made : (w : Made) (c : Const) → IsMade w (val_of c)
const_made w (Constant.Fix x) = tt
const_made w (Constant.Char c) = tt
const_made w Constant.Nil = tt
const_made w Constant.True = tt
const_made w (Constant.Sym n) = tt
const_made w (Constant.Str k) = tt
const_made w (Constant.Pair k) = tt

nil_made : (w : Made) (n : ℕ) → AreMade w (replicate n NilV)
nil_made w zero = tt
nil_made w (suc n) = (tt, nil_made w n)

nil_count : (n : ℕ) → length (replicate n NilV) ≡ n
nil_count zero = refl
nil_count (suc n) = ap suc (nil_count n)

-- ---- parts

module _ (p : Program) (whole : IsWhole p.unit) (f : Doing) (all : AllFine p.unit f) where
  abbrev u : UnitCore
  u = p.unit

  abbrev Under : List Var → State → Context → Type 0
  Under scope s c = Covers scope c.env × IsMadeEnv (made s) c.env

  abbrev AreIn : ℕ → List Var → List ℕ → Type 0
  AreIn form scope ks = AllByRecursion (λ k. IsInScope u form k scope) ks

  early_fine : (d : ℕ) (c : Context) (scope : List Var) (k : ℕ) (s : State) → IsSound u s → Under scope s c → IsInScope u c.form k scope → Fine u s (early f d c k s)
  early_fine d c scope k s sound h at = all (suc d) (Evaluate k (record c { tail = false })) s sound (record { scope = scope; at = at; covers = h.0; locations = h.1 })

  last_fine : (d : ℕ) (c : Context) (scope : List Var) (k : ℕ) (s : State) → IsSound u s → Under scope s c → IsInScope u c.form k scope → Fine u s (last f d c k s)
  last_fine d c scope k s sound h at = all (if c.tail then d else suc d) (Evaluate k c) s sound (record { scope = scope; at = at; covers = h.0; locations = h.1 })

  under_later : (scope : List Var) (s t : State) (c : Context) → IsLater (made s) (made t) → Under scope s c → Under scope t c
  under_later scope s t c m h = (h.0, env_later (made s) (made t) m c.env h.1)

  values_fine : (d : ℕ) (c : Context) (scope : List Var) (ks : List ℕ) (s : State) (rest : State → List Val → Outcome) → IsSound u s → Under scope s c → AreIn c.form scope ks
      → ((t : State) (vs : List Val) → IsLater (made s) (made t) → IsSound u t → AreMade (made t) vs → length vs ≡ length ks → Fine u t (rest t vs)) → Fine u s (with_values f d c ks s rest)
  values_fine d c scope [] s rest sound h at k = k s [] (later_same (made s)) sound tt refl
  values_fine d c scope (j ∷ ks) s rest sound h at k =
      value_fine u s (early f d c j s) _ (early_fine d c scope j s sound h at.0)
      (λ t v r. values_fine d c scope ks t (λ w vs. rest w (v ∷ vs)) r.sound (under_later scope s t c r.later h) at.1
      (λ w vs m so ms e. k w (v ∷ vs) (later_later (made s) (made t) (made w) r.later m) so (made_later (made t) (made w) m v r.value, ms) (ap suc e)))

  filling_fine : (d : ℕ) (c : Context) (scope : List Var) (l : ℕ) (ks : List ℕ) (s : State) (rest : State → Outcome) → IsSound u s → Under scope s c → AreIn c.form scope ks
      → ((t : State) → IsLater (made s) (made t) → IsSound u t → Fine u t (rest t)) → Fine u s (filling f d c l ks s rest)
  filling_fine d c scope l [] s rest sound h at k = k s (later_same (made s)) sound
  filling_fine d c scope l (j ∷ ks) s rest sound h at k =
      value_fine u s (early f d c j s) _ (early_fine d c scope j s sound h at.0)
      (λ t v r.
      let w = with_location_at t l v in
      let more = location_more_at u t l v in
      let both = later_later (made s) (made t) (made w) r.later more in
      from_later u t w _ more
      (filling_fine d c scope (suc l) ks w rest (location_sound u t l v r.sound r.value) (under_later scope s w c both h) at.1 (λ z m so. k z (later_later (made s) (made w) (made z) both m) so)))

  order_fine : (d : ℕ) (c : Context) (scope : List Var) (tail : Bool) (ks : List ℕ) (s : State) → IsSound u s → Under scope s c → AllByRecursion (PartIs u c.form scope) (block_parts ks tail) → Fine u s (in_order f d c ks s)
  order_fine d c scope tail [] s sound h at = gives u s NilV sound tt
  order_fine d c scope tail (k ∷ []) s sound h at = last_fine d c scope k s sound h at.0
  order_fine d c scope tail (k ∷ next ∷ ks) s sound h at =
      value_fine u s (early f d c k s) _ (early_fine d c scope k s sound h at.0) (λ t v r. order_fine d c scope tail (next ∷ ks) t r.sound (under_later scope s t c r.later h) at.1)

  -- variables at new locations
  binding_fine : (vars : List Var) (values : List Val) (env : Env) (scope : List Var) (s : State) (rest : Env → State → Outcome) → IsSound u s → Covers scope env → IsMadeEnv (made s) env
      → AreMade (made s) values → length vars ≡ length values
      → ((inner : Env) (t : State) → IsLater (made s) (made t) → IsSound u t → Covers (vars ++ scope) inner → IsMadeEnv (made t) inner → Fine u t (rest inner t)) → Fine u s (binding p vars values env s rest)
  binding_fine vars values env scope s rest sound covers places vs e k =
      let t = taking (binding_words p.unit vars) (with_locations s values) in
      let more : IsLater (made s) (made t) = locations_more u s values in
      from_later u s t _ more
      (k (extended vars (length s.locations) env) t more (taking_sound u (made t) (binding_words p.unit vars) (with_locations s values) (locations_sound u s values sound vs))
      (covers_extended vars (length s.locations) scope env covers)
      (env_extended vars (length s.locations) env (made t) (env_later (made s) (made t) more env places) (omega (arith, e, length-append s.locations values))))

  enter_fine : (d : ℕ) (g : Procedure) (args : List Val) (s : State) → IsSound u s → CanEnter u (made s) g → AreMade (made s) args → Fine u s (enter p f d g args s)
  enter_fine d g args s sound h vs =
      provided_fine u s (length g.params == length args) WrongCount _ refl
      (λ e. binding_fine g.params args g.env h.scope s _ sound h.covers h.locations vs (eqb-true _ _ e)
      (λ inner t m so c l. all d (Evaluate g.body (record { form = g.form; tail = true; env = inner })) t so (record { scope = g.params ++ h.scope; at = h.at; covers = c; locations = l })))

  -- ---- operations

  -- the LAMBDA at the root of a form
  pub root_enters : (w : Made) (at : ℕ) (form : Form) (g : Procedure) → slice_get u.forms.items at ≡ Some form → lambda_of at form ≡ Some g → CanEnter u w g
  root_enters w at form g there is = by_root (slice_get form.nodes.items form.root) refl is
    where
      scoped : IsScoped form
      scoped = all_at IsScoped u.forms.items at form whole.scopes.used there

      by_node : (params : List Var) (body : ℕ) (r : NodeIs u at form.root []) → r.node ≡ Node.Lambda params body → IsInScope u at body (params ++ [])
      by_node params body r e = let parts : AllByRecursion (PartIs u at []) (parts_of (Node.Lambda params body) r.tail) = subst (λ (n : Core). AllByRecursion (PartIs u at []) (parts_of n r.tail)) e r.parts in parts.0

      by_root : (o : Option Core) → slice_get form.nodes.items form.root ≡ o → procedure_of at o ≡ Some g → CanEnter u w g
      by_root (Some (Node.Lambda params body)) e q =
          let some : 0 < length form.nodes.items = let lt : form.root < length form.nodes.items = there_within form.nodes.items form.root _ e in omega (arith, lt) in
          let r : NodeIs u at form.root [] = node_is u whole at form.root [] (record { nodes = form; there = there; depth = length form.nodes.items; tail = false; scoped = scoped some }) in
          let found : node_at u at form.root ≡ Some (Node.Lambda params body) = ap (λ (x : Option Form). option_and_then (λ (y : Form). slice_get y.nodes.items form.root) x) there ∙ e in
          subst (CanEnter u w) (some_same _ g q)
          (record { scope = []; at = by_node params body r (some_same r.node _ (sym r.found ∙ found)); covers = λ x k. absurd (let lt : k.0 < 0 = k.1 in omega (arith, lt)); locations = tt })
      by_root None e q = none_some g q
      by_root (Some (Node.Const k)) e q = none_some g q
      by_root (Some (Node.Local x)) e q = none_some g q
      by_root (Some (Node.Global x)) e q = none_some g q
      by_root (Some (Node.Builtin b)) e q = none_some g q
      by_root (Some (Node.Op o)) e q = none_some g q
      by_root (Some (Node.If a b c)) e q = none_some g q
      by_root (Some (Node.Block items)) e q = none_some g q
      by_root (Some (Node.Let vars values body)) e q = none_some g q
      by_root (Some (Node.Labels vars lambdas body)) e q = none_some g q
      by_root (Some (Node.SetLocal x value)) e q = none_some g q
      by_root (Some (Node.SetGlobal x value)) e q = none_some g q
      by_root (Some (Node.Catch x body)) e q = none_some g q
      by_root (Some (Node.Object proc methods)) e q = none_some g q
      by_root (Some (Node.Call operator operands tail)) e q = none_some g q
      by_root (Some (Node.Prim b operands)) e q = none_some g q

  abbrev pub SomeEnters : Made → Option Procedure → Type 0
  SomeEnters w o = (g : Procedure) → o ≡ Some g → CanEnter u w g

  default_enters : (w : Made) (o at : ℕ) (forms : List Form) → ((k : ℕ) → slice_get u.forms.items (at + k) ≡ slice_get forms k) → SomeEnters w (default_in o at forms)
  default_enters w o at [] there g e = none_some g e
  default_enters w o at (form ∷ forms) there g e =
      by_test (defines_op o form.kind)
      (λ q. root_enters w at form g (subst (λ (k : ℕ). slice_get u.forms.items k ≡ Some form) (let i : at + 0 ≡ at = omega arith in i) (there 0)) q)
      (λ q. default_enters w o (suc at) forms (λ k. subst (λ (i : ℕ). slice_get u.forms.items i ≡ slice_get forms k) (let i : at + suc k ≡ suc at + k = omega arith in i) (there (suc k))) g q) e
    where
      by_test : (b : Bool) → (lambda_of at form ≡ Some g → CanEnter u w g) → (default_in o (suc at) forms ≡ Some g → CanEnter u w g) → (if b then lambda_of at form else default_in o (suc at) forms) ≡ Some g → CanEnter u w g
      by_test true h k q = h q
      by_test false h k q = k q

  chosen_enters : (w : Made) (o : ℕ) (hs : List Handler) (default : Option Procedure) → HandlersCanEnter u w hs → SomeEnters w default → SomeEnters w (chosen o hs default)
  chosen_enters w o [] default h k g e = k g e
  chosen_enters w o (x ∷ hs) default h k g e = by_test (x.op == o) (λ q. chosen_enters w o hs default h.1 k g q) e
    where
      by_test : (b : Bool) → (chosen o hs default ≡ Some g → CanEnter u w g) → (if b then Some x.procedure else chosen o hs default) ≡ Some g → CanEnter u w g
      by_test true r q = subst (CanEnter u w) (some_same _ g q) h.0
      by_test false r q = r q

  handled_fine : (d : ℕ) (o : Option Procedure) (args : List Val) (s : State) → IsSound u s → SomeEnters (made s) o → AreMade (made s) args → Fine u s (handled f d o args s)
  handled_fine d None args s sound h vs = faults u s NotHandled refl
  handled_fine d (Some g) args s sound h vs = all d (Enter g args) s sound (h g refl, vs)

  handlers_enter : (s : State) (v : Val) → IsSound u s → IsMade (made s) v → HandlersCanEnter u (made s) (handlers_at s v)
  handlers_enter s (ObjectV i) sound lt =
      let r = each_there (IsSoundObject u (made s)) s.objects i lt sound.objects in
      subst (λ (o : Option Object). HandlersCanEnter u (made s) (option_map_or (λ (x : Object). x.handlers) o [])) (sym r.1) (r.2).handlers
  handlers_enter s (FixV x) sound h = tt
  handlers_enter s (CharV x) sound h = tt
  handlers_enter s NilV sound h = tt
  handlers_enter s TrueV sound h = tt
  handlers_enter s (SymbolV x) sound h = tt
  handlers_enter s (StringV x) sound h = tt
  handlers_enter s (PairV x) sound h = tt
  handlers_enter s (VectorV x) sound h = tt
  handlers_enter s (ClosureV x) sound h = tt
  handlers_enter s (OperationV x) sound h = tt
  handlers_enter s (BuiltinV x) sound h = tt
  handlers_enter s (EscapeV x) sound h = tt

  operate_fine : (d o : ℕ) (args : List Val) (s : State) → IsSound u s → AreMade (made s) args → Fine u s (operate p f d o args s)
  operate_fine d o [] s sound h = faults u s WrongCount refl
  operate_fine d o (v ∷ vs) s sound h =
      let t = working (looked_at o (handlers_at s v)) s in
      handled_fine d (chosen o (handlers_at s v) (default_of p.unit o)) (v ∷ vs) t (working_sound u (made s) _ s sound)
      (chosen_enters (made s) o (handlers_at s v) (default_of p.unit o) (handlers_enter s v sound h.0)
      (default_enters (made s) o 0 u.forms.items (λ k. ap (λ (i : ℕ). slice_get u.forms.items i) (let i : 0 + k ≡ k = omega arith in i)))) h

  apply_fine : (d : ℕ) (v : Val) (args : List Val) (s : State) → IsSound u s → IsMade (made s) v → AreMade (made s) args → Fine u s (apply p f d v args s)
  apply_fine d (ClosureV i) args s sound h vs =
      let r = each_there (CanEnter u (made s)) s.closures i h sound.closures in there_fine u s (slice_get s.closures i) r.0 _ r.1 (enter_fine d r.0 args s sound r.2 vs)
  apply_fine d (ObjectV i) args s sound h vs =
      let r = each_there (IsSoundObject u (made s)) s.objects i h sound.objects in
      there_fine u s (slice_get s.objects i) r.0 _ r.1 (all d (Apply (r.0).procedure args) s sound ((r.2).procedure, vs))
  apply_fine d (OperationV o) args s sound h vs = operate_fine d o args s sound vs
  apply_fine d (BuiltinV b) args s sound h vs = row_fine u s (row b args s.store) sound (row_kept (made s) b args s.store sound.store vs)
  apply_fine d (EscapeV i) args s sound h vs = escape_fine u s i args sound vs
  apply_fine d (FixV x) args s sound h vs = faults u s NotProcedure refl
  apply_fine d (CharV x) args s sound h vs = faults u s NotProcedure refl
  apply_fine d NilV args s sound h vs = faults u s NotProcedure refl
  apply_fine d TrueV args s sound h vs = faults u s NotProcedure refl
  apply_fine d (SymbolV x) args s sound h vs = faults u s NotProcedure refl
  apply_fine d (StringV x) args s sound h vs = faults u s NotProcedure refl
  apply_fine d (PairV x) args s sound h vs = faults u s NotProcedure refl
  apply_fine d (VectorV x) args s sound h vs = faults u s NotProcedure refl

  -- ---- nodes

  earlies : (form : ℕ) (scope : List Var) (ks : List ℕ) → AllByRecursion (PartIs u form scope) (map early_part ks) → AreIn form scope ks
  earlies form scope [] h = tt
  earlies form scope (k ∷ ks) h = (h.0, earlies form scope ks h.1)

  lambdas : (form : ℕ) (scope : List Var) (vars : List Var) (ks : List ℕ) → AllByRecursion (PartIs u form scope) (map (λ k. part k vars false) ks) → AreIn form (vars ++ scope) ks
  lambdas form scope vars [] h = tt
  lambdas form scope vars (k ∷ ks) h = (h.0, lambdas form scope vars ks h.1)

  methods_enter : (c : Context) (scope : List Var) (w : Made) (ms : List Method) → Covers scope c.env → IsMadeEnv w c.env → AllByRecursion (PartIs u c.form scope) (map (λ (m : Method). part m.body m.params true) ms)
      → HandlersCanEnter u w (handlers_of ms c)
  methods_enter c scope w [] covers l h = tt
  methods_enter c scope w (m ∷ ms) covers l h = (record { scope = scope; at = h.0; covers = covers; locations = l }, methods_enter c scope w ms covers l h.1)

  global_fine : (g : ℕ) (s : State) (rest : Val → Outcome) → IsSound u s → g < length u.shared.globals.items → (slice_get s.globals g ≡ Some None → LacksGlobal u s) → ((v : Val) → IsMade (made s) v → Fine u s (rest v))
      → Fine u s (with_global g s rest)
  global_fine g s rest sound lt lacks k =
      let r : GlobalThere (made s) s.globals g = global_there (made s) u.shared.globals.items s.globals g sound.globals lt in
      there_fine u s (slice_get s.globals g) r.value _ r.found (by_value r.value r.found r.valid)
    where
      by_value : (o : Option Val) → slice_get s.globals g ≡ Some o → ((v : Val) → o ≡ Some v → IsMade (made s) v) → Fine u s (or_unbound o s rest)
      by_value None e valid = λ q. lacks e
      by_value (Some v) e valid = k v (valid v refl)

  module _ (d at : ℕ) (c : Context) (scope : List Var) (s : State) (sound : IsSound u s) (h : Under scope s c) where
    lacks_here : (node : Core) (g : ℕ) (t : State) → node_at u c.form at ≡ Some node → global_used node ≡ Some g → slice_get t.globals g ≡ Some None → LacksGlobal u t
    lacks_here node g t found used e = record { form = c.form; node = at; global = g; used = ap (λ (o : Option Core). option_and_then global_used o) found ∙ used; lacks = e }

    node_fine : (node : Core) (tail : Bool) (nodes : List Core) → node_at u c.form at ≡ Some node → IsInPlace scope tail node → AllByRecursion (PartIs u c.form scope) (parts_of node tail) → NamesAreThere u.shared node
        → IsShaped u.shared nodes node → Fine u s (evaluate p f d at c (Some node) s)
    node_fine (Node.Const k) tail nodes found place parts names shape = gives u s (val_of k) sound (const_made (made s) k)
    node_fine (Node.Local x) tail nodes found place parts names shape =
        let r : HasLocation (made s) c.env x.0 = location_there (made s) c.env x.0 h.1 (h.0 x place) in
        let v = each_there (IsMade (made s)) s.locations r.location r.there sound.locations in
        there_fine u s (location_of c.env x.0) r.location _ r.found (there_fine u s (slice_get s.locations r.location) v.0 _ v.1 (gives u s v.0 sound v.2))
    node_fine (Node.Global g) tail nodes found place parts names shape = global_fine g s _ sound names (λ e. lacks_here (Node.Global g) g s found refl e) (λ v k. gives u s v sound k)
    node_fine (Node.Builtin b) tail nodes found place parts names shape = gives u s (BuiltinV b) sound tt
    node_fine (Node.Op o) tail nodes found place parts names shape = gives u s (OperationV o) sound tt
    node_fine (Node.Lambda params body) tail nodes found place parts names shape =
        let g : Procedure = record { params = params; form = c.form; body = body; env = c.env } in
        let enters : CanEnter u (made s) g = record { scope = scope; at = parts.0; covers = h.0; locations = h.1 } in
        let t = taking (lambda_words p c.form at) (with_closure s g) in
        record {
          later = closure_more u s g;
          sound = taking_sound u (made t) (lambda_words p c.form at) (with_closure s g) (closure_sound u s g sound enters);
          value = omega (arith, length-append s.closures (g ∷ []));
        }
    node_fine (Node.If test first second) tail nodes found place parts names shape =
        value_fine u s (early f d c test s) _ (early_fine d c scope test s sound h parts.0)
        (λ t v r. by_test (is_nil v) t r.sound (under_later scope s t c r.later h))
      where
        by_test : (b : Bool) (t : State) → IsSound u t → Under scope t c → Fine u t (last f d c (if b then second else first) t)
        by_test true t so k = last_fine d c scope second t so k parts.1.1.0
        by_test false t so k = last_fine d c scope first t so k parts.1.0
    node_fine (Node.Block items) tail nodes found place parts names shape = order_fine d c scope tail items s sound h parts
    node_fine (Node.Let vars values body) tail nodes found place parts names shape =
        let early_parts = earlies c.form scope values (each_left (PartIs u c.form scope) (map early_part values) (part body vars tail ∷ []) parts) in
        let body_part = each_right (PartIs u c.form scope) (map early_part values) (part body vars tail ∷ []) parts in
        values_fine d c scope values s _ sound h early_parts
        (λ t vs m so ms e. binding_fine vars vs c.env scope t _ so h.0 (env_later (made s) (made t) m c.env h.1) ms (shape ∙ sym e)
        (λ inner w k sw cw lw. last_fine d (under inner c) (vars ++ scope) body w sw (cw, lw) body_part.0))
    node_fine (Node.Labels vars ks body) tail nodes found place parts names shape =
        let lambda_parts = lambdas c.form scope vars ks (each_left (PartIs u c.form scope) (map (λ k. part k vars false) ks) (part body vars tail ∷ []) parts) in
        let body_part = each_right (PartIs u c.form scope) (map (λ k. part k vars false) ks) (part body vars tail ∷ []) parts in
        binding_fine vars (replicate (length vars) NilV) c.env scope s _ sound h.0 h.1 (nil_made (made s) (length vars)) (sym (nil_count (length vars)))
        (λ inner t m so ct lt. filling_fine d (under inner c) (vars ++ scope) (length s.locations) ks t _ so (ct, lt) lambda_parts
        (λ w k sw. last_fine d (under inner c) (vars ++ scope) body w sw (ct, env_later (made t) (made w) k inner lt) body_part.0))
    node_fine (Node.SetLocal x value) tail nodes found place parts names shape =
        value_fine u s (early f d c value s) _ (early_fine d c scope value s sound h parts.0)
        (λ t v r.
        let l : HasLocation (made t) c.env x.0 = location_there (made t) c.env x.0 (env_later (made s) (made t) r.later c.env h.1) (h.0 x place) in
        let w = with_location_at t l.location v in
        there_fine u t (location_of c.env x.0) l.location _ l.found
        (record { later = location_more_at u t l.location v; sound = location_sound u t l.location v r.sound r.value; value = made_later (made t) (made w) (location_more_at u t l.location v) v r.value }))
    node_fine (Node.SetGlobal g value) tail nodes found place parts names shape =
        value_fine u s (early f d c value s) _ (early_fine d c scope value s sound h parts.0)
        (λ t v r. global_fine g t _ r.sound names (λ e. lacks_here (Node.SetGlobal g value) g t found refl e)
        (λ old k. record { later = later_same (made t); sound = global_sound u (made t) t g v r.sound r.value; value = r.value }))
    node_fine (Node.Catch x body) tail nodes found place parts names shape =
        let t = opened s in
        let so : IsSound u t = working_sound u (made s) 2 _ (taking_sound u (made s) catch_words (with_catch s) (catch_sound u (made s) s sound)) in
        closed_fine u s s.catches s.live _
        (binding_fine (x ∷ []) (EscapeV s.catches ∷ []) c.env scope t _ so h.0 h.1 (tt, tt) refl
        (λ inner w k sw cw lw. all (suc (suc d)) (Evaluate body (record c { tail = false; env = inner })) w sw (record { scope = x ∷ scope; at = parts.0; covers = cw; locations = lw })))
    node_fine (Node.Object proc methods) tail nodes found place parts names shape =
        value_fine u s (early f d c proc s) _ (early_fine d c scope proc s sound h parts.0)
        (λ t v r.
        let o : Object = record { procedure = v; handlers = handlers_of methods c } in
        let w = taking (object_words p) (with_object t o) in
        record {
          later = object_more u t o;
          sound =
              taking_sound u (made w) (object_words p) (with_object t o)
              (object_sound u t o r.sound (record { procedure = r.value; handlers = methods_enter c scope (made t) methods h.0 (env_later (made s) (made t) r.later c.env h.1) parts.1 }));
          value = omega (arith, length-append t.objects (o ∷ []));
        })
    node_fine (Node.Call operator operands last_one) tail nodes found place parts names shape =
        value_fine u s (early f d c operator s) _ (early_fine d c scope operator s sound h parts.0)
        (λ t v r. values_fine d c scope operands t _ r.sound (under_later scope s t c r.later h) (earlies c.form scope operands parts.1)
        (λ w vs m so ms e. all d (Apply v vs) w so (made_later (made t) (made w) m v r.value, ms)))
    node_fine (Node.Prim b operands) tail nodes found place parts names shape =
        values_fine d c scope operands s _ sound h (earlies c.form scope operands parts) (λ t vs m so ms e. row_fine u t (row b vs t.store) so (row_kept (made t) b vs t.store so.store ms))

  act_fine : (d : ℕ) (task : Task) (s : State) → IsSound u s → CanDo u (made s) task → Fine u s (act p f d task s)
  act_fine d (Evaluate k c) s sound h =
      let r : NodeIs u c.form k h.scope = node_is u whole c.form k h.scope h.at in
      subst (λ (o : Option Core). Fine u s (evaluate p f d k c o s)) (sym r.found) (node_fine d k c h.scope s sound (h.covers, h.locations) r.node r.tail r.nodes r.found r.place r.parts r.names r.shape)
  act_fine d (Apply v args) s sound h = apply_fine d v args s sound h.0 h.1
  act_fine d (Enter g args) s sound h = enter_fine d g args s sound h.0 h.1

pub tasks_keep_sound : TasksKeepSound
tasks_keep_sound p whole zero d task s sound h = tt
tasks_keep_sound p whole (suc n) d task s sound h =
    act_fine p whole (perform p n) (λ e t r so k. tasks_keep_sound p whole n e t r so k) d task (entered d s) (entered_sound p.unit (made s) d s sound) h
