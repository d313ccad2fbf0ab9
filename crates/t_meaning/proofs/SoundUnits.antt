-- A unit starts sound, and stays so; so it ends by fault 9 at a global alone.
use Rattle.std.specs.Prelude.{◌==◌, ◌≢◌, is_some, All, IsSomeAnd, count_by}
use Rattle.std.specs.List.{AllByRecursion}
use Rattle.std.specs.Option.{option_map_or}
use Rattle.std.proofs.Common.{◌≡◌, ℕ, suc, ◌+◌, ◌≤◌, ◌<◌, List, [], ◌∷◌, length, map, cond, Option, Some, None, Bool, true, false, if◌then◌else◌, slice_get, refl, sym, ap, ◌∙◌, subst, arith}
use Rattle.std.proofs.lemmas.Bool.{true≢false, false≢true, eqb-true}
use Rattle.std.proofs.lemmas.List.Sums.{sum_by-cons}
use Rattle.t_base.specs.declared.faults.Fault.{Fault}
use Rattle.t_base.specs.declared.faults.Fault.TheVariants.{Unbound}
use Rattle.t_base.specs.declared.shared_parts.Const.{Const}
use Rattle.t_base.specs.declared.shared_parts.Global1.{Global1}
use Rattle.t_base.specs.declared.shared_parts.GlobalKind.{GlobalKind}
use Rattle.t_base.specs.declared.shared_parts.GlobalKind.TheVariants as Kind
use Rattle.program_runs.specs.Runs.{End}
use Rattle.program_runs.specs.Runs as runs
use Rattle.t_core.specs.declared.forms.Core.{Core}
use Rattle.t_core.specs.declared.forms.Core.TheVariants as Node
use Rattle.t_core.specs.declared.forms.FormKind.{FormKind}
use Rattle.t_core.specs.declared.forms.FormKind.TheVariants.{Define, Lset, Operation, Plain}
use Rattle.t_core.specs.declared.forms.Form.{Form}
use Rattle.t_core.specs.declared.forms.UnitCore.{UnitCore}
use Rattle.t_core.specs.Nodes.{is_lambda}
use Rattle.t_core.specs.Whole.{IsWhole, IsScoped, is_lambda_at, DefinesAs, IsDefinition, defines_global}
use Rattle.t_prim.specs.Values.{Val, NilV, SymbolV, shown_of, val_of}
use Rattle.made_values.specs.Made.{Made, IsMade, IsMadePair}
use Rattle.made_values.proofs.Lists.{some_same, none_some, all_at, all_tail, all_head, there_within}
use Rattle.t_meaning.specs.Programs.{Program, marked}
use Rattle.t_meaning.specs.State.{Procedure, State, with_global_at, working}
use Rattle.t_meaning.specs.Outcomes.{Outcome, Value, Escaping, Faulted, Out, Evaluate}
use Rattle.t_meaning.specs.Operations.{procedure_of, lambda_of}
use Rattle.t_meaning.specs.Units.{defined_by, definition_in, definitions, definitions_of, first_closures, first_globals, start, name_of_global, storing, form_gives, run_form, run_forms, outcome, observed}
use Rattle.t_meaning.specs.Soundness.{made, CanEnter, AreSoundGlobals, IsSound, LacksGlobal, IsSoundOutcome, DefinitionsAreProcedures, StartIsSound, UnitKeepsSound, UnboundIsAGlobal}
use Rattle.t_meaning.proofs.SoundStates.{working_sound, global_sound}
use Rattle.t_meaning.proofs.SoundTasks.{Fine, gives, value_fine, there_fine, const_made, root_enters, tasks_keep_sound}

-- ---- options

some_and : {X : Type 0} (P : X → Type 0) (o : Option X) (x : X) → o ≡ Some x → IsSomeAnd o P → P x
some_and P None x e h = absurd h
some_and P (Some y) x e h = subst P (some_same y x e) h

some_there : {X : Type 0} (P : X → Type 0) (o : Option X) → IsSomeAnd o P → (x : X) × (o ≡ Some x)
some_there P None h = absurd h
some_there P (Some x) h = (x, refl)

-- ---- the kinds of definitions

lambda_found : (at : ℕ) (o : Option Core) → option_map_or is_lambda o false ≡ true → procedure_of at o ≡ None → ⊥
lambda_found at None e h = false≢true e
lambda_found at (Some (Node.Lambda params body)) e h = none_some _ (sym h)
lambda_found at (Some (Node.Const k)) e h = false≢true e
lambda_found at (Some (Node.Local x)) e h = false≢true e
lambda_found at (Some (Node.Global x)) e h = false≢true e
lambda_found at (Some (Node.Builtin b)) e h = false≢true e
lambda_found at (Some (Node.Op o)) e h = false≢true e
lambda_found at (Some (Node.If a b c)) e h = false≢true e
lambda_found at (Some (Node.Block items)) e h = false≢true e
lambda_found at (Some (Node.Let vars values body)) e h = false≢true e
lambda_found at (Some (Node.Labels vars lambdas body)) e h = false≢true e
lambda_found at (Some (Node.SetLocal x value)) e h = false≢true e
lambda_found at (Some (Node.SetGlobal x value)) e h = false≢true e
lambda_found at (Some (Node.Catch x body)) e h = false≢true e
lambda_found at (Some (Node.Object proc methods)) e h = false≢true e
lambda_found at (Some (Node.Call operator operands tail)) e h = false≢true e
lambda_found at (Some (Node.Prim b operands)) e h = false≢true e

lambda_is : (at : ℕ) (o : Option Core) (g : Procedure) → procedure_of at o ≡ Some g → option_map_or is_lambda o false ≡ true
lambda_is at None g e = none_some g e
lambda_is at (Some (Node.Lambda params body)) g e = refl
lambda_is at (Some (Node.Const k)) g e = none_some g e
lambda_is at (Some (Node.Local x)) g e = none_some g e
lambda_is at (Some (Node.Global x)) g e = none_some g e
lambda_is at (Some (Node.Builtin b)) g e = none_some g e
lambda_is at (Some (Node.Op o)) g e = none_some g e
lambda_is at (Some (Node.If a b c)) g e = none_some g e
lambda_is at (Some (Node.Block items)) g e = none_some g e
lambda_is at (Some (Node.Let vars values body)) g e = none_some g e
lambda_is at (Some (Node.Labels vars lambdas body)) g e = none_some g e
lambda_is at (Some (Node.SetLocal x value)) g e = none_some g e
lambda_is at (Some (Node.SetGlobal x value)) g e = none_some g e
lambda_is at (Some (Node.Catch x body)) g e = none_some g e
lambda_is at (Some (Node.Object proc methods)) g e = none_some g e
lambda_is at (Some (Node.Call operator operands tail)) g e = none_some g e
lambda_is at (Some (Node.Prim b operands)) g e = none_some g e

proc_defined : (nodes : List Core) (root : ℕ) (kind : GlobalKind) → kind ≡ Kind.Proc → DefinesAs nodes root kind → is_lambda_at nodes root ≡ true
proc_defined nodes root Kind.Proc e h = h
proc_defined nodes root Kind.Value e h = absurd (let never : Kind.Value ≡ Kind.Proc = e in cc)
proc_defined nodes root Kind.Variable e h = absurd h

lambda_proc : (nodes : List Core) (root : ℕ) (kind : GlobalKind) → is_lambda_at nodes root ≡ true → DefinesAs nodes root kind → kind ≡ Kind.Proc
lambda_proc nodes root Kind.Proc e h = refl
lambda_proc nodes root Kind.Value e h = absurd (true≢false (sym e ∙ h))
lambda_proc nodes root Kind.Variable e h = absurd h

module _ (u : UnitCore) (g : ℕ) (info : Global1) (there : slice_get u.shared.globals.items g ≡ Some info) where
  at_global : (P : Global1 → Type 0) (h : ℕ) → (g == h) ≡ true → IsSomeAnd (slice_get u.shared.globals.items h) P → P info
  at_global P h e k = some_and P (slice_get u.shared.globals.items h) info (subst (λ (i : ℕ). slice_get u.shared.globals.items i ≡ Some info) (eqb-true g h e) there) k

  form_found : (kind : FormKind) (nodes : List Core) (root : ℕ) (l : Option Procedure) → info.kind ≡ Kind.Proc → IsDefinition u.shared kind nodes root → defines_global g kind ≡ true
      → (is_lambda_at nodes root ≡ true → l ≡ None → ⊥) → defined_by kind l ≡ None → ⊥
  form_found (Define h) nodes root l proc d same k e = k (proc_defined nodes root info.kind proc (at_global (λ (x : Global1). DefinesAs nodes root x.kind) h same d.1)) e
  form_found (Lset h) nodes root l proc d same k e = absurd (let variable : info.kind ≡ Kind.Variable = at_global (λ (x : Global1). x.kind ≡ Kind.Variable) h same d.1 in cc)
  form_found (Operation o) nodes root l proc d same k e = false≢true same
  form_found Plain nodes root l proc d same k e = false≢true same

  form_is : (kind : FormKind) (nodes : List Core) (root : ℕ) (l : Option Procedure) (f : Procedure) → IsDefinition u.shared kind nodes root → defines_global g kind ≡ true
      → (l ≡ Some f → is_lambda_at nodes root ≡ true) → defined_by kind l ≡ Some f → info.kind ≡ Kind.Proc
  form_is (Define h) nodes root l f d same k e = lambda_proc nodes root info.kind (k e) (at_global (λ (x : Global1). DefinesAs nodes root x.kind) h same d.1)
  form_is (Lset h) nodes root l f d same k e = none_some f e
  form_is (Operation o) nodes root l f d same k e = none_some f e
  form_is Plain nodes root l f d same k e = none_some f e

  abbrev IsDefining : Form → Type 0
  IsDefining form = IsDefinition u.shared form.kind form.nodes.items form.root

  abbrev defining : List Form → ℕ
  defining forms = count_by (λ (form : Form). defines_global g form.kind) forms

  defined : info.kind ≡ Kind.Proc → (at : ℕ) (forms : List Form) → All IsDefining forms → 0 < defining forms → definition_in g at forms ≡ None → ⊥
  defined proc at [] all lt e = omega (arith, lt)
  defined proc at (form ∷ forms) all lt e =
      by_test (defines_global g form.kind) refl (λ q r. form_found form.kind form.nodes.items form.root (lambda_of at form) proc (all_head IsDefining form forms all) q (λ is none. lambda_found at (slice_get form.nodes.items form.root) is none) r)
      (λ q r. defined proc (suc at) forms (all_tail IsDefining form forms all) q r) (subst (λ (n : ℕ). 0 < n) (sum_by-cons (λ (x : Form). cond (defines_global g x.kind) 1 0) form forms) lt) e
    where
      by_test : (b : Bool) → defines_global g form.kind ≡ b → (defines_global g form.kind ≡ true → defined_by form.kind (lambda_of at form) ≡ None → ⊥) → (0 < defining forms → definition_in g (suc at) forms ≡ None → ⊥)
          → 0 < cond b 1 0 + defining forms → (if b then defined_by form.kind (lambda_of at form) else definition_in g (suc at) forms) ≡ None → ⊥
      by_test true same h k lt q = h same q
      by_test false same h k lt q = k (omega (arith, lt)) q

  defined_is : (at : ℕ) (forms : List Form) (f : Procedure) → All IsDefining forms → definition_in g at forms ≡ Some f → info.kind ≡ Kind.Proc
  defined_is at [] f all e = none_some f e
  defined_is at (form ∷ forms) f all e =
      by_test (defines_global g form.kind) refl (λ q r. form_is form.kind form.nodes.items form.root (lambda_of at form) f (all_head IsDefining form forms all) q (λ is. lambda_is at (slice_get form.nodes.items form.root) f is) r)
      (λ r. defined_is (suc at) forms f (all_tail IsDefining form forms all) r) e
    where
      by_test : (b : Bool) → defines_global g form.kind ≡ b → (defines_global g form.kind ≡ true → defined_by form.kind (lambda_of at form) ≡ Some f → info.kind ≡ Kind.Proc) → (definition_in g (suc at) forms ≡ Some f → info.kind ≡ Kind.Proc)
          → (if b then defined_by form.kind (lambda_of at form) else definition_in g (suc at) forms) ≡ Some f → info.kind ≡ Kind.Proc
      by_test true same h k q = h same q
      by_test false same h k q = k q

some_or : (o : Option Procedure) → (o ≡ None → ⊥) → is_some o ≡ true
some_or None h = absurd (h refl)
some_or (Some f) h = refl

some_of : (o : Option Procedure) (P : Type 0) → ((f : Procedure) → o ≡ Some f → P) → is_some o ≡ true → P
some_of None P h e = absurd (false≢true e)
some_of (Some f) P h e = h f refl

pub definitions_are_procedures : DefinitionsAreProcedures
definitions_are_procedures u whole g info there =
    let lt : g < length u.shared.globals.items = there_within u.shared.globals.items g info there in
    let once = whole.definitions.globals_once g lt in
    record {
      defined = λ proc. some_or (definition_in g 0 u.forms.items) (defined u g info there proc 0 u.forms.items whole.definitions.forms (subst (λ (n : ℕ). 0 < n) (sym once) (omega arith)));
      procedure = some_of (definition_in g 0 u.forms.items) (info.kind ≡ Kind.Proc) (λ f e. defined_is u g info there 0 u.forms.items f whole.definitions.forms e);
    }

-- ---- the start

module _ (p : Program) (whole : IsWhole p.unit) where
  abbrev u : UnitCore
  u = p.unit

  abbrev Enters : Made → Option Procedure → Type 0
  Enters w o = (g : Procedure) → o ≡ Some g → CanEnter u w g

  enters : (w : Made) (at : ℕ) (form : Form) (g : Procedure) → slice_get u.forms.items at ≡ Some form → lambda_of at form ≡ Some g → CanEnter u w g
  enters w at form g there is = root_enters p whole (λ d task s. Out s) (λ d task s sound h. tt) w at form g there is

  defined_enters : (kind : FormKind) (l : Option Procedure) (g : Procedure) (P : Type 0) → (l ≡ Some g → P) → defined_by kind l ≡ Some g → P
  defined_enters (Define h) l g P k e = k e
  defined_enters (Lset h) l g P k e = none_some g e
  defined_enters (Operation o) l g P k e = none_some g e
  defined_enters Plain l g P k e = none_some g e

  definition_enters : (w : Made) (x at : ℕ) (forms : List Form) → ((k : ℕ) → slice_get u.forms.items (at + k) ≡ slice_get forms k) → Enters w (definition_in x at forms)
  definition_enters w x at [] there g e = none_some g e
  definition_enters w x at (form ∷ forms) there g e =
      by_test (defines_global x form.kind)
      (λ q. defined_enters form.kind (lambda_of at form) g (CanEnter u w g) (λ r. enters w at form g (subst (λ (k : ℕ). slice_get u.forms.items k ≡ Some form) (let i : at + 0 ≡ at = omega arith in i) (there 0)) r) q)
      (λ q. definition_enters w x (suc at) forms (λ k. subst (λ (i : ℕ). slice_get u.forms.items i ≡ slice_get forms k) (let i : at + suc k ≡ suc at + k = omega arith in i) (there (suc k))) g q) e
    where
      by_test : (b : Bool) → (defined_by form.kind (lambda_of at form) ≡ Some g → CanEnter u w g) → (definition_in x (suc at) forms ≡ Some g → CanEnter u w g)
          → (if b then defined_by form.kind (lambda_of at form) else definition_in x (suc at) forms) ≡ Some g → CanEnter u w g
      by_test true h k q = h q
      by_test false h k q = k q

  all_enter : (w : Made) (x : ℕ) (gs : List Global1) → AllByRecursion (Enters w) (definitions x gs u.forms.items)
  all_enter w x [] = tt
  all_enter w x (g ∷ gs) = (definition_enters w x 0 u.forms.items (λ k. ap (λ (i : ℕ). slice_get u.forms.items i) (let i : 0 + k ≡ k = omega arith in i)), all_enter w (suc x) gs)

  first_enter : (w : Made) (os : List (Option Procedure)) → AllByRecursion (Enters w) os → AllByRecursion (CanEnter u w) (first_closures os)
  first_enter w [] h = tt
  first_enter w (None ∷ os) h = first_enter w os h.1
  first_enter w (Some g ∷ os) h = (h.0 g refl, first_enter w os h.1)

  -- a global that isn't defined as a LAMBDA is no procedure
  abbrev Fit : List Global1 → List (Option Procedure) → Type 0
  Fit [] [] = Unit {0}
  Fit [] (o ∷ os) = ⊥
  Fit (g ∷ gs) [] = ⊥
  Fit (g ∷ gs) (None ∷ os) = (g.kind ≢ Kind.Proc) × Fit gs os
  Fit (g ∷ gs) (Some f ∷ os) = Fit gs os

  fit : (x : ℕ) (gs : List Global1) → ((k : ℕ) → slice_get u.shared.globals.items (x + k) ≡ slice_get gs k) → Fit gs (definitions x gs u.forms.items)
  fit x [] there = tt
  fit x (g ∷ gs) there =
      by_option (definition_in x 0 u.forms.items) refl (fit (suc x) gs (λ k. subst (λ (i : ℕ). slice_get u.shared.globals.items i ≡ slice_get gs k) (let i : x + suc k ≡ suc x + k = omega arith in i) (there (suc k))))
    where
      here : slice_get u.shared.globals.items x ≡ Some g
      here = subst (λ (k : ℕ). slice_get u.shared.globals.items k ≡ Some g) (let i : x + 0 ≡ x = omega arith in i) (there 0)

      by_option : (o : Option Procedure) → definition_in x 0 u.forms.items ≡ o → Fit gs (definitions (suc x) gs u.forms.items) → Fit (g ∷ gs) (o ∷ definitions (suc x) gs u.forms.items)
      by_option None e rest = (λ proc. false≢true (sym (ap is_some e) ∙ (definitions_are_procedures u whole x g here).defined proc), rest)
      by_option (Some f) e rest = rest

  first_sound : (w : Made) (next : ℕ) (gs : List Global1) (os : List (Option Procedure)) → Fit gs os → next + length (first_closures os) ≤ w.closures → AreSoundGlobals w gs (first_globals next os)
  first_sound w next [] [] h le = tt
  first_sound w next [] (o ∷ os) h le = absurd h
  first_sound w next (g ∷ gs) [] h le = absurd h
  first_sound w next (g ∷ gs) (None ∷ os) h le = (h.0, first_sound w next gs os h.1 le)
  first_sound w next (g ∷ gs) (Some f ∷ os) h le = (omega (arith, le), first_sound w (suc next) gs os h (omega (arith, le)))

  pairs_made : (w : Made) (pairs : List (Const × Const)) → AllByRecursion (IsMadePair w) (map (λ (q : Const × Const). (val_of q.0, val_of q.1)) pairs)
  pairs_made w [] = tt
  pairs_made w (q ∷ pairs) = ((const_made w q.0, const_made w q.1), pairs_made w pairs)

  started : IsSound u (start u)
  started =
      let w : Made = made (start u) in
      record {
        store = record { pairs = pairs_made w u.shared.pairs.items; vectors = tt };
        locations = tt;
        closures = first_enter w (definitions_of u) (all_enter w 0 u.shared.globals.items);
        objects = tt;
        globals = first_sound w 0 u.shared.globals.items (definitions_of u) (fit 0 u.shared.globals.items (λ k. ap (λ (i : ℕ). slice_get u.shared.globals.items i) (let i : 0 + k ≡ k = omega arith in i))) (omega arith);
      }

  -- ---- forms

  named_fine : (g : ℕ) (s : State) (P : Global1 → Type 0) → IsSound u s → IsSomeAnd (slice_get u.shared.globals.items g) P → Fine u s (name_of_global u g s)
  named_fine g s P sound h = let r = some_there P (slice_get u.shared.globals.items g) h in there_fine u s (slice_get u.shared.globals.items g) r.0 _ r.1 (gives u s (SymbolV (r.0).name.0) sound tt)

  stored_fine : (g : ℕ) (s : State) (o : Outcome) (P : Global1 → Type 0) → Fine u s o → IsSomeAnd (slice_get u.shared.globals.items g) P → Fine u s (storing u g o)
  stored_fine g s o P h k = value_fine u s o _ h (λ t v r. named_fine g (with_global_at t g v) P (global_sound u (made t) t g v r.sound r.value) k)

  gives_fine : (kind : FormKind) (nodes : List Core) (place : ℕ) (l : Option Procedure) (root : State → Outcome) (s : State) → IsDefinition u.shared kind nodes place → IsSound u s → (0 < length nodes → Fine u s (root s))
      → Fine u s (form_gives u kind l root s)
  gives_fine (Define g) nodes place (Some f) root s d sound h = named_fine g s _ sound d.1
  gives_fine (Define g) nodes place None root s d sound h = stored_fine g s (root s) _ (h d.0) d.1
  gives_fine (Lset g) nodes place l root s d sound h = stored_fine g s (root s) _ (h d.0) d.1
  gives_fine (Operation o) nodes place l root s d sound h =
      let r = some_there _ (slice_get u.shared.ops.items o) d.1 in there_fine u s (slice_get u.shared.ops.items o) r.0 _ r.1 (gives u s (SymbolV (r.0).name.0) sound tt)
  gives_fine Plain nodes place l root s d sound h = h d

  form_fine : (n at : ℕ) (form : Form) (s : State) → slice_get u.forms.items at ≡ Some form → IsSound u s → Fine u s (run_form p n at form s)
  form_fine n at form s there sound =
      gives_fine form.kind form.nodes.items form.root (lambda_of at form) _ s
      (all_at (λ (x : Form). IsDefinition u.shared x.kind x.nodes.items x.root) u.forms.items at form whole.definitions.forms there) sound
      (λ some. tasks_keep_sound p whole n 1 (Evaluate form.root (record { form = at; tail = false; env = [] })) s sound
      (record {
        scope = [];
        at = record { nodes = form; there = there; depth = length form.nodes.items; tail = false; scoped = all_at IsScoped u.forms.items at form whole.scopes.used there some };
        covers = λ x k. absurd (let lt : k.0 < 0 = k.1 in omega (arith, lt));
        locations = tt;
      }))

  forms_fine : (n at : ℕ) (forms : List Form) (s : State) (v : Val) → IsSound u s → IsMade (made s) v → ((k : ℕ) → slice_get u.forms.items (at + k) ≡ slice_get forms k) → Fine u s (run_forms p n at forms s v)
  forms_fine n at [] s v sound h there = gives u s v sound h
  forms_fine n at (form ∷ forms) s v sound h there =
      value_fine u s (run_form p n at form (working 1 s)) _
      (form_fine n at form (working 1 s) (subst (λ (k : ℕ). slice_get u.forms.items k ≡ Some form) (let i : at + 0 ≡ at = omega arith in i) (there 0)) (working_sound u (made s) 1 s sound))
      (λ t w r. forms_fine n (suc at) forms t w r.sound r.value (λ k. subst (λ (i : ℕ). slice_get u.forms.items i ≡ slice_get forms k) (let i : at + suc k ≡ suc at + k = omega arith in i) (there (suc k))))

pub start_is_sound : StartIsSound
start_is_sound u whole = started (marked u (λ form node. true)) whole

pub unit_keeps_sound : UnitKeepsSound
unit_keeps_sound p whole n =
    forms_fine p whole n 0 p.unit.forms.items (start p.unit) NilV (started p whole) tt (λ k. ap (λ (i : ℕ). slice_get p.unit.forms.items i) (let i : 0 + k ≡ k = omega arith in i))

-- ---- the end

ends_for : (u : UnitCore) (w : Made) (o : Outcome) → IsSoundOutcome u w o → (observed o).end ≡ Some (runs.Faulted Unbound) → (s : State) × (o ≡ Faulted s Unbound) × LacksGlobal u s
ends_for u w (Value s v) h e = absurd (let never : Some (runs.Value (shown_of s.store v)) ≡ Some (runs.Faulted Unbound) = e in cc)
ends_for u w (Escaping s i v) h e = absurd (let never : Some runs.Broken ≡ Some (runs.Faulted Unbound) = e in cc)
ends_for u w (Faulted s fault) h e =
    let is : fault ≡ Unbound = (let q : Some (runs.Faulted fault) ≡ Some (runs.Faulted Unbound) = e in cc) in
    (s, ap (λ (f : Fault). Faulted s f) is, subst (λ (f : Fault). IsSoundOutcome u w (Faulted s f)) is h refl)
ends_for u w (Out s) h e = none_some _ e

pub unbound_is_a_global : UnboundIsAGlobal
unbound_is_a_global u escapes whole n e =
    let r = ends_for u (made (start u)) (outcome (marked u escapes) n) (unit_keeps_sound (marked u escapes) whole n) e in
    record { state = r.0; ends = r.1; lacks = r.2 }
