-- An escape stays inside its CATCH: one lemma for each way of going on.
use Rattle.std.specs.Prelude.{◌==◌, IsTrue}
use Rattle.std.specs.List.{list_any}
use Rattle.std.proofs.Common.{◌≡◌, ℕ, zero, suc, List, [], ◌∷◌, length, replicate, Option, Some, None, Bool, true, false, ◌||◌, slice_get, refl, sym, ap, subst}
use Rattle.t_base.specs.declared.faults.Fault.{Fault}
use Rattle.t_base.specs.declared.faults.Fault.TheVariants.{WrongCount, DeadEscape}
use Rattle.t_core.specs.declared.forms.Core.{Core}
use Rattle.t_core.specs.declared.forms.Core.TheVariants as Node
use Rattle.t_core.specs.declared.forms.FormKind.{FormKind}
use Rattle.t_core.specs.declared.forms.FormKind.TheVariants.{Define, Lset, Operation, Plain}
use Rattle.t_core.specs.declared.forms.Form.{Form}
use Rattle.program_runs.specs.Runs.{End, IsProper}
use Rattle.program_runs.specs.Runs as runs
use Rattle.t_prim.specs.Values.{shown_of, Val, FixV, CharV, NilV, TrueV, SymbolV, StringV, PairV, VectorV, ClosureV, ObjectV, OperationV, BuiltinV, EscapeV}
use Rattle.t_prim.specs.Operands.{Row, Gives, Changes, Faults}
use Rattle.t_prim.specs.Table.{row}
use Rattle.t_meaning.specs.Programs.{Program, marked, node_at}
use Rattle.t_meaning.specs.Environment.{location_of}
use Rattle.t_meaning.specs.State.{Procedure, State, with_live, with_locations, with_location_at, with_global_at, working, taking, entered}
use Rattle.t_meaning.specs.Costs.{binding_words}
use Rattle.t_meaning.specs.Outcomes.{Outcome, Value, Escaping, Faulted, Out, Context, under, Task, Evaluate, Apply, Enter, Doing, with_value, provided, or_unbound, after_row, early, last, with_values}
use Rattle.t_meaning.specs.Bindings.{filling}
use Rattle.t_meaning.specs.Catches.{opened, arrived, closed, escape}
use Rattle.t_meaning.specs.Operations.{handlers_at, looked_at, chosen, default_of, handled, operate, lambda_of}
use Rattle.t_meaning.specs.Application.{enter, apply}
use Rattle.t_meaning.specs.Expressions.{with_global, in_order, evaluate}
use Rattle.t_meaning.specs.Performing.{act, perform}
use Rattle.t_meaning.specs.Units.{name_of_global, form_gives, run_forms, start, outcome, observed}
use Rattle.t_meaning.specs.CatchLaws.{StaysInside, TasksStayInside, UnitStaysInside, EndsAreProper}

-- from every state with these live catches
abbrev FromLive : List ℕ → (State → Outcome) → Type 0
FromLive live f = (s : State) → s.live ≡ live → StaysInside live (f s)

-- ---- going on

value_stays : (live : List ℕ) (o : Outcome) (rest : State → Val → Outcome) → StaysInside live o → ((v : Val) → FromLive live (λ s. rest s v)) → StaysInside live (with_value o rest)
value_stays live (Value s v) rest h k = k v s h
value_stays live (Escaping s i v) rest h k = h
value_stays live (Faulted s fault) rest h k = tt
value_stays live (Out s) rest h k = tt

provided_stays : (live : List ℕ) (t : Bool) (fault : Fault) (rest : State → Outcome) → FromLive live rest → FromLive live (λ s. provided t fault s rest)
provided_stays live true fault rest k s e = k s e
provided_stays live false fault rest k s e = tt

unbound_stays : {X : Type 0} (live : List ℕ) (o : Option X) (s : State) (rest : X → Outcome) → ((x : X) → StaysInside live (rest x)) → StaysInside live (or_unbound o s rest)
unbound_stays live None s rest k = tt
unbound_stays live (Some x) s rest k = k x

after_stays : (live : List ℕ) (r : Row) → FromLive live (λ s. after_row s r)
after_stays live (Gives v) s e = e
after_stays live (Changes t v) s e = e
after_stays live (Faults fault) s e = tt

-- the catch ends whose body had it and the outer ones
closed_stays : (i : ℕ) (outer : List ℕ) (o : Outcome) → StaysInside (i ∷ outer) o → StaysInside outer (closed i outer o)
closed_stays i outer (Value s v) h = refl
closed_stays i outer (Escaping s j v) h = by_test (i == j) h
  where
    by_test : (t : Bool) → IsTrue (t || list_any (λ k. k == j) outer) → StaysInside outer (arrived t (with_live s outer) j v)
    by_test true h = refl
    by_test false h = h
closed_stays i outer (Faulted s fault) h = tt
closed_stays i outer (Out s) h = tt

escape_stays : (live : List ℕ) (i : ℕ) (args : List Val) → FromLive live (escape i args)
escape_stays live i [] s e = tt
escape_stays live i (v ∷ []) s e = by_test (list_any (λ j. j == i) s.live) (ap (λ l. list_any (λ j. j == i) l) e)
  where
    by_test : (t : Bool) → t ≡ list_any (λ j. j == i) live → StaysInside live (provided t DeadEscape s (λ u. Escaping u i v))
    by_test true same = sym same
    by_test false same = tt
escape_stays live i (v ∷ w ∷ vs) s e = tt

-- ---- parts

abbrev AllStay : Doing → Type 0
AllStay f = (live : List ℕ) (d : ℕ) (task : Task) → FromLive live (f d task)

module _ (p : Program) (f : Doing) (all : AllStay f) (live : List ℕ) where
  early_stays : (d : ℕ) (c : Context) (k : ℕ) → FromLive live (early f d c k)
  early_stays d c k = all live (suc d) (Evaluate k (record c { tail = false }))

  last_stays : (d : ℕ) (c : Context) (k : ℕ) → FromLive live (last f d c k)
  last_stays d c k = all live _ (Evaluate k c)

  values_stay : (d : ℕ) (c : Context) (ks : List ℕ) (rest : State → List Val → Outcome) → ((vs : List Val) → FromLive live (λ s. rest s vs)) → FromLive live (λ s. with_values f d c ks s rest)
  values_stay d c [] rest k s e = k [] s e
  values_stay d c (j ∷ ks) rest k s e = value_stays live _ _ (early_stays d c j s e) (λ v t h. values_stay d c ks (λ u vs. rest u (v ∷ vs)) (λ vs. k (v ∷ vs)) t h)

  filling_stays : (d : ℕ) (c : Context) (l : ℕ) (ks : List ℕ) (rest : State → Outcome) → FromLive live rest → FromLive live (λ s. filling f d c l ks s rest)
  filling_stays d c l [] rest k s e = k s e
  filling_stays d c l (j ∷ ks) rest k s e = value_stays live _ _ (early_stays d c j s e) (λ v t h. filling_stays d c (suc l) ks rest k (with_location_at t l v) h)

  order_stays : (d : ℕ) (c : Context) (ks : List ℕ) → FromLive live (in_order f d c ks)
  order_stays d c [] s e = e
  order_stays d c (k ∷ []) s e = last_stays d c k s e
  order_stays d c (k ∷ next ∷ ks) s e = value_stays live _ _ (early_stays d c k s e) (λ v t h. order_stays d c (next ∷ ks) t h)

  enter_stays : (d : ℕ) (h : Procedure) (args : List Val) → FromLive live (enter p f d h args)
  enter_stays d h args =
      provided_stays live (length h.params == length args) WrongCount _
      (λ s e. all live d (Evaluate h.body _) (taking (binding_words p.unit h.params) (with_locations s args)) e)

  handled_stays : (d : ℕ) (o : Option Procedure) (args : List Val) → FromLive live (handled f d o args)
  handled_stays d None args s e = tt
  handled_stays d (Some h) args s e = all live d (Enter h args) s e

  operate_stays : (d o : ℕ) (args : List Val) → FromLive live (operate p f d o args)
  operate_stays d o [] s e = tt
  operate_stays d o (v ∷ vs) s e = handled_stays d (chosen o (handlers_at s v) (default_of p.unit o)) (v ∷ vs) (working (looked_at o (handlers_at s v)) s) e

  apply_stays : (d : ℕ) (v : Val) (args : List Val) → FromLive live (apply p f d v args)
  apply_stays d (ClosureV i) args s e = unbound_stays live (slice_get s.closures i) s _ (λ h. enter_stays d h args s e)
  apply_stays d (ObjectV i) args s e = unbound_stays live (slice_get s.objects i) s _ (λ object. all live d (Apply object.procedure args) s e)
  apply_stays d (OperationV o) args s e = operate_stays d o args s e
  apply_stays d (BuiltinV b) args s e = after_stays live (row b args s.store) s e
  apply_stays d (EscapeV i) args s e = escape_stays live i args s e
  apply_stays d (FixV x) args s e = tt
  apply_stays d (CharV x) args s e = tt
  apply_stays d NilV args s e = tt
  apply_stays d TrueV args s e = tt
  apply_stays d (SymbolV x) args s e = tt
  apply_stays d (StringV x) args s e = tt
  apply_stays d (PairV x) args s e = tt
  apply_stays d (VectorV x) args s e = tt

  global_stays : (g : ℕ) (s : State) (rest : Val → Outcome) → ((v : Val) → StaysInside live (rest v)) → StaysInside live (with_global g s rest)
  global_stays g s rest k = unbound_stays live (slice_get s.globals g) s _ (λ o. unbound_stays live o s rest k)

  evaluate_stays : (d at : ℕ) (c : Context) (node : Option Core) → FromLive live (evaluate p f d at c node)
  evaluate_stays d at c None s e = tt
  evaluate_stays d at c (Some (Node.Const k)) s e = e
  evaluate_stays d at c (Some (Node.Local x)) s e = unbound_stays live (location_of c.env x.0) s _ (λ l. unbound_stays live (slice_get s.locations l) s _ (λ v. e))
  evaluate_stays d at c (Some (Node.Global g)) s e = global_stays g s _ (λ v. e)
  evaluate_stays d at c (Some (Node.Builtin b)) s e = e
  evaluate_stays d at c (Some (Node.Op o)) s e = e
  evaluate_stays d at c (Some (Node.Lambda params body)) s e = e
  evaluate_stays d at c (Some (Node.If test first second)) s e = value_stays live _ _ (early_stays d c test s e) (λ v t h. last_stays d c _ t h)
  evaluate_stays d at c (Some (Node.Block items)) s e = order_stays d c items s e
  evaluate_stays d at c (Some (Node.Let vars values body)) s e =
      values_stay d c values _ (λ vs t h. last_stays d (under _ c) body (taking (binding_words p.unit vars) (with_locations t vs)) h) s e
  evaluate_stays d at c (Some (Node.Labels vars lambdas body)) s e =
      filling_stays d (under _ c) (length s.locations) lambdas _ (last_stays d (under _ c) body) (taking (binding_words p.unit vars) (with_locations s (replicate (length vars) NilV))) e
  evaluate_stays d at c (Some (Node.SetLocal x value)) s e =
      value_stays live _ _ (early_stays d c value s e) (λ v t h. unbound_stays live (location_of c.env x.0) t _ (λ l. h))
  evaluate_stays d at c (Some (Node.SetGlobal g value)) s e =
      value_stays live _ _ (early_stays d c value s e) (λ v t h. global_stays g t _ (λ old. h))
  evaluate_stays d at c (Some (Node.Catch x body)) s e =
      let inside = all (s.catches ∷ s.live) (suc (suc d)) (Evaluate body _) (taking (binding_words p.unit (x ∷ [])) (with_locations (opened s) (EscapeV s.catches ∷ []))) refl in
      let P : List ℕ → Type 0 = λ l. StaysInside l (evaluate p f d at c (Some (Node.Catch x body)) s) in
      subst P e (closed_stays s.catches s.live _ inside)
  evaluate_stays d at c (Some (Node.Object proc methods)) s e = value_stays live _ _ (early_stays d c proc s e) (λ v t h. h)
  evaluate_stays d at c (Some (Node.Call operator operands tail)) s e =
      value_stays live _ _ (early_stays d c operator s e) (λ v t h. values_stay d c operands _ (λ args u k. all live d (Apply v args) u k) t h)
  evaluate_stays d at c (Some (Node.Prim b operands)) s e = values_stay d c operands _ (λ args t h. after_stays live (row b args t.store) t h) s e

  act_stays : (d : ℕ) (task : Task) → FromLive live (act p f d task)
  act_stays d (Evaluate node c) s e = evaluate_stays d node c (node_at p.unit c.form node) s e
  act_stays d (Apply operator operands) s e = apply_stays d operator operands s e
  act_stays d (Enter procedure operands) s e = enter_stays d procedure operands s e

tasks_stay : (p : Program) (n : ℕ) → AllStay (perform p n)
tasks_stay p zero live d task s e = tt
tasks_stay p (suc n) live d task s e = act_stays p (perform p n) (tasks_stay p n) live d task (entered d s) e

pub tasks_stay_inside : TasksStayInside
tasks_stay_inside p n d task s = tasks_stay p n s.live d task s refl

-- ---- forms and units

module _ (p : Program) (live : List ℕ) where
  named_stays : (g : ℕ) → FromLive live (name_of_global p.unit g)
  named_stays g s e = unbound_stays live (slice_get p.unit.shared.globals.items g) s _ (λ info. e)

  gives_stays : (kind : FormKind) (l : Option Procedure) (root : State → Outcome) → FromLive live root → FromLive live (form_gives p.unit kind l root)
  gives_stays (Define g) (Some f) root k s e = named_stays g s e
  gives_stays (Define g) None root k s e = value_stays live _ _ (k s e) (λ v t h. named_stays g (with_global_at t g v) h)
  gives_stays (Lset g) l root k s e = value_stays live _ _ (k s e) (λ v t h. named_stays g (with_global_at t g v) h)
  gives_stays (Operation o) l root k s e = unbound_stays live (slice_get p.unit.shared.ops.items o) s _ (λ info. e)
  gives_stays Plain l root k s e = k s e

  forms_stay : (n at : ℕ) (forms : List Form) (v : Val) → FromLive live (λ s. run_forms p n at forms s v)
  forms_stay n at [] v s e = e
  forms_stay n at (form ∷ forms) v s e =
      value_stays live _ _ (gives_stays form.kind (lambda_of at form) _ (tasks_stay p n live 1 (Evaluate form.root _)) (working 1 s) e) (λ w t h. forms_stay n (suc at) forms w t h)

pub unit_stays_inside : UnitStaysInside
unit_stays_inside p n = forms_stay p [] n 0 p.unit.forms.items NilV (start p.unit) refl

observed_proper : (o : Outcome) → StaysInside [] o → (e : End) → (observed o).end ≡ Some e → IsProper e
observed_proper (Value s v) h e is = let same : e ≡ runs.Value (shown_of s.store v) = cc in subst IsProper (sym same) tt
observed_proper (Escaping s i v) h e is = absurd (let never : IsTrue false = h in cc)
observed_proper (Faulted s fault) h e is = let same : e ≡ runs.Faulted fault = cc in subst IsProper (sym same) tt
observed_proper (Out s) h e is = absurd (let never : None ≡ Some e = is in cc)

pub ends_are_proper : EndsAreProper
ends_are_proper unit escapes n e is = observed_proper (outcome (marked unit escapes) n) (unit_stays_inside (marked unit escapes) n) e is
