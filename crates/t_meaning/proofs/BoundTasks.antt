-- A task, a form and a unit under a greater bound.
use Rattle.std.specs.Prelude.{◌==◌}
use Rattle.std.proofs.Common.{◌≡◌, ℕ, zero, suc, ◌+◌, ◌≤◌, List, [], ◌∷◌, length, Option, Some, None, true, false, slice_get, refl, sym, subst, arith}
use Rattle.t_base.specs.declared.faults.Fault.TheVariants.{WrongCount}
use Rattle.t_base.specs.declared.builtins.Builtin.{Builtin}
use Rattle.t_core.specs.declared.forms.Core.{Core}
use Rattle.t_core.specs.declared.forms.Core.TheVariants as Node
use Rattle.t_core.specs.declared.forms.FormKind.{FormKind}
use Rattle.t_core.specs.declared.forms.FormKind.TheVariants.{Define, Lset, Operation, Plain}
use Rattle.t_core.specs.declared.forms.Form.{Form}
use Rattle.t_core.specs.declared.forms.UnitCore.{UnitCore}
use Rattle.program_runs.specs.Runs.{End, Observation}
use Rattle.program_runs.proofs.Prefixes.{prefix_refl}
use Rattle.program_runs.specs.Follows.{Grows, IsSteady}
use Rattle.t_prim.specs.Values.{Val, FixV, CharV, NilV, TrueV, SymbolV, StringV, PairV, VectorV, ClosureV, ObjectV, OperationV, BuiltinV, EscapeV}
use Rattle.t_prim.specs.Table.{row}
use Rattle.t_prim.proofs.RowLaws.{row_grows}
use Rattle.t_meaning.specs.Programs.{Marking, Program, marked, node_at}
use Rattle.t_meaning.specs.Environment.{location_of}
use Rattle.t_meaning.specs.State.{Procedure, Object, State, with_object, with_closure, with_global_at, working, entered}
use Rattle.t_meaning.specs.Outcomes.{Outcome, Value, Escaping, Faulted, Out, Context, under, Task, Evaluate, Apply, Enter, Doing, after_row}
use Rattle.t_meaning.specs.Catches.{opened}
use Rattle.t_meaning.specs.Operations.{handlers_of, handlers_at, looked_at, chosen, default_of, handled, operate, lambda_of}
use Rattle.t_meaning.specs.Application.{enter, apply}
use Rattle.t_meaning.specs.Expressions.{with_global, closing, creating, in_order, evaluate}
use Rattle.t_meaning.specs.Performing.{act, perform}
use Rattle.t_meaning.specs.Units.{name_of_global, storing, form_gives, run_forms, start, outcome, observed, meaning}
use Rattle.t_meaning.specs.BoundLaws.{seen, IsWithin, state_of, Extends}
use Rattle.t_meaning.proofs.BoundLemmas.{within_refl, within_trans, Adds, taking_adds, working_adds, entered_adds, opened_adds, row_adds, Extended, extended_refl, unchanged, extended_from, value_extended, provided_extended, unbound_extended, AllExtended, early_extended, last_extended, values_extended, filling_extended, binding_extended, closed_extended, escape_extended}

pub row_extended : (s : State) (b : Builtin) (args : List Val) → Extended s (after_row s (row b args s.store)) (after_row s (row b args s.store))
row_extended s b args = extended_refl s _ (row_adds s _ (row_grows b args s.store))

module _ (f g : Doing) (all : AllExtended f g) (p : Program) where
  enter_extended : (d : ℕ) (h : Procedure) (args : List Val) (s : State) → Extended s (enter p f d h args s) (enter p g d h args s)
  enter_extended d h args s =
      provided_extended (length h.params == length args) WrongCount s _ _ (binding_extended p h.params args h.env s _ _ (λ env t. all d (Evaluate h.body (record { form = h.form; tail = true; env = env })) t))

  handled_extended : (d : ℕ) (o : Option Procedure) (args : List Val) (s : State) → Extended s (handled f d o args s) (handled g d o args s)
  handled_extended d None args s = unchanged s _ refl
  handled_extended d (Some h) args s = all d (Enter h args) s

  operate_extended : (d o : ℕ) (args : List Val) (s : State) → Extended s (operate p f d o args s) (operate p g d o args s)
  operate_extended d o [] s = unchanged s _ refl
  operate_extended d o (v ∷ vs) s =
      extended_from s (working (looked_at o (handlers_at s v)) s) _ _ (working_adds _ s) (handled_extended d (chosen o (handlers_at s v) (default_of p.unit o)) (v ∷ vs) _)

  apply_extended : (d : ℕ) (v : Val) (args : List Val) (s : State) → Extended s (apply p f d v args s) (apply p g d v args s)
  apply_extended d (ClosureV i) args s = unbound_extended (slice_get s.closures i) s _ _ (λ h. enter_extended d h args s)
  apply_extended d (ObjectV i) args s = unbound_extended (slice_get s.objects i) s _ _ (λ object. all d (Apply object.procedure args) s)
  apply_extended d (OperationV o) args s = operate_extended d o args s
  apply_extended d (BuiltinV b) args s = row_extended s b args
  apply_extended d (EscapeV i) args s = escape_extended i args s
  apply_extended d (FixV x) args s = unchanged s _ refl
  apply_extended d (CharV x) args s = unchanged s _ refl
  apply_extended d NilV args s = unchanged s _ refl
  apply_extended d TrueV args s = unchanged s _ refl
  apply_extended d (SymbolV x) args s = unchanged s _ refl
  apply_extended d (StringV x) args s = unchanged s _ refl
  apply_extended d (PairV x) args s = unchanged s _ refl
  apply_extended d (VectorV x) args s = unchanged s _ refl

  order_extended : (d : ℕ) (c : Context) (ks : List ℕ) (s : State) → Extended s (in_order f d c ks s) (in_order g d c ks s)
  order_extended d c [] s = unchanged s _ refl
  order_extended d c (k ∷ []) s = last_extended f g all d c k s
  order_extended d c (k ∷ next ∷ ks) s = value_extended s _ _ _ _ (early_extended f g all d c k s) (λ t v. order_extended d c (next ∷ ks) t)

  global_extended : (k : ℕ) (s : State) (h : Val → Outcome) → ((v : Val) → Extended s (h v) (h v)) → Extended s (with_global k s h) (with_global k s h)
  global_extended k s h x = unbound_extended (slice_get s.globals k) s _ _ (λ o. unbound_extended o s _ _ x)

  closing_adds : (node : ℕ) (h : Procedure) (s : State) → Adds s (closing p node h s)
  closing_adds node h s = taking_adds _ (with_closure s h)

  creating_adds : (object : Object) (s : State) → Adds s (creating p object s)
  creating_adds object s = taking_adds _ (with_object s object)

  evaluate_extended : (d at : ℕ) (c : Context) (node : Option Core) (s : State) → Extended s (evaluate p f d at c node s) (evaluate p g d at c node s)
  evaluate_extended d at c None s = unchanged s _ refl
  evaluate_extended d at c (Some (Node.Const k)) s = unchanged s _ refl
  evaluate_extended d at c (Some (Node.Local x)) s =
      unbound_extended (location_of c.env x.0) s _ _ (λ l. unbound_extended (slice_get s.locations l) s _ _ (λ v. unchanged s _ refl))
  evaluate_extended d at c (Some (Node.Global k)) s = global_extended k s _ (λ v. unchanged s _ refl)
  evaluate_extended d at c (Some (Node.Builtin b)) s = unchanged s _ refl
  evaluate_extended d at c (Some (Node.Op o)) s = unchanged s _ refl
  evaluate_extended d at c (Some (Node.Lambda params body)) s = extended_refl s _ (closing_adds at (record { params = params; form = c.form; body = body; env = c.env }) s)
  evaluate_extended d at c (Some (Node.If test first second)) s = value_extended s _ _ _ _ (early_extended f g all d c test s) (λ t v. last_extended f g all d c _ t)
  evaluate_extended d at c (Some (Node.Block items)) s = order_extended d c items s
  evaluate_extended d at c (Some (Node.Let vars values body)) s =
      values_extended f g all d c values s _ _ (λ t vs. binding_extended p vars vs c.env t _ _ (λ env u. last_extended f g all d (under env c) body u))
  evaluate_extended d at c (Some (Node.Labels vars lambdas body)) s =
      binding_extended p vars _ c.env s _ _
      (λ env t. filling_extended f g all d (under env c) (length s.locations) lambdas t _ _ (λ u. last_extended f g all d (under env c) body u))
  evaluate_extended d at c (Some (Node.SetLocal x value)) s =
      value_extended s _ _ _ _ (early_extended f g all d c value s) (λ t v. unbound_extended (location_of c.env x.0) t _ _ (λ l. unchanged t _ refl))
  evaluate_extended d at c (Some (Node.SetGlobal k value)) s =
      value_extended s _ _ _ _ (early_extended f g all d c value s) (λ t v. global_extended k t _ (λ old. unchanged t _ refl))
  evaluate_extended d at c (Some (Node.Catch x body)) s =
      closed_extended s.catches s.live s _ _ (extended_from s (opened s) _ _ (opened_adds s) (binding_extended p (x ∷ []) (EscapeV s.catches ∷ []) c.env (opened s) _ _ (λ env t. all (suc (suc d)) (Evaluate body (record c { tail = false; env = env })) t)))
  evaluate_extended d at c (Some (Node.Object proc methods)) s =
      value_extended s _ _ _ _ (early_extended f g all d c proc s) (λ t v. extended_refl t _ (creating_adds (record { procedure = v; handlers = handlers_of methods c }) t))
  evaluate_extended d at c (Some (Node.Call operator operands tail)) s =
      value_extended s _ _ _ _ (early_extended f g all d c operator s) (λ t h. values_extended f g all d c operands t _ _ (λ u args. all d (Apply h args) u))
  evaluate_extended d at c (Some (Node.Prim b operands)) s = values_extended f g all d c operands s _ _ (λ t args. row_extended t b args)

  act_extended : AllExtended (act p f) (act p g)
  act_extended d (Evaluate node c) s = evaluate_extended d node c (node_at p.unit c.form node) s
  act_extended d (Apply operator operands) s = apply_extended d operator operands s
  act_extended d (Enter procedure operands) s = enter_extended d procedure operands s

pub task_adds : (p : Program) (n d : ℕ) (task : Task) (s : State) → Adds s (perform p n d task s)
task_adds p zero d task s = within_refl (seen s)
task_adds p (suc n) d task s =
    within_trans _ _ _ (entered_adds d s) (act_extended (perform p n) (perform p n) (λ e t u. extended_refl u _ (task_adds p n e t u)) p d task (entered d s)).low

tasks_extended : (p : Program) (n m : ℕ) → n ≤ m → AllExtended (perform p n) (perform p m)
tasks_extended p zero m le d task s = record { low = within_refl (seen s); high = task_adds p m d task s; extends = task_adds p m d task s }
tasks_extended p (suc n) zero le d task s = absurd (omega arith)
tasks_extended p (suc n) (suc m) le d task s =
    extended_from s (entered d s) _ _ (entered_adds d s) (act_extended (perform p n) (perform p m) (tasks_extended p n m (omega arith)) p d task (entered d s))

pub task_extends : (p : Program) (n k d : ℕ) (task : Task) (s : State) → Extends (perform p n d task s) (perform p (n + k) d task s)
task_extends p n k d task s = (tasks_extended p n (n + k) (omega arith) d task s).extends

-- ---- forms

module _ (p : Program) where
  named_extended : (g : ℕ) (s : State) → Extended s (name_of_global p.unit g s) (name_of_global p.unit g s)
  named_extended g s = unbound_extended (slice_get p.unit.shared.globals.items g) s _ _ (λ info. unchanged s _ refl)

  storing_extended : (g : ℕ) (s : State) (o q : Outcome) → Extended s o q → Extended s (storing p.unit g o) (storing p.unit g q)
  storing_extended g s o q x = value_extended s o q _ _ x (λ t v. extended_from t (with_global_at t g v) _ _ (within_refl _) (named_extended g (with_global_at t g v)))

  gives_extended : (kind : FormKind) (l : Option Procedure) (f g : State → Outcome) (s : State) → Extended s (f s) (g s) → Extended s (form_gives p.unit kind l f s) (form_gives p.unit kind l g s)
  gives_extended (Define g) (Some h) a b s x = named_extended g s
  gives_extended (Define g) None a b s x = storing_extended g s _ _ x
  gives_extended (Lset g) l a b s x = storing_extended g s _ _ x
  gives_extended (Operation o) l a b s x = unbound_extended (slice_get p.unit.shared.ops.items o) s _ _ (λ info. unchanged s _ refl)
  gives_extended Plain l a b s x = x

  forms_extended : (n m at : ℕ) → n ≤ m → (forms : List Form) (s : State) (v : Val) → Extended s (run_forms p n at forms s v) (run_forms p m at forms s v)
  forms_extended n m at le [] s v = unchanged s _ refl
  forms_extended n m at le (form ∷ forms) s v =
      extended_from s (working 1 s) _ _ (working_adds 1 s)
      (value_extended (working 1 s) _ _ _ _ (gives_extended form.kind (lambda_of at form) _ _ (working 1 s) (tasks_extended p n m le 1 (Evaluate form.root (record { form = at; tail = false; env = [] })) (working 1 s)))
      (λ t w. forms_extended n m (suc at) le forms t w))

-- ---- a unit

pub unit_extends : (p : Program) (n k : ℕ) → Extends (outcome p n) (outcome p (n + k))
unit_extends p n k = (forms_extended p n (n + k) 0 (omega arith) p.unit.forms.items (start p.unit) NilV).extends

record SeenBelow (x y : Observation) : Type 0 where
  grows : Grows x y
  waits : x.waiting ≤ y.waiting

below_refl : (x : Observation) → SeenBelow x x
below_refl x = record { grows = record { output = prefix_refl x.output; heap = omega arith; moves = omega arith; ended = λ e h. refl }; waits = omega arith }

none_some : (e : End) → None ≡ Some e → ⊥
none_some e h = cc

-- out of its bound
out_below : (s : State) (o : Outcome) → IsWithin (seen s) (seen (state_of o)) → SeenBelow (observed (Out s)) (observed o)
out_below s (Value t v) h = record { grows = record { output = h.output; heap = h.heap; moves = h.work; ended = λ e x. absurd (none_some e x) }; waits = h.deepest }
out_below s (Escaping t i v) h = record { grows = record { output = h.output; heap = h.heap; moves = h.work; ended = λ e x. absurd (none_some e x) }; waits = h.deepest }
out_below s (Faulted t fault) h = record { grows = record { output = h.output; heap = h.heap; moves = h.work; ended = λ e x. absurd (none_some e x) }; waits = h.deepest }
out_below s (Out t) h = record { grows = record { output = h.output; heap = h.heap; moves = h.work; ended = λ e x. absurd (none_some e x) }; waits = h.deepest }

observed_below : (o q : Outcome) → Extends o q → SeenBelow (observed o) (observed q)
observed_below (Value s v) q h = subst (λ r. SeenBelow (observed (Value s v)) (observed r)) (sym h) (below_refl _)
observed_below (Escaping s i v) q h = subst (λ r. SeenBelow (observed (Escaping s i v)) (observed r)) (sym h) (below_refl _)
observed_below (Faulted s fault) q h = subst (λ r. SeenBelow (observed (Faulted s fault)) (observed r)) (sym h) (below_refl _)
observed_below (Out s) q h = out_below s q h

meaning_below : (unit : UnitCore) (escapes : Marking) (n k : ℕ) → SeenBelow (meaning unit escapes n) (meaning unit escapes (n + k))
meaning_below unit escapes n k = let p = marked unit escapes in observed_below (outcome p n) (outcome p (n + k)) (unit_extends p n k)

pub meaning_is_steady : (unit : UnitCore) (escapes : Marking) → IsSteady (meaning unit escapes)
meaning_is_steady unit escapes n k = (meaning_below unit escapes n k).grows

pub meaning_waits : (unit : UnitCore) (escapes : Marking) (n k : ℕ) → (meaning unit escapes n).waiting ≤ (meaning unit escapes (n + k)).waiting
meaning_waits unit escapes n k = (meaning_below unit escapes n k).waits
