-- A marking that marks more changes nothing but the words of heap, of which there are no fewer: one lemma for each way of going on.
use Rattle.std.specs.Prelude.{◌==◌, IsTrue}
use Rattle.std.specs.List.{list_any}
use Rattle.std.proofs.Common.{◌≡◌, ℕ, zero, suc, ◌+◌, ◌≤◌, List, [], ◌∷◌, length, replicate, Option, Some, None, Bool, true, false, if◌then◌else◌, slice_get, refl, sym, subst, arith}
use Rattle.t_base.specs.declared.faults.Fault.{Fault}
use Rattle.t_base.specs.declared.faults.Fault.TheVariants.{WrongCount, DeadEscape}
use Rattle.t_base.specs.declared.basics.Var.{Var}
use Rattle.t_base.specs.declared.builtins.Builtin.{Builtin}
use Rattle.t_core.specs.declared.forms.Core.{Core}
use Rattle.t_core.specs.declared.forms.Core.TheVariants as Node
use Rattle.t_core.specs.declared.forms.FormKind.{FormKind}
use Rattle.t_core.specs.declared.forms.FormKind.TheVariants.{Define, Lset, Operation, Plain}
use Rattle.t_core.specs.declared.forms.Form.{Form}
use Rattle.t_core.specs.declared.forms.UnitCore.{UnitCore}
use Rattle.t_prim.specs.Values.{Val, FixV, CharV, NilV, TrueV, SymbolV, StringV, PairV, VectorV, ClosureV, ObjectV, OperationV, BuiltinV, EscapeV}
use Rattle.t_prim.specs.Operands.{Row, Gives, Changes, Faults}
use Rattle.t_prim.specs.Table.{row}
use Rattle.t_meaning.specs.Programs.{Marking, marked, node_at, all_escape}
use Rattle.t_meaning.specs.Environment.{Env, location_of}
use Rattle.t_meaning.specs.State.{Procedure, Object, State, with_store, with_live, with_locations, with_location_at, with_global_at, working, taking, entered}
use Rattle.t_meaning.specs.Costs.{binding_words, record_words, lambda_words}
use Rattle.t_meaning.specs.Outcomes.{Outcome, Value, Escaping, Faulted, Out, Context, under, Task, Evaluate, Apply, Enter, Doing, with_value, provided, or_unbound, after_row, early, last, with_values}
use Rattle.t_meaning.specs.Bindings.{binding, filling}
use Rattle.t_meaning.specs.Catches.{opened, arrived, closed, escape}
use Rattle.t_meaning.specs.Operations.{handlers_of, handlers_at, looked_at, chosen, default_of, handled, operate, lambda_of}
use Rattle.t_meaning.specs.Application.{enter, apply}
use Rattle.t_meaning.specs.Expressions.{with_global, closing, creating, in_order, evaluate}
use Rattle.t_meaning.specs.Performing.{act, perform}
use Rattle.t_meaning.specs.Escape.{lambda_escapes}
use Rattle.t_meaning.specs.Units.{name_of_global, storing, form_gives, run_forms, start, observed}
use Rattle.t_meaning.specs.BoundLaws.{state_of}
use Rattle.program_runs.specs.MoreHeap.{IsAtMost}
use Rattle.t_meaning.specs.CostLaws.{MarksMore, MarksChangeHeapAlone, MeaningIsAtMost}
use Rattle.t_prim.proofs.DearerRows.{store_at, IsDearerRow, row_dearer}

-- ---- more words of heap

abbrev with_heap : ℕ → State → State
with_heap h s = with_store s (store_at h s.store)

abbrev outcome_at : ℕ → Outcome → Outcome
outcome_at h (Value s v) = Value (with_heap h s) v
outcome_at h (Escaping s i v) = Escaping (with_heap h s) i v
outcome_at h (Faulted s fault) = Faulted (with_heap h s) fault
outcome_at h (Out s) = Out (with_heap h s)

-- the second outcome is the first one with no fewer words of heap
record IsDearer (o q : Outcome) : Type 0 where
  words : ℕ
  more : (state_of o).store.heap ≤ words
  same : q ≡ outcome_at words o

dearer : (o : Outcome) (h : ℕ) → (state_of o).store.heap ≤ h → IsDearer o (outcome_at h o)
dearer o h le = record { words = h; more = le; same = refl }

-- from a state with more words of heap before
abbrev FromState : (State → Outcome) → (State → Outcome) → Type 0
FromState f g = (s : State) (h : ℕ) → s.store.heap ≤ h → IsDearer (f s) (g (with_heap h s))

value_dearer : (o q : Outcome) (f g : State → Val → Outcome) → IsDearer o q → ((v : Val) → FromState (λ s. f s v) (λ s. g s v)) → IsDearer (with_value o f) (with_value q g)
value_dearer (Value s v) q f g x k = subst (λ r. IsDearer (f s v) (with_value r g)) (sym x.same) (k v s x.words x.more)
value_dearer (Escaping s i v) q f g x k = subst (λ r. IsDearer (Escaping s i v) (with_value r g)) (sym x.same) (dearer (Escaping s i v) x.words x.more)
value_dearer (Faulted s fault) q f g x k = subst (λ r. IsDearer (Faulted s fault) (with_value r g)) (sym x.same) (dearer (Faulted s fault) x.words x.more)
value_dearer (Out s) q f g x k = subst (λ r. IsDearer (Out s) (with_value r g)) (sym x.same) (dearer (Out s) x.words x.more)

provided_dearer : (t : Bool) (fault : Fault) (f g : State → Outcome) → FromState f g → FromState (λ s. provided t fault s f) (λ s. provided t fault s g)
provided_dearer true fault f g k s h le = k s h le
provided_dearer false fault f g k s h le = dearer (Faulted s fault) h le

unbound_dearer : {X : Type 0} (o : Option X) (s : State) (h : ℕ) → s.store.heap ≤ h → (f g : X → Outcome) → ((x : X) → IsDearer (f x) (g x)) → IsDearer (or_unbound o s f) (or_unbound o (with_heap h s) g)
unbound_dearer None s h le f g k = dearer (or_unbound None s f) h le
unbound_dearer (Some x) s h le f g k = k x

after_dearer : (s : State) (h : ℕ) → s.store.heap ≤ h → (r q : Row) → IsDearerRow r q → IsDearer (after_row s r) (after_row (with_heap h s) q)
after_dearer s h le (Gives v) q e = subst (λ x. IsDearer (Value s v) (after_row (with_heap h s) x)) (sym e) (dearer (Value s v) h le)
after_dearer s h le (Changes t v) q x = subst (λ y. IsDearer (Value (with_store s t) v) (after_row (with_heap h s) y)) (sym x.2) (dearer (Value (with_store s t) v) x.0 x.1)
after_dearer s h le (Faults fault) q e = subst (λ x. IsDearer (Faulted s fault) (after_row (with_heap h s) x)) (sym e) (dearer (Faulted s fault) h le)

builtin_dearer : (b : Builtin) (args : List Val) → FromState (λ s. after_row s (row b args s.store)) (λ s. after_row s (row b args s.store))
builtin_dearer b args s h le = after_dearer s h le _ _ (row_dearer b args s.store h le)

closed_dearer : (i : ℕ) (outer : List ℕ) (o q : Outcome) → IsDearer o q → IsDearer (closed i outer o) (closed i outer q)
closed_dearer i outer (Value s v) q x = subst (λ r. IsDearer (Value (with_live s outer) v) (closed i outer r)) (sym x.same) (dearer (Value (with_live s outer) v) x.words x.more)
closed_dearer i outer (Escaping s j v) q x = subst (λ r. IsDearer (closed i outer (Escaping s j v)) (closed i outer r)) (sym x.same) (by_test (i == j))
  where
    by_test : (t : Bool) → IsDearer (arrived t (with_live s outer) j v) (arrived t (with_live (with_heap x.words s) outer) j v)
    by_test true = dearer (Value (with_live s outer) v) x.words x.more
    by_test false = dearer (Escaping (with_live s outer) j v) x.words x.more
closed_dearer i outer (Faulted s fault) q x = subst (λ r. IsDearer (Faulted s fault) (closed i outer r)) (sym x.same) (dearer (Faulted s fault) x.words x.more)
closed_dearer i outer (Out s) q x = subst (λ r. IsDearer (Out s) (closed i outer r)) (sym x.same) (dearer (Out s) x.words x.more)

escape_dearer : (i : ℕ) (args : List Val) → FromState (λ s. escape i args s) (λ s. escape i args s)
escape_dearer i [] s h le = dearer (Faulted s WrongCount) h le
escape_dearer i (v ∷ []) s h le = provided_dearer (list_any (λ j. j == i) s.live) DeadEscape _ _ (λ t k more. dearer (Escaping t i v) k more) s h le
escape_dearer i (v ∷ w ∷ vs) s h le = dearer (Faulted s WrongCount) h le

-- ---- parts, done by f with fewer marks and by g with more

abbrev AllDearer : Doing → Doing → Type 0
AllDearer f g = (d : ℕ) (task : Task) → FromState (f d task) (g d task)

module _ (f g : Doing) (all : AllDearer f g) where
  values_dearer : (d : ℕ) (c : Context) (ks : List ℕ) (h k : State → List Val → Outcome) → ((vs : List Val) → FromState (λ s. h s vs) (λ s. k s vs)) → FromState (λ s. with_values f d c ks s h) (λ s. with_values g d c ks s k)
  values_dearer d c [] h k x s m le = x [] s m le
  values_dearer d c (j ∷ ks) h k x s m le =
      value_dearer _ _ _ _ (all (suc d) (Evaluate j (record c { tail = false })) s m le)
      (λ v t n more. values_dearer d c ks (λ u vs. h u (v ∷ vs)) (λ u vs. k u (v ∷ vs)) (λ vs. x (v ∷ vs)) t n more)

  filling_dearer : (d : ℕ) (c : Context) (l : ℕ) (ks : List ℕ) (h k : State → Outcome) → FromState h k → FromState (λ s. filling f d c l ks s h) (λ s. filling g d c l ks s k)
  filling_dearer d c l [] h k x s m le = x s m le
  filling_dearer d c l (j ∷ ks) h k x s m le =
      value_dearer _ _ _ _ (all (suc d) (Evaluate j (record c { tail = false })) s m le) (λ v t n more. filling_dearer d c (suc l) ks h k x (with_location_at t l v) n more)

  order_dearer : (d : ℕ) (c : Context) (ks : List ℕ) → FromState (in_order f d c ks) (in_order g d c ks)
  order_dearer d c [] s m le = dearer (Value s NilV) m le
  order_dearer d c (k ∷ []) s m le = all _ (Evaluate k c) s m le
  order_dearer d c (k ∷ next ∷ ks) s m le = value_dearer _ _ _ _ (all (suc d) (Evaluate k (record c { tail = false })) s m le) (λ v t n more. order_dearer d c (next ∷ ks) t n more)

  handled_dearer : (d : ℕ) (o : Option Procedure) (args : List Val) → FromState (handled f d o args) (handled g d o args)
  handled_dearer d None args s m le = dearer (handled f d None args s) m le
  handled_dearer d (Some h) args s m le = all d (Enter h args) s m le

-- ---- tasks

words_at_most : (x y : Bool) (n : ℕ) → (IsTrue x → IsTrue y) → (if x then n else 0) ≤ (if y then n else 0)
words_at_most true true n h = omega arith
words_at_most true false n h = absurd (let e : IsTrue false = h refl in cc)
words_at_most false y n h = omega arith

module _ (u : UnitCore) (a b : Marking) (more : MarksMore a b) where
  binding_dearer : (vars : List Var) (vs : List Val) (env : Env) (h k : Env → State → Outcome) → ((e : Env) → FromState (h e) (k e)) → FromState (λ s. binding (marked u a) vars vs env s h) (λ s. binding (marked u b) vars vs env s k)
  binding_dearer vars vs env h k x s m le = x _ (taking (binding_words u vars) (with_locations s vs)) (m + binding_words u vars) (omega arith)

  closing_dearer : (at : ℕ) (h : Procedure) → FromState (closing (marked u a) at h) (closing (marked u b) at h)
  closing_dearer at h s m le =
      let fewer = words_at_most (a h.form at) (b h.form at) (record_words u) (more h.form at) in
      record { words = m + lambda_words (marked u b) h.form at; more = omega (arith, fewer, le); same = refl }

  creating_dearer : (object : Object) → FromState (creating (marked u a) object) (creating (marked u b) object)
  creating_dearer object s m le = record { words = m + record_words u; more = omega (arith, le); same = refl }

  module _ (f g : Doing) (all : AllDearer f g) where
    enter_dearer : (d : ℕ) (h : Procedure) (args : List Val) → FromState (enter (marked u a) f d h args) (enter (marked u b) g d h args)
    enter_dearer d h args =
        provided_dearer (length h.params == length args) WrongCount _ _ (binding_dearer h.params args h.env _ (λ env. g d (Evaluate h.body (record { form = h.form; tail = true; env = env }))) (λ env. all d (Evaluate h.body (record { form = h.form; tail = true; env = env }))))

    operate_dearer : (d o : ℕ) (args : List Val) → FromState (operate (marked u a) f d o args) (operate (marked u b) g d o args)
    operate_dearer d o [] s m le = dearer (Faulted s WrongCount) m le
    operate_dearer d o (v ∷ vs) s m le = handled_dearer f g all d (chosen o (handlers_at s v) (default_of u o)) (v ∷ vs) (working (looked_at o (handlers_at s v)) s) m le

    apply_dearer : (d : ℕ) (v : Val) (args : List Val) → FromState (apply (marked u a) f d v args) (apply (marked u b) g d v args)
    apply_dearer d (ClosureV i) args s m le = unbound_dearer (slice_get s.closures i) s m le _ _ (λ h. enter_dearer d h args s m le)
    apply_dearer d (ObjectV i) args s m le = unbound_dearer (slice_get s.objects i) s m le _ _ (λ object. all d (Apply object.procedure args) s m le)
    apply_dearer d (OperationV o) args s m le = operate_dearer d o args s m le
    apply_dearer d (BuiltinV x) args s m le = builtin_dearer x args s m le
    apply_dearer d (EscapeV i) args s m le = escape_dearer i args s m le
    apply_dearer d (FixV x) args s m le = dearer (apply (marked u a) f d (FixV x) args s) m le
    apply_dearer d (CharV x) args s m le = dearer (apply (marked u a) f d (CharV x) args s) m le
    apply_dearer d NilV args s m le = dearer (apply (marked u a) f d NilV args s) m le
    apply_dearer d TrueV args s m le = dearer (apply (marked u a) f d TrueV args s) m le
    apply_dearer d (SymbolV x) args s m le = dearer (apply (marked u a) f d (SymbolV x) args s) m le
    apply_dearer d (StringV x) args s m le = dearer (apply (marked u a) f d (StringV x) args s) m le
    apply_dearer d (PairV x) args s m le = dearer (apply (marked u a) f d (PairV x) args s) m le
    apply_dearer d (VectorV x) args s m le = dearer (apply (marked u a) f d (VectorV x) args s) m le

    early_dearer : (d : ℕ) (c : Context) (k : ℕ) → FromState (early f d c k) (early g d c k)
    early_dearer d c k = all (suc d) (Evaluate k (record c { tail = false }))

    last_dearer : (d : ℕ) (c : Context) (k : ℕ) → FromState (last f d c k) (last g d c k)
    last_dearer d c k = all _ (Evaluate k c)

    global_dearer : (k : ℕ) (s : State) (m : ℕ) → s.store.heap ≤ m → (h i : Val → Outcome) → ((v : Val) → IsDearer (h v) (i v)) → IsDearer (with_global k s h) (with_global k (with_heap m s) i)
    global_dearer k s m le h i x = unbound_dearer (slice_get s.globals k) s m le _ _ (λ o. unbound_dearer o s m le h i x)

    evaluate_dearer : (d at : ℕ) (c : Context) (node : Option Core) → FromState (evaluate (marked u a) f d at c node) (evaluate (marked u b) g d at c node)
    evaluate_dearer d at c None s m le = dearer (evaluate (marked u a) f d at c None s) m le
    evaluate_dearer d at c (Some (Node.Const k)) s m le = dearer (evaluate (marked u a) f d at c (Some (Node.Const k)) s) m le
    evaluate_dearer d at c (Some (Node.Local x)) s m le =
        unbound_dearer (location_of c.env x.0) s m le _ _ (λ l. unbound_dearer (slice_get s.locations l) s m le _ _ (λ v. dearer (Value s v) m le))
    evaluate_dearer d at c (Some (Node.Global k)) s m le = global_dearer k s m le _ _ (λ v. dearer (Value s v) m le)
    evaluate_dearer d at c (Some (Node.Builtin x)) s m le = dearer (Value s (BuiltinV x)) m le
    evaluate_dearer d at c (Some (Node.Op o)) s m le = dearer (Value s (OperationV o)) m le
    evaluate_dearer d at c (Some (Node.Lambda params body)) s m le = closing_dearer at (record { params = params; form = c.form; body = body; env = c.env }) s m le
    evaluate_dearer d at c (Some (Node.If test first second)) s m le = value_dearer _ _ _ _ (early_dearer d c test s m le) (λ v. last_dearer d c _)
    evaluate_dearer d at c (Some (Node.Block items)) s m le = order_dearer f g all d c items s m le
    evaluate_dearer d at c (Some (Node.Let vars values body)) s m le =
        values_dearer f g all d c values _ _ (λ vs. binding_dearer vars vs c.env _ (λ env. last g d (under env c) body) (λ env. last_dearer d (under env c) body)) s m le
    evaluate_dearer d at c (Some (Node.Labels vars lambdas body)) s m le =
        binding_dearer vars (replicate (length vars) NilV) c.env _ (λ env t. filling g d (under env c) (length s.locations) lambdas t (last g d (under env c) body))
        (λ env. filling_dearer f g all d (under env c) (length s.locations) lambdas _ (last g d (under env c) body) (last_dearer d (under env c) body)) s m le
    evaluate_dearer d at c (Some (Node.SetLocal x value)) s m le =
        value_dearer _ _ _ _ (early_dearer d c value s m le) (λ v t n le2. unbound_dearer (location_of c.env x.0) t n le2 _ _ (λ l. dearer (Value (with_location_at t l v) v) n le2))
    evaluate_dearer d at c (Some (Node.SetGlobal k value)) s m le =
        value_dearer _ _ _ _ (early_dearer d c value s m le) (λ v t n le2. global_dearer k t n le2 _ _ (λ old. dearer (Value (with_global_at t k v) v) n le2))
    evaluate_dearer d at c (Some (Node.Catch x body)) s m le =
        closed_dearer s.catches s.live _ _
        (binding_dearer (x ∷ []) (EscapeV s.catches ∷ []) c.env _ (λ env. g (suc (suc d)) (Evaluate body (record c { tail = false; env = env }))) (λ env. all (suc (suc d)) (Evaluate body (record c { tail = false; env = env }))) (opened s) (m + 4) (omega (arith, le)))
    evaluate_dearer d at c (Some (Node.Object proc methods)) s m le =
        value_dearer _ _ _ _ (early_dearer d c proc s m le) (λ v. creating_dearer (record { procedure = v; handlers = handlers_of methods c }))
    evaluate_dearer d at c (Some (Node.Call operator operands tail)) s m le =
        value_dearer _ _ _ _ (early_dearer d c operator s m le) (λ v. values_dearer f g all d c operands _ _ (λ args. all d (Apply v args)))
    evaluate_dearer d at c (Some (Node.Prim x operands)) s m le = values_dearer f g all d c operands _ _ (λ args. builtin_dearer x args) s m le

    act_dearer : AllDearer (act (marked u a) f) (act (marked u b) g)
    act_dearer d (Evaluate node c) = evaluate_dearer d node c (node_at u c.form node)
    act_dearer d (Apply operator operands) = apply_dearer d operator operands
    act_dearer d (Enter procedure operands) = enter_dearer d procedure operands

  tasks_dearer : (n : ℕ) → AllDearer (perform (marked u a) n) (perform (marked u b) n)
  tasks_dearer zero d task s m le = dearer (Out s) m le
  tasks_dearer (suc n) d task s m le = act_dearer (perform (marked u a) n) (perform (marked u b) n) (tasks_dearer n) d task (entered d s) m le

  -- ---- forms and units

  named_dearer : (g : ℕ) → FromState (name_of_global u g) (name_of_global u g)
  named_dearer g s m le = unbound_dearer (slice_get u.shared.globals.items g) s m le _ _ (λ info. dearer (Value s (SymbolV info.name.0)) m le)

  storing_dearer : (g : ℕ) (o q : Outcome) → IsDearer o q → IsDearer (storing u g o) (storing u g q)
  storing_dearer g o q x = value_dearer o q _ _ x (λ v s m le. named_dearer g (with_global_at s g v) m le)

  gives_dearer : (kind : FormKind) (l : Option Procedure) (h k : State → Outcome) → FromState h k → FromState (form_gives u kind l h) (form_gives u kind l k)
  gives_dearer (Define g) (Some f) h k x s m le = named_dearer g s m le
  gives_dearer (Define g) None h k x s m le = storing_dearer g _ _ (x s m le)
  gives_dearer (Lset g) l h k x s m le = storing_dearer g _ _ (x s m le)
  gives_dearer (Operation o) l h k x s m le = unbound_dearer (slice_get u.shared.ops.items o) s m le _ _ (λ info. dearer (Value s (SymbolV info.name.0)) m le)
  gives_dearer Plain l h k x s m le = x s m le

  forms_dearer : (n at : ℕ) (forms : List Form) (v : Val) → FromState (λ s. run_forms (marked u a) n at forms s v) (λ s. run_forms (marked u b) n at forms s v)
  forms_dearer n at [] v s m le = dearer (Value s v) m le
  forms_dearer n at (form ∷ forms) v s m le =
      value_dearer _ _ _ _ (gives_dearer form.kind (lambda_of at form) _ _ (tasks_dearer n 1 (Evaluate form.root (record { form = at; tail = false; env = [] }))) (working 1 s) m le)
      (λ w. forms_dearer n (suc at) forms w)

-- the observations
observed_at_most : (o q : Outcome) → IsDearer o q → IsAtMost (observed o) (observed q)
observed_at_most (Value s v) q x = subst (λ r. IsAtMost (observed (Value s v)) (observed r)) (sym x.same) (record { output = refl; end = refl; heap = x.more; waiting = refl; moves = refl })
observed_at_most (Escaping s i v) q x = subst (λ r. IsAtMost (observed (Escaping s i v)) (observed r)) (sym x.same) (record { output = refl; end = refl; heap = x.more; waiting = refl; moves = refl })
observed_at_most (Faulted s fault) q x = subst (λ r. IsAtMost (observed (Faulted s fault)) (observed r)) (sym x.same) (record { output = refl; end = refl; heap = x.more; waiting = refl; moves = refl })
observed_at_most (Out s) q x = subst (λ r. IsAtMost (observed (Out s)) (observed r)) (sym x.same) (record { output = refl; end = refl; heap = x.more; waiting = refl; moves = refl })

pub marks_change_heap_alone : MarksChangeHeapAlone
marks_change_heap_alone u a b more n = observed_at_most _ _ (forms_dearer u a b more n 0 u.forms.items NilV (start u) (start u).store.heap (omega arith))

pub meaning_is_at_most : MeaningIsAtMost
meaning_is_at_most u n = marks_change_heap_alone u (lambda_escapes u) all_escape (λ form node marked. refl) n
