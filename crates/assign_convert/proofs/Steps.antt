-- A program and the same with cells, step for step: their states are equal but for the moves.
use Rattle.std.specs.Prelude.{◌==◌, sum_by}
use Rattle.std.specs.List.{AllByRecursion, filter_map, flat_map, cons_option}
use Rattle.std.specs.Option.{option_map_or}
use Rattle.std.proofs.Common.{◌≡◌, ℕ, zero, suc, ◌≤◌, List, [], ◌∷◌, ◌++◌, length, map, Option, Some, None, option_and_then, Bool, true, false, if◌then◌else◌, slice_get, refl, subst}
use Rattle.std.proofs.lemmas.Bool.{true≢false, false≢true}
use Rattle.t_base.specs.declared.basics.Var.{Var}
use Rattle.t_base.specs.declared.faults.Fault.{Fault}
use Rattle.t_base.specs.declared.faults.Fault.TheVariants.{WrongCount}
use Rattle.t_prim.specs.Kinds.{is_nil}
use Rattle.t_prim.specs.Values.{Val, FixV, CharV, NilV, TrueV, SymbolV, StringV, PairV, VectorV, ClosureV, ObjectV, OperationV, BuiltinV, EscapeV}
use Rattle.t_prim.specs.Operands.{Row, Gives, Changes, Faults}
use Rattle.t_prim.specs.Table.{row}
use Rattle.cps_ir.specs.declared.args.Arg.{Arg}
use Rattle.cps_ir.specs.declared.args.Arg.TheVariants as Argument
use Rattle.cps_ir.specs.declared.terms.Cont.{Cont}
use Rattle.cps_ir.specs.declared.terms.Cont.TheVariants as Continuation
use Rattle.cps_ir.specs.declared.terms.Lam.{Lam}
use Rattle.cps_ir.specs.declared.terms.Term.{Term}
use Rattle.cps_ir.specs.declared.terms.Term.TheVariants as Node
use Rattle.cps_ir.specs.declared.terms.Cps.{Cps}
use Rattle.cps_ir.specs.States.{Marking, Program, marked, Meant, Direct, Bound, Joined, Begun, Scope, Closure, Handler, Object, Pending, Waiting, Back, Live, Control, At, Calling, Looking, Entering, Ended, State, going, broken, faulted, taking, with_store, with_waiting, with_location, with_location_at, with_closures, with_global_at, with_catch}
use Rattle.cps_ir.specs.Giving.{or_broken, or_unbound, with_global, provided, lam_words, with_variable, with_place, meant_by, value_of, location_of, with_arg, with_args, located, binding, binding_all, Way, Out, On, Lost, way, way_of, resumed, returned, given, give, pushing, after_row, closing}
use Rattle.cps_ir.specs.Calls.{begun, entered, handlers_at, operated, unwound, escaped, escape, called}
use Rattle.cps_ir.specs.Running.{new_closures, closures_of, handlers_of, opening, closing_catch, performed}
use Rattle.cps_ir.specs.Parts.{is_assigned, variable_of, named, cont_parts, own_binders, proc_of}
use Rattle.cps_ir.specs.Loads.{Unassigned}
use Rattle.cps_ir.proofs.ProperLists.{some_same, none_some, each_append, each_left, each_right, each_of_all}
use Rattle.assign_convert.specs.AssignedCells.{read, given as given_cell, celled}
use Rattle.assign_convert.proofs.Terms.{with_terms}
use Rattle.assign_convert.proofs.Ruled.{Ruled, LamRuled, LamAt, Has}

-- ---- what is ruled

-- the variable isn't assigned
abbrev pub IsFree : Cps → ℕ → Type 0
IsFree a x = is_assigned a x ≡ false

abbrev pub ScopeRuled : Cps → Scope → Type 0
ScopeRuled a [] = Unit {0}
ScopeRuled a (Bound x meant ∷ scope) = ScopeRuled a scope
ScopeRuled a (Joined k param body ∷ scope) = IsFree a param × Ruled a body × ScopeRuled a scope
ScopeRuled a (Begun k ∷ scope) = ScopeRuled a scope

pub record ClosureRuled (a : Cps) (c : Closure) : Type 0 where
  pub lam : LamAt a c.lam
  pub scope : ScopeRuled a c.scope

pub record PendingRuled (a : Cps) (pending : Pending) : Type 0 where
  pub param : IsFree a pending.param
  pub body : Ruled a pending.body
  pub scope : ScopeRuled a pending.scope

abbrev pub WaitingRuled : Cps → Waiting → Type 0
WaitingRuled a (Back pending) = PendingRuled a pending
WaitingRuled a (Live i None) = Unit {0}
WaitingRuled a (Live i (Some pending)) = PendingRuled a pending

abbrev WayRuled : Cps → Way → Type 0
WayRuled a Out = Unit {0}
WayRuled a (On pending) = PendingRuled a pending
WayRuled a Lost = Unit {0}

abbrev pub HandlersRuled : Cps → List Handler → Type 0
HandlersRuled a hs = AllByRecursion (λ h. ClosureRuled a h.closure) hs

abbrev pub Kept : Cps → State → Type 0
Kept a s = AllByRecursion (ClosureRuled a) s.closures × AllByRecursion (λ o. HandlersRuled a o.handlers) s.objects × AllByRecursion (WaitingRuled a) s.waiting

abbrev pub ControlRuled : Cps → Control → Type 0
ControlRuled a (At t scope) = Ruled a t × ScopeRuled a scope
ControlRuled a (Calling f args) = Unit {0}
ControlRuled a (Looking o hs args) = HandlersRuled a hs
ControlRuled a (Entering c args) = ClosureRuled a c
ControlRuled a (Ended e) = Unit {0}

abbrev pub lighter : ℕ → State → State
lighter n s = record s { moves = n }

-- the second state is the first one but for its moves, which are no more
pub record Same (a : Cps) (r q : State) : Type 0 where
  pub kept : Kept a r
  pub control : ControlRuled a r.control
  pub fewer : q.moves ≤ r.moves
  pub same : q ≡ lighter q.moves r

-- ---- lists

split_option : (P : ℕ → Type 0) (o : Option ℕ) (ls : List ℕ) → AllByRecursion P (cons_option o ls) → ((l : ℕ) → o ≡ Some l → P l) × AllByRecursion P ls
split_option P None ls h = (λ l e. none_some l e, h)
split_option P (Some x) ls h = (λ l e. subst P (some_same _ _ e) h.0, h.1)

vars_free : (a : Cps) (vars : List Var) (rest : List ℕ) → AllByRecursion (IsFree a) (map variable_of (named vars) ++ rest) → AllByRecursion (λ x. IsFree a x.0) vars
vars_free a [] rest h = tt
vars_free a (x ∷ vars) rest h = (h.0, vars_free a vars rest h.1)

params_free : (a : Cps) (vars : List Var) (rest : List ℕ) → AllByRecursion (IsFree a) (map (λ x. x.0) vars ++ rest) → AllByRecursion (λ x. IsFree a x.0) vars
params_free a [] rest h = tt
params_free a (x ∷ vars) rest h = (h.0, params_free a vars rest h.1)

closures_ruled : (a : Cps) (lams : List ℕ) (scope : Scope) → ScopeRuled a scope → AllByRecursion (LamAt a) lams → AllByRecursion (ClosureRuled a) (closures_of lams scope)
closures_ruled a [] scope r h = tt
closures_ruled a (l ∷ lams) scope r h = (record { lam = h.0; scope = r }, closures_ruled a lams scope r h.1)

methods_ruled : (a : Cps) (ops methods : List ℕ) (scope : Scope) → ScopeRuled a scope → AllByRecursion (LamAt a) methods → HandlersRuled a (handlers_of ops methods scope)
methods_ruled a [] methods scope r h = tt
methods_ruled a (o ∷ ops) [] scope r h = tt
methods_ruled a (o ∷ ops) (m ∷ methods) scope r h = (record { lam = h.0; scope = r }, methods_ruled a ops methods scope r h.1)

-- ---- continuations

ways : (a : Cps) (scope : Scope) (k : ℕ) → ScopeRuled a scope → WayRuled a (way_of scope k)
ways a [] k h = tt
ways a (Bound x meant ∷ scope) k h = ways a scope k h
ways a (Joined j param body ∷ scope) k h = by_test (j == k) (ways a scope k h.2)
  where
    by_test : (b : Bool) → WayRuled a (way_of scope k) → WayRuled a (if b then On (record { param = param; body = body; scope = scope }) else way_of scope k)
    by_test true go = record { param = h.0; body = h.1; scope = h.2 }
    by_test false go = go
ways a (Begun j ∷ scope) k h = by_test (j == k)
  where
    by_test : (b : Bool) → WayRuled a (if b then Out else Lost)
    by_test true = tt
    by_test false = tt

abbrev ContRuled : Cps → Cont → Type 0
ContRuled a (Continuation.Var k) = Unit {0}
ContRuled a (Continuation.Lam param body) = IsFree a param.0 × Ruled a body

cont_ruled : (a : Cps) (cs : List ℕ) (k : Cont) → AllByRecursion (IsFree a) (flat_map (λ p. map variable_of p.binds) (cont_parts cs (Some k))) → AllByRecursion (λ p. Ruled a p.at) (cont_parts cs (Some k)) → ContRuled a k
cont_ruled a cs (Continuation.Var k) h g = tt
cont_ruled a cs (Continuation.Lam param body) h g = (h.0, g.0)

way_ruled : (a : Cps) (scope : Scope) (k : Cont) → ScopeRuled a scope → ContRuled a k → WayRuled a (way scope k)
way_ruled a scope (Continuation.Var k) r h = ways a scope k.0 r
way_ruled a scope (Continuation.Lam param body) r h = record { param = h.0; body = h.1; scope = r }

unwound_ruled : (a : Cps) (i : ℕ) (w r : List Waiting) → AllByRecursion (WaitingRuled a) w → unwound i w ≡ Some r → AllByRecursion (WaitingRuled a) r
unwound_ruled a i [] r h e = none_some r e
unwound_ruled a i (Back pending ∷ w) r h e = unwound_ruled a i w r h.1 e
unwound_ruled a i (Live j None ∷ w) r h e = by_test (j == i) (λ q. unwound_ruled a i w r h.1 q) e
  where
    by_test : (b : Bool) → (unwound i w ≡ Some r → AllByRecursion (WaitingRuled a) r) → (if b then Some w else unwound i w) ≡ Some r → AllByRecursion (WaitingRuled a) r
    by_test true go q = subst (λ x. AllByRecursion (WaitingRuled a) x) (some_same _ _ q) h.1
    by_test false go q = go q
unwound_ruled a i (Live j (Some pending) ∷ w) r h e = by_test (j == i) (λ q. unwound_ruled a i w r h.1 q) e
  where
    by_test : (b : Bool) → (unwound i w ≡ Some r → AllByRecursion (WaitingRuled a) r) → (if b then Some (Back pending ∷ w) else unwound i w) ≡ Some r → AllByRecursion (WaitingRuled a) r
    by_test true go q = subst (λ x. AllByRecursion (WaitingRuled a) x) (some_same _ _ q) (h.0, h.1)
    by_test false go q = go q

-- ---- both at once

module _ (a d : Cps) (m : Marking) (none : (x : ℕ) → is_assigned (with_terms a d) x ≡ false) (n : ℕ) where
  abbrev p : Program
  p = marked a m

  abbrev q : Program
  q = marked (with_terms a d) m

  -- what goes on alike from each state
  abbrev Alike : (State → State) → (State → State) → Type 0
  Alike f g = (t : State) → Kept a t → n ≤ t.moves → Same a (f t) (g (lighter n t))

  faulted_same : (fault : Fault) (s : State) → Kept a s → n ≤ s.moves → Same a (faulted fault s) (faulted fault (lighter n s))
  faulted_same fault s kept le = record { kept = kept; control = tt; fewer = le; same = refl }

  broken_same : (s : State) → Kept a s → n ≤ s.moves → Same a (broken s) (broken (lighter n s))
  broken_same s kept le = record { kept = kept; control = tt; fewer = le; same = refl }

  or_unbound_same : {X : Type 0} (o : Option X) (s : State) (f g : X → State) → Kept a s → n ≤ s.moves → ((x : X) → Same a (f x) (g x)) → Same a (or_unbound o s f) (or_unbound o (lighter n s) g)
  or_unbound_same None s f g kept le k = faulted_same _ s kept le
  or_unbound_same (Some x) s f g kept le k = k x

  unbound_at_same : {X : Type 0} (P : X → Type 0) (xs : List X) (i : ℕ) (s : State) (f g : X → State) → Kept a s → n ≤ s.moves → AllByRecursion P xs → ((x : X) → P x → Same a (f x) (g x))
      → Same a (or_unbound (slice_get xs i) s f) (or_unbound (slice_get xs i) (lighter n s) g)
  unbound_at_same P [] i s f g kept le h k = faulted_same _ s kept le
  unbound_at_same P (x ∷ xs) zero s f g kept le h k = k x h.0
  unbound_at_same P (x ∷ xs) (suc i) s f g kept le h k = unbound_at_same P xs i s f g kept le h.1 k

  row_same : (r : Row) (s : State) (f g : Val → State → State) → Kept a s → n ≤ s.moves → ((v : Val) → Alike (f v) (g v)) → Same a (after_row r s f) (after_row r (lighter n s) g)
  row_same (Gives v) s f g kept le k = k v s kept le
  row_same (Changes t v) s f g kept le k = k v (with_store s t) kept le
  row_same (Faults fault) s f g kept le k = faulted_same fault s kept le

  -- ---- arguments

  global_same : (i : ℕ) (s : State) (f g : Val → State) → Kept a s → n ≤ s.moves → ((v : Val) → Same a (f v) (g v)) → Same a (with_global i s f) (with_global i (lighter n s) g)
  global_same i s f g kept le k = or_unbound_same (slice_get s.globals i) s _ _ kept le (λ global. or_unbound_same global s f g kept le k)

  place_same : (scope : Scope) (x : ℕ) (s : State) (f g : ℕ → State) → Kept a s → n ≤ s.moves → ((l : ℕ) → Same a (f l) (g l)) → Same a (with_place scope x s f) (with_place scope x (lighter n s) g)
  place_same scope x s f g kept le k = or_unbound_same (option_and_then location_of (meant_by scope x)) s f g kept le k

  variable_same : (scope : Scope) (x : ℕ) (s : State) (f g : Val → State) → Kept a s → n ≤ s.moves → ((v : Val) → Same a (f v) (g v)) → Same a (with_variable scope x s f) (with_variable scope x (lighter n s) g)
  variable_same scope x s f g kept le k = or_unbound_same (option_and_then (value_of s) (meant_by scope x)) s f g kept le k

  arg_same : (scope : Scope) (x : Arg) (s : State) (f g : State → Val → State) → ScopeRuled a scope → Kept a s → n ≤ s.moves → ((l : ℕ) → proc_of x ≡ Some l → LamAt a l)
      → ((v : Val) → Alike (λ t. f t v) (λ t. g t v)) → Same a (with_arg p scope x s f) (with_arg q scope x (lighter n s) g)
  arg_same scope (Argument.Const c) s f g r kept le h k = k _ s kept le
  arg_same scope (Argument.Var x) s f g r kept le h k = variable_same scope x.0 s (f s) (g (lighter n s)) kept le (λ v. k v s kept le)
  arg_same scope (Argument.Proc l) s f g r kept le h k =
      k (ClosureV (length s.closures)) (closing p l scope s) (each_append (ClosureRuled a) s.closures _ kept.0 (record { lam = h l refl; scope = r }, tt), kept.1, kept.2) le
  arg_same scope (Argument.Global i) s f g r kept le h k = global_same i s (f s) (g (lighter n s)) kept le (λ v. k v s kept le)
  arg_same scope (Argument.Builtin b) s f g r kept le h k = k _ s kept le
  arg_same scope (Argument.Op o) s f g r kept le h k = k _ s kept le

  args_same : (scope : Scope) (args : List Arg) (s : State) (f g : State → List Val → State) → ScopeRuled a scope → Kept a s → n ≤ s.moves → AllByRecursion (LamAt a) (filter_map proc_of args)
      → ((vs : List Val) → Alike (λ t. f t vs) (λ t. g t vs)) → Same a (with_args p scope args s f) (with_args q scope args (lighter n s) g)
  args_same scope [] s f g r kept le h k = k [] s kept le
  args_same scope (x ∷ args) s f g r kept le h k =
      let both = split_option (LamAt a) (proc_of x) (filter_map proc_of args) h in
      arg_same scope x s (λ t v. with_args p scope args t (λ y vs. f y (v ∷ vs))) (λ t v. with_args q scope args t (λ y vs. g y (v ∷ vs))) r kept le both.0
      (λ v t kt lt. args_same scope args t (λ y vs. f y (v ∷ vs)) (λ y vs. g y (v ∷ vs)) r kt lt both.1 (λ vs y ky ly. k (v ∷ vs) y ky ly))

  -- an argument alone
  value_same : (scope : Scope) (x : Arg) (s : State) (f g : State → Val → State) → ScopeRuled a scope → Kept a s → n ≤ s.moves → AllByRecursion (LamAt a) (filter_map proc_of (x ∷ []))
      → ((v : Val) → Alike (λ t. f t v) (λ t. g t v)) → Same a (with_arg p scope x s f) (with_arg q scope x (lighter n s) g)
  value_same scope x s f g r kept le h k = arg_same scope x s f g r kept le (split_option (LamAt a) (proc_of x) [] h).0 k

  -- ---- variables

  located_same : (x : ℕ) (v : Val) (scope : Scope) (s : State) (f g : Scope → State → State) → Kept a s → n ≤ s.moves → ((meant : Meant) → Alike (f (Bound x meant ∷ scope)) (g (Bound x meant ∷ scope)))
      → Same a (located x v scope s f) (located x v scope (lighter n s) g)
  located_same x v scope s f g kept le k = k _ (taking 2 (with_location s v)) kept le

  binding_same : (x : ℕ) (v : Val) (scope : Scope) (s : State) (f g : Scope → State → State) → IsFree a x → Same a (f (Bound x (Direct v) ∷ scope) s) (g (Bound x (Direct v) ∷ scope) (lighter n s))
      → Same a (binding p x v scope s f) (binding q x v scope (lighter n s) g)
  binding_same x v scope s f g e h = by_tests (is_assigned a x) (is_assigned (with_terms a d) x) e (none x)
    where
      by_tests : (i j : Bool) → i ≡ false → j ≡ false → Same a (if i then located x v scope s f else f (Bound x (Direct v) ∷ scope) s) (if j then located x v scope (lighter n s) g else g (Bound x (Direct v) ∷ scope) (lighter n s))
      by_tests false false e c = h
      by_tests true j e c = absurd (true≢false e)
      by_tests false true e c = absurd (true≢false c)

  bindings_same : (xs : List Var) (vs : List Val) (scope : Scope) (s : State) (f g : Scope → State → State) → AllByRecursion (λ x. IsFree a x.0) xs → ScopeRuled a scope → Kept a s → n ≤ s.moves
      → ((inner : Scope) → ScopeRuled a inner → Same a (f inner s) (g inner (lighter n s))) → Same a (binding_all p xs vs scope s f) (binding_all q xs vs scope (lighter n s) g)
  bindings_same [] [] scope s f g h r kept le k = k scope r
  bindings_same [] (v ∷ vs) scope s f g h r kept le k = broken_same s kept le
  bindings_same (x ∷ xs) [] scope s f g h r kept le k = broken_same s kept le
  bindings_same (x ∷ xs) (v ∷ vs) scope s f g h r kept le k =
      binding_same x.0 v scope s (λ inner t. binding_all p xs vs inner t f) (λ inner t. binding_all q xs vs inner t g) h.0 (bindings_same xs vs (Bound x.0 (Direct v) ∷ scope) s f g h.1 r kept le k)

  -- ---- continuations

  resumed_same : (pending : Pending) (v : Val) (s : State) → PendingRuled a pending → Kept a s → n ≤ s.moves → Same a (resumed p pending v s) (resumed q pending v (lighter n s))
  resumed_same pending v s h kept le =
      binding_same pending.param v pending.scope s (λ scope t. going (At pending.body scope) t) (λ scope t. going (At pending.body scope) t) h.param (record { kept = kept; control = (h.body, h.scope); fewer = le; same = refl })

  returned_same : (w : List Waiting) (v : Val) (s : State) → AllByRecursion (WaitingRuled a) w → Kept a s → n ≤ s.moves → Same a (returned p w v s) (returned q w v (lighter n s))
  returned_same [] v s h kept le = broken_same s kept le
  returned_same (Back pending ∷ w) v s h kept le = resumed_same pending v (with_waiting s w) h.0 (kept.0, kept.1, h.1) le
  returned_same (Live i own ∷ w) v s h kept le = broken_same s kept le

  given_same : (w : Way) (v : Val) (s : State) → WayRuled a w → Kept a s → n ≤ s.moves → Same a (given p w v s) (given q w v (lighter n s))
  given_same Out v s h kept le = returned_same s.waiting v s kept.2 kept le
  given_same (On pending) v s h kept le = resumed_same pending v s h kept le
  given_same Lost v s h kept le = broken_same s kept le

  pushing_same : (w : Way) (s : State) (f g : State → State) → WayRuled a w → Kept a s → n ≤ s.moves → Alike f g → Same a (pushing w s f) (pushing w (lighter n s) g)
  pushing_same Out s f g h kept le k = k s kept le
  pushing_same (On pending) s f g h kept le k = k (with_waiting s (Back pending ∷ s.waiting)) (kept.0, kept.1, (h, kept.2)) le
  pushing_same Lost s f g h kept le k = broken_same s kept le

  opening_same : (w : Way) (s : State) (f g : State → State) → WayRuled a w → Kept a s → n ≤ s.moves → Alike f g → Same a (opening w s f) (opening w (lighter n s) g)
  opening_same Out s f g h kept le k = k (taking 4 (with_catch s None)) (kept.0, kept.1, (tt, kept.2)) le
  opening_same (On pending) s f g h kept le k = k (taking 4 (with_catch s (Some pending))) (kept.0, kept.1, (h, kept.2)) le
  opening_same Lost s f g h kept le k = broken_same s kept le

  closing_same : (w : List Waiting) (s : State) (f g : State → State) → AllByRecursion (WaitingRuled a) w → Kept a s → n ≤ s.moves → Alike f g → Same a (closing_catch w s f) (closing_catch w (lighter n s) g)
  closing_same [] s f g h kept le k = broken_same s kept le
  closing_same (Back pending ∷ w) s f g h kept le k = broken_same s kept le
  closing_same (Live i own ∷ w) s f g h kept le k = k (with_waiting s w) (kept.0, kept.1, h.1) le

  provided_same : (b : Bool) (s : State) (f g : State → State) → Kept a s → n ≤ s.moves → Alike f g → Same a (provided b s f) (provided b (lighter n s) g)
  provided_same true s f g kept le k = k s kept le
  provided_same false s f g kept le k = broken_same s kept le

  -- ---- calls

  pub entered_same : (c : Closure) (args : List Val) (s : State) → ClosureRuled a c → Kept a s → n ≤ s.moves → Same a (entered p c args s) (entered q c args (lighter n s))
  entered_same c args s h kept le = by_option (slice_get a.lams.items c.lam) (λ lam e. h.lam lam e)
    where
      by_test : (lam : Lam) → LamRuled a lam → (b : Bool) → Same a (if b then begun p lam c args s else faulted WrongCount s) (if b then begun q lam c args (lighter n s) else faulted WrongCount (lighter n s))
      by_test lam r true =
          bindings_same lam.params args (Begun lam.k.0 ∷ c.scope) s (λ scope t. going (At lam.body scope) t) (λ scope t. going (At lam.body scope) t)
          (params_free a lam.params (lam.k.0 ∷ []) (each_of_all (IsFree a) _ r.alone)) h.scope kept le (λ inner ri. record { kept = kept; control = (r.body, ri); fewer = le; same = refl })
      by_test lam r false = faulted_same WrongCount s kept le

      by_option : (o : Option Lam) → ((lam : Lam) → o ≡ Some lam → LamRuled a lam)
          → Same a (or_broken o s (λ lam. if length lam.params == length args then begun p lam c args s else faulted WrongCount s)) (or_broken o (lighter n s) (λ lam. if length lam.params == length args then begun q lam c args (lighter n s) else faulted WrongCount (lighter n s)))
      by_option None g = broken_same s kept le
      by_option (Some lam) g = by_test lam (g lam refl) (length lam.params == length args)

  handlers_ruled : (s : State) (v : Val) → Kept a s → HandlersRuled a (handlers_at s v)
  handlers_ruled s (ObjectV i) kept = by_place s.objects i kept.1
    where
      by_place : (xs : List Object) (j : ℕ) → AllByRecursion (λ o. HandlersRuled a o.handlers) xs → HandlersRuled a (option_map_or (λ o. o.handlers) (slice_get xs j) [])
      by_place [] j h = tt
      by_place (x ∷ xs) zero h = h.0
      by_place (x ∷ xs) (suc j) h = by_place xs j h.1
  handlers_ruled s (FixV x) kept = tt
  handlers_ruled s (CharV x) kept = tt
  handlers_ruled s NilV kept = tt
  handlers_ruled s TrueV kept = tt
  handlers_ruled s (SymbolV x) kept = tt
  handlers_ruled s (StringV x) kept = tt
  handlers_ruled s (PairV x) kept = tt
  handlers_ruled s (VectorV x) kept = tt
  handlers_ruled s (ClosureV x) kept = tt
  handlers_ruled s (OperationV x) kept = tt
  handlers_ruled s (BuiltinV x) kept = tt
  handlers_ruled s (EscapeV x) kept = tt

  operated_same : (o : ℕ) (args : List Val) (s : State) → Kept a s → n ≤ s.moves → Same a (operated o args s) (operated o args (lighter n s))
  operated_same o [] s kept le = faulted_same _ s kept le
  operated_same o (v ∷ vs) s kept le = by_value v (handlers_ruled s v kept)
    where
      by_value : (w : Val) → HandlersRuled a (handlers_at s w) → Same a (going (Looking o (handlers_at s w) (v ∷ vs)) s) (going (Looking o (handlers_at (lighter n s) w) (v ∷ vs)) (lighter n s))
      by_value w h = record { kept = kept; control = h; fewer = le; same = refl }

  escaped_same : (i : ℕ) (o : Option (List Waiting)) (v : Val) (s : State) → Kept a s → n ≤ s.moves → unwound i s.waiting ≡ o → Same a (escaped p o v s) (escaped q o v (lighter n s))
  escaped_same i None v s kept le e = faulted_same _ s kept le
  escaped_same i (Some r) v s kept le e = returned_same r v s (unwound_ruled a i s.waiting r kept.2 e) kept le

  escape_same : (i : ℕ) (args : List Val) (s : State) → Kept a s → n ≤ s.moves → Same a (escape p i args s) (escape q i args (lighter n s))
  escape_same i [] s kept le = faulted_same _ s kept le
  escape_same i (v ∷ []) s kept le = escaped_same i (unwound i s.waiting) v s kept le refl
  escape_same i (v ∷ x ∷ vs) s kept le = faulted_same _ s kept le

  pub called_same : (f : Val) (args : List Val) (s : State) → Kept a s → n ≤ s.moves → Same a (called p f args s) (called q f args (lighter n s))
  called_same (ClosureV i) args s kept le = unbound_at_same (ClosureRuled a) s.closures i s _ _ kept le kept.0 (λ c h. entered_same c args s h kept le)
  called_same (ObjectV i) args s kept le = or_unbound_same (slice_get s.objects i) s _ _ kept le (λ object. record { kept = kept; control = tt; fewer = le; same = refl })
  called_same (OperationV o) args s kept le = operated_same o args s kept le
  called_same (BuiltinV b) args s kept le = row_same (row b args s.store) s (λ v t. returned p t.waiting v t) (λ v t. returned q t.waiting v t) kept le (λ v t kt lt. returned_same t.waiting v t kt.2 kt lt)
  called_same (EscapeV i) args s kept le = escape_same i args s kept le
  called_same (FixV x) args s kept le = faulted_same _ s kept le
  called_same (CharV x) args s kept le = faulted_same _ s kept le
  called_same NilV args s kept le = faulted_same _ s kept le
  called_same TrueV args s kept le = faulted_same _ s kept le
  called_same (SymbolV x) args s kept le = faulted_same _ s kept le
  called_same (StringV x) args s kept le = faulted_same _ s kept le
  called_same (PairV x) args s kept le = faulted_same _ s kept le
  called_same (VectorV x) args s kept le = faulted_same _ s kept le

  -- ---- terms

  own_free : (xs : List ℕ) → Unassigned a xs → AllByRecursion (IsFree a) xs
  own_free xs h = each_of_all (IsFree a) xs h

  -- a value goes to a continuation of the term
  giving : (scope : Scope) (k : Cont) → ScopeRuled a scope → ContRuled a k → (v : Val) → Alike (give p scope k v) (give q scope k v)
  giving scope k r h v t kept le = given_same (way scope k) v t (way_ruled a scope k r h) kept le

  -- a Give whose continuation binds no assigned variable
  gives : (scope : Scope) (k : Cont) (value : Arg) (s : State) → ScopeRuled a scope → ContRuled a k → Kept a s → n ≤ s.moves → AllByRecursion (LamAt a) (filter_map proc_of (value ∷ []))
      → Same a (performed p scope (Node.Give k value) s) (performed q scope (read (is_assigned a) k value) (lighter n s))
  gives scope k value s r h kept le lams = by_value value (value_same scope value s (λ t v. give p scope k v t) (λ t v. give q scope k v t) r kept le lams (λ v t kt lt. giving scope k r h v t kt lt))
    where
      by_value : (x : Arg) → Same a (performed p scope (Node.Give k x) s) (performed q scope (Node.Give k x) (lighter n s)) → Same a (performed p scope (Node.Give k x) s) (performed q scope (read (is_assigned a) k x) (lighter n s))
      by_value (Argument.Const c) g = g
      by_value (Argument.Var x) g = by_test (is_assigned a x.0)
        where
          by_test : (b : Bool) → Same a (performed p scope (Node.Give k (Argument.Var x)) s) (performed q scope (if b then Node.CellGet x k else Node.Give k (Argument.Var x)) (lighter n s))
          by_test true = g
          by_test false = g
      by_value (Argument.Proc l) g = g
      by_value (Argument.Global i) g = g
      by_value (Argument.Builtin b) g = g
      by_value (Argument.Op o) g = g

  -- a Give
  gives_or_makes : (scope : Scope) (k : Cont) (value : Arg) (s : State) → ScopeRuled a scope → AllByRecursion (λ x. Ruled a x.at) (cont_parts [] (Some k)) → Kept a s → n ≤ s.moves
      → AllByRecursion (LamAt a) (filter_map proc_of (value ∷ [])) → Same a (performed p scope (Node.Give k value) s) (performed q scope (given_cell (is_assigned a) k value) (lighter n s))
  gives_or_makes scope (Continuation.Var k) value s r h kept le lams = gives scope (Continuation.Var k) value s r tt kept le lams
  gives_or_makes scope (Continuation.Lam param body) value s r h kept le lams = by_test (is_assigned a param.0) refl
    where
      by_test : (b : Bool) → is_assigned a param.0 ≡ b
          → Same a (performed p scope (Node.Give (Continuation.Lam param body) value) s) (performed q scope (if b then Node.Cell param value body else read (is_assigned a) (Continuation.Lam param body) value) (lighter n s))
      by_test true e =
          value_same scope value s (λ t v. give p scope (Continuation.Lam param body) v t) (λ t v. located param.0 v scope t (λ inner y. going (At body inner) y)) r kept le lams
          (λ v t kt lt. binds v t e (located_same param.0 v scope t (λ inner y. going (At body inner) y) (λ inner y. going (At body inner) y) kt lt (λ meant y ky ly. record { kept = ky; control = (h.0, r); fewer = ly; same = refl })))
        where
          binds : (v : Val) (t : State) → is_assigned a param.0 ≡ true → Same a (located param.0 v scope t (λ inner y. going (At body inner) y)) (located param.0 v scope (lighter n t) (λ inner y. going (At body inner) y))
              → Same a (give p scope (Continuation.Lam param body) v t) (located param.0 v scope (lighter n t) (λ inner y. going (At body inner) y))
          binds v t q g = by_same (is_assigned a param.0) q
            where
              by_same : (c : Bool) → c ≡ true → Same a (if c then located param.0 v scope t (λ inner y. going (At body inner) y) else going (At body (Bound param.0 (Direct v) ∷ scope)) t) (located param.0 v scope (lighter n t) (λ inner y. going (At body inner) y))
              by_same true z = g
              by_same false z = absurd (false≢true z)
      by_test false e = gives scope (Continuation.Lam param body) value s r (e, h.0) kept le lams

  pub performs : (scope : Scope) (term : Term) (s : State) → Has a term → ScopeRuled a scope → Kept a s → n ≤ s.moves → Same a (performed p scope term s) (performed q scope (celled (is_assigned a) term) (lighter n s))
  performs scope (Node.Call f args k) s h r kept le =
      let both = split_option (LamAt a) (proc_of f) (filter_map proc_of args) h.lams in
      let cont = cont_ruled a [] k (own_free _ h.alone.0) h.conts in
      arg_same scope f s (λ t g. with_args p scope args t (λ x vs. pushing (way scope k) x (λ y. going (Calling g vs) y))) (λ t g. with_args q scope args t (λ x vs. pushing (way scope k) x (λ y. going (Calling g vs) y))) r kept le both.0
      (λ g t kt lt. args_same scope args t (λ x vs. pushing (way scope k) x (λ y. going (Calling g vs) y)) (λ x vs. pushing (way scope k) x (λ y. going (Calling g vs) y)) r kt lt both.1
      (λ vs x kx lx. pushing_same (way scope k) x (λ y. going (Calling g vs) y) (λ y. going (Calling g vs) y) (way_ruled a scope k r cont) kx lx (λ y ky ly. record { kept = ky; control = tt; fewer = ly; same = refl })))
  performs scope (Node.Prim b args k) s h r kept le =
      let cont = cont_ruled a [] k (own_free _ h.alone.0) h.conts in
      args_same scope args s (λ t vs. after_row (row b vs t.store) t (λ v x. give p scope k v x)) (λ t vs. after_row (row b vs t.store) t (λ v x. give q scope k v x)) r kept le h.lams
      (λ vs t kt lt. row_same (row b vs t.store) t (λ v x. give p scope k v x) (λ v x. give q scope k v x) kt lt (λ v x kx lx. giving scope k r cont v x kx lx))
  performs scope (Node.If test x y) s h r kept le =
      value_same scope test s (λ t v. going (At (if is_nil v then y else x) scope) t) (λ t v. going (At (if is_nil v then y else x) scope) t) r kept le h.lams (λ v t kt lt. by_test (is_nil v) t kt lt)
    where
      by_test : (b : Bool) (t : State) → Kept a t → n ≤ t.moves → Same a (going (At (if b then y else x) scope) t) (going (At (if b then y else x) scope) (lighter n t))
      by_test true t kt lt = record { kept = kt; control = (h.terms.1.0, r); fewer = lt; same = refl }
      by_test false t kt lt = record { kept = kt; control = (h.terms.0, r); fewer = lt; same = refl }
  performs scope (Node.Labels vars lams body) s h r kept le =
      bindings_same vars (new_closures (length s.closures) lams) scope s (λ inner t. going (At body inner) (taking (sum_by (lam_words p) lams) (with_closures t (closures_of lams inner)))) (λ inner t. going (At body inner) (taking (sum_by (lam_words q) lams) (with_closures t (closures_of lams inner))))
      (vars_free a vars [] (own_free _ h.alone.0)) r kept le
      (λ inner ri. record { kept = (each_append (ClosureRuled a) s.closures (closures_of lams inner) kept.0 (closures_ruled a lams inner ri h.lams), kept.1, kept.2); control = (h.terms.0, ri); fewer = le; same = refl })
  performs scope (Node.Join k param body rest) s h r kept le =
      let free = own_free (own_binders (Node.Join k param body rest)) h.alone.0 in
      record { kept = kept; control = (h.terms.1.0, (free.0, h.terms.0, r)); fewer = le; same = refl }
  performs scope (Node.Give k value) s h r kept le = gives_or_makes scope k value s r h.conts kept le h.lams
  performs scope (Node.Set x value k) s h r kept le =
      let cont = cont_ruled a [] k (own_free _ h.alone.0) h.conts in
      value_same scope value s (λ t v. with_place scope x.0 t (λ l. give p scope k v (with_location_at t l v))) (λ t v. with_place scope x.0 t (λ l. give q scope k v (with_location_at t l v))) r kept le h.lams
      (λ v t kt lt. place_same scope x.0 t _ _ kt lt (λ l. giving scope k r cont v (with_location_at t l v) kt lt))
  performs scope (Node.Cell x value rest) s h r kept le =
      value_same scope value s (λ t v. located x.0 v scope t (λ inner y. going (At rest inner) y)) (λ t v. located x.0 v scope t (λ inner y. going (At rest inner) y)) r kept le h.lams
      (λ v t kt lt. located_same x.0 v scope t (λ inner y. going (At rest inner) y) (λ inner y. going (At rest inner) y) kt lt (λ meant y ky ly. record { kept = ky; control = (h.terms.0, r); fewer = ly; same = refl }))
  performs scope (Node.CellGet x k) s h r kept le =
      variable_same scope x.0 s (λ v. give p scope k v s) (λ v. give q scope k v (lighter n s)) kept le (λ v. giving scope k r (cont_ruled a [] k (own_free _ h.alone.0) h.conts) v s kept le)
  performs scope (Node.CellSet x value k) s h r kept le =
      let cont = cont_ruled a [] k (own_free _ h.alone.0) h.conts in
      value_same scope value s (λ t v. with_place scope x.0 t (λ l. give p scope k v (with_location_at t l v))) (λ t v. with_place scope x.0 t (λ l. give q scope k v (with_location_at t l v))) r kept le h.lams
      (λ v t kt lt. place_same scope x.0 t _ _ kt lt (λ l. giving scope k r cont v (with_location_at t l v) kt lt))
  performs scope (Node.GlobalGet g k) s h r kept le =
      global_same g s (λ v. give p scope k v s) (λ v. give q scope k v (lighter n s)) kept le (λ v. giving scope k r (cont_ruled a [] k (own_free _ h.alone.0) h.conts) v s kept le)
  performs scope (Node.GlobalInit g value k) s h r kept le =
      let cont = cont_ruled a [] k (own_free _ h.alone.0) h.conts in
      value_same scope value s (λ t v. give p scope k v (with_global_at t g v)) (λ t v. give q scope k v (with_global_at t g v)) r kept le h.lams (λ v t kt lt. giving scope k r cont v (with_global_at t g v) kt lt)
  performs scope (Node.GlobalSet g value k) s h r kept le =
      let cont = cont_ruled a [] k (own_free _ h.alone.0) h.conts in
      value_same scope value s (λ t v. with_global g t (λ old. give p scope k v (with_global_at t g v))) (λ t v. with_global g t (λ old. give q scope k v (with_global_at t g v))) r kept le h.lams
      (λ v t kt lt. global_same g t _ _ kt lt (λ old. giving scope k r cont v (with_global_at t g v) kt lt))
  performs scope (Node.Catch x body k) s h r kept le =
      let free = own_free (own_binders (Node.Catch x body k)) h.alone.0 in
      opening_same (way scope k) s (λ t. binding p x.0 (EscapeV s.catches) scope t (λ inner y. going (At body inner) y)) (λ t. binding q x.0 (EscapeV s.catches) scope t (λ inner y. going (At body inner) y))
      (way_ruled a scope k r (cont_ruled a [] k free.1 h.conts)) kept le
      (λ t kt lt. binding_same x.0 (EscapeV s.catches) scope t (λ inner y. going (At body inner) y) (λ inner y. going (At body inner) y) free.0 (record { kept = kt; control = (h.terms.0, r); fewer = lt; same = refl }))
  performs scope (Node.Uncatch k value) s h r kept le =
      let cont = cont_ruled a [] k (own_free _ h.alone.0) h.conts in
      value_same scope value s (λ t v. closing_catch t.waiting t (λ y. give p scope k v y)) (λ t v. closing_catch t.waiting t (λ y. give q scope k v y)) r kept le h.lams
      (λ v t kt lt. closing_same t.waiting t (λ y. give p scope k v y) (λ y. give q scope k v y) kt.2 kt lt (λ y ky ly. giving scope k r cont v y ky ly))
  performs scope (Node.Object proc ops methods k) s h r kept le =
      let cont = cont_ruled a [] k (own_free _ h.alone.0) h.conts in
      provided_same (length ops == length methods) s _ _ kept le
      (λ y ky ly. value_same scope proc y _ _ r ky ly (each_left (LamAt a) (filter_map proc_of (proc ∷ [])) methods h.lams)
      (λ v t kt lt. giving scope k r cont _ _ (kt.0, each_append (λ o. HandlersRuled a o.handlers) t.objects _ kt.1 (methods_ruled a ops methods scope r (each_right (LamAt a) (filter_map proc_of (proc ∷ [])) methods h.lams), tt), kt.2) lt))
  performs scope (Node.Halt value) s h r kept le = value_same scope value s _ _ r kept le h.lams (λ v t kt lt. record { kept = kt; control = tt; fewer = lt; same = refl })
