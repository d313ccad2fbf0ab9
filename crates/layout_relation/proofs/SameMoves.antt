-- The moves of a term and of a call are counted before they are done.
use Rattle.std.proofs.Common.{◌≡◌, ℕ, ◌==◌, Bool, true, false, if◌then◌else◌, List, [], ◌∷◌, length, Option, Some, None, slice_get}
use Rattle.std.specs.Prelude.{option_and_then, sum_by}
use Rattle.program_runs.specs.Runs as runs
use Rattle.t_base.specs.declared.basics.Var.{Var}
use Rattle.t_base.specs.declared.builtins.Builtin.{Builtin}
use Rattle.t_base.specs.declared.faults.Fault.TheVariants.{WrongCount}
use Rattle.t_prim.specs.Values.{Val, ClosureV, ObjectV, OperationV, BuiltinV, EscapeV, shown_of}
use Rattle.t_prim.specs.Operands.{Row, Gives, Changes, Faults}
use Rattle.t_prim.specs.Kinds.{is_nil}
use Rattle.t_prim.specs.Table.{row}
use Rattle.cps_ir.specs.declared.args.Arg.{Arg}
use Rattle.cps_ir.specs.declared.args.Arg.TheVariants as Argument
use Rattle.cps_ir.specs.declared.terms.Cont.{Cont}
use Rattle.cps_ir.specs.declared.terms.Term.TheVariants as Node
use Rattle.cps_ir.specs.Parts.{is_assigned}
use Rattle.cps_ir.specs.States.{with_catch, with_object, with_location_at, with_global_at, Program, Direct, Bound, Begun, faulted, Scope, Closure, Handler, Pending, Waiting, Back, Live, At, Calling, State, going, ended, with_waiting, with_store, taking, with_closures}
use Rattle.cps_ir.specs.Giving.{provided, record_words, location_of, with_place, with_global, Way, Out, On, Lost, way, or_broken, or_unbound, meant_by, value_of, with_arg, with_args, closing, located, binding, binding_all, resumed, returned, given, give, pushing, after_row, lam_words}
use Rattle.cps_ir.specs.Calls.{begun, entered, default_of, defaulted, looked, unwound, escaped, escape, operated, called}
use Rattle.cps_ir.specs.Running.{opening, closing_catch, handlers_of, creating, new_closures, closures_of, performed}

module _ (p : Program) (n : ℕ) where
  abbrev Counts : State → Type 0
  Counts s = s.moves ≡ n

  by_unbound : {X : Type 0} (o : Option X) (s : State) (go : X → State) → Counts s → ((x : X) → Counts (go x)) → Counts (or_unbound o s go)
  by_unbound None s go c h = c
  by_unbound (Some x) s go c h = h x

  by_broken : {X : Type 0} (o : Option X) (s : State) (go : X → State) → Counts s → ((x : X) → Counts (go x)) → Counts (or_broken o s go)
  by_broken None s go c h = c
  by_broken (Some x) s go c h = h x

  by_arg : (scope : Scope) (a : Arg) (s : State) (go : State → Val → State) → Counts s → ((t : State) (v : Val) → Counts t → Counts (go t v)) → Counts (with_arg p scope a s go)
  by_arg scope (Argument.Const k) s go c h = h s _ c
  by_arg scope (Argument.Var x) s go c h = by_unbound (option_and_then (value_of s) (meant_by scope x.0)) s (go s) c (λ v. h s v c)
  by_arg scope (Argument.Proc l) s go c h = h (closing p l scope s) (ClosureV (length s.closures)) c
  by_arg scope (Argument.Global g) s go c h = by_unbound (slice_get s.globals g) s (λ o. or_unbound o s (go s)) c (λ o. by_unbound o s (go s) c (λ v. h s v c))
  by_arg scope (Argument.Builtin b) s go c h = h s _ c
  by_arg scope (Argument.Op o) s go c h = h s _ c

  by_args : (scope : Scope) (args : List Arg) (s : State) (go : State → List Val → State) → Counts s → ((t : State) (vs : List Val) → Counts t → Counts (go t vs)) → Counts (with_args p scope args s go)
  by_args scope [] s go c h = h s [] c
  by_args scope (a ∷ args) s go c h = by_arg scope a s (λ t v. with_args p scope args t (λ u vs. go u (v ∷ vs))) c (λ t v d. by_args scope args t (λ u vs. go u (v ∷ vs)) d (λ u vs e. h u (v ∷ vs) e))

  by_test : (b : Bool) (x y : State) → Counts x → Counts y → Counts (if b then x else y)
  by_test true x y c d = c
  by_test false x y c d = d

  by_binding : (x : ℕ) (v : Val) (scope : Scope) (s : State) (go : Scope → State → State) → Counts s → ((inner : Scope) (t : State) → Counts t → Counts (go inner t)) → Counts (binding p x v scope s go)
  by_binding x v scope s go c h = by_test (is_assigned p.cps x) (located x v scope s go) (go (Bound x (Direct v) ∷ scope) s) (h _ _ c) (h (Bound x (Direct v) ∷ scope) s c)

  by_bindings : (xs : List Var) (vs : List Val) (scope : Scope) (s : State) (go : Scope → State → State) → Counts s → ((inner : Scope) (t : State) → Counts t → Counts (go inner t)) → Counts (binding_all p xs vs scope s go)
  by_bindings [] [] scope s go c h = h scope s c
  by_bindings [] (v ∷ vs) scope s go c h = c
  by_bindings (x ∷ xs) [] scope s go c h = c
  by_bindings (x ∷ xs) (v ∷ vs) scope s go c h = by_binding x.0 v scope s (λ inner t. binding_all p xs vs inner t go) c (λ inner t d. by_bindings xs vs inner t go d h)

  by_resumed : (pending : Pending) (v : Val) (s : State) → Counts s → Counts (resumed p pending v s)
  by_resumed pending v s c = by_binding pending.param v pending.scope s (λ scope t. going (At pending.body scope) t) c (λ inner t d. d)

  by_returned : (waiting : List Waiting) (v : Val) (s : State) → Counts s → Counts (returned p waiting v s)
  by_returned [] v s c = c
  by_returned (Back pending ∷ waiting) v s c = by_resumed pending v (with_waiting s waiting) c
  by_returned (Live i own ∷ waiting) v s c = c

  by_given : (to : Way) (v : Val) (s : State) → Counts s → Counts (given p to v s)
  by_given Out v s c = by_returned s.waiting v s c
  by_given (On pending) v s c = by_resumed pending v s c
  by_given Lost v s c = c

  by_pushing : (to : Way) (s : State) (go : State → State) → Counts s → ((t : State) → Counts t → Counts (go t)) → Counts (pushing to s go)
  by_pushing Out s go c h = h s c
  by_pushing (On pending) s go c h = h (with_waiting s (Back pending ∷ s.waiting)) c
  by_pushing Lost s go c h = c

  by_row : (r : Row) (s : State) (go : Val → State → State) → Counts s → ((v : Val) (t : State) → Counts t → Counts (go v t)) → Counts (after_row r s go)
  by_row (Gives v) s go c h = h v s c
  by_row (Changes t v) s go c h = h v (with_store s t) c
  by_row (Faults fault) s go c h = c

  -- ---- terms

  pub call_moves : (scope : Scope) (f : Arg) (args : List Arg) (k : Cont) (s : State) → Counts s → Counts (performed p scope (Node.Call f args k) s)
  call_moves scope f args k s c = by_arg scope f s (λ t g. with_args p scope args t (λ u vs. pushing (way scope k) u (λ w. going (Calling g vs) w))) c
      (λ t g d. by_args scope args t (λ u vs. pushing (way scope k) u (λ w. going (Calling g vs) w)) d (λ u vs e. by_pushing (way scope k) u (λ w. going (Calling g vs) w) e (λ w e2. e2)))

  pub prim_moves : (scope : Scope) (b : Builtin) (args : List Arg) (k : Cont) (s : State) → Counts s → Counts (performed p scope (Node.Prim b args k) s)
  prim_moves scope b args k s c = by_args scope args s (λ t vs. after_row (row b vs t.store) t (λ v u. give p scope k v u)) c (λ t vs d. by_row (row b vs t.store) t (λ v u. give p scope k v u) d (λ v u e. by_given (way scope k) v u e))

  pub if_moves : (scope : Scope) (test : Arg) (first second : ℕ) (s : State) → Counts s → Counts (performed p scope (Node.If test first second) s)
  if_moves scope test first second s c = by_arg scope test s (λ t v. going (At (if is_nil v then second else first) scope) t) c (λ t v d. d)

  pub labels_moves : (scope : Scope) (xs : List Var) (lams : List ℕ) (body : ℕ) (s : State) → Counts s → Counts (performed p scope (Node.Labels xs lams body) s)
  labels_moves scope xs lams body s c = by_bindings xs (new_closures (length s.closures) lams) scope s (λ inner t. going (At body inner) (taking (sum_by (lam_words p) lams) (with_closures t (closures_of lams inner)))) c (λ inner t d. d)

  pub give_moves_same : (scope : Scope) (k : Cont) (value : Arg) (s : State) → Counts s → Counts (performed p scope (Node.Give k value) s)
  give_moves_same scope k value s c = by_arg scope value s (λ t v. give p scope k v t) c (λ t v d. by_given (way scope k) v t d)

  pub halt_moves : (scope : Scope) (value : Arg) (s : State) → Counts s → Counts (performed p scope (Node.Halt value) s)
  halt_moves scope value s c = by_arg scope value s (λ t v. ended (runs.Value (shown_of t.store v)) t) c (λ t v d. d)

  by_global : (g : ℕ) (s : State) (go : Val → State) → Counts s → ((v : Val) → Counts (go v)) → Counts (with_global g s go)
  by_global g s go c h = by_unbound (slice_get s.globals g) s (λ o. or_unbound o s go) c (λ o. by_unbound o s go c h)

  pub global_get_moves : (scope : Scope) (g : ℕ) (k : Cont) (s : State) → Counts s → Counts (performed p scope (Node.GlobalGet g k) s)
  global_get_moves scope g k s c = by_global g s (λ v. give p scope k v s) c (λ v. by_given (way scope k) v s c)

  pub global_init_moves : (scope : Scope) (g : ℕ) (value : Arg) (k : Cont) (s : State) → Counts s → Counts (performed p scope (Node.GlobalInit g value k) s)
  global_init_moves scope g value k s c = by_arg scope value s (λ t v. give p scope k v (with_global_at t g v)) c (λ t v d. by_given (way scope k) v (with_global_at t g v) d)

  pub global_set_moves : (scope : Scope) (g : ℕ) (value : Arg) (k : Cont) (s : State) → Counts s → Counts (performed p scope (Node.GlobalSet g value k) s)
  global_set_moves scope g value k s c = by_arg scope value s (λ t v. with_global g t (λ old. give p scope k v (with_global_at t g v))) c (λ t v d. by_global g t (λ old. give p scope k v (with_global_at t g v)) d (λ old. by_given (way scope k) v (with_global_at t g v) d))

  pub cell_moves : (scope : Scope) (x : Var) (value : Arg) (rest : ℕ) (s : State) → Counts s → Counts (performed p scope (Node.Cell x value rest) s)
  cell_moves scope x value rest s c = by_arg scope value s (λ t v. located x.0 v scope t (λ inner u. going (At rest inner) u)) c (λ t v d. d)

  pub cell_get_moves : (scope : Scope) (x : Var) (k : Cont) (s : State) → Counts s → Counts (performed p scope (Node.CellGet x k) s)
  cell_get_moves scope x k s c = by_unbound (option_and_then (value_of s) (meant_by scope x.0)) s (λ v. give p scope k v s) c (λ v. by_given (way scope k) v s c)

  pub cell_set_moves : (scope : Scope) (x : Var) (value : Arg) (k : Cont) (s : State) → Counts s → Counts (performed p scope (Node.CellSet x value k) s)
  cell_set_moves scope x value k s c = by_arg scope value s (λ t v. with_place scope x.0 t (λ l. give p scope k v (with_location_at t l v))) c
      (λ t v d. by_unbound (option_and_then location_of (meant_by scope x.0)) t (λ l. give p scope k v (with_location_at t l v)) d (λ l. by_given (way scope k) v (with_location_at t l v) d))

  by_provided : (b : Bool) (s : State) (go : State → State) → Counts s → Counts (go s) → Counts (provided b s go)
  by_provided true s go c h = h
  by_provided false s go c h = c

  pub object_moves : (scope : Scope) (proc : Arg) (ops methods : List ℕ) (k : Cont) (s : State) → Counts s → Counts (performed p scope (Node.Object proc ops methods k) s)
  object_moves scope proc ops methods k s c =
      let go : State → Val → State = λ t v. creating p (record { procedure = v; handlers = handlers_of ops methods scope }) t (λ u w. give p scope k w u) in
      by_provided (length ops == length methods) s (λ r. with_arg p scope proc r go) c
      (by_arg scope proc s go c (λ t v d. by_given (way scope k) (ObjectV (length t.objects)) (taking (record_words p.cps) (with_object t (record { procedure = v; handlers = handlers_of ops methods scope }))) d))

  by_opening : (to : Way) (s : State) (go : State → State) → Counts s → ((t : State) → Counts t → Counts (go t)) → Counts (opening to s go)
  by_opening Out s go c h = h (taking 4 (with_catch s None)) c
  by_opening (On pending) s go c h = h (taking 4 (with_catch s (Some pending))) c
  by_opening Lost s go c h = c

  pub catch_moves : (scope : Scope) (x : Var) (body : ℕ) (k : Cont) (s : State) → Counts s → Counts (performed p scope (Node.Catch x body k) s)
  catch_moves scope x body k s c = by_opening (way scope k) s (λ t. binding p x.0 (EscapeV s.catches) scope t (λ inner u. going (At body inner) u)) c
      (λ t d. by_binding x.0 (EscapeV s.catches) scope t (λ inner u. going (At body inner) u) d (λ inner u e. e))

  by_closing : (waiting : List Waiting) (s : State) (go : State → State) → Counts s → ((t : State) → Counts t → Counts (go t)) → Counts (closing_catch waiting s go)
  by_closing [] s go c h = c
  by_closing (Back pending ∷ waiting) s go c h = c
  by_closing (Live i own ∷ waiting) s go c h = h (with_waiting s waiting) c

  pub uncatch_moves : (scope : Scope) (k : Cont) (value : Arg) (s : State) → Counts s → Counts (performed p scope (Node.Uncatch k value) s)
  uncatch_moves scope k value s c = by_arg scope value s (λ t v. closing_catch t.waiting t (λ u. give p scope k v u)) c (λ t v d. by_closing t.waiting t (λ u. give p scope k v u) d (λ u e. by_given (way scope k) v u e))

  -- ---- calls

  pub entered_moves : (c : Closure) (args : List Val) (s : State) → Counts s → Counts (entered p c args s)
  entered_moves c args s h = by_broken (slice_get p.cps.lams.items c.lam) s (λ lam. if length lam.params == length args then begun p lam c args s else faulted WrongCount s) h
      (λ lam. by_test (length lam.params == length args) (begun p lam c args s) (faulted WrongCount s) (by_bindings lam.params args (Begun lam.k.0 ∷ c.scope) s (λ scope t. going (At lam.body scope) t) h (λ inner t d. d)) h)

  by_escaped : (o : Option (List Waiting)) (v : Val) (s : State) → Counts s → Counts (escaped p o v s)
  by_escaped None v s c = c
  by_escaped (Some waiting) v s c = by_returned waiting v s c

  by_escape : (i : ℕ) (args : List Val) (s : State) → Counts s → Counts (escape p i args s)
  by_escape i [] s c = c
  by_escape i (v ∷ []) s c = by_escaped (unwound i s.waiting) v s c
  by_escape i (v ∷ u ∷ vs) s c = c

  by_operated : (o : ℕ) (args : List Val) (s : State) → Counts s → Counts (operated o args s)
  by_operated o [] s c = c
  by_operated o (v ∷ vs) s c = c

  pub called_moves : (f : Val) (args : List Val) (s : State) → Counts s → Counts (called p f args s)
  called_moves (ClosureV i) args s c = by_unbound (slice_get s.closures i) s (λ x. entered p x args s) c (λ x. entered_moves x args s c)
  called_moves (ObjectV i) args s c = by_unbound (slice_get s.objects i) s (λ object. going (Calling object.procedure args) s) c (λ object. c)
  called_moves (OperationV o) args s c = by_operated o args s c
  called_moves (BuiltinV b) args s c = by_row (row b args s.store) s (λ v t. returned p t.waiting v t) c (λ v t d. by_returned t.waiting v t d)
  called_moves (EscapeV i) args s c = by_escape i args s c
  called_moves _ args s c = c

  by_default : (o : Option Closure) (args : List Val) (s : State) → Counts s → Counts (defaulted o args s)
  by_default None args s c = c
  by_default (Some x) args s c = c

  pub looked_moves : (o : ℕ) (hs : List Handler) (args : List Val) (s : State) → Counts s → Counts (looked p o hs args s)
  looked_moves o [] args s c = by_default (default_of p.cps o) args s c
  looked_moves o (h ∷ hs) args s c = c
