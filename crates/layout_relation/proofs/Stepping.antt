-- Calls that are made or passed on, and operations that look for their default, on both sides.
use Rattle.cps_ir.specs.declared.args.Arg.TheVariants as FrameArgument
use Rattle.frame_ir.specs.declared.forms.FrameEnd.TheVariants as Last
use Rattle.frame_ir.specs.declared.forms.Block.{Block}
use Rattle.frame_ir.specs.Running.{step}
use Rattle.layout_relation.proofs.Scopes.{eqb_same}
use Rattle.std.specs.List.{list_any}
use Rattle.std.proofs.Common.{◌||◌, ◌≡◌, ℕ, zero, suc, ◌+◌, ◌≤◌, ◌<◌, Bool, true, false, if◌then◌else◌, ◌==◌, List, [], ◌∷◌, length, map, take, filter, Option, Some, None, slice_get, refl, sym, ap, subst, ◌∙◌, arith}
use Rattle.std.specs.Prelude.{count_by, option_and_then}
use Rattle.std.specs.Option.{option_map, option_map_or}
use Rattle.std.proofs.lemmas.Bool.{eq-eqb, ne_eqb, eqb-true, true≢false}
use Rattle.std.proofs.lemmas.List.Sums.{length-filter, sum_by-cons}
use Rattle.t_base.specs.declared.faults.Fault.TheVariants.{DeadEscape, WrongCount, NotProcedure, NotHandled}
use Rattle.t_base.specs.declared.shared_parts.Global1.{Global1}
use Rattle.t_base.specs.declared.shared_parts.GlobalKind.{GlobalKind}
use Rattle.t_base.specs.declared.shared_parts.GlobalKind.TheVariants as Kind
use Rattle.t_base.specs.declared.shared_parts.OpInfo.{OpInfo}
use Rattle.t_prim.specs.Values.{Val, FixV, CharV, NilV, TrueV, SymbolV, StringV, PairV, VectorV, ClosureV, ObjectV, OperationV, BuiltinV, EscapeV, Store}
use Rattle.t_prim.specs.Operands.{Row}
use Rattle.t_prim.specs.Table.{row}
use Rattle.cps_ir.specs.declared.terms.Cps.{Cps}
use Rattle.cps_ir.specs.Parts.{is_proc, is_procedure, global_lams, first_lams}
use Rattle.cps_ir.specs.States.{Pending, At, Calling, Looking, Entering, State, Program, marked, all_escape, Closure, Handler, Object, Waiting, Back, Live, going as going_to, faulted as faulted_to, with_store as store_to, with_waiting}
use Rattle.cps_ir.specs.Giving.{Way, Out, On, Lost, or_unbound, after_row as row_to, returned, given}
use Rattle.cps_ir.specs.Calls.{unwound, escaped as escaped_to, entered as entered_to, called as called_to, operated as operated_to, looked as looked_to, default_at, default_of, handlers_at, defaulted as defaulted_to}
use Rattle.frame_ir.specs.declared.forms.Frames.{Frames}
use Rattle.frame_ir.specs.declared.forms.Template.{Template}
use Rattle.frame_ir.specs.Values.{lasting_of, Frame, Value, Lasting, Object as FrameObject}
use Rattle.frame_ir.specs.States.{Running, with_live, wrong, counted, older_than, Calling as CallingAt, Looking as LookingAt, Entering as EnteringAt, State as FrameState, going, faulted, or_wrong, after_row, with_store}
use Rattle.frame_ir.specs.Arguments.{lasting_value, bound, is_proc as is_proc_at, number_among, proc_count, code_of_default}
use Rattle.frame_ir.specs.Calls.{jumped, begun, escaped, entered, returned as returned_to, called, operated, looked, methods_of, methods_at, defaulted}
use Rattle.layout_relation.specs.Links.{AreOneToOne, Zipped, zip_none, zip_one, SameOption, neither, both, IsTied, Links, SameVal, fix, char, nil, truth, symbol, string, pair, vector, closure, object, operation, builtin, escape, SameRow, gives, changes, faults}
use Rattle.layout_relation.specs.Contexts.{Catching, Return, PassesOn, CodeOf, MethodOf}
use Rattle.layout_relation.specs.Laid.{Sketch, IsFor, IsLaidOut}
use Rattle.layout_relation.specs.Related.{SameFrame, SameCatch, waits_none, waits_back, waits_bare, waits_framed, AreCaptured, SameHandler, SameObject, IsObjectFirst, Handles, handles_none, handles, Waits, SameMade, same_call, same_look, same_entry, same_method, Related}
use Rattle.layout_relation.proofs.Lists.{zip_get, some_at}
use Rattle.layout_relation.proofs.Rows.{row_same}
use Rattle.layout_relation.proofs.Preparing.{remade}
use Rattle.layout_relation.proofs.Arriving.{block_at, Arrives, arrives_more}
use Rattle.layout_relation.proofs.Handing.{returned_by, back_arrives, return_reaches, LowBelow, bound_to, return_moves, Returns, returned_arrives}
use Rattle.layout_relation.proofs.Calling.{Stands, entry_moves, fault_stands, needs_none, in_record, entry_stands, method_stands}

-- ---- defaults

-- the number of an item among those that pass, from n on
data Numbered {X : Type 0} (test : X → Bool) (n : ℕ) (xs : List X) (k : ℕ) : Option ℕ → Type 0 where
  isnt_there : option_map_or test (slice_get xs k) false ≡ false → Numbered test n xs k None
  is_there : (m : ℕ) → option_map_or test (slice_get xs k) false ≡ true → m ≡ n + length (filter test (take k xs)) → m < n + length (filter test xs) → Numbered test n xs k (Some m)

number_here : {X : Type 0} (test : X → Bool) (n : ℕ) (x : X) (xs : List X) (b : Bool) → test x ≡ b → Numbered test n (x ∷ xs) 0 (if b then Some n else None)
number_here test n x xs true e = is_there n e (omega arith) (let l = ap (λ b. length (if b then x ∷ filter test xs else filter test xs)) e in omega (arith, l))
number_here test n x xs false e = isnt_there e

number_later : {X : Type 0} (test : X → Bool) (n j : ℕ) (x : X) (xs : List X) (k : ℕ) (o : Option ℕ) (b : Bool) → test x ≡ b → j ≡ (if b then suc n else n) → Numbered test j xs k o → Numbered test n (x ∷ xs) (suc k) o
number_later test n j x xs k o b e is (isnt_there h) = isnt_there h
number_later test n j x xs k o true e is (is_there m h a c) =
    is_there m h (let l = ap (λ b. length (if b then x ∷ filter test (take k xs) else filter test (take k xs))) e in omega (arith, a, l, is)) (let l = ap (λ b. length (if b then x ∷ filter test xs else filter test xs)) e in omega (arith, c, l, is))
number_later test n j x xs k o false e is (is_there m h a c) =
    is_there m h (let l = ap (λ b. length (if b then x ∷ filter test (take k xs) else filter test (take k xs))) e in omega (arith, a, l, is)) (let l = ap (λ b. length (if b then x ∷ filter test xs else filter test xs)) e in omega (arith, c, l, is))

numbered : {X : Type 0} (test : X → Bool) (n : ℕ) (xs : List X) (k : ℕ) → Numbered test n xs k (number_among test n xs k)
numbered test n [] k = isnt_there refl
numbered test n (x ∷ xs) zero = number_here test n x xs (test x) refl
numbered test n (x ∷ xs) (suc k) = number_later test n (if test x then suc n else n) x xs k (number_among test (if test x then suc n else n) xs k) (test x) refl refl (numbered test (if test x then suc n else n) xs k)

abbrev one_if : Bool → ℕ
one_if b = if b then 1 else 0

same_kind : (k : GlobalKind) → one_if (is_proc k) ≡ one_if (is_proc_at k)
same_kind Kind.Proc = refl
same_kind Kind.Value = refl
same_kind Kind.Variable = refl

same_counts : (xs : List Global1) → count_by is_procedure xs ≡ count_by (λ g. is_proc_at g.kind) xs
same_counts [] = refl
same_counts (g ∷ xs) = sum_by-cons (λ g. one_if (is_procedure g)) g xs ∙ ap (λ n. n + count_by is_procedure xs) (same_kind g.kind)
    ∙ ap (λ n. one_if (is_proc_at g.kind) + n) (same_counts xs) ∙ sym (sum_by-cons (λ g. one_if (is_proc_at g.kind)) g xs)

procs_alike : (xs : List Global1) → length (filter is_procedure xs) ≡ count_by (λ g. is_proc_at g.kind) xs
procs_alike xs = length-filter is_procedure xs ∙ same_counts xs

-- the default of an operation, and the code that stands at its place
pub record SameDefault (cps : Cps) (c : Closure) (code : ℕ) : Type 0 where
  pub lam : c.lam ≡ code
  pub within : code < first_lams cps

default_from : (cps : Cps) (o : ℕ) (info : Option OpInfo) (code : Option ℕ) → slice_get cps.shared.ops.items o ≡ info → Numbered (λ x. x.default) (proc_count cps.shared) cps.shared.ops.items o code
    → SameOption (SameDefault cps) (option_map_or (default_at cps o) info None) code
default_from cps o None code is (isnt_there h) = neither
default_from cps o None code is (is_there m h a b) = absurd (true≢false (sym h ∙ ap (λ x. option_map_or (λ y. y.default) x false) is))
default_from cps o (Some info) code is (isnt_there h) =
    let no : info.default ≡ false = sym (ap (λ x. option_map_or (λ y. y.default) x false) is) ∙ h in
    subst (λ x. SameOption (SameDefault cps) x None) (sym (ap (λ b. if b then Some (record { lam = global_lams cps + length (filter (λ other. other.default) (take o cps.shared.ops.items)); scope = [] }) else None) no)) neither
default_from cps o (Some info) code is (is_there m h a b) =
    let yes : info.default ≡ true = sym (ap (λ x. option_map_or (λ y. y.default) x false) is) ∙ h in
    let count = procs_alike cps.shared.globals.items in
    let c : Closure = record { lam = global_lams cps + length (filter (λ other. other.default) (take o cps.shared.ops.items)); scope = [] } in
    subst (λ x. SameOption (SameDefault cps) x (Some m)) (sym (ap (λ b. if b then Some c else None) yes)) (both c m (record { lam = omega (arith, count, a); within = omega (arith, count, b) }))

pub default_same : (cps : Cps) (o : ℕ) → SameOption (SameDefault cps) (default_of cps o) (code_of_default cps.shared o)
default_same cps o = default_from cps o (slice_get cps.shared.ops.items o) (code_of_default cps.shared o) refl (numbered (λ x. x.default) (proc_count cps.shared) cps.shared.ops.items o)

-- ---- what a call comes to

module _ (cps : Cps) (p : Frames) (laid : IsLaidOut cps p) (Low : ℕ → ℕ → Type 0) where
  abbrev w : Sketch
  w = laid.sketch

  abbrev P : Program
  P = marked cps all_escape

  -- s2 is reached from y, which is low
  pub record Comes (s2 : State) (t y : FrameState) (most : ℕ) : Type 0 where
    pub arrives : Arrives cps p w Low s2 y most
    pub moves : y.moves ≡ t.moves
    pub low : Low y.store.heap (length y.live)

  pub comes_by : (s2 s3 : State) (t y z : FrameState) (most : ℕ) → s2 ≡ s3 → y ≡ z → Comes s3 t z most → Comes s2 t y most
  comes_by s2 s3 t y z most e f h = subst (λ s. Comes s t y most) (sym e) (subst (λ x. Comes s3 t x most) (sym f) h)

  stands_come : (s2 : State) (t y : FrameState) (m n : ℕ) → m ≤ n → LowBelow cps p laid Low t → Stands cps p laid Low s2 t y m → Comes s2 t y n
  stands_come s2 t y m n le low h = record {
    arrives = arrives_more cps p w Low s2 y m n le h.arrives;
    moves = h.moves;
    low = subst (λ st. Low st.heap (length y.live)) (sym h.store) (subst (λ l. Low t.store.heap (length l)) (sym h.live) (low (length t.live) (omega arith)));
  }

  returns_come : (s2 : State) (t : FrameState) (b : Val) (n : ℕ) → return_moves cps p laid Low ≤ n → LowBelow cps p laid Low t → Returns cps p laid Low s2 t b → Comes s2 t (returned_to p b t) n
  returns_come s2 t b n le low h = record {
    arrives = arrives_more cps p w Low s2 (returned_to p b t) (return_moves cps p laid Low) n le h.arrives;
    moves = h.moves;
    low = subst (λ st. Low st.heap (length (returned_to p b t).live)) (sym h.store) (subst (λ l. Low t.store.heap (length l)) (sym h.live) (low (length t.live) (omega arith)));
  }

  pub returned_store : (waiting : List Waiting) (v : Val) (s : State) → (returned P waiting v s).store ≡ s.store
  returned_store [] v s = refl
  returned_store (Back pending ∷ waiting) v s = ap (λ x. x.store) (bound_to cps p laid Low pending.param v pending.scope (with_waiting s waiting) (λ scope t. going_to (At pending.body scope) t))
  returned_store (Live i own ∷ waiting) v s = refl

  pub given_store : (to : Way) (v : Val) (s : State) → (given P to v s).store ≡ s.store
  given_store Out v s = returned_store s.waiting v s
  given_store (On pending) v s = ap (λ x. x.store) (bound_to cps p laid Low pending.param v pending.scope s (λ scope t. going_to (At pending.body scope) t))
  given_store Lost v s = refl

  -- a builtin
  row_comes : (links : Links) (s : State) (t : FrameState) (r q : Row) → SameRow links r q → Waits w links t.frames [] s.waiting t.live → SameMade cps w links s t → LowBelow cps p laid Low t
      → ((st : Store) (n : ℕ) → st.heap ≤ (row_to r s (λ v u. returned P u.waiting v u)).store.heap → n ≤ length t.live → Low st.heap n) → Comes (row_to r s (λ v u. returned P u.waiting v u)) t (after_row q t (returned_to p)) (entry_moves cps p laid Low)
  row_comes links s t r q (gives x y h) waits made low lows = returns_come (returned P s.waiting x s) t y (entry_moves cps p laid Low) (omega arith) low (returned_arrives cps p laid Low links s t x y waits h made low)
  row_comes links s t r q (changes a b x y st h) waits made low lows =
      let s2 = store_to s a in
      let t2 = with_store t b in
      let low2 : LowBelow cps p laid Low t2 = λ n le. lows b n (let e = ap (λ z. z.heap) (returned_store s.waiting x s2) in let f = st.heap in omega (arith, e, f)) le in
      let made2 : SameMade cps w links s2 t2 = record { one = made.one; store = st; closures = made.closures; globals = made.globals; count = made.count; procedures = made.procedures; cells = made.cells; objects = made.objects; located = made.located; objected = made.objected; escapes = made.escapes } in
      let c = returns_come (returned P s.waiting x s2) t2 y (entry_moves cps p laid Low) (omega arith) low2 (returned_arrives cps p laid Low links s2 t2 x y waits h made2 low2) in
      record { arrives = c.arrives; moves = c.moves; low = c.low }
  row_comes links s t r q (faults fault) waits made low lows = stands_come (faulted_to fault s) t (faulted fault t) 0 (entry_moves cps p laid Low) (omega arith) low (fault_stands cps p laid Low links s t fault 0 made)

  -- what a value has of methods, and the object that has them
  pub record Methods (links : Links) (s : State) (t : FrameState) (v u : Val) (us : List Val) : Type 0 where
    pub hs : List Handler
    pub ms : List (ℕ × ℕ)
    pub left : handlers_at s v ≡ hs
    pub right : methods_at p t u ≡ ms
    pub captured : List Value
    pub kept : List ℕ
    pub same : Zipped (SameHandler w links captured kept) hs ms
    pub handled : Handles t.objects (u ∷ us) captured hs

  no_methods : (links : Links) (s : State) (t : FrameState) (v u : Val) (us : List Val) → handlers_at s v ≡ [] → methods_at p t u ≡ [] → Methods links s t v u us
  no_methods links s t v u us e f = record { hs = []; ms = []; left = e; right = f; captured = []; kept = []; same = zip_none; handled = handles_none }

  object_methods : (links : Links) (s : State) (t : FrameState) (i : ℕ) (us : List Val) (o : Option Object) (q : Option FrameObject) → slice_get s.objects i ≡ o → slice_get t.objects i ≡ q → SameOption (SameObject w links) o q → Methods links s t (ObjectV i) (ObjectV i) us
  object_methods links s t i us o q e f neither = no_methods links s t (ObjectV i) (ObjectV i) us (ap (λ x. option_map_or (λ object. object.handlers) x []) e) (ap (λ x. option_map_or (λ t. methods_of t.ops t.codes) (option_and_then (λ object. slice_get p.templates.items object.template) x) []) f)
  object_methods links s t i us o q e f (both x y h) = record {
    hs = x.handlers;
    ms = h.methods;
    left = ap (λ x. option_map_or (λ object. object.handlers) x []) e;
    right = ap (λ x. option_map_or (λ t. methods_of t.ops t.codes) (option_and_then (λ object. slice_get p.templates.items object.template) x) []) f
        ∙ ap (λ ts. option_map_or (λ t. methods_of t.ops t.codes) (slice_get ts y.template) []) laid.templates
        ∙ mapped (slice_get laid.sketch.templates y.template) h.methods h.template;
    captured = y.captured;
    kept = h.kept;
    same = h.handlers;
    handled = handles x.handlers (record { object = i; others = us; found = y; are = refl; is = f; holds = refl });
  }
    where
      mapped : (o : Option Template) (ms : List (ℕ × ℕ)) → option_map (λ t. methods_of t.ops t.codes) o ≡ Some ms → option_map_or (λ t. methods_of t.ops t.codes) o [] ≡ ms
      mapped None ms e = absurd (never ms e)
        where
          never : (ms : List (ℕ × ℕ)) → None ≡ Some ms → ⊥
          never ms h = cc
      mapped (Some x) ms e = same (methods_of x.ops x.codes) ms e
        where
          same : (a b : List (ℕ × ℕ)) → Some a ≡ Some b → a ≡ b
          same a b h = cc

  methods : (links : Links) (s : State) (t : FrameState) (v u : Val) (us : List Val) → SameMade cps w links s t → SameVal links v u → Methods links s t v u us
  methods links s t v u us made (object i lt) = object_methods links s t i us (slice_get s.objects i) (slice_get t.objects i) refl refl (zip_get (SameObject w links) s.objects t.objects i made.objects)
  methods links s t v u us made (fix z) = no_methods links s t (FixV z) (FixV z) us refl refl
  methods links s t v u us made (char c) = no_methods links s t (CharV c) (CharV c) us refl refl
  methods links s t v u us made nil = no_methods links s t NilV NilV us refl refl
  methods links s t v u us made truth = no_methods links s t TrueV TrueV us refl refl
  methods links s t v u us made (symbol n) = no_methods links s t (SymbolV n) (SymbolV n) us refl refl
  methods links s t v u us made (string x) = no_methods links s t (StringV x) (StringV x) us refl refl
  methods links s t v u us made (pair k) = no_methods links s t (PairV k) (PairV k) us refl refl
  methods links s t v u us made (vector k) = no_methods links s t (VectorV k) (VectorV k) us refl refl
  methods links s t v u us made (closure i j h) = no_methods links s t (ClosureV i) (ClosureV j) us refl refl
  methods links s t v u us made (operation o) = no_methods links s t (OperationV o) (OperationV o) us refl refl
  methods links s t v u us made (builtin b) = no_methods links s t (BuiltinV b) (BuiltinV b) us refl refl
  methods links s t v u us made (escape i j h) = no_methods links s t (EscapeV i) (EscapeV j) us refl refl

  -- the frames stand where s is
  here_comes : (links : Links) (s : State) (t : FrameState) (most : ℕ) → Related cps w s t → LowBelow cps p laid Low t → Comes s t t most
  here_comes links s t most r low = record { arrives = record { end = t; path = record { count = 0; goes = refl; moves = omega arith; low = λ i a b. absurd (omega (arith, a, b)) }; related = r }; moves = refl; low = low (length t.live) (omega arith) }

  operation_comes : (links : Links) (s : State) (t : FrameState) (o : ℕ) (xs ys : List Val) → Zipped (SameVal links) xs ys → Waits w links t.frames [] s.waiting t.live → SameMade cps w links s t → LowBelow cps p laid Low t
      → Comes (operated_to o xs s) t (operated p o ys t) (entry_moves cps p laid Low)
  operation_comes links s t o xs ys zip_none waits made low = stands_come (faulted_to WrongCount s) t (faulted WrongCount t) 0 (entry_moves cps p laid Low) (omega arith) low (fault_stands cps p laid Low links s t WrongCount 0 made)
  operation_comes links s t o xs ys (zip_one v u vs us h rest) waits made low =
      let m = methods links s t v u us made h in
      let s2 = going_to (Looking o m.hs (v ∷ vs)) s in
      let t2 = going (LookingAt o m.ms (u ∷ us)) t in
      let c = here_comes links s2 t2 (entry_moves cps p laid Low) (record { links = links; made = made; doing = same_look o m.hs m.ms m.captured m.kept (v ∷ vs) (u ∷ us) m.same m.handled (zip_one v u vs us h rest) waits }) low in
      let d : Comes s2 t t2 (entry_moves cps p laid Low) = record { arrives = c.arrives; moves = c.moves; low = c.low } in
      comes_by (operated_to o (v ∷ vs) s) s2 t (operated p o (u ∷ us) t) t2 (entry_moves cps p laid Low) (ap (λ hs. going_to (Looking o hs (v ∷ vs)) s) m.left) (ap (λ ms. going (LookingAt o ms (u ∷ us)) t) m.right) d

  no_procedure : (links : Links) (s : State) (t : FrameState) → SameMade cps w links s t → LowBelow cps p laid Low t → Comes (faulted_to NotProcedure s) t (faulted NotProcedure t) (entry_moves cps p laid Low)
  no_procedure links s t made low = stands_come (faulted_to NotProcedure s) t (faulted NotProcedure t) 0 (entry_moves cps p laid Low) (omega arith) low (fault_stands cps p laid Low links s t NotProcedure 0 made)

  closure_comes : (links : Links) (s : State) (t : FrameState) (i j : ℕ) (xs ys : List Val) → IsTied links.closures i j → Zipped (SameVal links) xs ys → Waits w links t.frames [] s.waiting t.live → SameMade cps w links s t → LowBelow cps p laid Low t
      → Comes (called_to P (ClosureV i) xs s) t (called p (ClosureV j) ys t) (entry_moves cps p laid Low)
  closure_comes links s t i j xs ys tie same waits made low =
      let at = made.closures i j tie in
      let vs = Lasting (ClosureV j) ∷ map Lasting ys in
      comes_by (called_to P (ClosureV i) xs s) (entered_to P at.left xs s) t (called p (ClosureV j) ys t) (entered p at.right.code vs t) (entry_moves cps p laid Low)
      (ap (λ o. or_unbound o s (λ c. entered_to P c xs s)) at.is)
      (ap (λ o. or_wrong o t (λ c. entered p c.code vs t)) at.at)
      (stands_come (entered_to P at.left xs s) t (entered p at.right.code vs t) (entry_moves cps p laid Low) (entry_moves cps p laid Low) (omega arith) low
      (entry_stands cps p laid Low links s t at.left at.right.code (ClosureV j) xs ys at.same.runs (in_record j at.right refl at.at at.same.captured) same waits made low))

  none_some : {X : Type 0} (x : X) → None ≡ Some x → ⊥
  none_some x h = cc

  -- an object passes the call on
  object_comes : (links : Links) (s : State) (t : FrameState) (i : ℕ) (xs ys : List Val) → i < links.objects → (o : Option Object) (q : Option FrameObject) → slice_get s.objects i ≡ o → slice_get t.objects i ≡ q → SameOption (SameObject w links) o q → Zipped (SameVal links) xs ys → Waits w links t.frames [] s.waiting t.live
      → SameMade cps w links s t → LowBelow cps p laid Low t → Comes (called_to P (ObjectV i) xs s) t (called p (ObjectV i) ys t) (entry_moves cps p laid Low)
  object_comes links s t i xs ys lt o q e f neither same waits made low = let there = some_at s.objects i (let up = made.objected in omega (arith, lt, up)) in absurd (none_some there.0 (sym e ∙ there.1))
  object_comes links s t i xs ys lt o q e f (both x y h) same waits made low =
      let s2 = going_to (Calling x.procedure xs) s in
      let t2 = going (CallingAt (Lasting y.procedure) ys) t in
      let c = here_comes links s2 t2 (entry_moves cps p laid Low) (record { links = links; made = made; doing = same_call x.procedure y.procedure xs ys h.procedure same waits }) low in
      comes_by (called_to P (ObjectV i) xs s) s2 t (called p (ObjectV i) ys t) t2 (entry_moves cps p laid Low) (ap (λ z. or_unbound z s (λ object. going_to (Calling object.procedure xs) s)) e) (ap (λ z. or_wrong z t (λ object. going (CallingAt (Lasting object.procedure) ys) t)) f)
      (record { arrives = c.arrives; moves = c.moves; low = c.low })

  tied_same : (links : Links) (a x b y : ℕ) → AreOneToOne links → IsTied links.escapes a x → IsTied links.escapes b y → a ≡ b → x ≡ y
  tied_same links a x b y one h k e = eqb-true x y (sym (one.escapes a x b y h k) ∙ eq-eqb a b e)

  older_fewer : (b : ℕ) (live : List ℕ) → length (older_than b live) ≤ length live
  older_fewer b [] = omega arith
  older_fewer b (x ∷ live) = by (x == b) (older_fewer b live)
    where
      by : (y : Bool) → length (older_than b live) ≤ length live → length (if y then live else older_than b live) ≤ suc (length live)
      by true h = omega arith
      by false h = omega (arith, h)

  -- what waits behind a live catch
  pub data Behind (links : Links) (frames : List Frame) (i b : ℕ) : Option (List Waiting) → Bool → List ℕ → Type 0 where
    -- it is dead
    behind_none : (older : List ℕ) → Behind links frames i b None false older
    behind_bare : (waiting : List Waiting) (older : List ℕ) (back : ℕ) → SameCatch links frames i b back → IsFor w back PassesOn → Waits w links frames [] waiting older → Behind links frames i b (Some waiting) true older
    behind_framed : (pending : Pending) (waiting : List Waiting) (push : ℕ) (older : List ℕ) (r : Return) (f : SameFrame w links frames pending push r) → SameCatch links frames i b f.frame.back → Waits w links frames r.catches waiting older
        → Behind links frames i b (Some (Back pending ∷ waiting)) true (push ∷ older)

  same_opened : (f g : Frame) (o : Option Frame) → o ≡ Some f → o ≡ Some g → f ≡ g
  same_opened f g o e h = same (sym e ∙ h)
    where
      same : Some f ≡ Some g → f ≡ g
      same h = cc

  -- the frame of a Push isn't that of a CATCH
  push_other : (frames : List Frame) (push b : ℕ) (f g : Frame) → slice_get frames push ≡ Some f → f.catch ≡ false → slice_get frames b ≡ Some g → g.catch ≡ true → (push == b) ≡ false
  push_other frames push b f g e closed h opened =
      ne_eqb push b (λ (q : push ≡ b). true≢false (sym opened ∙ ap (λ z. z.catch) (same_opened g f (slice_get frames b) h (ap (slice_get frames) (sym q) ∙ e)) ∙ closed))

  -- an escape on both sides
  behind_catch : (links : Links) (frames : List Frame) (i b : ℕ) (cs : List Catching) (waiting : List Waiting) (live : List ℕ) → IsTied links.escapes i b → AreOneToOne links → (g : Frame) → slice_get frames b ≡ Some g → g.catch ≡ true → Waits w links frames cs waiting live
      → Behind links frames i b (unwound i waiting) (list_any (λ z. z == b) live) (older_than b live)
  behind_catch links frames i b cs waiting live tie one g is opened waits_none = behind_none []
  behind_catch links frames i b cs waiting live tie one g is opened (waits_back pending rest birth older r f h) =
      let other = push_other frames birth b f.frame g f.is f.push is opened in
      subst (λ z. Behind links frames i b (unwound i rest) (z || list_any (λ z. z == b) older) (if z then older else older_than b older)) (sym other) (behind_catch links frames i b r.catches rest older tie one g is opened h)
  behind_catch links frames i b cs waiting live tie one g is opened (waits_bare catch rest birth older back c passes h) =
      by (catch == i) (birth == b) (one.escapes catch birth i b c.tied tie) refl (behind_catch links frames i b [] rest older tie one g is opened h)
    where
      by : (x y : Bool) → x ≡ y → (catch == i) ≡ x → Behind links frames i b (unwound i rest) (list_any (λ z. z == b) older) (older_than b older)
          → Behind links frames i b (if x then Some rest else unwound i rest) (y || list_any (λ z. z == b) older) (if y then older else older_than b older)
      by true y e q rec =
          let same_i : catch ≡ i = eqb-true catch i q in
          let same_b : birth ≡ b = tied_same links catch birth i b one c.tied tie same_i in
          subst (λ y. Behind links frames i b (Some rest) (y || list_any (λ z. z == b) older) (if y then older else older_than b older)) e
          (behind_bare rest older back (subst (λ n. SameCatch links frames n b back) same_i (subst (λ n. SameCatch links frames catch n back) same_b c)) passes h)
      by false y e q rec = subst (λ y. Behind links frames i b (unwound i rest) (y || list_any (λ z. z == b) older) (if y then older else older_than b older)) e rec
  behind_catch links frames i b cs waiting live tie one g is opened (waits_framed catch pending rest birth push older r f c h) =
      let other = push_other frames push b f.frame g f.is f.push is opened in
      by (catch == i) (birth == b) (one.escapes catch birth i b c.tied tie) refl
      (subst (λ z. Behind links frames i b (unwound i rest) (z || list_any (λ z. z == b) older) (if z then older else older_than b older)) (sym other) (behind_catch links frames i b r.catches rest older tie one g is opened h))
    where
      by : (x y : Bool) → x ≡ y → (catch == i) ≡ x → Behind links frames i b (unwound i rest) (list_any (λ z. z == b) (push ∷ older)) (older_than b (push ∷ older))
          → Behind links frames i b (if x then Some (Back pending ∷ rest) else unwound i rest) (y || list_any (λ z. z == b) (push ∷ older)) (if y then push ∷ older else older_than b (push ∷ older))
      by true y e q rec =
          let same_i : catch ≡ i = eqb-true catch i q in
          let same_b : birth ≡ b = tied_same links catch birth i b one c.tied tie same_i in
          subst (λ y. Behind links frames i b (Some (Back pending ∷ rest)) (y || list_any (λ z. z == b) (push ∷ older)) (if y then push ∷ older else older_than b (push ∷ older))) e
          (behind_framed pending rest push older r f (subst (λ n. SameCatch links frames n b f.frame.back) same_i (subst (λ n. SameCatch links frames catch n f.frame.back) same_b c)) h)
      by false y e q rec = subst (λ y. Behind links frames i b (unwound i rest) (y || list_any (λ z. z == b) (push ∷ older)) (if y then push ∷ older else older_than b (push ∷ older))) e rec

  -- the value of an escape that was found
  found_comes : (links : Links) (s : State) (t : FrameState) (i b : ℕ) (v u : Val) (o : Option (List Waiting)) (alive : Bool) (live : List ℕ) → Behind links t.frames i b o alive live → SameVal links v u → SameMade cps w links s t → LowBelow cps p laid Low t → length live ≤ length t.live
      → older_than b t.live ≡ live → Comes (escaped_to P o v s) t (if alive then escaped p b u t else faulted DeadEscape t) (entry_moves cps p laid Low)
  found_comes links s t i b v u o alive live (behind_none older) same made low fewer is = stands_come (faulted_to DeadEscape s) t (faulted DeadEscape t) 0 (entry_moves cps p laid Low) (omega arith) low (fault_stands cps p laid Low links s t DeadEscape 0 made)
  found_comes links s t i b v u o alive live (behind_bare waiting older back c passes h) same made low fewer is =
      let blk = block_at cps p laid back PassesOn passes in
      let x = blk.fits.value in
      let t2 = with_live t older in
      let y = going (Running [] (Last.Return (FrameArgument.Var x)) ((x.0, Lasting u) ∷ [])) t2 in
      let begins : Block → FrameState = λ b2. if length b2.params == 1 then begun b2 (bound b2.params (Lasting u ∷ [])) t2 else wrong t2 in
      let goes : escaped p b u t ≡ y =
      ap (λ o. or_wrong o t (λ f. jumped p f.back (Lasting u ∷ []) (with_live t (older_than b t.live)))) c.is
      ∙ ap (λ l. jumped p c.frame.back (Lasting u ∷ []) (with_live t l)) is
      ∙ ap (λ n. jumped p n (Lasting u ∷ []) t2) c.back_is
      ∙ ap (λ o. or_wrong o t2 begins) blk.is
      ∙ ap (λ ps. if length ps == 1 then going (Running blk.block.ops.items blk.block.last (bound ps (Lasting u ∷ []))) t2 else wrong t2) blk.fits.takes
      ∙ ap (λ os. going (Running os blk.block.last ((x.0, Lasting u) ∷ [])) t2) blk.fits.ops
      ∙ ap (λ l. going (Running [] l ((x.0, Lasting u) ∷ [])) t2) blk.fits.goes in
      let low2 : LowBelow cps p laid Low (counted 2 y) = λ n le. low n (omega (arith, le, fewer)) in
      let reads : lasting_value p.shared ((x.0, Lasting u) ∷ []) (FrameArgument.Var x) ≡ Some u = ap (λ z. option_and_then lasting_of (if z then Some (Lasting u) else None)) (eqb_same x.0) in
      let one : step p y ≡ returned_to p u (counted 2 y) = ap (λ o. or_wrong o y (λ v. returned_to p v (counted 2 y))) reads in
      let back = returned_by cps p laid Low links s (counted 2 y) v u [] waiting older h refl refl same made low2 in
      let final = returned P waiting v s in
      let arrives = arrives_more cps p w Low final y (2 + return_moves cps p laid Low) (entry_moves cps p laid Low) (omega arith) (return_reaches cps p laid Low final y (counted 2 y) u 2 0 one (omega arith) low2 back).arrives in
      comes_by final final t (escaped p b u t) y (entry_moves cps p laid Low) refl goes (record { arrives = arrives; moves = refl; low = low2 (length older) (omega arith) })
  found_comes links s t i b v u o alive live (behind_framed pending waiting push older r f c h) same made low fewer is =
      let t2 = with_live t (push ∷ older) in
      let low2 : LowBelow cps p laid Low t2 = λ n le. low n (omega (arith, le, fewer)) in
      let go : Frame → FrameState = λ f. jumped p f.back (Lasting u ∷ []) t2 in
      let goes : escaped p b u t ≡ go f.frame =
      ap (λ o. or_wrong o t (λ f. jumped p f.back (Lasting u ∷ []) (with_live t (older_than b t.live)))) c.is
      ∙ ap (λ l. jumped p c.frame.back (Lasting u ∷ []) (with_live t l)) is
      ∙ ap (λ n. jumped p n (Lasting u ∷ []) t2) c.back_is in
      let back_to : returned_to p u t2 ≡ go f.frame = ap (λ o. or_wrong o t2 (λ f. if f.catch then wrong t2 else go f)) f.is ∙ ap (λ z. if z then wrong t2 else go f.frame) f.push in
      let final = returned P (Back pending ∷ waiting) v s in
      let back = back_arrives cps p laid Low links s t2 v u pending waiting push older r f h refl same made low2 in
      let c2 = returns_come final t2 u (entry_moves cps p laid Low) (omega arith) low2 back in
      comes_by final final t (escaped p b u t) (returned_to p u t2) (entry_moves cps p laid Low) refl (goes ∙ sym back_to) (record { arrives = c2.arrives; moves = c2.moves; low = c2.low })

  escape_comes : (links : Links) (s : State) (t : FrameState) (i j : ℕ) (xs ys : List Val) → IsTied links.escapes i j → Zipped (SameVal links) xs ys → Waits w links t.frames [] s.waiting t.live → SameMade cps w links s t → LowBelow cps p laid Low t
      → Comes (called_to P (EscapeV i) xs s) t (called p (EscapeV j) ys t) (entry_moves cps p laid Low)
  escape_comes links s t i j xs ys tie zip_none waits made low = stands_come (faulted_to WrongCount s) t (faulted WrongCount t) 0 (entry_moves cps p laid Low) (omega arith) low (fault_stands cps p laid Low links s t WrongCount 0 made)
  escape_comes links s t i j xs ys tie (zip_one v u vs us h (zip_one v2 u2 vs2 us2 h2 rest)) waits made low = stands_come (faulted_to WrongCount s) t (faulted WrongCount t) 0 (entry_moves cps p laid Low) (omega arith) low (fault_stands cps p laid Low links s t WrongCount 0 made)
  escape_comes links s t i j xs ys tie (zip_one v u vs us h zip_none) waits made low =
      let at = made.escapes i j tie in
      found_comes links s t i j v u (unwound i s.waiting) (list_any (λ z. z == j) t.live) (older_than j t.live) (behind_catch links t.frames i j [] s.waiting t.live tie made.one at.frame at.is at.opened waits) h made low (older_fewer j t.live) refl

  pub called_comes : (links : Links) (s : State) (t : FrameState) (f g : Val) (xs ys : List Val) → SameVal links f g → Zipped (SameVal links) xs ys → Waits w links t.frames [] s.waiting t.live → SameMade cps w links s t → LowBelow cps p laid Low t
      → ((st : Store) (n : ℕ) → st.heap ≤ (called_to P f xs s).store.heap → n ≤ length t.live → Low st.heap n) → Comes (called_to P f xs s) t (called p g ys t) (entry_moves cps p laid Low)
  called_comes links s t f g xs ys (closure i j h) same waits made low lows = closure_comes links s t i j xs ys h same waits made low
  called_comes links s t f g xs ys (object i lt) same waits made low lows = object_comes links s t i xs ys lt (slice_get s.objects i) (slice_get t.objects i) refl refl (zip_get (SameObject w links) s.objects t.objects i made.objects) same waits made low
  called_comes links s t f g xs ys (escape i j h) same waits made low lows = escape_comes links s t i j xs ys h same waits made low
  called_comes links s t f g xs ys (operation o) same waits made low lows = operation_comes links s t o xs ys same waits made low
  called_comes links s t f g xs ys (builtin b) same waits made low lows = row_comes links s t (row b xs s.store) (row b ys t.store) (row_same links made.one b xs ys s.store t.store same made.store) waits made low lows
  called_comes links s t f g xs ys (fix z) same waits made low lows = no_procedure links s t made low
  called_comes links s t f g xs ys (char c) same waits made low lows = no_procedure links s t made low
  called_comes links s t f g xs ys nil same waits made low lows = no_procedure links s t made low
  called_comes links s t f g xs ys truth same waits made low lows = no_procedure links s t made low
  called_comes links s t f g xs ys (symbol n) same waits made low lows = no_procedure links s t made low
  called_comes links s t f g xs ys (string x) same waits made low lows = no_procedure links s t made low
  called_comes links s t f g xs ys (pair k) same waits made low lows = no_procedure links s t made low
  called_comes links s t f g xs ys (vector k) same waits made low lows = no_procedure links s t made low

  -- ---- a default

  default_comes : (links : Links) (s : State) (t : FrameState) (o : ℕ) (xs ys : List Val) (c : Option Closure) (code : Option ℕ) → SameOption (SameDefault cps) c code → Zipped (SameVal links) xs ys → Waits w links t.frames [] s.waiting t.live → SameMade cps w links s t → LowBelow cps p laid Low t
      → Comes (defaulted_to c xs s) t (defaulted p code o ys t) (entry_moves cps p laid Low)
  default_comes links s t o xs ys c code neither same waits made low = stands_come (faulted_to NotHandled s) t (faulted NotHandled t) 0 (entry_moves cps p laid Low) (omega arith) low (fault_stands cps p laid Low links s t NotHandled 0 made)
  default_comes links s t o xs ys c code (both d k h) same waits made low =
      let first = laid.firsts k h.within in
      let s2 = going_to (Entering d xs) s in
      let t2 = going (EnteringAt k (Lasting (OperationV o) ∷ map Lasting ys)) t in
      let r = here_comes links s2 t2 (entry_moves cps p laid Low) (record { links = links; made = remade cps w links s s2 t t2 made refl refl; doing = same_entry d k (OperationV o) xs ys (subst (λ l. IsFor w k (CodeOf l)) (sym h.lam) first.0) (ap w.needs h.lam ∙ first.1) same waits }) low in
      record { arrives = r.arrives; moves = r.moves; low = r.low }

  look_test : (links : Links) (s : State) (t : FrameState) (o : ℕ) (h : Handler) (hs : List Handler) (m : ℕ × ℕ) (ms : List (ℕ × ℕ)) (captured : List Value) (kept : List ℕ) (xs ys : List Val) → (b c : Bool) → b ≡ c → SameHandler w links captured kept h m → Zipped (SameHandler w links captured kept) hs ms
      → IsObjectFirst t.objects ys captured → Zipped (SameVal links) xs ys → Waits w links t.frames [] s.waiting t.live → SameMade cps w links s t → LowBelow cps p laid Low t
      → Comes (going_to (if b then Entering h.closure xs else Looking o hs xs) s) t (going (if c then EnteringAt m.1 (map Lasting ys) else LookingAt o ms ys) t) (entry_moves cps p laid Low)
  look_test links s t o h hs m ms captured kept xs ys true c e same others front sames waits made low =
      let s2 = going_to (Entering h.closure xs) s in
      let t2 = going (EnteringAt m.1 (map Lasting ys)) t in
      let r = here_comes links s2 t2 (entry_moves cps p laid Low) (record { links = links; made = made; doing = same_method h.closure m.1 captured kept xs ys same.runs same.holds front sames waits }) low in
      subst (λ c. Comes s2 t (going (if c then EnteringAt m.1 (map Lasting ys) else LookingAt o ms ys) t) (entry_moves cps p laid Low)) e (record { arrives = r.arrives; moves = r.moves; low = r.low })
  look_test links s t o h hs m ms captured kept xs ys false c e same others front sames waits made low =
      let s2 = going_to (Looking o hs xs) s in
      let t2 = going (LookingAt o ms ys) t in
      let r = here_comes links s2 t2 (entry_moves cps p laid Low) (record { links = links; made = made; doing = same_look o hs ms captured kept xs ys others (handles hs front) sames waits }) low in
      subst (λ c. Comes s2 t (going (if c then EnteringAt m.1 (map Lasting ys) else LookingAt o ms ys) t) (entry_moves cps p laid Low)) e (record { arrives = r.arrives; moves = r.moves; low = r.low })

  handled_first : (objects : List FrameObject) (ys : List Val) (captured : List Value) (h : Handler) (hs all : List Handler) → Handles objects ys captured all → all ≡ h ∷ hs → IsObjectFirst objects ys captured
  handled_first objects ys captured h hs all handles_none e = absurd (never e)
    where
      never : [] ≡ h ∷ hs → ⊥
      never q = cc
  handled_first objects ys captured h hs all (handles gs front) e = front

  pub looked_comes : (links : Links) (s : State) (t : FrameState) (o : ℕ) (hs : List Handler) (ms : List (ℕ × ℕ)) (captured : List Value) (kept : List ℕ) (xs ys : List Val) → Zipped (SameHandler w links captured kept) hs ms → Handles t.objects ys captured hs → Zipped (SameVal links) xs ys
      → Waits w links t.frames [] s.waiting t.live → SameMade cps w links s t → LowBelow cps p laid Low t → Comes (looked_to P o hs xs s) t (looked p o ms ys t) (entry_moves cps p laid Low)
  looked_comes links s t o hs ms captured kept xs ys zip_none handled sames waits made low =
      default_comes links s t o xs ys (default_of cps o) (code_of_default p.shared o) (subst (λ sh. SameOption (SameDefault cps) (default_of cps o) (code_of_default sh o)) (sym laid.shared) (default_same cps o)) sames waits made low
  looked_comes links s t o hs ms captured kept xs ys (zip_one h m gs ns same others) handled sames waits made low =
      look_test links s t o h gs m ns captured kept xs ys (h.op == o) (m.0 == o) (ap (λ n. n == o) same.op) same others (handled_first t.objects ys captured h gs (h ∷ gs) handled refl) sames waits made low

  pub method_comes : (links : Links) (s : State) (t : FrameState) (c : Closure) (code : ℕ) (captured : List Value) (kept : List ℕ) (xs ys : List Val) → IsFor w code (MethodOf c.lam kept) → AreCaptured w links c.scope kept captured → IsObjectFirst t.objects ys captured
      → Zipped (SameVal links) xs ys → Waits w links t.frames [] s.waiting t.live → SameMade cps w links s t → LowBelow cps p laid Low t → Comes (entered_to P c xs s) t (entered p code (map Lasting ys) t) (entry_moves cps p laid Low)
  method_comes links s t c code captured kept xs ys for holds front same waits made low =
      stands_come (entered_to P c xs s) t (entered p code (map Lasting ys) t) (entry_moves cps p laid Low) (entry_moves cps p laid Low) (omega arith) low (method_stands cps p laid Low links s t c code captured kept xs ys for holds front same waits made low)

  pub entering_comes : (links : Links) (s : State) (t : FrameState) (c : Closure) (code : ℕ) (self : Val) (xs ys : List Val) → IsFor w code (CodeOf c.lam) → w.needs c.lam ≡ [] → Zipped (SameVal links) xs ys → Waits w links t.frames [] s.waiting t.live → SameMade cps w links s t
      → LowBelow cps p laid Low t → Comes (entered_to P c xs s) t (entered p code (Lasting self ∷ map Lasting ys) t) (entry_moves cps p laid Low)
  entering_comes links s t c code self xs ys for none same waits made low =
      stands_come (entered_to P c xs s) t (entered p code (Lasting self ∷ map Lasting ys) t) (entry_moves cps p laid Low) (entry_moves cps p laid Low) (omega arith) low (entry_stands cps p laid Low links s t c code self xs ys for (needs_none none) same waits made low)
