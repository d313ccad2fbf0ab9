-- Globals.
use Rattle.std.proofs.Common.{◌≡◌, ℕ, zero, suc, ◌+◌, ◌*◌, ◌≤◌, ◌<◌, true, false, List, [], ◌∷◌, ◌++◌, length, Option, Some, None, slice_get, slice_set, refl, sym, ap, subst, ◌∙◌, arith, inl}
use Rattle.t_base.specs.declared.basics.Var.{Var}
use Rattle.t_prim.specs.Values.{Val}
use Rattle.t_base.specs.declared.faults.Fault.TheVariants.{Unbound}
use Rattle.cps_ir.specs.declared.args.Arg.{Arg}
use Rattle.cps_ir.specs.declared.terms.Cont.{Cont}
use Rattle.cps_ir.specs.declared.terms.Term.TheVariants as Node
use Rattle.cps_ir.specs.declared.terms.Cps.{Cps}
use Rattle.cps_ir.specs.States.{Scope, State, Program, marked, all_escape, with_global_at as with_global_to}
use Rattle.cps_ir.specs.Giving.{or_unbound, with_global, way, give}
use Rattle.cps_ir.specs.Running.{performed}
use Rattle.cps_ir.specs.declared.args.Arg.TheVariants as FrameArgument
use Rattle.frame_ir.specs.declared.forms.FrameOp.{FrameOp}
use Rattle.frame_ir.specs.declared.forms.FrameOp.TheVariants as Op
use Rattle.frame_ir.specs.declared.forms.FrameEnd.{FrameEnd}
use Rattle.frame_ir.specs.declared.forms.Frames.{Frames}
use Rattle.frame_ir.specs.Values.{Lasting, Env}
use Rattle.frame_ir.specs.States.{Running, State as FrameState, going, counted, or_wrong, with_global_at}
use Rattle.frame_ir.specs.Arguments.{lasting_value}
use Rattle.frame_ir.specs.Arguments.{code_of_global}
use Rattle.frame_ir.specs.Operations.{if_bound}
use Rattle.frame_ir.specs.Running.{step}
use Rattle.layout_relation.specs.Links.{SameOption, neither, both, Links, SameVal}
use Rattle.layout_relation.specs.Contexts.{Context, IsUnused}
use Rattle.layout_relation.specs.Laid.{Sketch, Prepares, Gives, IsLaidOut}
use Rattle.layout_relation.specs.Related.{SameMade, HoldAll, Leads, Waits}
use Rattle.layout_relation.proofs.Lists.{zip_get, zip_set, some_at}
use Rattle.layout_relation.proofs.Stepping.{given_store}
use Rattle.layout_relation.proofs.Paths.{steps}
use Rattle.layout_relation.proofs.Bringing.{brings, fault_reaches, waits_behind}
use Rattle.layout_relation.proofs.Handing.{LowBelow, Reaches, reaches_after, give_moves, gives_arrives}
use Rattle.layout_relation.proofs.Staged.{Staged, first}

module _ (cps : Cps) (p : Frames) (laid : IsLaidOut cps p) (Low : ℕ → ℕ → Type 0) where
  abbrev w : Sketch
  w = laid.sketch

  abbrev P : Program
  P = marked cps all_escape

  set_other : {X : Type 0} (xs : List X) (i j : ℕ) (x : X) → (i ≡ j → ⊥) → slice_get (slice_set xs i x) j ≡ slice_get xs j
  set_other [] i j x apart = refl
  set_other (a ∷ xs) zero zero x apart = absurd (apart refl)
  set_other (a ∷ xs) zero (suc j) x apart = refl
  set_other (a ∷ xs) (suc i) zero x apart = refl
  set_other (a ∷ xs) (suc i) (suc j) x apart = set_other xs i j x (λ e. apart (ap suc e))

  set_count : {X : Type 0} (xs : List X) (i : ℕ) (x : X) → length (slice_set xs i x) ≡ length xs
  set_count [] i x = refl
  set_count (a ∷ xs) zero x = refl
  set_count (a ∷ xs) (suc i) x = ap suc (set_count xs i x)

  -- a global that is no procedure has another value
  put_made : (links : Links) (s : State) (u : FrameState) (g : ℕ) (v r : Val) → code_of_global cps.shared g ≡ None → SameVal links v r → SameMade cps w links s u → SameMade cps w links (with_global_to s g v) (with_global_at u g r)
  put_made links s u g v r none same made = record {
    one = made.one;
    store = made.store;
    closures = made.closures;
    globals = zip_set (SameOption (SameVal links)) s.globals u.globals g (Some v) (Some r) (both v r same) made.globals;
    count = set_count s.globals g (Some v) ∙ made.count;
    procedures = λ j code e. let k = made.procedures j code e in (set_other s.globals g j (Some v) (λ q. never code (sym none ∙ ap (code_of_global cps.shared) q ∙ e)) ∙ k.0, k.1);
    cells = made.cells;
    objects = made.objects;
    located = made.located;
    objected = made.objected;
    escapes = made.escapes;
  }
    where
      never : (code : ℕ) → None ≡ Some code → ⊥
      never code h = cc

  get_by : (links : Links) (c : Context) (t : ℕ) (scope : Scope) (env : Env) (s : State) (u : FrameState) (g : ℕ) (k : Cont) (to : Var) (ops : List FrameOp) (last : FrameEnd) (o q : Option Val) → slice_get s.globals g ≡ Some o → slice_get u.globals g ≡ Some q → SameOption (SameVal links) o q
      → IsUnused c.vars to.0 → Gives cps w c t k (FrameArgument.Var to) ops last → SameMade cps w links s u → HoldAll w links scope env c.vars → Leads scope c.exits → Waits w links u.frames c.catches s.waiting u.live → LowBelow cps p laid Low u
      → Reaches cps p w Low (performed P scope (Node.GlobalGet g k) s) (going (Running (Op.GlobalGet to g ∷ ops) last env) u) (1 + give_moves cps p laid Low) (w.rank t)
  get_by links c t scope env s u g k to ops last o q e f (neither) unused onward made held leads waits low =
      let at = going (Running (Op.GlobalGet to g ∷ ops) last env) u in
      subst (λ x. Reaches cps p w Low x at (1 + give_moves cps p laid Low) (w.rank t)) (sym (ap (λ x. or_unbound x s (λ global. or_unbound global s (λ v. give P scope k v s))) e))
      (fault_reaches cps p laid Low links s at (counted 1 at) Unbound 1 (give_moves cps p laid Low) (w.rank t) made low (ap (λ x. or_wrong x at (λ held. if_bound held (counted 1 at) (λ v. going (Running ops last ((to.0, Lasting v) ∷ env)) (counted 1 at)))) f) (omega arith))
  get_by links c t scope env s u g k to ops last o q e f (both x y h) unused onward made held leads waits low =
      let at = going (Running (Op.GlobalGet to g ∷ ops) last env) u in
      subst (λ x. Reaches cps p w Low x at (1 + give_moves cps p laid Low) (w.rank t)) (sym (ap (λ x. or_unbound x s (λ global. or_unbound global s (λ v. give P scope k v s))) e))
      (brings cps p laid Low links c t scope env s at (counted 1 u) k to ops last x y 1 unused onward h made held leads waits low (ap (λ x. or_wrong x at (λ held. if_bound held (counted 1 at) (λ v. going (Running ops last ((to.0, Lasting v) ∷ env)) (counted 1 at)))) f) (omega arith))

  -- the global is there on both sides
  pub record Globals (links : Links) (s : State) (u : FrameState) (g : ℕ) : Type 0 where
    pub left : Option Val
    pub right : Option Val
    pub is : slice_get s.globals g ≡ Some left
    pub at : slice_get u.globals g ≡ Some right
    pub same : SameOption (SameVal links) left right

  globals_by : (links : Links) (s : State) (u : FrameState) (g : ℕ) (o q : Option (Option Val)) → slice_get s.globals g ≡ o → slice_get u.globals g ≡ q → SameOption (SameOption (SameVal links)) o q → g < length s.globals → Globals links s u g
  globals_by links s u g o q e f neither lt = let there = some_at s.globals g lt in absurd (never there.0 (sym e ∙ there.1))
    where
      never : (x : Option Val) → None ≡ Some x → ⊥
      never x h = cc
  globals_by links s u g o q e f (both x y h) lt = record { left = x; right = y; is = e; at = f; same = h }

  globals_at : (links : Links) (s : State) (u : FrameState) (g : ℕ) → SameMade cps w links s u → g < length cps.shared.globals.items → Globals links s u g
  globals_at links s u g made lt = globals_by links s u g (slice_get s.globals g) (slice_get u.globals g) refl refl (zip_get (SameOption (SameVal links)) s.globals u.globals g made.globals) (let n = made.count in omega (arith, lt, n))

  read_heap : (scope : Scope) (k : Cont) (s : State) (o : Option (Option Val)) → s.store.heap ≤ (or_unbound o s (λ global. or_unbound global s (λ v. give P scope k v s))).store.heap
  read_heap scope k s None = omega arith
  read_heap scope k s (Some None) = omega arith
  read_heap scope k s (Some (Some v)) = let e = ap (λ st. st.heap) (given_store cps p laid Low (way scope k) v s) in omega (arith, e)

  pub get_reaches : (c : Context) (t g : ℕ) (scope : Scope) (env : Env) (s : State) (u : FrameState) (k : Cont) (to : Var) (ops : List FrameOp) (last : FrameEnd) → g < length cps.shared.globals.items → IsUnused c.vars to.0 → Gives cps w c t k (FrameArgument.Var to) ops last
      → Staged cps p w Low c scope env s (performed P scope (Node.GlobalGet g k) s) u
      → Reaches cps p w Low (performed P scope (Node.GlobalGet g k) s) (going (Running (Op.GlobalGet to g ∷ ops) last env) u) (1 + give_moves cps p laid Low) (w.rank t)
  get_reaches c t g scope env s u k to ops last lt unused onward st =
      let up = read_heap scope k s (slice_get s.globals g) in
      let gs = globals_at st.links s u g st.made lt in
      get_by st.links c t scope env s u g k to ops last gs.left gs.right gs.is gs.at gs.same unused onward st.made st.held st.leads st.waits (λ n le. st.low u.store.heap n (let a = st.made.store.heap in omega (arith, a, up)) (inl le))

  -- ---- a value is put

  put_reaches : (links : Links) (c : Context) (t : ℕ) (scope : Scope) (env : Env) (s : State) (at u : FrameState) (k : Cont) (b : Arg) (v r : Val) (ops : List FrameOp) (last : FrameEnd) (g : ℕ) → code_of_global cps.shared g ≡ None → lasting_value p.shared env b ≡ Some r → SameVal links v r
      → Gives cps w c t k b ops last → SameMade cps w links s u → HoldAll w links scope env c.vars → Leads scope c.exits → Waits w links u.frames c.catches s.waiting u.live → LowBelow cps p laid Low u → step p at ≡ going (Running ops last env) (counted 2 (with_global_at u g r)) → u.moves ≤ at.moves
      → Reaches cps p w Low (give P scope k v (with_global_to s g v)) at (2 + give_moves cps p laid Low) (w.rank t)
  put_reaches links c t scope env s at u k b v r ops last g none reads same onward made held leads waits low one few =
      let u2 = counted 2 (with_global_at u g r) in
      let arrives = gives_arrives cps p laid Low links (with_global_to s g v) u2 c t k scope b v r ops last env onward reads same held leads waits (put_made links s u g v r none same made) low in
      reaches_after cps p w Low (give P scope k v (with_global_to s g v)) at (going (Running ops last env) u2) 2 (give_moves cps p laid Low) (w.rank t) (steps p Low at (going (Running ops last env) u2) 2 one (omega (arith, few)) (low (length u.live) (omega arith))) arrives

  pub init_reaches : (c : Context) (t g : ℕ) (scope : Scope) (env : Env) (s : State) (u : FrameState) (value : Arg) (k : Cont) (ms : List FrameOp) (b : Arg) (ops : List FrameOp) (last : FrameEnd) → g < length cps.shared.globals.items → code_of_global cps.shared g ≡ None
      → Prepares cps w c.vars (value ∷ []) ms (b ∷ []) → Gives cps w c t k b ops last → Staged cps p w Low c scope env s (performed P scope (Node.GlobalInit g value k) s) u
      → Reaches cps p w Low (performed P scope (Node.GlobalInit g value k) s) (going (Running (ms ++ Op.GlobalPut g b true ∷ ops) last env) u) (1 * (1 + cps.shared.size) + (2 + give_moves cps p laid Low)) (w.rank t)
  init_reaches c t g scope env s u value k ms b ops last lt none d onward st =
      let f = first cps p laid Low st.links scope c.vars s u value [] ms (Op.GlobalPut g b true ∷ ops) b [] last env st.made st.held d refl in
      let x = f.x in
      let go : State → Val → List Val → State = λ t v vs. give P scope k v (with_global_to t g v) in
      let final = go x.left f.v f.vs in
      let there : performed P scope (Node.GlobalInit g value k) s ≡ final = f.gives go in
      let heap : (performed P scope (Node.GlobalInit g value k) s).store.heap ≡ x.left.store.heap = ap (λ q. q.store.heap) there ∙ ap (λ st. st.heap) (given_store cps p laid Low (way scope k) f.v (with_global_to x.left g f.v)) in
      let at = going (Running (Op.GlobalPut g b true ∷ ops) last x.env2) x.right in
      let gs = globals_at x.links2 x.left x.right g x.made lt in
      let one : step p at ≡ going (Running ops last x.env2) (counted 2 (with_global_at x.right g f.r)) =
      ap (λ o. or_wrong o at (λ v. or_wrong (slice_get at.globals g) at (λ held. going (Running ops last x.env2) (counted 2 (with_global_at at g v))))) f.reads
      ∙ ap (λ o. or_wrong o at (λ held. going (Running ops last x.env2) (counted 2 (with_global_at at g f.r)))) gs.at in
      let waits = waits_behind cps p laid Low st.links x.links2 c s x.left u x.right x.extends st.waits x.waiting x.frames x.live in
      let lows : LowBelow cps p laid Low x.right = λ n le. st.low x.right.store.heap n (let a = x.made.store.heap in omega (arith, a, heap)) (inl (let e = ap length x.live in omega (arith, le, e))) in
      let path = x.path (λ h le. st.low h (length u.live) (omega (arith, le, heap)) (inl (omega arith))) in
      subst (λ f. Reaches cps p w Low f (going (Running (ms ++ Op.GlobalPut g b true ∷ ops) last env) u) (1 * (1 + cps.shared.size) + (2 + give_moves cps p laid Low)) (w.rank t)) (sym there)
      (reaches_after cps p w Low final (going (Running (ms ++ Op.GlobalPut g b true ∷ ops) last env) u) at (1 * (1 + cps.shared.size)) (2 + give_moves cps p laid Low) (w.rank t) path
      (put_reaches x.links2 c t scope x.env2 x.left at x.right k b f.v f.r ops last g none f.reads f.same onward x.made x.held st.leads waits lows one (omega arith)))

  -- the operation, with its value read
  assigned : (env : Env) (u : FrameState) (b : Arg) (r : Val) (ops : List FrameOp) (last : FrameEnd) (g : ℕ) → lasting_value p.shared env b ≡ Some r
      → step p (going (Running (Op.GlobalPut g b false ∷ ops) last env) u)
      ≡ or_wrong (slice_get u.globals g) (going (Running (Op.GlobalPut g b false ∷ ops) last env) u) (λ held. if_bound held (counted 2 (going (Running (Op.GlobalPut g b false ∷ ops) last env) u)) (λ old. going (Running ops last env) (counted 2 (with_global_at u g r))))
  assigned env u b r ops last g reads =
      let at = going (Running (Op.GlobalPut g b false ∷ ops) last env) u in
      ap (λ o. or_wrong o at (λ v. or_wrong (slice_get at.globals g) at (λ held. if_bound held (counted 2 at) (λ old. going (Running ops last env) (counted 2 (with_global_at at g v)))))) reads

  bound_heap : (scope : Scope) (k : Cont) (v : Val) (s : State) (g : ℕ) (o : Option (Option Val)) → s.store.heap ≤ (or_unbound o s (λ global. or_unbound global s (λ old. give P scope k v (with_global_to s g v)))).store.heap
  bound_heap scope k v s g None = omega arith
  bound_heap scope k v s g (Some None) = omega arith
  bound_heap scope k v s g (Some (Some old)) = let e = ap (λ st. st.heap) (given_store cps p laid Low (way scope k) v (with_global_to s g v)) in omega (arith, e)

  assigned_heap : (scope : Scope) (k : Cont) (v : Val) (s : State) (g : ℕ) → s.store.heap ≤ (with_global g s (λ old. give P scope k v (with_global_to s g v))).store.heap
  assigned_heap scope k v s g = bound_heap scope k v s g (slice_get s.globals g)

  -- an assignment of a global that may be Unbound
  assign_by : (links : Links) (c : Context) (t : ℕ) (scope : Scope) (env : Env) (s : State) (u : FrameState) (k : Cont) (b : Arg) (v r : Val) (ops : List FrameOp) (last : FrameEnd) (g : ℕ) (o q : Option Val) → slice_get s.globals g ≡ Some o → slice_get u.globals g ≡ Some q → SameOption (SameVal links) o q
      → code_of_global cps.shared g ≡ None → lasting_value p.shared env b ≡ Some r → SameVal links v r → Gives cps w c t k b ops last → SameMade cps w links s u → HoldAll w links scope env c.vars → Leads scope c.exits → Waits w links u.frames c.catches s.waiting u.live → LowBelow cps p laid Low u
      → Reaches cps p w Low (with_global g s (λ old. give P scope k v (with_global_to s g v))) (going (Running (Op.GlobalPut g b false ∷ ops) last env) u) (2 + give_moves cps p laid Low) (w.rank t)
  assign_by links c t scope env s u k b v r ops last g o q e f neither none reads value_same onward made held leads waits low =
      let at = going (Running (Op.GlobalPut g b false ∷ ops) last env) u in
      subst (λ x. Reaches cps p w Low x at (2 + give_moves cps p laid Low) (w.rank t)) (sym (ap (λ x. or_unbound x s (λ global. or_unbound global s (λ old. give P scope k v (with_global_to s g v)))) e))
      (fault_reaches cps p laid Low links s at (counted 2 at) Unbound 2 (give_moves cps p laid Low) (w.rank t) made low (assigned env u b r ops last g reads ∙ ap (λ x. or_wrong x at (λ held. if_bound held (counted 2 at) (λ old. going (Running ops last env) (counted 2 (with_global_at at g r))))) f) (omega arith))
  assign_by links c t scope env s u k b v r ops last g o q e f (both x y h) none reads value_same onward made held leads waits low =
      let at = going (Running (Op.GlobalPut g b false ∷ ops) last env) u in
      subst (λ z. Reaches cps p w Low z at (2 + give_moves cps p laid Low) (w.rank t)) (sym (ap (λ z. or_unbound z s (λ global. or_unbound global s (λ old. give P scope k v (with_global_to s g v)))) e))
      (put_reaches links c t scope env s at u k b v r ops last g none reads value_same onward made held leads waits low (assigned env u b r ops last g reads ∙ ap (λ z. or_wrong z at (λ held. if_bound held (counted 2 at) (λ old. going (Running ops last env) (counted 2 (with_global_at at g r))))) f) (omega arith))

  pub set_reaches : (c : Context) (t g : ℕ) (scope : Scope) (env : Env) (s : State) (u : FrameState) (value : Arg) (k : Cont) (ms : List FrameOp) (b : Arg) (ops : List FrameOp) (last : FrameEnd) → g < length cps.shared.globals.items → code_of_global cps.shared g ≡ None
      → Prepares cps w c.vars (value ∷ []) ms (b ∷ []) → Gives cps w c t k b ops last → Staged cps p w Low c scope env s (performed P scope (Node.GlobalSet g value k) s) u
      → Reaches cps p w Low (performed P scope (Node.GlobalSet g value k) s) (going (Running (ms ++ Op.GlobalPut g b false ∷ ops) last env) u) (1 * (1 + cps.shared.size) + (2 + give_moves cps p laid Low)) (w.rank t)
  set_reaches c t g scope env s u value k ms b ops last lt none d onward st =
      let f = first cps p laid Low st.links scope c.vars s u value [] ms (Op.GlobalPut g b false ∷ ops) b [] last env st.made st.held d refl in
      let x = f.x in
      let go : State → Val → List Val → State = λ t v vs. with_global g t (λ old. give P scope k v (with_global_to t g v)) in
      let final = go x.left f.v f.vs in
      let there : performed P scope (Node.GlobalSet g value k) s ≡ final = f.gives go in
      let gs = globals_at x.links2 x.left x.right g x.made lt in
      let heap : x.left.store.heap ≤ (performed P scope (Node.GlobalSet g value k) s).store.heap = let e = ap (λ q. q.store.heap) there in let r = assigned_heap scope k f.v x.left g in omega (arith, e, r) in
      let at = going (Running (Op.GlobalPut g b false ∷ ops) last x.env2) x.right in
      let waits = waits_behind cps p laid Low st.links x.links2 c s x.left u x.right x.extends st.waits x.waiting x.frames x.live in
      let lows : LowBelow cps p laid Low x.right = λ n le. st.low x.right.store.heap n (let a = x.made.store.heap in omega (arith, a, heap)) (inl (let e = ap length x.live in omega (arith, le, e))) in
      let path = x.path (λ h le. st.low h (length u.live) (omega (arith, le, heap)) (inl (omega arith))) in
      subst (λ f. Reaches cps p w Low f (going (Running (ms ++ Op.GlobalPut g b false ∷ ops) last env) u) (1 * (1 + cps.shared.size) + (2 + give_moves cps p laid Low)) (w.rank t)) (sym there)
      (reaches_after cps p w Low final (going (Running (ms ++ Op.GlobalPut g b false ∷ ops) last env) u) at (1 * (1 + cps.shared.size)) (2 + give_moves cps p laid Low) (w.rank t) path
      (assign_by x.links2 c t scope x.env2 x.left x.right k b f.v f.r ops last g gs.left gs.right gs.is gs.at gs.same none f.reads f.same onward x.made x.held st.leads waits lows))
