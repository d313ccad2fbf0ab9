-- Cells.
use Rattle.std.proofs.Common.{◌≡◌, ℕ, zero, suc, ◌+◌, ◌*◌, ◌≤◌, ◌<◌, Bool, true, false, if◌then◌else◌, List, [], ◌∷◌, ◌++◌, length, Option, Some, None, slice_get, slice_set, refl, sym, ap, subst, ◌∙◌, arith, inl}
use Rattle.t_base.specs.declared.basics.Var.{Var}
use Rattle.t_prim.specs.Values.{Val}
use Rattle.std.specs.Prelude.{option_and_then}
use Rattle.cps_ir.specs.declared.args.Arg.{Arg}
use Rattle.cps_ir.specs.declared.terms.Cont.{Cont}
use Rattle.cps_ir.specs.declared.terms.Term.TheVariants as Node
use Rattle.cps_ir.specs.declared.terms.Cps.{Cps}
use Rattle.cps_ir.specs.States.{Scope, State, Program, marked, all_escape, At, going as going_to, Meant, InLocation, Bound, taking as taking_to, with_location, with_location_at}
use Rattle.cps_ir.specs.Giving.{value_of as meant_value, location_of, located, with_place, or_unbound, way, give}
use Rattle.cps_ir.specs.Running.{performed}
use Rattle.cps_ir.specs.declared.args.Arg.TheVariants as FrameArgument
use Rattle.frame_ir.specs.declared.forms.FrameOp.{FrameOp}
use Rattle.frame_ir.specs.declared.forms.FrameOp.TheVariants as Op
use Rattle.frame_ir.specs.declared.forms.FrameEnd.{FrameEnd}
use Rattle.frame_ir.specs.declared.forms.Frames.{Frames}
use Rattle.frame_ir.specs.Values.{Value, Lasting, CellAt, Env, value_at}
use Rattle.frame_ir.specs.States.{Running, State as FrameState, going, counted, taking, with_cell, with_cell_at, or_wrong}
use Rattle.frame_ir.specs.Arguments.{lasting_value}
use Rattle.frame_ir.specs.Operations.{with_cell_of}
use Rattle.frame_ir.specs.Running.{step}
use Rattle.layout_relation.specs.Links.{IsIn, SameOption, neither, both, Links, Extends, SameVal, SameMeant, value as at_value, cell as at_cell}
use Rattle.layout_relation.specs.Contexts.{Context, IsFresh, with_var, IsUnused}
use Rattle.layout_relation.specs.Laid.{Sketch, GoesOn, Prepares, Gives, IsLaidOut}
use Rattle.layout_relation.specs.Related.{SameMade, leads_bound}
use Rattle.layout_relation.proofs.Growing.{waits_grow, hold_grows, val_grows, store_grows, globals_grow, cells_grow, objects_grow, closure_grows}
use Rattle.layout_relation.proofs.Lists.{zip_get, zip_set, zip_join, zip_length, some_at}
use Rattle.layout_relation.proofs.Scopes.{eqb_same, hold_set, hold_bound, hold_more}
use Rattle.layout_relation.proofs.Stepping.{given_store}
use Rattle.layout_relation.proofs.Paths.{steps}
use Rattle.layout_relation.proofs.Bringing.{brings, waits_behind}
use Rattle.layout_relation.proofs.Handing.{LowBelow, Reaches, reaches_after, reaches_step, found_first, goes_arrives, give_moves, gives_arrives}
use Rattle.layout_relation.proofs.Staged.{Staged, first}

module _ (cps : Cps) (p : Frames) (laid : IsLaidOut cps p) (Low : ℕ → ℕ → Type 0) where
  abbrev w : Sketch
  w = laid.sketch

  abbrev P : Program
  P = marked cps all_escape

  one_longer : {X : Type 0} (xs : List X) (x : X) → length (xs ++ x ∷ []) ≡ suc (length xs)
  one_longer [] x = refl
  one_longer (y ∷ xs) x = ap suc (one_longer xs x)

  -- a variable that is a cell
  record Located (links : Links) (meant : Meant) (v : Value) : Type 0 where
    place : ℕ
    is : meant ≡ InLocation place
    at : v ≡ CellAt place
    there : place < links.cells

  located_meant : (links : Links) (celled : Bool) (meant : Meant) (v : Value) → SameMeant links celled meant v → celled ≡ true → Located links meant v
  located_meant links celled meant v (at_value x y h) e = absurd (never e)
    where
      never : false ≡ true → ⊥
      never h = cc
  located_meant links celled meant v (at_cell i lt) e = record { place = i; is = refl; at = refl; there = lt }

  -- what a cell and its location hold
  record Contents (links : Links) (s : State) (u : FrameState) (i : ℕ) : Type 0 where
    left : Val
    right : Val
    is : slice_get s.locations i ≡ Some left
    at : slice_get u.cells i ≡ Some right
    same : SameVal links left right

  contents_by : (links : Links) (s : State) (u : FrameState) (i : ℕ) (o q : Option Val) → slice_get s.locations i ≡ o → slice_get u.cells i ≡ q → SameOption (SameVal links) o q → i < length s.locations → Contents links s u i
  contents_by links s u i o q e f neither lt = let there = some_at s.locations i lt in absurd (never there.0 (sym e ∙ there.1))
    where
      never : (x : Val) → None ≡ Some x → ⊥
      never x h = cc
  contents_by links s u i o q e f (both x y h) lt = record { left = x; right = y; is = e; at = f; same = h }

  contents : (links : Links) (s : State) (u : FrameState) (i : ℕ) → SameMade cps w links s u → i < links.cells → Contents links s u i
  contents links s u i made lt = contents_by links s u i (slice_get s.locations i) (slice_get u.cells i) refl refl (zip_get (SameVal links) s.locations u.cells i made.cells) (let up = made.located in omega (arith, lt, up))

  -- ---- a new cell

  abbrev more_cells : Links → ℕ → Links
  more_cells links n = record links { cells = n }

  more_extends : (links : Links) (n : ℕ) → links.cells ≤ n → Extends links (more_cells links n)
  more_extends links n le = record { closures = λ i j h. h; escapes = λ i j h. h; objects = omega arith; cells = le }

  new_cell_made : (links : Links) (s : State) (u : FrameState) (v r : Val) → SameVal links v r → SameMade cps w links s u → SameMade cps w (more_cells links (suc (length s.locations))) (taking_to 2 (with_location s v)) (taking 2 (with_cell u r))
  new_cell_made links s u v r same made =
      let new = more_cells links (suc (length s.locations)) in
      let more = more_extends links (suc (length s.locations)) (let up = made.located in omega (arith, up)) in
      let st = store_grows links new more s.store u.store made.store in
      record {
        one = record { closures = made.one.closures; escapes = made.one.escapes };
        store = record { names = st.names; strings = st.strings; pairs = st.pairs; vectors = st.vectors; output = st.output; heap = let low = st.heap in omega (arith, low) };
        closures = λ i j h. let at = made.closures i j h in record { left = at.left; right = at.right; is = at.is; at = at.at; same = closure_grows links new more w at.left at.right at.same };
        globals = globals_grow links new more s.globals u.globals made.globals;
        count = made.count;
        procedures = made.procedures;
        cells = zip_join (SameVal new) s.locations u.cells (v ∷ []) (r ∷ []) (cells_grow links new more s.locations u.cells made.cells) (val_grows links new more v r same, tt);
        objects = objects_grow links new more w s.objects u.objects made.objects;
        located = let n = one_longer s.locations v in omega (arith, n);
        objected = made.objected;
        escapes = made.escapes;
      }

  pub cell_reaches : (c : Context) (t : ℕ) (scope : Scope) (env : Env) (s : State) (u : FrameState) (x : Var) (value : Arg) (rest : ℕ) (ms : List FrameOp) (b : Arg) (to : Var) (ops : List FrameOp) (last : FrameEnd) → Prepares cps w c.vars (value ∷ []) ms (b ∷ [])
      → IsFresh c x.0 → w.celled x.0 ≡ true → IsUnused c.vars to.0 → GoesOn cps w (with_var x.0 to.0 c) rest ops last → Staged cps p w Low c scope env s (performed P scope (Node.Cell x value rest) s) u
      → Reaches cps p w Low (performed P scope (Node.Cell x value rest) s) (going (Running (ms ++ Op.Cell to b ∷ ops) last env) u) (1 * (1 + cps.shared.size) + (2 + (cps.shared.size + 4))) (w.rank t)
  cell_reaches c t scope env s u x value rest ms b to ops last d fresh celled unused onward st =
      let f = first cps p laid Low st.links scope c.vars s u value [] ms (Op.Cell to b ∷ ops) b [] last env st.made st.held d refl in
      let q = f.x in
      let i = length q.left.locations in
      let go : State → Val → List Val → State = λ t v vs. located x.0 v scope t (λ inner u. going_to (At rest inner) u) in
      let inner : Scope = Bound x.0 (InLocation i) ∷ scope in
      let s2 = taking_to 2 (with_location q.left f.v) in
      let final = going_to (At rest inner) s2 in
      let there : performed P scope (Node.Cell x value rest) s ≡ final = f.gives go in
      let heap = ap (λ z. z.store.heap) there in
      let new = more_cells q.links2 (suc i) in
      let more = more_extends q.links2 (suc i) (let up = q.made.located in omega (arith, up)) in
      let j = length q.right.cells in
      let numbers : i ≡ j = zip_length (SameVal q.links2) q.left.locations q.right.cells q.made.cells in
      let at = going (Running (Op.Cell to b ∷ ops) last q.env2) q.right in
      let env2 : Env = (to.0, CellAt j) ∷ q.env2 in
      let u2 = counted 2 (taking 2 (with_cell q.right f.r)) in
      let on = going (Running ops last env2) u2 in
      let one : step p at ≡ on = ap (λ o. or_wrong o at (λ v. going (Running ops last ((to.0, CellAt (length at.cells)) ∷ q.env2)) (counted 2 (taking 2 (with_cell at v))))) f.reads in
      let made2 = new_cell_made q.links2 q.left q.right f.v f.r f.same q.made in
      let held1 = hold_grows q.links2 new more w scope q.env2 c.vars q.held in
      let held2 = hold_set w new inner q.env2 c.vars to.0 (CellAt j) unused (hold_bound w new scope q.env2 c.vars x.0 (InLocation i) fresh.0 held1) in
      let cell_same : SameMeant new (w.celled x.0) (InLocation i) (CellAt j) = subst (λ c. SameMeant new c (InLocation i) (CellAt j)) (sym celled) (subst (λ n. SameMeant new true (InLocation i) (CellAt n)) numbers (at_cell i (omega arith))) in
      let held3 = hold_more w new inner env2 c.vars x.0 to.0 (record { meant = InLocation i; value = CellAt j; is = found_first cps p laid Low x.0 (InLocation i) scope; at = ap (λ z. if z then Some (CellAt j) else value_at q.env2 to.0) (eqb_same to.0); same = cell_same }) held2 in
      let waits0 = waits_behind cps p laid Low st.links q.links2 c s q.left u q.right q.extends st.waits q.waiting q.frames q.live in
      let waits = waits_grow q.links2 new more w q.right.frames q.right.frames (λ i f h. h) c.catches q.left.waiting q.right.live waits0 in
      let lows : LowBelow cps p laid Low u2 = λ n le. st.low u2.store.heap n (let a = made2.store.heap in omega (arith, a, heap)) (inl (let e = ap length q.live in omega (arith, le, e))) in
      let arrives = goes_arrives cps p laid Low new final u2 (with_var x.0 to.0 c) rest inner ops last env2 onward held3 (leads_bound x.0 (InLocation i) scope c.exits fresh.1 st.leads) waits made2 refl lows in
      let path = q.path (λ h le. st.low h (length u.live) (omega (arith, le, heap)) (inl (omega arith))) in
      subst (λ f. Reaches cps p w Low f (going (Running (ms ++ Op.Cell to b ∷ ops) last env) u) (1 * (1 + cps.shared.size) + (2 + (cps.shared.size + 4))) (w.rank t)) (sym there)
      (reaches_after cps p w Low final (going (Running (ms ++ Op.Cell to b ∷ ops) last env) u) at (1 * (1 + cps.shared.size)) (2 + (cps.shared.size + 4)) (w.rank t) path
      (reaches_step cps p w Low final at on 2 (cps.shared.size + 4) (w.rank t) one (omega arith) (lows (length u2.live) (omega arith)) arrives))

  -- ---- what it holds

  pub cell_get_reaches : (c : Context) (t : ℕ) (scope : Scope) (env : Env) (s : State) (u : FrameState) (x y : Var) (k : Cont) (to : Var) (ops : List FrameOp) (last : FrameEnd) → IsIn (x.0, y.0) c.vars → w.celled x.0 ≡ true → IsUnused c.vars to.0 → Gives cps w c t k (FrameArgument.Var to) ops last
      → Staged cps p w Low c scope env s (performed P scope (Node.CellGet x k) s) u
      → Reaches cps p w Low (performed P scope (Node.CellGet x k) s) (going (Running (Op.CellGet to y ∷ ops) last env) u) (2 + give_moves cps p laid Low) (w.rank t)
  cell_get_reaches c t scope env s u x y k to ops last there celled unused onward st =
      let h = st.held x.0 y.0 there in
      let l = located_meant st.links (w.celled x.0) h.meant h.value h.same celled in
      let q = contents st.links s u l.place st.made l.there in
      let final = give P scope k q.left s in
      let gets : performed P scope (Node.CellGet x k) s ≡ final = ap (λ o. or_unbound (option_and_then (meant_value s) o) s (λ v. give P scope k v s)) (h.is ∙ ap Some l.is) ∙ ap (λ o. or_unbound o s (λ v. give P scope k v s)) q.is in
      let heap : (performed P scope (Node.CellGet x k) s).store.heap ≡ s.store.heap = ap (λ z. z.store.heap) gets ∙ ap (λ z. z.heap) (given_store cps p laid Low (way scope k) q.left s) in
      let at = going (Running (Op.CellGet to y ∷ ops) last env) u in
      let go : ℕ → FrameState = λ i. or_wrong (slice_get at.cells i) at (λ v. going (Running ops last ((to.0, Lasting v) ∷ env)) (counted 2 at)) in
      let one : step p at ≡ going (Running ops last ((to.0, Lasting q.right) ∷ env)) (counted 2 u) = ap (λ o. with_cell_of o at go) (h.at ∙ ap Some l.at) ∙ ap (λ o. or_wrong o at (λ v. going (Running ops last ((to.0, Lasting v) ∷ env)) (counted 2 at))) q.at in
      let lows : LowBelow cps p laid Low (counted 2 u) = λ n le. st.low u.store.heap n (let a = st.made.store.heap in omega (arith, a, heap)) (inl le) in
      subst (λ f. Reaches cps p w Low f at (2 + give_moves cps p laid Low) (w.rank t)) (sym gets)
      (brings cps p laid Low st.links c t scope env s at (counted 2 u) k to ops last q.left q.right 2 unused onward q.same st.made st.held st.leads st.waits lows one (omega arith))

  set_cell_made : (links : Links) (s : State) (u : FrameState) (i : ℕ) (v r : Val) → SameVal links v r → SameMade cps w links s u → SameMade cps w links (with_location_at s i v) (with_cell_at u i r)
  set_cell_made links s u i v r same made = record {
    one = made.one;
    store = made.store;
    closures = made.closures;
    globals = made.globals;
    count = made.count;
    procedures = made.procedures;
    cells = zip_set (SameVal links) s.locations u.cells i v r same made.cells;
    objects = made.objects;
    located = let n = set_count s.locations i v in let up = made.located in omega (arith, n, up);
    objected = made.objected;
    escapes = made.escapes;
  }
    where
      set_count : {X : Type 0} (xs : List X) (i : ℕ) (x : X) → length (slice_set xs i x) ≡ length xs
      set_count [] i x = refl
      set_count (a ∷ xs) zero x = refl
      set_count (a ∷ xs) (suc i) x = ap suc (set_count xs i x)

  pub cell_set_reaches : (c : Context) (t : ℕ) (scope : Scope) (env : Env) (s : State) (u : FrameState) (x y : Var) (value : Arg) (k : Cont) (ms : List FrameOp) (b : Arg) (ops : List FrameOp) (last : FrameEnd) → Prepares cps w c.vars (value ∷ []) ms (b ∷ [])
      → IsIn (x.0, y.0) c.vars → w.celled x.0 ≡ true → Gives cps w c t k b ops last → Staged cps p w Low c scope env s (performed P scope (Node.CellSet x value k) s) u
      → Reaches cps p w Low (performed P scope (Node.CellSet x value k) s) (going (Running (ms ++ Op.CellSet y b ∷ ops) last env) u) (1 * (1 + cps.shared.size) + (3 + give_moves cps p laid Low)) (w.rank t)
  cell_set_reaches c t scope env s u x y value k ms b ops last d there celled onward st =
      let f = first cps p laid Low st.links scope c.vars s u value [] ms (Op.CellSet y b ∷ ops) b [] last env st.made st.held d refl in
      let q = f.x in
      let h = q.held x.0 y.0 there in
      let l = located_meant q.links2 (w.celled x.0) h.meant h.value h.same celled in
      let i = l.place in
      let go : State → Val → List Val → State = λ t v vs. with_place scope x.0 t (λ l. give P scope k v (with_location_at t l v)) in
      let s2 = with_location_at q.left i f.v in
      let final = give P scope k f.v s2 in
      let sets : performed P scope (Node.CellSet x value k) s ≡ final = f.gives go ∙ ap (λ o. or_unbound (option_and_then location_of o) q.left (λ l. give P scope k f.v (with_location_at q.left l f.v))) (h.is ∙ ap Some l.is) in
      let heap : (performed P scope (Node.CellSet x value k) s).store.heap ≡ q.left.store.heap = ap (λ z. z.store.heap) sets ∙ ap (λ z. z.heap) (given_store cps p laid Low (way scope k) f.v s2) in
      let at = going (Running (Op.CellSet y b ∷ ops) last q.env2) q.right in
      let u2 = counted 3 (with_cell_at q.right i f.r) in
      let on = going (Running ops last q.env2) u2 in
      let put : ℕ → FrameState = λ k. or_wrong (lasting_value p.shared q.env2 b) at (λ v. going (Running ops last q.env2) (counted 3 (with_cell_at at k v))) in
      let one : step p at ≡ on = ap (λ o. with_cell_of o at put) (h.at ∙ ap Some l.at) ∙ ap (λ o. or_wrong o at (λ v. going (Running ops last q.env2) (counted 3 (with_cell_at at i v)))) f.reads in
      let waits = waits_behind cps p laid Low st.links q.links2 c s q.left u q.right q.extends st.waits q.waiting q.frames q.live in
      let lows : LowBelow cps p laid Low u2 = λ n le. st.low u2.store.heap n (let a = q.made.store.heap in omega (arith, a, heap)) (inl (let e = ap length q.live in omega (arith, le, e))) in
      let made2 = set_cell_made q.links2 q.left q.right i f.v f.r f.same q.made in
      let arrives = gives_arrives cps p laid Low q.links2 s2 u2 c t k scope b f.v f.r ops last q.env2 onward f.reads f.same q.held st.leads waits made2 lows in
      let path = q.path (λ h le. st.low h (length u.live) (omega (arith, le, heap)) (inl (omega arith))) in
      subst (λ f. Reaches cps p w Low f (going (Running (ms ++ Op.CellSet y b ∷ ops) last env) u) (1 * (1 + cps.shared.size) + (3 + give_moves cps p laid Low)) (w.rank t)) (sym sets)
      (reaches_after cps p w Low final (going (Running (ms ++ Op.CellSet y b ∷ ops) last env) u) at (1 * (1 + cps.shared.size)) (3 + give_moves cps p laid Low) (w.rank t) path
      (reaches_after cps p w Low final at on 3 (give_moves cps p laid Low) (w.rank t) (steps p Low at on 3 one (omega arith) (lows (length u2.live) (omega arith))) arrives))
