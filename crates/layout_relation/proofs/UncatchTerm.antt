-- A CATCH ends, and its value goes on.
use Rattle.std.proofs.Common.{◌≡◌, ℕ, ◌+◌, ◌*◌, ◌≤◌, true, false, if◌then◌else◌, List, [], ◌∷◌, ◌++◌, length, Option, Some, None, slice_get, refl, sym, ap, subst, ◌∙◌, arith, inl}
use Rattle.t_prim.specs.Values.{Val}
use Rattle.cps_ir.specs.declared.args.Arg.{Arg}
use Rattle.cps_ir.specs.declared.terms.Cont.{Cont}
use Rattle.cps_ir.specs.declared.terms.Term.TheVariants as Node
use Rattle.cps_ir.specs.declared.terms.Cps.{Cps}
use Rattle.cps_ir.specs.States.{Scope, State, Program, marked, all_escape, Waiting, Live, with_waiting, Pending}
use Rattle.cps_ir.specs.Giving.{way, give}
use Rattle.cps_ir.specs.Running.{performed, closing_catch}
use Rattle.frame_ir.specs.declared.forms.FrameOp.{FrameOp}
use Rattle.frame_ir.specs.declared.forms.FrameOp.TheVariants as Op
use Rattle.frame_ir.specs.declared.forms.FrameEnd.{FrameEnd}
use Rattle.frame_ir.specs.declared.forms.Frames.{Frames}
use Rattle.frame_ir.specs.Values.{Frame, Env}
use Rattle.frame_ir.specs.States.{Running, State as FrameState, going, wrong, counted, or_wrong, youngest, with_live, older_than_youngest}
use Rattle.frame_ir.specs.Running.{step}
use Rattle.layout_relation.specs.Links.{Links}
use Rattle.layout_relation.specs.Contexts.{Context, Catching, Bare, Framed}
use Rattle.layout_relation.specs.Laid.{Sketch, Prepares, Gives, IsLaidOut}
use Rattle.layout_relation.specs.Related.{SameMade, SameCatch, Waits, waits_none, waits_back, waits_bare, waits_framed}
use Rattle.layout_relation.proofs.Bringing.{waits_behind}
use Rattle.layout_relation.proofs.Stepping.{given_store}
use Rattle.layout_relation.proofs.Paths.{steps}
use Rattle.layout_relation.proofs.Handing.{pop_step, LowBelow, Reaches, reaches_after, give_moves, gives_arrives}
use Rattle.layout_relation.proofs.Staged.{Staged, first}

module _ (cps : Cps) (p : Frames) (laid : IsLaidOut cps p) (Low : ℕ → ℕ → Type 0) where
  abbrev w : Sketch
  w = laid.sketch

  abbrev P : Program
  P = marked cps all_escape

  -- the innermost CATCH, with a frame for its continuation or not
  record Innermost (links : Links) (frames : List Frame) (outer : List Catching) (waiting : List Waiting) (live : List ℕ) : Type 0 where
    catch : ℕ
    own : Option Pending
    rest : List Waiting
    birth : ℕ
    older : List ℕ
    back : ℕ
    is : waiting ≡ Live catch own ∷ rest
    at : live ≡ birth ∷ older
    same : SameCatch links frames catch birth back

  -- what is below it
  record BareBelow (links : Links) (frames : List Frame) (outer : List Catching) (waiting : List Waiting) (live : List ℕ) : Type 0 where
    top : Innermost links frames outer waiting live
    under : Waits w links frames outer top.rest top.older

  record FramedBelow (links : Links) (frames : List Frame) (outer : List Catching) (waiting : List Waiting) (live : List ℕ) : Type 0 where
    top : Innermost links frames outer waiting live
    push : ℕ
    oldest : List ℕ
    frame : Frame
    below : top.older ≡ push ∷ oldest
    is : slice_get frames push ≡ Some frame
    closed : frame.catch ≡ false
    under : Waits w links frames outer top.rest oldest

  bare_below : (links : Links) (frames : List Frame) (cs outer : List Catching) (waiting : List Waiting) (live : List ℕ) → Waits w links frames cs waiting live → cs ≡ Bare ∷ outer → BareBelow links frames outer waiting live
  bare_below links frames cs outer waiting live waits_none e = absurd (never e)
    where
      never : [] ≡ Bare ∷ outer → ⊥
      never h = cc
  bare_below links frames cs outer waiting live (waits_back pending rest birth older r f h) e = absurd (never e)
    where
      never : [] ≡ Bare ∷ outer → ⊥
      never h = cc
  bare_below links frames cs outer waiting live (waits_bare catch rest birth older back c passes h) e = record {
    top = record { catch = catch; own = None; rest = rest; birth = birth; older = older; back = back; is = refl; at = refl; same = c };
    under = subst (λ cs. Waits w links frames cs rest older) (tails e) h;
  }
    where
      tails : Bare ∷ [] ≡ Bare ∷ outer → [] ≡ outer
      tails h = cc
  bare_below links frames cs outer waiting live (waits_framed catch pending rest birth push older r f c h) e = absurd (never r.catches e)
    where
      never : (cs : List Catching) → Framed ∷ cs ≡ Bare ∷ outer → ⊥
      never cs h = cc

  framed_below : (links : Links) (frames : List Frame) (cs outer : List Catching) (waiting : List Waiting) (live : List ℕ) → Waits w links frames cs waiting live → cs ≡ Framed ∷ outer → FramedBelow links frames outer waiting live
  framed_below links frames cs outer waiting live waits_none e = absurd (never e)
    where
      never : [] ≡ Framed ∷ outer → ⊥
      never h = cc
  framed_below links frames cs outer waiting live (waits_back pending rest birth older r f h) e = absurd (never e)
    where
      never : [] ≡ Framed ∷ outer → ⊥
      never h = cc
  framed_below links frames cs outer waiting live (waits_bare catch rest birth older back c passes h) e = absurd (never e)
    where
      never : Bare ∷ [] ≡ Framed ∷ outer → ⊥
      never h = cc
  framed_below links frames cs outer waiting live (waits_framed catch pending rest birth push older r f c h) e = record {
    top = record { catch = catch; own = Some pending; rest = rest; birth = birth; older = push ∷ older; back = f.frame.back; is = refl; at = refl; same = c };
    push = push;
    oldest = older;
    frame = f.frame;
    below = refl;
    is = f.is;
    closed = f.push;
    under = subst (λ cs. Waits w links frames cs rest older) (tails r.catches e) h;
  }
    where
      tails : (cs : List Catching) → Framed ∷ cs ≡ Framed ∷ outer → cs ≡ outer
      tails cs h = cc

  close_step : (ops : List FrameOp) (last : FrameEnd) (env : Env) (u : FrameState) (birth : ℕ) (older : List ℕ) (f : Frame) → u.live ≡ birth ∷ older → slice_get u.frames birth ≡ Some f → f.catch ≡ true
      → step p (going (Running (Op.CatchClose ∷ ops) last env) u) ≡ going (Running ops last env) (counted 1 (with_live u older))
  close_step ops last env u birth older f live is opened =
      let t = going (Running (Op.CatchClose ∷ ops) last env) u in
      let go : FrameState = going (Running ops last env) (counted 1 (with_live t (older_than_youngest t.live))) in
      ap (λ l. or_wrong (youngest l) t (λ birth. or_wrong (slice_get t.frames birth) t (λ f. if f.catch then go else wrong t))) live
      ∙ ap (λ o. or_wrong o t (λ f. if f.catch then go else wrong t)) is
      ∙ ap (λ b. if b then go else wrong t) opened
      ∙ ap (λ l. going (Running ops last env) (counted 1 (with_live u (older_than_youngest l)))) live

  abbrev ends : Scope → Cont → State → Val → List Val → State
  ends scope k t v vs = closing_catch t.waiting t (λ u. give P scope k v u)

  pub bare_reaches : (c : Context) (t : ℕ) (scope : Scope) (env : Env) (s : State) (u : FrameState) (k : Cont) (value : Arg) (outer : List Catching) (ms : List FrameOp) (b : Arg) (ops : List FrameOp) (last : FrameEnd) → c.catches ≡ Bare ∷ outer → Prepares cps w c.vars (value ∷ []) ms (b ∷ [])
      → Gives cps w (record c { catches = outer }) t k b ops last → Staged cps p w Low c scope env s (performed P scope (Node.Uncatch k value) s) u
      → Reaches cps p w Low (performed P scope (Node.Uncatch k value) s) (going (Running (ms ++ Op.CatchClose ∷ ops) last env) u) (1 * (1 + cps.shared.size) + (1 + give_moves cps p laid Low)) (w.rank t)
  bare_reaches c t scope env s u k value outer ms b ops last open_ d onward st =
      let f = first cps p laid Low st.links scope c.vars s u value [] ms (Op.CatchClose ∷ ops) b [] last env st.made st.held d refl in
      let x = f.x in
      let waits = waits_behind cps p laid Low st.links x.links2 c s x.left u x.right x.extends st.waits x.waiting x.frames x.live in
      let q = bare_below x.links2 x.right.frames c.catches outer x.left.waiting x.right.live waits open_ in
      let s2 = with_waiting x.left q.top.rest in
      let final = give P scope k f.v s2 in
      let there : performed P scope (Node.Uncatch k value) s ≡ final = f.gives (ends scope k) ∙ ap (λ ws. closing_catch ws x.left (λ u. give P scope k f.v u)) q.top.is in
      let heap : (performed P scope (Node.Uncatch k value) s).store.heap ≡ x.left.store.heap = ap (λ z. z.store.heap) there ∙ ap (λ z. z.heap) (given_store cps p laid Low (way scope k) f.v s2) in
      let at = going (Running (Op.CatchClose ∷ ops) last x.env2) x.right in
      let u2 = counted 1 (with_live x.right q.top.older) in
      let on = going (Running ops last x.env2) u2 in
      let one = close_step ops last x.env2 x.right q.top.birth q.top.older q.top.same.frame q.top.at q.top.same.is q.top.same.opened in
      let lows : LowBelow cps p laid Low u2 = λ n le. st.low u2.store.heap n (let a = x.made.store.heap in omega (arith, a, heap)) (inl (let e = ap length x.live in let g = ap length q.top.at in omega (arith, le, e, g))) in
      let made2 : SameMade cps w x.links2 s2 u2 = x.made in
      let arrives = gives_arrives cps p laid Low x.links2 s2 u2 (record c { catches = outer }) t k scope b f.v f.r ops last x.env2 onward f.reads f.same x.held st.leads q.under made2 lows in
      let path = x.path (λ h le. st.low h (length u.live) (omega (arith, le, heap)) (inl (omega arith))) in
      subst (λ z. Reaches cps p w Low z (going (Running (ms ++ Op.CatchClose ∷ ops) last env) u) (1 * (1 + cps.shared.size) + (1 + give_moves cps p laid Low)) (w.rank t)) (sym there)
      (reaches_after cps p w Low final (going (Running (ms ++ Op.CatchClose ∷ ops) last env) u) at (1 * (1 + cps.shared.size)) (1 + give_moves cps p laid Low) (w.rank t) path
      (reaches_after cps p w Low final at on 1 (give_moves cps p laid Low) (w.rank t) (steps p Low at on 1 one (omega arith) (lows (length u2.live) (omega arith))) arrives))

  pub framed_reaches : (c : Context) (t : ℕ) (scope : Scope) (env : Env) (s : State) (u : FrameState) (k : Cont) (value : Arg) (outer : List Catching) (ms : List FrameOp) (b : Arg) (ops : List FrameOp) (last : FrameEnd) → c.catches ≡ Framed ∷ outer → Prepares cps w c.vars (value ∷ []) ms (b ∷ [])
      → Gives cps w (record c { catches = outer }) t k b ops last → Staged cps p w Low c scope env s (performed P scope (Node.Uncatch k value) s) u
      → Reaches cps p w Low (performed P scope (Node.Uncatch k value) s) (going (Running (ms ++ Op.CatchClose ∷ Op.Pop ∷ ops) last env) u) (1 * (1 + cps.shared.size) + (1 + (1 + give_moves cps p laid Low))) (w.rank t)
  framed_reaches c t scope env s u k value outer ms b ops last open_ d onward st =
      let f = first cps p laid Low st.links scope c.vars s u value [] ms (Op.CatchClose ∷ Op.Pop ∷ ops) b [] last env st.made st.held d refl in
      let x = f.x in
      let waits = waits_behind cps p laid Low st.links x.links2 c s x.left u x.right x.extends st.waits x.waiting x.frames x.live in
      let q = framed_below x.links2 x.right.frames c.catches outer x.left.waiting x.right.live waits open_ in
      let s2 = with_waiting x.left q.top.rest in
      let final = give P scope k f.v s2 in
      let there : performed P scope (Node.Uncatch k value) s ≡ final = f.gives (ends scope k) ∙ ap (λ ws. closing_catch ws x.left (λ u. give P scope k f.v u)) q.top.is in
      let heap : (performed P scope (Node.Uncatch k value) s).store.heap ≡ x.left.store.heap = ap (λ z. z.store.heap) there ∙ ap (λ z. z.heap) (given_store cps p laid Low (way scope k) f.v s2) in
      let at = going (Running (Op.CatchClose ∷ Op.Pop ∷ ops) last x.env2) x.right in
      let u1 = counted 1 (with_live x.right q.top.older) in
      let mid = going (Running (Op.Pop ∷ ops) last x.env2) u1 in
      let u2 = counted 1 (with_live u1 q.oldest) in
      let on = going (Running ops last x.env2) u2 in
      let one = close_step (Op.Pop ∷ ops) last x.env2 x.right q.top.birth q.top.older q.top.same.frame q.top.at q.top.same.is q.top.same.opened in
      let two = pop_step cps p laid Low ops last x.env2 u1 q.push q.oldest q.frame q.below q.is q.closed in
      let fewer : length q.top.older ≤ length u.live = let e = ap length x.live in let g = ap length q.top.at in omega (arith, e, g) in
      let least : length q.oldest ≤ length u.live = let g = ap length q.below in omega (arith, g, fewer) in
      let low1 : Low u1.store.heap (length u1.live) = st.low u1.store.heap (length q.top.older) (let a = x.made.store.heap in omega (arith, a, heap)) (inl fewer) in
      let lows : LowBelow cps p laid Low u2 = λ n le. st.low u2.store.heap n (let a = x.made.store.heap in omega (arith, a, heap)) (inl (omega (arith, le, least))) in
      let made2 : SameMade cps w x.links2 s2 u2 = x.made in
      let arrives = gives_arrives cps p laid Low x.links2 s2 u2 (record c { catches = outer }) t k scope b f.v f.r ops last x.env2 onward f.reads f.same x.held st.leads q.under made2 lows in
      let path = x.path (λ h le. st.low h (length u.live) (omega (arith, le, heap)) (inl (omega arith))) in
      subst (λ z. Reaches cps p w Low z (going (Running (ms ++ Op.CatchClose ∷ Op.Pop ∷ ops) last env) u) (1 * (1 + cps.shared.size) + (1 + (1 + give_moves cps p laid Low))) (w.rank t)) (sym there)
      (reaches_after cps p w Low final (going (Running (ms ++ Op.CatchClose ∷ Op.Pop ∷ ops) last env) u) at (1 * (1 + cps.shared.size)) (1 + (1 + give_moves cps p laid Low)) (w.rank t) path
      (reaches_after cps p w Low final at mid 1 (1 + give_moves cps p laid Low) (w.rank t) (steps p Low at mid 1 one (omega arith) low1)
      (reaches_after cps p w Low final mid on 1 (give_moves cps p laid Low) (w.rank t) (steps p Low mid on 1 two (omega arith) (lows (length u2.live) (omega arith))) arrives)))
