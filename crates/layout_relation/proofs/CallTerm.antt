-- A call: a tail call pushes no frame, another one pushes that of its continuation.
use Rattle.std.proofs.Common.{◌≡◌, ℕ, suc, ◌+◌, ◌*◌, List, [], ◌∷◌, ◌++◌, length, Some, slice_get, refl, sym, ap, subst, ◌∙◌, arith, inl, inr, append-nil}
use Rattle.t_base.specs.declared.basics.Var.{Var}
use Rattle.t_prim.specs.Values.{Val}
use Rattle.cps_ir.specs.declared.args.Arg.{Arg}
use Rattle.cps_ir.specs.declared.terms.Cont.{Cont}
use Rattle.cps_ir.specs.declared.terms.Cont.TheVariants as Continuation
use Rattle.cps_ir.specs.declared.terms.Term.TheVariants as Node
use Rattle.cps_ir.specs.declared.terms.Cps.{Cps}
use Rattle.cps_ir.specs.States.{Scope, State, Program, marked, all_escape, Calling, going as going_to, with_waiting, Back, Pending}
use Rattle.cps_ir.specs.Giving.{On, way, pushing}
use Rattle.cps_ir.specs.Running.{performed}
use Rattle.frame_ir.specs.declared.forms.FrameOp.{FrameOp}
use Rattle.frame_ir.specs.declared.forms.FrameOp.TheVariants as Op
use Rattle.frame_ir.specs.declared.forms.FrameEnd.{FrameEnd}
use Rattle.frame_ir.specs.declared.forms.FrameEnd.TheVariants as Last
use Rattle.frame_ir.specs.declared.forms.Frames.{Frames}
use Rattle.frame_ir.specs.Values.{Value, Lasting, Env}
use Rattle.frame_ir.specs.States.{Running, Calling as CallingAt, State as FrameState, going, counted, or_wrong, with_frame}
use Rattle.frame_ir.specs.Arguments.{value_of, lasting_value, lasting_values, kept_values}
use Rattle.frame_ir.specs.Operations.{slots_of, pushed_frame}
use Rattle.frame_ir.specs.Running.{step}
use Rattle.layout_relation.specs.Links.{Zipped, Links, SameVal}
use Rattle.layout_relation.specs.Contexts.{Context, Leaves, exit_of, Return, Resumes}
use Rattle.layout_relation.specs.Laid.{Sketch, Awaits, awaits_lam, awaits_join, AreHeld, IsFor, Prepares, IsLaidOut}
use Rattle.layout_relation.specs.Related.{SameMade, Leads, AreCaptured, SameFrame, Waits, waits_back, same_call}
use Rattle.layout_relation.proofs.Growing.{waits_grow}
use Rattle.layout_relation.proofs.Lists.{get_front, get_behind}
use Rattle.layout_relation.proofs.Scopes.{leads_out, leads_to}
use Rattle.layout_relation.proofs.Making.{kept_all}
use Rattle.layout_relation.proofs.Paths.{Path, steps, more_path as more_path_at}
use Rattle.layout_relation.proofs.Preparing.{framed_made, remade}
use Rattle.layout_relation.proofs.Arriving.{lasting_is}
use Rattle.layout_relation.proofs.Handing.{captured_there, Reaches, reaches_after, reaches_step}
use Rattle.layout_relation.proofs.Staged.{waiting_count, waits_count, Staged, first}

module _ (cps : Cps) (p : Frames) (laid : IsLaidOut cps p) (Low : ℕ → ℕ → Type 0) where
  abbrev w : Sketch
  w = laid.sketch

  abbrev P : Program
  P = marked cps all_escape

  -- the call itself
  call_step : (g : Arg) (bs : List Arg) (env : Env) (u : FrameState) (r : Val) (rs : List Val) → lasting_value p.shared env g ≡ Some r → lasting_values p.shared env bs ≡ Some rs
      → step p (going (Running [] (Last.Call g bs) env) u) ≡ going (CallingAt (Lasting r) rs) (counted (1 + length bs) u)
  call_step g bs env u r rs e f =
      let at = going (Running [] (Last.Call g bs) env) u in
      ap (λ o. or_wrong o at (λ g. or_wrong (lasting_values p.shared env bs) at (λ vs. going (CallingAt g vs) (counted (1 + length bs) at)))) (lasting_is (value_of p.shared env g) r e)
      ∙ ap (λ o. or_wrong o at (λ vs. going (CallingAt (Lasting r) vs) (counted (1 + length bs) at))) f

  called_reaches : (links : Links) (s : State) (u : FrameState) (g : Arg) (bs : List Arg) (env : Env) (v r : Val) (vs rs : List Val) (top : ℕ) → lasting_value p.shared env g ≡ Some r → lasting_values p.shared env bs ≡ Some rs → SameVal links v r → Zipped (SameVal links) vs rs
      → SameMade cps w links s u → Waits w links u.frames [] s.waiting u.live → Low u.store.heap (length u.live) → Reaches cps p w Low (going_to (Calling v vs) s) (going (Running [] (Last.Call g bs) env) u) (1 + length bs + 0) top
  called_reaches links s u g bs env v r vs rs top e f same sames made waits low =
      let at = going (Running [] (Last.Call g bs) env) u in
      let end = going (CallingAt (Lasting r) rs) (counted (1 + length bs) u) in
      reaches_step cps p w Low (going_to (Calling v vs) s) at end (1 + length bs) 0 top (call_step g bs env u r rs e f) (omega arith) low (record {
        end = end;
        path = record { count = 0; goes = refl; moves = omega arith; low = λ i a b. absurd (omega (arith, a, b)) };
        related = record { links = links; made = remade cps w links s (going_to (Calling v vs) s) u end made refl refl; doing = same_call v r vs rs same sames waits };
      })

  pub tail_reaches : (c : Context) (t : ℕ) (scope : Scope) (env : Env) (s : State) (u : FrameState) (f : Arg) (args : List Arg) (k : Var) (ms : List FrameOp) (b : Arg) (bs : List Arg) → Prepares cps w c.vars (f ∷ args) ms (b ∷ bs)
      → exit_of c.exits k.0 ≡ Leaves → c.catches ≡ [] → Staged cps p w Low c scope env s (performed P scope (Node.Call f args (Continuation.Var k)) s) u
      → Reaches cps p w Low (performed P scope (Node.Call f args (Continuation.Var k)) s) (going (Running ms (Last.Call b bs) env) u) ((1 + length args) * (1 + cps.shared.size) + (1 + length bs + 0)) (w.rank t)
  tail_reaches c t scope env s u f args k ms b bs d out none g =
      let last = Last.Call b bs in
      let a = first cps p laid Low g.links scope c.vars s u f args ms [] b bs last env g.made g.held d tt in
      let x = a.x in
      let go : State → Val → List Val → State = λ t v vs. pushing (way scope (Continuation.Var k)) t (λ q. going_to (Calling v vs) q) in
      let final = going_to (Calling a.v a.vs) x.left in
      let there : performed P scope (Node.Call f args (Continuation.Var k)) s ≡ final = a.gives go ∙ ap (λ to. pushing to x.left (λ q. going_to (Calling a.v a.vs) q)) (leads_out scope c.exits k.0 g.leads out) in
      let at = going (Running [] last x.env2) x.right in
      let heap = ap (λ q. q.store.heap) there in
      let low : Low x.right.store.heap (length x.right.live) = subst (λ l. Low x.right.store.heap (length l)) (sym x.live) (g.low x.right.store.heap (length u.live) (let e = x.made.store.heap in omega (arith, e, heap)) (inl (omega arith))) in
      let waits0 = subst (λ cs. Waits w g.links u.frames cs s.waiting u.live) none g.waits in
      let waits = subst (λ fs. Waits w x.links2 fs [] x.left.waiting x.right.live) (sym x.frames) (subst (λ l. Waits w x.links2 u.frames [] x.left.waiting l) (sym x.live) (subst (λ q. Waits w x.links2 u.frames [] q u.live) (sym x.waiting) (waits_grow g.links x.links2 x.extends w u.frames u.frames (λ i f h. h) [] s.waiting u.live waits0))) in
      let path = subst (λ os. Path p Low (going (Running os last env) u) at ((1 + length args) * (1 + cps.shared.size))) (append-nil ms) (more_path_at p Low (going (Running (ms ++ []) last env) u) at (length (f ∷ args) * (1 + cps.shared.size)) ((1 + length args) * (1 + cps.shared.size)) (let e : suc (length args) * (1 + cps.shared.size) ≡ (1 + length args) * (1 + cps.shared.size) = ap (λ n. n * (1 + cps.shared.size)) (let q : suc (length args) ≡ 1 + length args = omega arith in q) in omega (arith, e)) (x.path (λ h le. g.low h (length u.live) (omega (arith, le, heap)) (inl (omega arith))))) in
      subst (λ q. Reaches cps p w Low q (going (Running ms last env) u) ((1 + length args) * (1 + cps.shared.size) + (1 + length bs + 0)) (w.rank t)) (sym there)
      (reaches_after cps p w Low final (going (Running ms last env) u) at ((1 + length args) * (1 + cps.shared.size)) (1 + length bs + 0) (w.rank t) path
      (called_reaches x.links2 x.left x.right b bs x.env2 a.v a.r a.vs a.rs (w.rank t) a.reads a.others a.same a.sames x.made waits low))

  -- ---- a call with a continuation of its own

  -- where the continuation leads, and that its frame is as it
  pub record Pushes (links : Links) (c : Context) (scope : Scope) (k : Cont) (r : Return) (values : List Value) : Type 0 where
    pub pending : Pending
    pub leads : way scope k ≡ On pending
    pub param : pending.param ≡ r.param
    pub body : pending.body ≡ r.body
    pub inner : Leads pending.scope r.exits
    pub kept : AreCaptured w links pending.scope r.kept values
    pub catches : r.catches ≡ c.catches

  pub pushes : (links : Links) (c : Context) (scope : Scope) (k : Cont) (r : Return) (values : List Value) → Awaits c k r → Leads scope c.exits → AreCaptured w links scope r.kept values → Pushes links c scope k r values
  pushes links c scope k r values (awaits_lam param body kept) leads captured = record { pending = record { param = param.0; body = body; scope = scope }; leads = refl; param = refl; body = refl; inner = leads; kept = captured; catches = refl }
  pushes links c scope k r values (awaits_join j m rest meets) leads captured =
      let to = leads_to scope c.exits j.0 m rest leads meets in
      record { pending = record { param = m.param; body = m.body; scope = to.inner }; leads = to.way; param = refl; body = refl; inner = to.leads; kept = captured_there cps p laid Low links scope to.inner m.needs values to.same captured; catches = refl }

  push_step : (kept : List Var) (back : ℕ) (last : FrameEnd) (env : Env) (u : FrameState) (values : List Value) → kept_values env kept ≡ Some values
      → step p (going (Running (Op.Push kept back ∷ []) last env) u) ≡ going (Running [] last env) (counted (1 + length kept) (with_frame u (pushed_frame back (slots_of [] (length kept)) values)))
  push_step kept back last env u values e =
      let at = going (Running (Op.Push kept back ∷ []) last env) u in
      ap (λ o. or_wrong o at (λ vs. going (Running [] last env) (counted (1 + length kept) (with_frame at (pushed_frame back (slots_of [] (length kept)) vs))))) e

  pub call_reaches : (c : Context) (t : ℕ) (scope : Scope) (env : Env) (s : State) (u : FrameState) (f : Arg) (args : List Arg) (k : Cont) (ms : List FrameOp) (b : Arg) (bs : List Arg) (r : Return) (kept : List Var) (back : ℕ) → Prepares cps w c.vars (f ∷ args) ms (b ∷ bs)
      → Awaits c k r → IsFor w back (Resumes r) → AreHeld c.vars r.kept kept → Staged cps p w Low c scope env s (performed P scope (Node.Call f args k) s) u
      → Reaches cps p w Low (performed P scope (Node.Call f args k) s) (going (Running (ms ++ Op.Push kept back ∷ []) (Last.Call b bs) env) u) ((1 + length args) * (1 + cps.shared.size) + ((1 + length kept) + (1 + length bs + 0))) (w.rank t)
  call_reaches c t scope env s u f args k ms b bs r kept back d awaits for held g =
      let last = Last.Call b bs in
      let a = first cps p laid Low g.links scope c.vars s u f args ms (Op.Push kept back ∷ []) b bs last env g.made g.held d refl in
      let x = a.x in
      let keeps = kept_all w x.links2 scope x.env2 c.vars r.kept kept x.held held in
      let q = pushes x.links2 c scope k r keeps.values awaits g.leads keeps.captured in
      let go : State → Val → List Val → State = λ t v vs. pushing (way scope k) t (λ z. going_to (Calling v vs) z) in
      let s2 = with_waiting x.left (Back q.pending ∷ x.left.waiting) in
      let final = going_to (Calling a.v a.vs) s2 in
      let there : performed P scope (Node.Call f args k) s ≡ final = a.gives go ∙ ap (λ to. pushing to x.left (λ z. going_to (Calling a.v a.vs) z)) q.leads in
      let heap = ap (λ z. z.store.heap) there in
      let frame = pushed_frame back (slots_of [] (length kept)) keeps.values in
      let at = going (Running (Op.Push kept back ∷ []) last x.env2) x.right in
      let pushed = counted (1 + length kept) (with_frame x.right frame) in
      let on = going (Running [] last x.env2) pushed in
      let below = waits_grow g.links x.links2 x.extends w u.frames pushed.frames (λ i f h. get_front x.right.frames (frame ∷ []) i f (ap (λ fs. slice_get fs i) x.frames ∙ h)) c.catches s.waiting u.live g.waits in
      let under : Waits w x.links2 pushed.frames r.catches x.left.waiting x.right.live = subst (λ cs. Waits w x.links2 pushed.frames cs x.left.waiting x.right.live) (sym q.catches) (subst (λ l. Waits w x.links2 pushed.frames c.catches x.left.waiting l) (sym x.live) (subst (λ z. Waits w x.links2 pushed.frames c.catches z u.live) (sym x.waiting) below)) in
      let stands : SameFrame w x.links2 pushed.frames q.pending (length x.right.frames) r = record {
        frame = frame;
        is = ap (slice_get (x.right.frames ++ frame ∷ [])) (let e : length x.right.frames ≡ length x.right.frames + 0 = omega arith in e) ∙ get_behind x.right.frames (frame ∷ []) 0;
        push = refl;
        back = for;
        param = q.param;
        body = q.body;
        leads = q.inner;
        kept = q.kept;
      } in
      let waits = waits_back q.pending x.left.waiting (length x.right.frames) x.right.live r stands under in
      let count : suc (length x.right.live) ≡ waiting_count final.waiting = waits_count w x.links2 pushed.frames [] (Back q.pending ∷ x.left.waiting) (length x.right.frames ∷ x.right.live) waits in
      let final_count = ap (λ z. waiting_count z.waiting) there in
      let low2 : Low pushed.store.heap (length pushed.live) = g.low x.right.store.heap (suc (length x.right.live)) (let e = x.made.store.heap in omega (arith, e, heap)) (inr (omega (arith, count, final_count))) in
      let made2 : SameMade cps w x.links2 s2 pushed = framed_made cps w x.links2 x.left x.right frame x.made in
      let path = more_path_at p Low (going (Running (ms ++ Op.Push kept back ∷ []) last env) u) at (length (f ∷ args) * (1 + cps.shared.size)) ((1 + length args) * (1 + cps.shared.size)) (let e : suc (length args) * (1 + cps.shared.size) ≡ (1 + length args) * (1 + cps.shared.size) = ap (λ n. n * (1 + cps.shared.size)) (let z : suc (length args) ≡ 1 + length args = omega arith in z) in omega (arith, e)) (x.path (λ h le. g.low h (length u.live) (omega (arith, le, heap)) (inl (omega arith)))) in
      subst (λ z. Reaches cps p w Low z (going (Running (ms ++ Op.Push kept back ∷ []) last env) u) ((1 + length args) * (1 + cps.shared.size) + ((1 + length kept) + (1 + length bs + 0))) (w.rank t)) (sym there)
      (reaches_after cps p w Low final (going (Running (ms ++ Op.Push kept back ∷ []) last env) u) at ((1 + length args) * (1 + cps.shared.size)) ((1 + length kept) + (1 + length bs + 0)) (w.rank t) path
      (reaches_after cps p w Low final at on (1 + length kept) (1 + length bs + 0) (w.rank t) (steps p Low at on (1 + length kept) (push_step kept back last x.env2 x.right keeps.values keeps.are) (omega arith) low2)
      (called_reaches x.links2 s2 pushed b bs x.env2 a.v a.r a.vs a.rs (w.rank t) a.reads a.others a.same a.sames made2 waits low2)))
