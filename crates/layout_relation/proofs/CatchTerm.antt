-- A CATCH is opened.
use Rattle.std.proofs.Common.{◌≡◌, ℕ, suc, ◌+◌, ◌≤◌, ◌<◌, false, if◌then◌else◌, List, [], ◌∷◌, ◌++◌, length, Option, Some, None, slice_get, refl, sym, ap, subst, ◌∙◌, arith, inr, ⊎_elim}
use Rattle.t_base.specs.declared.basics.Var.{Var}
use Rattle.t_prim.specs.Values.{EscapeV}
use Rattle.std.proofs.lemmas.Option.{slice_get_within}
use Rattle.cps_ir.specs.declared.terms.Cont.{Cont}
use Rattle.cps_ir.specs.declared.terms.Cont.TheVariants as Continuation
use Rattle.cps_ir.specs.declared.terms.Term.TheVariants as Node
use Rattle.cps_ir.specs.declared.terms.Cps.{Cps}
use Rattle.cps_ir.specs.States.{Scope, State, Program, marked, all_escape, At, going as going_to, Live, Direct, Bound, taking as taking_to, with_catch as with_catch_to, Pending}
use Rattle.cps_ir.specs.Giving.{binding}
use Rattle.cps_ir.specs.Running.{performed, opening}
use Rattle.frame_ir.specs.declared.forms.FrameOp.{FrameOp}
use Rattle.frame_ir.specs.declared.forms.FrameOp.TheVariants as Op
use Rattle.frame_ir.specs.declared.forms.FrameEnd.{FrameEnd}
use Rattle.frame_ir.specs.declared.forms.Frames.{Frames}
use Rattle.frame_ir.specs.Values.{Lasting, Frame, Env, value_at}
use Rattle.frame_ir.specs.States.{Running, State as FrameState, going, counted, taking, with_catch, or_wrong, with_frame}
use Rattle.frame_ir.specs.Operations.{slots_of, pushed_frame, catch_frame}
use Rattle.frame_ir.specs.Running.{step}
use Rattle.layout_relation.specs.Links.{first as at_first, later, IsTied, Links, Extends, escape}
use Rattle.layout_relation.specs.Contexts.{Context, Catching, Bare, Framed, PassesOn, Leaves, exit_of, IsFresh, IsUnused, Return, Resumes}
use Rattle.layout_relation.specs.Laid.{Sketch, Awaits, AreHeld, GoesOn, IsFor, IsLaidOut}
use Rattle.layout_relation.specs.Related.{SameMade, SameFrame, SameCatch, HoldAll, Leads, leads_bound, Waits, waits_bare, waits_framed}
use Rattle.layout_relation.proofs.Growing.{waits_grow, hold_grows, captured_grows, store_grows, globals_grow, cells_grow, objects_grow, closure_grows}
use Rattle.layout_relation.proofs.Lists.{get_front, get_behind, in_cases}
use Rattle.layout_relation.proofs.Scopes.{leads_out, eqb_same, hold_set, hold_bound, hold_more}
use Rattle.layout_relation.proofs.Made.{still_one}
use Rattle.layout_relation.proofs.Making.{kept_all}
use Rattle.layout_relation.proofs.CallTerm.{pushes}
use Rattle.layout_relation.proofs.Paths.{steps}
use Rattle.layout_relation.proofs.Preparing.{framed_made}
use Rattle.layout_relation.proofs.Handing.{bound_to, found_first, direct_same, goes_arrives, LowBelow, Reaches, reaches_after, reaches_step}
use Rattle.layout_relation.proofs.Staged.{waiting_count, waits_count, Staged}

module _ (cps : Cps) (p : Frames) (laid : IsLaidOut cps p) (Low : ℕ → ℕ → Type 0) where
  abbrev w : Sketch
  w = laid.sketch

  abbrev P : Program
  P = marked cps all_escape

  -- ---- one escape more

  abbrev more_escapes : Links → ℕ → ℕ → Links
  more_escapes links i j = record links { escapes = (i, j) ∷ links.escapes }

  more_extends : (links : Links) (i j : ℕ) → Extends links (more_escapes links i j)
  more_extends links i j = record { closures = λ a b h. h; escapes = λ a b h. later (a, b) (i, j) links.escapes h; objects = omega arith; cells = omega arith }

  -- the catch and its frame are new
  opened_made : (links : Links) (s : State) (u : FrameState) (own : Option Pending) (back : ℕ) → SameMade cps w links s u → SameMade cps w (more_escapes links s.catches (length u.frames)) (taking_to 4 (with_catch_to s own)) (taking 4 (with_catch u (catch_frame back)))
  opened_made links s u own back made =
      let new = more_escapes links s.catches (length u.frames) in
      let more = more_extends links s.catches (length u.frames) in
      let st = store_grows links new more s.store u.store made.store in
      let below : (a b : ℕ) → IsTied links.escapes a b → (a < s.catches) × (b < length u.frames) = λ a b h. let at = made.escapes a b h in (at.made, slice_get_within u.frames b at.frame at.is) in
      record {
        one = record { closures = made.one.closures; escapes = still_one {X = ℕ} (0 ∷ []) links.escapes s.catches (length u.frames) below made.one.escapes };
        store = record { names = st.names; strings = st.strings; pairs = st.pairs; vectors = st.vectors; output = st.output; heap = let low = st.heap in omega (arith, low) };
        closures = λ i j h. let at = made.closures i j h in record { left = at.left; right = at.right; is = at.is; at = at.at; same = closure_grows links new more w at.left at.right at.same };
        globals = globals_grow links new more s.globals u.globals made.globals;
        count = made.count;
        procedures = made.procedures;
        cells = cells_grow links new more s.locations u.cells made.cells;
        objects = objects_grow links new more w s.objects u.objects made.objects;
        located = made.located;
        objected = made.objected;
        escapes = λ i j h. ⊎_elim
            (λ e. let a = ap {A = ℕ × ℕ} {B = ℕ} (λ q. q.0) e in let b = ap {A = ℕ × ℕ} {B = ℕ} (λ q. q.1) e in
            record { made = omega (arith, a); frame = catch_frame back; is = ap (slice_get (u.frames ++ catch_frame back ∷ [])) (let q : j ≡ length u.frames + 0 = omega (arith, b) in q) ∙ get_behind u.frames (catch_frame back ∷ []) 0; opened = refl })
            (λ k. let at = made.escapes i j k in let m = at.made in record { made = omega (arith, m); frame = at.frame; is = get_front u.frames (catch_frame back ∷ []) j at.frame at.is; opened = at.opened })
            (in_cases (i, j) (s.catches, length u.frames) links.escapes h);
      }

  -- the CATCH stands in the youngest frame, and the body begins
  opened_reaches : (links : Links) (s : State) (u : FrameState) (c : Context) (t : ℕ) (scope : Scope) (env : Env) (x : Var) (body : ℕ) (to : Var) (back : ℕ) (own : Option Pending) (catches : List Catching) (ops : List FrameOp) (last : FrameEnd) → IsFresh c x.0 → w.celled x.0 ≡ false → IsUnused c.vars to.0
      → GoesOn cps w (record c { vars = (x.0, to.0) ∷ c.vars; catches = catches }) body ops last → SameMade cps w links s u → HoldAll w links scope env c.vars → Leads scope c.exits
      → Waits w (more_escapes links s.catches (length u.frames)) (u.frames ++ catch_frame back ∷ []) catches (Live s.catches own ∷ s.waiting) (length u.frames ∷ u.live)
      → ((h n : ℕ) → h ≤ s.store.heap + 4 → n ≤ suc (length u.live) → Low h n)
      → Reaches cps p w Low (going_to (At body (Bound x.0 (Direct (EscapeV s.catches)) ∷ scope)) (taking_to 4 (with_catch_to s own))) (going (Running (Op.CatchOpen to back ∷ ops) last env) u) (1 + (cps.shared.size + 4)) (w.rank t)
  opened_reaches links s u c t scope env x body to back own catches ops last fresh plain unused onward made held leads waits low =
      let new = more_escapes links s.catches (length u.frames) in
      let more = more_extends links s.catches (length u.frames) in
      let inner : Scope = Bound x.0 (Direct (EscapeV s.catches)) ∷ scope in
      let s2 = taking_to 4 (with_catch_to s own) in
      let final = going_to (At body inner) s2 in
      let env2 : Env = (to.0, Lasting (EscapeV (length u.frames))) ∷ env in
      let u2 = counted 1 (taking 4 (with_catch u (catch_frame back))) in
      let at = going (Running (Op.CatchOpen to back ∷ ops) last env) u in
      let on = going (Running ops last env2) u2 in
      let made2 = opened_made links s u own back made in
      let held1 = hold_grows links new more w scope env c.vars held in
      let held2 = hold_set w new inner env c.vars to.0 (Lasting (EscapeV (length u.frames))) unused (hold_bound w new scope env c.vars x.0 (Direct (EscapeV s.catches)) fresh.0 held1) in
      let held3 = hold_more w new inner env2 c.vars x.0 to.0 (record {
        meant = Direct (EscapeV s.catches);
        value = Lasting (EscapeV (length u.frames));
        is = found_first cps p laid Low x.0 (Direct (EscapeV s.catches)) scope;
        at = ap (λ z. if z then Some (Lasting (EscapeV (length u.frames))) else value_at env to.0) (eqb_same to.0);
        same = direct_same cps p laid Low new x.0 (EscapeV s.catches) (EscapeV (length u.frames)) plain (escape s.catches (length u.frames) (at_first (s.catches, length u.frames) links.escapes));
      }) held2 in
      let lows : LowBelow cps p laid Low u2 = λ n le. low u2.store.heap n (let a = made.store.heap in omega (arith, a)) le in
      let arrives = goes_arrives cps p laid Low new final u2 (record c { vars = (x.0, to.0) ∷ c.vars; catches = catches }) body inner ops last env2 onward held3 (leads_bound x.0 (Direct (EscapeV s.catches)) scope c.exits fresh.1 leads) waits made2 refl lows in
      reaches_step cps p w Low final at on 1 (cps.shared.size + 4) (w.rank t) refl (omega arith) (lows (length u2.live) (omega arith)) arrives

  -- the catch stands in the frame that is put last
  stands_catch : (links : Links) (catch : ℕ) (frames : List Frame) (back : ℕ) → SameCatch (more_escapes links catch (length frames)) (frames ++ catch_frame back ∷ []) catch (length frames) back
  stands_catch links catch frames back = record {
    frame = catch_frame back;
    is = ap (slice_get (frames ++ catch_frame back ∷ [])) (let e : length frames ≡ length frames + 0 = omega arith in e) ∙ get_behind frames (catch_frame back ∷ []) 0;
    opened = refl;
    back_is = refl;
    tied = at_first (catch, length frames) links.escapes;
  }

  pub tail_catch_reaches : (c : Context) (t : ℕ) (scope : Scope) (env : Env) (s : State) (u : FrameState) (x : Var) (body : ℕ) (k to : Var) (back : ℕ) (ops : List FrameOp) (last : FrameEnd) → exit_of c.exits k.0 ≡ Leaves → c.catches ≡ [] → IsFor w back PassesOn
      → IsFresh c x.0 → w.celled x.0 ≡ false → IsUnused c.vars to.0 → GoesOn cps w (record c { vars = (x.0, to.0) ∷ c.vars; catches = Bare ∷ [] }) body ops last → Staged cps p w Low c scope env s (performed P scope (Node.Catch x body (Continuation.Var k)) s) u
      → Reaches cps p w Low (performed P scope (Node.Catch x body (Continuation.Var k)) s) (going (Running (Op.CatchOpen to back ∷ ops) last env) u) (1 + (cps.shared.size + 4)) (w.rank t)
  tail_catch_reaches c t scope env s u x body k to back ops last out none passes fresh plain unused onward st =
      let s2 = taking_to 4 (with_catch_to s None) in
      let final = going_to (At body (Bound x.0 (Direct (EscapeV s.catches)) ∷ scope)) s2 in
      let there : performed P scope (Node.Catch x body (Continuation.Var k)) s ≡ final =
      ap (λ to. opening to s (λ t. binding P x.0 (EscapeV s.catches) scope t (λ inner u. going_to (At body inner) u))) (leads_out scope c.exits k.0 st.leads out)
      ∙ bound_to cps p laid Low x.0 (EscapeV s.catches) scope s2 (λ inner u. going_to (At body inner) u) in
      let heap = ap (λ z. z.store.heap) there in
      let wait = ap (λ z. waiting_count z.waiting) there in
      let new = more_escapes st.links s.catches (length u.frames) in
      let more = more_extends st.links s.catches (length u.frames) in
      let waits0 = subst (λ cs. Waits w st.links u.frames cs s.waiting u.live) none st.waits in
      let waits1 = waits_grow st.links new more w u.frames (u.frames ++ catch_frame back ∷ []) (λ i f h. get_front u.frames (catch_frame back ∷ []) i f h) [] s.waiting u.live waits0 in
      let waits = waits_bare s.catches s.waiting (length u.frames) u.live back (stands_catch st.links s.catches u.frames back) passes waits1 in
      let count : suc (length u.live) ≡ waiting_count (Live s.catches None ∷ s.waiting) = waits_count w new (u.frames ++ catch_frame back ∷ []) (Bare ∷ []) (Live s.catches None ∷ s.waiting) (length u.frames ∷ u.live) waits in
      subst (λ f. Reaches cps p w Low f (going (Running (Op.CatchOpen to back ∷ ops) last env) u) (1 + (cps.shared.size + 4)) (w.rank t)) (sym there)
      (opened_reaches st.links s u c t scope env x body to back None (Bare ∷ []) ops last fresh plain unused onward st.made st.held st.leads waits (λ h n le be. st.low h n (omega (arith, le, heap)) (inr (omega (arith, be, count, wait)))))

  -- ---- with a continuation of its own

  pub catch_reaches : (c : Context) (t : ℕ) (scope : Scope) (env : Env) (s : State) (u : FrameState) (x : Var) (body : ℕ) (k : Cont) (r : Return) (kept : List Var) (to : Var) (back : ℕ) (ops : List FrameOp) (last : FrameEnd) → Awaits c k r → IsFor w back (Resumes r) → AreHeld c.vars r.kept kept
      → IsFresh c x.0 → w.celled x.0 ≡ false → IsUnused c.vars to.0 → GoesOn cps w (record c { vars = (x.0, to.0) ∷ c.vars; catches = Framed ∷ c.catches }) body ops last → Staged cps p w Low c scope env s (performed P scope (Node.Catch x body k) s) u
      → Reaches cps p w Low (performed P scope (Node.Catch x body k) s) (going (Running (Op.Push kept back ∷ Op.CatchOpen to back ∷ ops) last env) u) ((1 + length kept) + (1 + (cps.shared.size + 4))) (w.rank t)
  catch_reaches c t scope env s u x body k r kept to back ops last awaits for held_by fresh plain unused onward st =
      let keeps = kept_all w st.links scope env c.vars r.kept kept st.held held_by in
      let q = pushes cps p laid Low st.links c scope k r keeps.values awaits st.leads keeps.captured in
      let s2 = taking_to 4 (with_catch_to s (Some q.pending)) in
      let final = going_to (At body (Bound x.0 (Direct (EscapeV s.catches)) ∷ scope)) s2 in
      let there : performed P scope (Node.Catch x body k) s ≡ final =
      ap (λ to. opening to s (λ t. binding P x.0 (EscapeV s.catches) scope t (λ inner u. going_to (At body inner) u))) q.leads
      ∙ bound_to cps p laid Low x.0 (EscapeV s.catches) scope s2 (λ inner u. going_to (At body inner) u) in
      let heap = ap (λ z. z.store.heap) there in
      let wait = ap (λ z. waiting_count z.waiting) there in
      let frame = pushed_frame back (slots_of (Op.CatchOpen to back ∷ ops) (length kept)) keeps.values in
      let at = going (Running (Op.Push kept back ∷ Op.CatchOpen to back ∷ ops) last env) u in
      let u1 = counted (1 + length kept) (with_frame u frame) in
      let on = going (Running (Op.CatchOpen to back ∷ ops) last env) u1 in
      let one : step p at ≡ on = ap (λ o. or_wrong o at (λ vs. going (Running (Op.CatchOpen to back ∷ ops) last env) (counted (1 + length kept) (with_frame at (pushed_frame back (slots_of (Op.CatchOpen to back ∷ ops) (length kept)) vs))))) keeps.are in
      let made1 : SameMade cps w st.links s u1 = framed_made cps w st.links s u frame st.made in
      let new = more_escapes st.links s.catches (length u1.frames) in
      let more = more_extends st.links s.catches (length u1.frames) in
      let frames2 = u1.frames ++ catch_frame back ∷ [] in
      let below = waits_grow st.links new more w u.frames frames2 (λ i f h. get_front u1.frames (catch_frame back ∷ []) i f (get_front u.frames (frame ∷ []) i f h)) c.catches s.waiting u.live st.waits in
      let under : Waits w new frames2 r.catches s.waiting u.live = subst (λ cs. Waits w new frames2 cs s.waiting u.live) (sym q.catches) below in
      let stands : SameFrame w new frames2 q.pending (length u.frames) r = record {
        frame = frame;
        is = get_front u1.frames (catch_frame back ∷ []) (length u.frames) frame (ap (slice_get (u.frames ++ frame ∷ [])) (let e : length u.frames ≡ length u.frames + 0 = omega arith in e) ∙ get_behind u.frames (frame ∷ []) 0);
        push = refl;
        back = for;
        param = q.param;
        body = q.body;
        leads = q.inner;
        kept = captured_grows st.links new more w q.pending.scope r.kept keeps.values q.kept;
      } in
      let waits0 = waits_framed s.catches q.pending s.waiting (length u1.frames) (length u.frames) u.live r stands (stands_catch st.links s.catches u1.frames back) under in
      let waits = subst (λ cs. Waits w new frames2 (Framed ∷ cs) (Live s.catches (Some q.pending) ∷ s.waiting) (length u1.frames ∷ u1.live)) q.catches waits0 in
      let count : suc (suc (length u.live)) ≡ waiting_count (Live s.catches (Some q.pending) ∷ s.waiting) = waits_count w new frames2 (Framed ∷ c.catches) (Live s.catches (Some q.pending) ∷ s.waiting) (length u1.frames ∷ u1.live) waits in
      let low1 : Low u1.store.heap (length u1.live) = st.low u1.store.heap (suc (length u.live)) (let a = st.made.store.heap in omega (arith, a, heap)) (inr (omega (arith, count, wait))) in
      subst (λ f. Reaches cps p w Low f at ((1 + length kept) + (1 + (cps.shared.size + 4))) (w.rank t)) (sym there)
      (reaches_after cps p w Low final at on (1 + length kept) (1 + (cps.shared.size + 4)) (w.rank t) (steps p Low at on (1 + length kept) one (omega arith) low1)
      (opened_reaches st.links s u1 c t scope env x body to back (Some q.pending) (Framed ∷ c.catches) ops last fresh plain unused onward made1 st.held st.leads waits (λ h n le be. st.low h n (omega (arith, le, heap)) (inr (omega (arith, be, count, wait))))))
