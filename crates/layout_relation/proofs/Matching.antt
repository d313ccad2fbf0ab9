-- Each step of the program is matched by the frames.
use Rattle.layout_relation.proofs.UncatchTerm.{bare_reaches, framed_reaches}
use Rattle.layout_relation.proofs.CatchTerm.{tail_catch_reaches, catch_reaches}
use Rattle.std.proofs.Common.{◌≡◌, ℕ, suc, ◌+◌, ◌*◌, ◌≤◌, ◌⊎◌, List, [], ◌∷◌, length, map, Some, None, refl, sym, ap, subst, ◌∙◌, arith, inl, inr, ⊎_elim, mul-le-mul_left}
use Rattle.program_runs.specs.Runs.{End}
use Rattle.program_runs.specs.Follows.{Alike, after, Machine, Matched, Simulates}
use Rattle.cps_ir.specs.declared.args.Arg.{Arg}
use Rattle.cps_ir.specs.declared.terms.Term.{Term}
use Rattle.cps_ir.specs.declared.terms.Cont.TheVariants as Continuation
use Rattle.cps_ir.specs.declared.terms.Cps.{Cps}
use Rattle.cps_ir.specs.Terms.{moves_of}
use Rattle.cps_ir.specs.States.{Program, marked, all_escape, Waiting, Scope, Control, At, State, counting, seen as seen_of, end_of as end_of_control}
use Rattle.cps_ir.specs.Giving.{or_broken}
use Rattle.cps_ir.specs.Calls.{called as called_to, looked as looked_to, entered as entered_to}
use Rattle.cps_ir.specs.Running.{performed, advanced, step as step_of}
use Rattle.cps_ir.proofs.Steady.{steps_only_add}
use Rattle.frame_ir.specs.declared.forms.FrameOp.{FrameOp}
use Rattle.frame_ir.specs.declared.forms.FrameEnd.{FrameEnd}
use Rattle.frame_ir.specs.declared.forms.Frames.{Frames}
use Rattle.frame_ir.specs.Values.{Lasting, Frame, Object as FrameObject, Env}
use Rattle.frame_ir.specs.States.{Doing, Running, end_of, State as FrameState, going, counted, seen}
use Rattle.frame_ir.specs.Calls.{called, looked, entered}
use Rattle.frame_ir.specs.Running.{step, advance}
use Rattle.layout_relation.specs.Links.{Links}
use Rattle.layout_relation.specs.Contexts.{Context, Resumes}
use Rattle.layout_relation.specs.Laid.{lays_tail_catch, lays_catch, lays_tail_uncatch, lays_uncatch, Sketch, Prepares, prepares_none, prepares_same, prepares_closure, Lays, lays, LaysTerm, lays_tail_call, lays_call, lays_prim, lays_if, lays_labels, lays_join, lays_give, lays_global_get, lays_global_init, lays_global_set, lays_cell, lays_cell_get, lays_cell_set, lays_object, lays_halt, IsLaidOut}
use Rattle.layout_relation.specs.Related.{Leads, HoldAll, Waits, SameMade, SameDoing, same_term, same_call, same_look, same_method, same_entry, same_end, Related}
use Rattle.layout_relation.specs.Laws.{moves_for}
use Rattle.layout_relation.proofs.Lists.{zipped_length}
use Rattle.layout_relation.proofs.Preparing.{remade}
use Rattle.layout_relation.proofs.Arriving.{block_at}
use Rattle.layout_relation.proofs.Handing.{LowBelow, rank_of, Reaches, reaches_step}
use Rattle.layout_relation.proofs.Staged.{waiting_count, waits_count, Staged}
use Rattle.layout_relation.proofs.Calling.{entry_moves}
use Rattle.layout_relation.proofs.Stepping.{Comes, called_comes, looked_comes, method_comes, entering_comes}
use Rattle.layout_relation.proofs.SameMoves.{catch_moves, uncatch_moves, call_moves, prim_moves, if_moves, labels_moves, give_moves_same, global_get_moves, global_init_moves, global_set_moves, cell_moves, cell_get_moves, cell_set_moves, object_moves, halt_moves, called_moves, looked_moves, entered_moves}
use Rattle.layout_relation.proofs.HaltTerm.{halt_reaches}
use Rattle.layout_relation.proofs.CellTerm.{cell_reaches, cell_get_reaches, cell_set_reaches}
use Rattle.layout_relation.proofs.ObjectTerm.{object_reaches}
use Rattle.layout_relation.proofs.GlobalTerm.{get_reaches, init_reaches, set_reaches}
use Rattle.layout_relation.proofs.GiveTerm.{give_reaches}
use Rattle.layout_relation.proofs.IfTerm.{if_reaches}
use Rattle.layout_relation.proofs.JoinTerm.{join_reaches}
use Rattle.layout_relation.proofs.CallTerm.{tail_reaches, call_reaches}
use Rattle.layout_relation.proofs.PrimTerm.{prim_reaches}
use Rattle.layout_relation.proofs.LabelsTerm.{labels_reaches}

module _ (cps : Cps) (p : Frames) (laid : IsLaidOut cps p) where
  abbrev w : Sketch
  w = laid.sketch

  abbrev P : Program
  P = marked cps all_escape

  abbrev pub a : Machine State
  a = record { step = step_of P; seen = seen_of }

  abbrev pub b : Machine FrameState
  b = record { step = step p; seen = seen }

  abbrev pub R : State → FrameState → Type 0
  R s t = Related cps w s t

  abbrev pub measure : State → ℕ
  measure s = rank_of w s.control

  abbrev pub potential : State → FrameState → ℕ
  potential s t = 0

  abbrev pub factor : ℕ
  factor = moves_for cps

  -- what the frames may cost while the program does a step
  abbrev Low : State → ℕ → ℕ → Type 0
  Low s h n = (h ≤ (step_of P s).store.heap) × ((n ≤ waiting_count s.waiting) ⊎ (n ≤ waiting_count (step_of P s).waiting))

  pays : (x y m d f n : ℕ) → x ≤ n + m → m ≤ d * f → (z : ℕ) → y + d ≤ z → x + 0 + f * y ≤ n + 0 + f * z
  pays x y m d f n up few z more =
      let e : f * (y + d) ≤ f * z = mul-le-mul_left f more in
      let g : f * (y + d) ≡ f * y + f * d = omega arith in
      let h : d * f ≡ f * d = omega arith in
      omega (arith, e, g, h, up, few)

  matched_by : (s : State) (t : FrameState) (most d : ℕ) → Reaches cps p w (Low s) (step_of P s) t most (measure s) → most ≤ d * factor → s.moves + d ≤ (step_of P s).moves → Matched a b R measure potential factor s t
  matched_by s t most d r few up =
      let path = r.arrives.path in
      record {
        count = path.count;
        related = subst (λ u. R (step_of P s) u) (sym path.goes) r.arrives.related;
        goes = r.goes;
        moves = pays (after (step p) path.count t).moves s.moves most d factor t.moves (subst (λ u. u.moves ≤ t.moves + most) (sym path.goes) path.moves) few (step_of P s).moves up;
        costs = λ i ge le. let low = path.low i ge le in record { heap = inr low.0; waiting = low.1 };
      }

  -- ---- terms

  prepares_count : {vars : List (ℕ × ℕ)} (args : List Arg) (ms : List FrameOp) (bs : List Arg) → Prepares cps w vars args ms bs → length bs ≡ length args
  prepares_count args ms bs prepares_none = refl
  prepares_count args ms bs (prepares_same x y as_ ns cs h rest) = ap suc (prepares_count as_ ns cs rest)
  prepares_count args ms bs (prepares_closure l to code kept as_ ns cs h u rest) = ap suc (prepares_count as_ ns cs rest)

  -- what a term comes to with its moves counted
  abbrev Does : Context → ℕ → Scope → Term → List FrameOp → FrameEnd → Env → State → FrameState → (ℕ → ℕ → Type 0) → Type 0
  Does c t scope term ops last env s u LowOf = (most : ℕ) × (Reaches cps p w LowOf (performed P scope term s) (going (Running ops last env) u) most (w.rank t)) × (most ≤ moves_of term * factor) × ((performed P scope term s).moves ≡ s.moves)

  abbrev Stage : Context → Scope → Term → Env → State → FrameState → (ℕ → ℕ → Type 0) → Type 0
  Stage c scope term env s u LowOf = Staged cps p w LowOf c scope env s (performed P scope term s) u

  does : (LowOf : ℕ → ℕ → Type 0) (c : Context) (t : ℕ) (scope : Scope) (term : Term) (ops : List FrameOp) (last : FrameEnd) (env : Env) (s : State) (u : FrameState) → LaysTerm cps w c t term ops last → Stage c scope term env s u LowOf → Does c t scope term ops last env s u LowOf
  does LowOf c t scope term ops last env s u (lays_tail_call c2 t2 f args k ms g bs prep out none) st =
      (_, tail_reaches cps p laid LowOf c2 t2 scope env s u f args k ms g bs prep out none st, (let n = prepares_count (f ∷ args) ms (g ∷ bs) prep in omega (arith, n)), call_moves P s.moves scope f args (Continuation.Var k) s refl)
  does LowOf c t scope term ops last env s u (lays_call c2 t2 f args k ms g bs r kept back prep awaits for held once) st =
      (_, call_reaches cps p laid LowOf c2 t2 scope env s u f args k ms g bs r kept back prep awaits for held st, (let n = prepares_count (f ∷ args) ms (g ∷ bs) prep in let k = (block_at cps p laid back (Resumes r) for).fits.small in let h = zipped_length _ _ _ held in omega (arith, n, k, h)), call_moves P s.moves scope f args k s refl)
  does LowOf c t scope term ops last env s u (lays_prim c2 t2 f args k ms bs to ops2 last2 prep unused gives) st =
      (_, prim_reaches cps p laid LowOf c2 t2 scope env s u f args k ms bs to ops2 last2 prep unused gives st, (let n = prepares_count args ms bs prep in omega (arith, n)), prim_moves P s.moves scope f args k s refl)
  does LowOf c t scope term ops last env s u (lays_if c2 t2 test first second ms x there_arm other_arm prep fy fn) st =
      (_, if_reaches cps p laid LowOf c2 t2 scope env s u test first second ms x there_arm other_arm prep fy fn st, omega arith, if_moves P s.moves scope test first second s refl)
  does LowOf c t scope term ops last env s u (lays_labels c2 t2 xs lams body ms tos ops2 last2 labels fresh distinct unused apart lower onward) st =
      (_, labels_reaches cps p laid LowOf c2 t2 scope env s u xs lams body ms tos ops2 last2 labels fresh distinct unused apart lower onward st, omega arith, labels_moves P s.moves scope xs lams body s refl)
  does LowOf c t scope term ops last env s u (lays_join c2 t2 k param body rest block needs ops2 last2 lower laying) st =
      (_, join_reaches cps p laid LowOf c2 t2 scope env s u k param body rest block needs ops2 last2 lower laying st, omega arith, refl)
  does LowOf c t scope term ops last env s u (lays_give c2 t2 k value ms x ops2 last2 prep apart gives) st =
      (_, give_reaches cps p laid LowOf c2 t2 scope env s u k value ms x ops2 last2 prep apart gives st, omega arith, give_moves_same P s.moves scope k value s refl)
  does LowOf c t scope term ops last env s u (lays_global_get c2 t2 g k to ops2 last2 lt unused gives) st =
      (_, get_reaches cps p laid LowOf c2 t2 g scope env s u k to ops2 last2 lt unused gives st, omega arith, global_get_moves P s.moves scope g k s refl)
  does LowOf c t scope term ops last env s u (lays_global_init c2 t2 g value k ms x ops2 last2 lt none prep gives) st =
      (_, init_reaches cps p laid LowOf c2 t2 g scope env s u value k ms x ops2 last2 lt none prep gives st, omega arith, global_init_moves P s.moves scope g value k s refl)
  does LowOf c t scope term ops last env s u (lays_global_set c2 t2 g value k ms x ops2 last2 lt none prep gives) st =
      (_, set_reaches cps p laid LowOf c2 t2 g scope env s u value k ms x ops2 last2 lt none prep gives st, omega arith, global_set_moves P s.moves scope g value k s refl)
  does LowOf c t scope term ops last env s u (lays_cell c2 t2 x value rest ms y to ops2 last2 prep fresh celled unused onward) st =
      (_, cell_reaches cps p laid LowOf c2 t2 scope env s u x value rest ms y to ops2 last2 prep fresh celled unused onward st, omega arith, cell_moves P s.moves scope x value rest s refl)
  does LowOf c t scope term ops last env s u (lays_cell_get c2 t2 x y k to ops2 last2 there celled unused gives) st =
      (_, cell_get_reaches cps p laid LowOf c2 t2 scope env s u x y k to ops2 last2 there celled unused gives st, omega arith, cell_get_moves P s.moves scope x k s refl)
  does LowOf c t scope term ops last env s u (lays_cell_set c2 t2 x y value k ms z ops2 last2 prep there celled gives) st =
      (_, cell_set_reaches cps p laid LowOf c2 t2 scope env s u x y value k ms z ops2 last2 prep there celled gives st, omega arith, cell_set_moves P s.moves scope x value k s refl)
  does LowOf c t scope term ops last env s u (lays_object c2 t2 proc names methods k ms x template shape needs kept to ops2 last2 prep count is_shape are_methods held small unused gives) st =
      (_, object_reaches cps p laid LowOf c2 t2 scope env s u proc names methods k ms x template shape needs kept to ops2 last2 prep count is_shape are_methods held small unused gives st, (let h = zipped_length _ _ _ held in omega (arith, h, small)), object_moves P s.moves scope proc names methods k s refl)
  does LowOf c t scope term ops last env s u (lays_tail_catch c2 t2 x body k to back ops2 last2 out none passes fresh plain unused onward) st =
      (_, tail_catch_reaches cps p laid LowOf c2 t2 scope env s u x body k to back ops2 last2 out none passes fresh plain unused onward st, omega arith, catch_moves P s.moves scope x body (Continuation.Var k) s refl)
  does LowOf c t scope term ops last env s u (lays_catch c2 t2 x body k r kept to back ops2 last2 awaits for held once fresh plain unused onward) st =
      (_, catch_reaches cps p laid LowOf c2 t2 scope env s u x body k r kept to back ops2 last2 awaits for held fresh plain unused onward st, (let n = (block_at cps p laid back (Resumes r) for).fits.small in let h = zipped_length _ _ _ held in omega (arith, n, h)), catch_moves P s.moves scope x body k s refl)
  does LowOf c t scope term ops last env s u (lays_tail_uncatch c2 t2 k value outer ms y ops2 last2 open_ prep gives) st =
      (_, bare_reaches cps p laid LowOf c2 t2 scope env s u k value outer ms y ops2 last2 open_ prep gives st, omega arith, uncatch_moves P s.moves scope k value s refl)
  does LowOf c t scope term ops last env s u (lays_uncatch c2 t2 k value outer ms y ops2 last2 open_ prep gives) st =
      (_, framed_reaches cps p laid LowOf c2 t2 scope env s u k value outer ms y ops2 last2 open_ prep gives st, omega arith, uncatch_moves P s.moves scope k value s refl)
  does LowOf c t scope term ops last env s u (lays_halt c2 t2 value ms x prep) st =
      (_, halt_reaches cps p laid LowOf c2 t2 scope env s u value ms x prep st, omega arith, halt_moves P s.moves scope value s refl)

  -- the frames stand where they run
  running : (t : FrameState) (doing : Doing) → t.doing ≡ doing → t ≡ going doing t
  running t doing e = ap (λ d. going d t) e

  term_matched : (s : State) (t : FrameState) (links : Links) (c : Context) (at : ℕ) (scope : Scope) (ops : List FrameOp) (last : FrameEnd) (env : Env) → Lays cps w c at ops last → s.control ≡ At at scope → t.doing ≡ Running ops last env → SameMade cps w links s t → HoldAll w links scope env c.vars
      → Leads scope c.exits → Waits w links t.frames c.catches s.waiting t.live → Matched a b R measure potential factor s t
  term_matched s t links c at scope ops last env (lays c2 at2 term ops2 last2 is fits) ec ed made held leads waits =
      let s1 = counting (moves_of term) s in
      let final = performed P scope term s1 in
      let stepped : step_of P s ≡ final = ap (λ k. advanced P k s) ec ∙ ap (λ o. or_broken o s (λ x. performed P scope x (counting (moves_of x) s))) is in
      let count = waits_count w links t.frames c2.catches s.waiting t.live waits in
      let heap = ap (λ z. z.store.heap) stepped in
      let wait = ap (λ z. waiting_count z.waiting) stepped in
      let staged : Stage c2 scope term env s1 t (Low s) = record {
        links = links;
        made = remade cps w links s s1 t t made refl refl;
        held = held;
        leads = leads;
        waits = waits;
        low = λ h n le of. (omega (arith, le, heap), ⊎_elim (λ x. inl (omega (arith, x, count))) (λ x. inr (omega (arith, x, wait))) of);
      } in
      let d = does (Low s) c2 at2 scope term ops2 last2 env s1 t fits staged in
      let reaches = subst (λ n. Reaches cps p w (Low s) (step_of P s) t d.0 n) (sym (ap (rank_of w) ec))
      (subst (λ z. Reaches cps p w (Low s) z t d.0 (w.rank at2)) (sym stepped) (subst (λ z. Reaches cps p w (Low s) final z d.0 (w.rank at2)) (sym (running t (Running ops2 last2 env) ed)) d.1)) in
      let moves = ap (λ z. z.moves) stepped in
      let same = d.3 in
      matched_by s t d.0 (moves_of term) reaches d.2 (omega (arith, moves, same))

  -- ---- calls

  comes_matched : (s : State) (t y : FrameState) (final : State) → step_of P s ≡ final → step p t ≡ y → Comes cps p laid (Low s) final (counted 1 t) y (entry_moves cps p laid (Low s)) → final.moves ≡ s.moves + 1 → Matched a b R measure potential factor s t
  comes_matched s t y final left right comes moves =
      let c = subst (λ z. Comes cps p laid (Low s) z (counted 1 t) y (entry_moves cps p laid (Low s))) (sym left) comes in
      let m = c.moves in
      let n = ap (λ z. z.moves) left in
      matched_by s t (1 + entry_moves cps p laid (Low s)) 1 (reaches_step cps p w (Low s) (step_of P s) t y 1 (entry_moves cps p laid (Low s)) (measure s) right (omega (arith, m)) c.low c.arrives) (omega arith) (omega (arith, n, moves))

  low_now : (s : State) (t : FrameState) (links : Links) → SameMade cps w links s t → Waits w links t.frames [] s.waiting t.live → LowBelow cps p laid (Low s) (counted 1 t)
  low_now s t links made waits n le =
      let count = waits_count w links t.frames [] s.waiting t.live waits in
      let up = (steps_only_add P s).0.heap in
      let low = made.store.heap in
      (omega (arith, up, low), inl (omega (arith, le, count)))

  matched_from : (s : State) (t : FrameState) (links : Links) (control : Control) (doing : Doing) → SameDoing cps w links t.frames t.objects s.waiting t.live control doing → s.control ≡ control → t.doing ≡ doing → SameMade cps w links s t → (seen_of s).end ≡ None → Matched a b R measure potential factor s t
  matched_from s t links control doing (same_term c at scope ops last env laying held leads waits) ec ed made on = term_matched s t links c at scope ops last env laying ec ed made held leads waits
  matched_from s t links control doing (same_call f g xs ys same sames waits) ec ed made on =
      let s1 = counting 1 s in
      let left : step_of P s ≡ called_to P f xs s1 = ap (λ k. advanced P k s) ec in
      let right : step p t ≡ called p g ys (counted 1 t) = ap (λ d. advance p d t) ed in
      let heap = ap (λ z. z.store.heap) left in
      let count = waits_count w links t.frames [] s.waiting t.live waits in
      comes_matched s t (called p g ys (counted 1 t)) (called_to P f xs s1) left right
      (called_comes cps p laid (Low s) links s1 (counted 1 t) f g xs ys same sames waits (remade cps w links s s1 t (counted 1 t) made refl refl) (low_now s t links made waits)
      (λ st n le below. (omega (arith, le, heap), inl (omega (arith, below, count)))))
      (called_moves P s1.moves f xs s1 refl)
  matched_from s t links control doing (same_look o hs ms captured kept xs ys handlers handled sames waits) ec ed made on =
      let s1 = counting 1 s in
      comes_matched s t (looked p o ms ys (counted 1 t)) (looked_to P o hs xs s1) (ap (λ k. advanced P k s) ec) (ap (λ d. advance p d t) ed)
      (looked_comes cps p laid (Low s) links s1 (counted 1 t) o hs ms captured kept xs ys handlers handled sames waits made (low_now s t links made waits))
      (looked_moves P s1.moves o hs xs s1 refl)
  matched_from s t links control doing (same_method c code captured kept xs ys for holds front sames waits) ec ed made on =
      let s1 = counting 1 s in
      comes_matched s t (entered p code (map Lasting ys) (counted 1 t)) (entered_to P c xs s1) (ap (λ k. advanced P k s) ec) (ap (λ d. advance p d t) ed)
      (method_comes cps p laid (Low s) links s1 (counted 1 t) c code captured kept xs ys for holds front sames waits made (low_now s t links made waits))
      (entered_moves P s1.moves c xs s1 refl)
  matched_from s t links control doing (same_entry c code self xs ys for none sames waits) ec ed made on =
      let s1 = counting 1 s in
      comes_matched s t (entered p code (Lasting self ∷ map Lasting ys) (counted 1 t)) (entered_to P c xs s1) (ap (λ k. advanced P k s) ec) (ap (λ d. advance p d t) ed)
      (entering_comes cps p laid (Low s) links s1 (counted 1 t) c code self xs ys for none sames waits (remade cps w links s s1 t (counted 1 t) made refl refl) (low_now s t links made waits))
      (entered_moves P s1.moves c xs s1 refl)
  matched_from s t links control doing (same_end e d ended) ec ed made on = absurd (never e (sym (ap end_of_control ec) ∙ on))
    where
      never : (e : End) → Some e ≡ None → ⊥
      never e h = cc

  pub matched : (s : State) (t : FrameState) → R s t → (seen_of s).end ≡ None → Matched a b R measure potential factor s t
  matched s t r on = matched_from s t r.links s.control t.doing r.doing refl refl r.made on

  same_end_of : (links : Links) (frames : List Frame) (objects : List FrameObject) (waiting : List Waiting) (live : List ℕ) (control : Control) (doing : Doing) → SameDoing cps w links frames objects waiting live control doing → end_of doing ≡ end_of_control control
  same_end_of links frames objects waiting live control doing (same_term c at scope ops last env laying held leads waits) = refl
  same_end_of links frames objects waiting live control doing (same_call f g xs ys same sames waits) = refl
  same_end_of links frames objects waiting live control doing (same_look o hs ms captured kept xs ys handlers handled sames waits) = refl
  same_end_of links frames objects waiting live control doing (same_method c code captured kept xs ys for holds front sames waits) = refl
  same_end_of links frames objects waiting live control doing (same_entry c code self xs ys for none sames waits) = refl
  same_end_of links frames objects waiting live control doing (same_end e d ended) = ended

  pub alike : (s : State) (t : FrameState) → R s t → Alike (seen_of s) (seen t)
  alike s t r = record { end = same_end_of r.links t.frames t.objects s.waiting t.live s.control t.doing r.doing; output = sym r.made.store.output }

  pub simulates : Simulates a b R measure potential factor
  simulates = record { machine = steps_only_add P; alike = alike; matched = matched }
