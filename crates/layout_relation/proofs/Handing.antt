-- A value that is given to a continuation, on both sides.
use Rattle.std.proofs.Common.{◌≡◌, ℕ, ◌+◌, ◌*◌, ◌≤◌, ◌<◌, ◌==◌, ◌⊎◌, false, if◌then◌else◌, List, [], ◌∷◌, ◌++◌, length, Some, None, slice_get, refl, sym, ap, subst, ◌∙◌, arith, ⊎_elim, inl, inr}
use Rattle.std.specs.Prelude.{option_and_then}
use Rattle.std.specs.Option.{option_map}
use Rattle.program_runs.specs.Runs as runs
use Rattle.t_base.specs.declared.basics.Var.{Var}
use Rattle.t_prim.specs.Values.{Val}
use Rattle.cps_ir.specs.declared.terms.Cont.{Cont}
use Rattle.cps_ir.specs.declared.terms.Cont.TheVariants as Continuation
use Rattle.cps_ir.specs.declared.terms.Cps.{Cps}
use Rattle.cps_ir.specs.Reaches.{is_in}
use Rattle.cps_ir.specs.States.{Meant, Direct, Bound, Scope, Control, At, Calling, Looking, Entering, Ended, State, Program, marked, all_escape, Pending, Waiting, Back, going as going_to, with_waiting}
use Rattle.cps_ir.specs.Giving.{meant_by, binding, located, resumed, returned, given, give}
use Rattle.cps_ir.specs.declared.args.Arg.{Arg as FrameArg}
use Rattle.frame_ir.specs.declared.forms.FrameOp.{FrameOp}
use Rattle.frame_ir.specs.declared.forms.FrameOp.TheVariants as Op
use Rattle.frame_ir.specs.declared.forms.FrameEnd.{FrameEnd}
use Rattle.frame_ir.specs.declared.forms.FrameEnd.TheVariants as Last
use Rattle.frame_ir.specs.declared.forms.Block.{Block}
use Rattle.frame_ir.specs.declared.forms.Frames.{Frames}
use Rattle.frame_ir.specs.Values.{Value, Lasting, Frame, Env, value_at}
use Rattle.frame_ir.specs.States.{Running, Wrong, State as FrameState, going, counted, wrong, or_wrong, youngest, with_live, older_than_youngest}
use Rattle.frame_ir.specs.Arguments.{value_of, lasting_value, values_of, kept_values, bound}
use Rattle.frame_ir.specs.Calls.{jumped, begun, returned as returned_to}
use Rattle.frame_ir.specs.Running.{step}
use Rattle.layout_relation.specs.Links.{IsIn, first, later, zip_none, zip_one, Links, SameVal, SameMeant, value}
use Rattle.layout_relation.specs.Contexts.{Bare, Framed, Context, Exits, IsUnneeded, with_var, Catching, Return, Begins, Resumes}
use Rattle.layout_relation.specs.Laid.{Sketch, IsFor, variables, IsNewIn, Gives, gives_out, gives_join, gives_jump, gives_here, gives_unused, GoesOn, goes_here, goes_to, Lays, IsLaidOut}
use Rattle.layout_relation.specs.Related.{waits_bare, waits_framed, Leads, leads_bound, HoldAll, AreCaptured, SameFrame, Waits, waits_none, waits_back, SameMade, SameDoing, same_term, same_end}
use Rattle.layout_relation.proofs.Lists.{zipped_length, in_is_not, in_none}
use Rattle.layout_relation.proofs.Scopes.{leads_out, leads_to, other_meant, eqb_flip, eqb_same, hold_bound, hold_more}
use Rattle.layout_relation.proofs.Paths.{Path, steps}
use Rattle.layout_relation.proofs.Making.{kept_all}
use Rattle.layout_relation.proofs.Preparing.{remade}
use Rattle.layout_relation.proofs.Arriving.{lasting_is, variables_read, variables_count, block_at, Arrives, arrives_after, arrives_more, jump_arrives, frame_fetches}

-- ---- going on

abbrev pub rank_of : Sketch → Control → ℕ
rank_of w (At t scope) = w.rank t
rank_of w (Calling f args) = 0
rank_of w (Looking o hs args) = 0
rank_of w (Entering c args) = 0
rank_of w (Ended e) = 0

-- t arrives where s is, by a step at least or at a lower rank
pub record Reaches (cps : Cps) (p : Frames) (w : Sketch) (Low : ℕ → ℕ → Type 0) (s : State) (t : FrameState) (most top : ℕ) : Type 0 where
  pub arrives : Arrives cps p w Low s t most
  pub goes : (1 ≤ arrives.path.count) ⊎ (rank_of w s.control < top)

pub reaches_after : (cps : Cps) (p : Frames) (w : Sketch) (Low : ℕ → ℕ → Type 0) (s : State) (t u : FrameState) (m n top : ℕ) → Path p Low t u m → Reaches cps p w Low s u n top → Reaches cps p w Low s t (m + n) top
reaches_after cps p w Low s t u m n top path r = record {
  arrives = arrives_after cps p w Low s t u m n path r.arrives;
  goes = ⊎_elim (λ a. inl (omega (arith, a))) (λ b. inr b) r.goes;
}

pub reaches_more : (cps : Cps) (p : Frames) (w : Sketch) (Low : ℕ → ℕ → Type 0) (s : State) (t : FrameState) (m n top : ℕ) → m ≤ n → Reaches cps p w Low s t m top → Reaches cps p w Low s t n top
reaches_more cps p w Low s t m n top le r = record { arrives = arrives_more cps p w Low s t m n le r.arrives; goes = r.goes }

-- with a step before
pub reaches_step : (cps : Cps) (p : Frames) (w : Sketch) (Low : ℕ → ℕ → Type 0) (s : State) (t u : FrameState) (m n top : ℕ) → step p t ≡ u → u.moves ≤ t.moves + m → Low u.store.heap (length u.live) → Arrives cps p w Low s u n → Reaches cps p w Low s t (m + n) top
reaches_step cps p w Low s t u m n top one le low a = record { arrives = arrives_after cps p w Low s t u m n (steps p Low t u m one le low) a; goes = inl (omega arith) }

module _ (cps : Cps) (p : Frames) (laid : IsLaidOut cps p) (Low : ℕ → ℕ → Type 0) where
  abbrev w : Sketch
  w = laid.sketch

  abbrev P : Program
  P = marked cps all_escape

  abbrev pub LowBelow : FrameState → Type 0
  LowBelow t = (n : ℕ) → n ≤ length t.live → Low t.store.heap n

  low_here : (t : FrameState) → LowBelow t → Low t.store.heap (length t.live)
  low_here t low = low (length t.live) (omega arith)

  -- a value is bound
  pub bound_to : (x : ℕ) (v : Val) (scope : Scope) (s : State) (rest : Scope → State → State) → binding P x v scope s rest ≡ rest (Bound x (Direct v) ∷ scope) s
  bound_to x v scope s rest = ap (λ b. if b then located x v scope s rest else rest (Bound x (Direct v) ∷ scope) s) (laid.unassigned x)

  -- what isn't bound is captured of the inner scope
  pub captured_inside : (links : Links) (x : ℕ) (meant : Meant) (scope : Scope) (xs : List ℕ) (vs : List Value) → is_in xs x ≡ false → AreCaptured w links scope xs vs → AreCaptured w links (Bound x meant ∷ scope) xs vs
  captured_inside links x meant scope xs vs e h = by xs vs (λ y i. in_is_not xs x y e i) h
    where
      by : (xs : List ℕ) (vs : List Value) → ((y : ℕ) → IsIn y xs → (y == x) ≡ false) → AreCaptured w links scope xs vs → AreCaptured w links (Bound x meant ∷ scope) xs vs
      by xs vs apart zip_none = zip_none
      by xs vs apart (zip_one y v us ws h rest) =
          zip_one y v us ws (record { meant = h.meant; is = other_meant x y meant scope (eqb_flip y x (apart y (first y us))) ∙ h.is; same = h.same })
          (by us ws (λ z i. apart z (later z y us i)) rest)

  pub captured_there : (links : Links) (scope inner : Scope) (xs : List ℕ) (vs : List Value) → ((x : ℕ) → IsIn x xs → meant_by inner x ≡ meant_by scope x) → AreCaptured w links scope xs vs → AreCaptured w links inner xs vs
  captured_there links scope inner xs vs same zip_none = zip_none
  captured_there links scope inner xs vs same (zip_one x v us ws h rest) =
      zip_one x v us ws (record { meant = h.meant; is = same x (first x us) ∙ h.is; same = h.same }) (captured_there links scope inner us ws (λ z i. same z (later z x us i)) rest)

  pub direct_same : (links : Links) (x : ℕ) (a b : Val) → w.celled x ≡ false → SameVal links a b → SameMeant links (w.celled x) (Direct a) (Lasting b)
  direct_same links x a b e h = subst (λ c. SameMeant links c (Direct a) (Lasting b)) (sym e) (value a b h)

  pub found_first : (x : ℕ) (meant : Meant) (scope : Scope) → meant_by (Bound x meant ∷ scope) x ≡ Some meant
  found_first x meant scope = ap (λ b. if b then Some meant else meant_by scope x) (eqb_same x)

  -- ---- on to a term

  pub goes_arrives : (links : Links) (s : State) (u : FrameState) (c : Context) (t : ℕ) (scope : Scope) (ops : List FrameOp) (last : FrameEnd) (env : Env) → GoesOn cps w c t ops last → HoldAll w links scope env c.vars → Leads scope c.exits
      → Waits w links u.frames c.catches s.waiting u.live → SameMade cps w links s u → s.control ≡ At t scope → LowBelow u → Arrives cps p w Low s (going (Running ops last env) u) (cps.shared.size + 4)
  goes_arrives links s u c t scope ops last env (goes_here c2 t2 ops2 last2 laying) h leads waits made control low = record {
    end = going (Running ops2 last2 env) u;
    path = record { count = 0; goes = refl; moves = omega arith; low = λ i a b. absurd (omega (arith, a, b)) };
    related = record {
      links = links;
      made = remade cps w links s s u (going (Running ops2 last2 env) u) made refl refl;
      doing = subst (λ x. SameDoing cps w links u.frames u.objects s.waiting u.live x (Running ops2 last2 env)) (sym control) (same_term c2 t2 scope ops2 last2 env laying h leads waits);
    };
  }
  goes_arrives links s u c t scope ops last env (goes_to c2 t2 block needs ys for held few) h leads waits made control low =
      let k = kept_all w links scope env c2.vars needs ys h held in
      arrives_more cps p w Low s (going (Running [] (Last.Jump block (variables ys)) env) u) (1 + length (variables ys)) (cps.shared.size + 4)
      (let a = variables_count ys in let b = zipped_length _ _ _ held in omega (arith, a, b, few))
      (jump_arrives cps p laid Low links s u scope env block (record { vars = needs; exits = c2.exits; catches = c2.catches; term = t2 }) (variables ys) k.values for (variables_read p.shared env ys ∙ k.are) k.captured leads waits made control (low_here u low)).0

  -- ---- back to what waits

  abbrev pub return_moves : ℕ
  return_moves = 2 * cps.shared.size + 7

  -- behind the step that returns a value nothing has changed, and then s is reached
  pub record Returns (s : State) (t : FrameState) (b : Val) : Type 0 where
    pub arrives : Arrives cps p w Low s (returned_to p b t) return_moves
    pub moves : (returned_to p b t).moves ≡ t.moves
    pub store : (returned_to p b t).store ≡ t.store
    pub live : (returned_to p b t).live ≡ t.live

  pub pop_step : (ops : List FrameOp) (last : FrameEnd) (env : Env) (u : FrameState) (birth : ℕ) (older : List ℕ) (f : Frame) → u.live ≡ birth ∷ older → slice_get u.frames birth ≡ Some f → f.catch ≡ false
      → step p (going (Running (Op.Pop ∷ ops) last env) u) ≡ going (Running ops last env) (counted 1 (with_live u older))
  pop_step ops last env u birth older f live is push =
      let t = going (Running (Op.Pop ∷ ops) last env) u in
      let go : Frame → FrameState = λ f. going (Running ops last env) (counted 1 (with_live t (older_than_youngest t.live))) in
      ap (λ l. or_wrong (youngest l) t (λ birth. or_wrong (slice_get t.frames birth) t (λ f. if f.catch then wrong t else go f))) live
      ∙ ap (λ o. or_wrong o t (λ f. if f.catch then wrong t else go f)) is
      ∙ ap (λ b. if b then wrong t else go f) push
      ∙ ap (λ l. going (Running ops last env) (counted 1 (with_live u (older_than_youngest l)))) live

  pub back_arrives : (links : Links) (s : State) (t : FrameState) (v b : Val) (pending : Pending) (rest : List Waiting) (birth : ℕ) (older : List ℕ) (r : Return) → SameFrame w links t.frames pending birth r → Waits w links t.frames r.catches rest older
      → t.live ≡ birth ∷ older → SameVal links v b → SameMade cps w links s t → LowBelow t → Returns (returned P (Back pending ∷ rest) v s) t b
  back_arrives links s t v b pending rest birth older r f waits live same made low =
      let blk = block_at cps p laid f.frame.back (Resumes r) f.back in
      let fits = blk.fits in
      let env0 : Env = (fits.value.0, Lasting b) ∷ [] in
      let scope : Scope = Bound pending.param (Direct v) ∷ pending.scope in
      let s3 = going_to (At pending.body scope) (with_waiting s rest) in
      let there : returned P (Back pending ∷ rest) v s ≡ s3 = bound_to pending.param v pending.scope (with_waiting s rest) (λ scope t. going_to (At pending.body scope) t) in
      let begins : Block → FrameState = λ b2. if length b2.params == 1 then begun b2 (bound b2.params (Lasting b ∷ [])) t else wrong t in
      let go : Frame → FrameState = λ f. jumped p f.back (Lasting b ∷ []) t in
      let begun_is : returned_to p b t ≡ going (Running (fits.gets ++ Op.Pop ∷ fits.rest) blk.block.last env0) t =
      ap (λ l. or_wrong (youngest l) t (λ birth. or_wrong (slice_get t.frames birth) t (λ f. if f.catch then wrong t else go f))) live
      ∙ ap (λ o. or_wrong o t (λ f. if f.catch then wrong t else go f)) f.is
      ∙ ap (λ b. if b then wrong t else go f.frame) f.push
      ∙ ap (λ o. or_wrong o t begins) blk.is
      ∙ ap (λ ps. if length ps == 1 then going (Running blk.block.ops.items blk.block.last (bound ps (Lasting b ∷ []))) t else wrong t) fits.takes
      ∙ ap (λ os. going (Running os blk.block.last env0) t) fits.ops in
      let captured = captured_inside links pending.param (Direct v) pending.scope r.kept f.frame.kept (subst (λ x. is_in r.kept x ≡ false) (sym f.param) fits.new.apart) f.kept in
      let held0 : HoldAll w links scope env0 ((r.param, fits.value.0) ∷ []) = hold_more w links scope env0 [] r.param fits.value.0
      (record { meant = Direct v; value = Lasting b; is = subst (λ x. meant_by scope x ≡ Some (Direct v)) f.param (found_first pending.param (Direct v) pending.scope); at = ap (λ x. if x then Some (Lasting b) else None) (eqb_same fits.value.0); same = direct_same links r.param v b fits.new.plain same })
      (λ a c i. absurd (in_none (a, c) i)) in
      let fetched = frame_fetches cps p laid Low links scope r.kept fits.value.0 ((r.param, fits.value.0) ∷ []) fits.vars fits.gets (Op.Pop ∷ fits.rest) blk.block.last env0 t birth older f.frame live f.is f.push captured (low_here t low) held0 fits.fetches in
      let u = fetched.state in
      let popped = counted 1 (with_live u older) in
      let pop = pop_step fits.rest blk.block.last fetched.env2 u birth older f.frame (fetched.counts.live ∙ live) (ap (λ fs. slice_get fs birth) fetched.counts.frames ∙ f.is) f.push in
      let low2 : (n : ℕ) → n ≤ length older → Low u.store.heap n = λ n le. subst (λ st. Low st.heap n) (sym (ap (λ x. x.store) fetched.counts.parts)) (low n (let e = ap length live in omega (arith, e, le))) in
      let c : Context = record { vars = fits.vars; exits = r.exits; catches = r.catches } in
      let onward = goes_arrives links s3 popped c pending.body scope fits.rest blk.block.last fetched.env2
      (subst (λ x. GoesOn cps w c x fits.rest blk.block.last) (sym f.body) fits.goes) fetched.held
      (leads_bound pending.param (Direct v) pending.scope r.exits (subst (λ x. IsUnneeded r.exits x) (sym f.param) fits.new.unneeded) f.leads)
      (subst (λ fs. Waits w links fs r.catches rest older) (sym fetched.counts.frames) waits)
      (remade cps w links s s3 t popped made refl fetched.counts.parts) refl low2 in
      let after_pop = arrives_after cps p w Low s3 (going (Running (Op.Pop ∷ fits.rest) blk.block.last fetched.env2) u) (going (Running fits.rest blk.block.last fetched.env2) popped) 1 (cps.shared.size + 4)
      (steps p Low (going (Running (Op.Pop ∷ fits.rest) blk.block.last fetched.env2) u) (going (Running fits.rest blk.block.last fetched.env2) popped) 1 pop (omega arith) (low2 (length older) (omega arith))) onward in
      let whole = arrives_after cps p w Low s3 (going (Running (fits.gets ++ Op.Pop ∷ fits.rest) blk.block.last env0) t) (going (Running (Op.Pop ∷ fits.rest) blk.block.last fetched.env2) u) (1 * length fits.gets) (1 + (cps.shared.size + 4)) fetched.path after_pop in
      let bounded = arrives_more cps p w Low s3 (going (Running (fits.gets ++ Op.Pop ∷ fits.rest) blk.block.last env0) t) (1 * length fits.gets + (1 + (cps.shared.size + 4))) return_moves (let a = fits.few in omega (arith, a)) whole in
      record {
        arrives = subst (λ x. Arrives cps p w Low x (returned_to p b t) return_moves) (sym there) (subst (λ x. Arrives cps p w Low s3 x return_moves) (sym begun_is) bounded);
        moves = ap (λ x. x.moves) begun_is;
        store = ap (λ x. x.store) begun_is;
        live = ap (λ x. x.live) begun_is;
      }

  -- nothing waits: no whole program does this
  none_arrives : (links : Links) (s : State) (t : FrameState) (v b : Val) → t.live ≡ [] → SameMade cps w links s t → Returns (returned P [] v s) t b
  none_arrives links s t v b live made =
      let is : returned_to p b t ≡ going Wrong t = ap (λ l. or_wrong (youngest l) t (λ birth. or_wrong (slice_get t.frames birth) t (λ f. if f.catch then wrong t else jumped p f.back (Lasting b ∷ []) t))) live in
      let s3 = going_to (Ended runs.Broken) s in
      record {
        arrives = subst (λ x. Arrives cps p w Low s3 x return_moves) (sym is) (record {
          end = going Wrong t;
          path = record { count = 0; goes = refl; moves = omega arith; low = λ i a b. absurd (omega (arith, a, b)) };
          related = record { links = links; made = remade cps w links s s3 t (going Wrong t) made refl refl; doing = same_end runs.Broken Wrong refl };
        });
        moves = ap (λ x. x.moves) is;
        store = ap (λ x. x.store) is;
        live = ap (λ x. x.live) is;
      }

  pub returned_by : (links : Links) (s : State) (t : FrameState) (v b : Val) (cs : List Catching) (waiting : List Waiting) (live : List ℕ) → Waits w links t.frames cs waiting live → cs ≡ [] → t.live ≡ live → SameVal links v b → SameMade cps w links s t → LowBelow t
      → Returns (returned P waiting v s) t b
  returned_by links s t v b cs waiting live waits_none none is same made low = none_arrives links s t v b is made
  returned_by links s t v b cs waiting live (waits_back pending rest birth older r f waits) none is same made low = back_arrives links s t v b pending rest birth older r f waits is same made low
  returned_by links s t v b cs waiting live (waits_bare catch rest birth older back c passes waits) none is same made low = absurd (never none)
    where
      never : Bare ∷ [] ≡ [] → ⊥
      never h = cc
  returned_by links s t v b cs waiting live (waits_framed catch pending rest birth push older r f c waits) none is same made low = absurd (never r.catches none)
    where
      never : (cs : List Catching) → Framed ∷ cs ≡ [] → ⊥
      never cs h = cc

  pub returned_arrives : (links : Links) (s : State) (t : FrameState) (v b : Val) → Waits w links t.frames [] s.waiting t.live → SameVal links v b → SameMade cps w links s t → LowBelow t → Returns (returned P s.waiting v s) t b
  returned_arrives links s t v b waits same made low = returned_by links s t v b [] s.waiting t.live waits refl refl same made low

  -- ---- to a continuation

  abbrev pub give_moves : ℕ
  give_moves = 2 * cps.shared.size + 9

  -- what is read of an argument, and of the variables behind it
  reads_with : (env : Env) (a : FrameArg) (b : Val) (ys : List Var) (vs : List Value) → lasting_value p.shared env a ≡ Some b → kept_values env ys ≡ Some vs → values_of p.shared env (a ∷ variables ys) ≡ Some (Lasting b ∷ vs)
  reads_with env a b ys vs e f = ap (λ o. option_and_then (λ u. option_map (λ us. u ∷ us) (values_of p.shared env (variables ys))) o) (lasting_is (value_of p.shared env a) b e) ∙ ap (option_map (λ us. Lasting b ∷ us)) (variables_read p.shared env ys ∙ f)

  -- a jump to a block that begins behind the continuation
  resumed_arrives : (links : Links) (s : State) (u : FrameState) (scope inner : Scope) (env : Env) (v b : Val) (a : FrameArg) (param body block : ℕ) (needs : List ℕ) (exits : Exits) (catches : List Catching) (ys : List Var) (vs : List Value)
      → IsFor w block (Begins (record { vars = param ∷ needs; exits = exits; catches = catches; term = body })) → lasting_value p.shared env a ≡ Some b → SameVal links v b → kept_values env ys ≡ Some vs → AreCaptured w links inner needs vs
      → IsNewIn w needs exits param → Leads inner exits → Waits w links u.frames catches s.waiting u.live → SameMade cps w links s u → LowBelow u → length (a ∷ variables ys) ≤ cps.shared.size + 3 → (top : ℕ)
      → Reaches cps p w Low (resumed P (record { param = param; body = body; scope = inner }) v s) (going (Running [] (Last.Jump block (a ∷ variables ys)) env) u) give_moves top
  resumed_arrives links s u scope inner env v b a param body block needs exits catches ys vs for reads same kept captured new leads waits made low few top =
      let scope2 : Scope = Bound param (Direct v) ∷ inner in
      let s2 = going_to (At body scope2) s in
      let t = going (Running [] (Last.Jump block (a ∷ variables ys)) env) u in
      let there : resumed P (record { param = param; body = body; scope = inner }) v s ≡ s2 = bound_to param v inner s (λ scope t. going_to (At body scope) t) in
      let all : AreCaptured w links scope2 (param ∷ needs) (Lasting b ∷ vs) = zip_one param (Lasting b) needs vs (record { meant = Direct v; is = found_first param (Direct v) inner; same = direct_same links param v b new.plain same }) (captured_inside links param (Direct v) inner needs vs new.apart captured) in
      let made2 = remade cps w links s s2 u u made refl refl in
      let jumps = jump_arrives cps p laid Low links s2 u scope2 env block (record { vars = param ∷ needs; exits = exits; catches = catches; term = body }) (a ∷ variables ys) (Lasting b ∷ vs) for (reads_with env a b ys vs reads kept) all (leads_bound param (Direct v) inner exits new.unneeded leads) waits made2 refl (low_here u low) in
      subst (λ x. Reaches cps p w Low x t give_moves top) (sym there) (record { arrives = arrives_more cps p w Low s2 t (1 + length (a ∷ variables ys)) give_moves (omega (arith, few)) jumps.0; goes = inl jumps.1 })

  pub return_reaches : (s : State) (x y : FrameState) (b : Val) (n top : ℕ) → step p x ≡ returned_to p b y → y.moves ≤ x.moves + n → LowBelow y → Returns s y b → Reaches cps p w Low s x (n + return_moves) top
  return_reaches s x y b n top one few low back =
      reaches_step cps p w Low s x (returned_to p b y) n return_moves top one (let m = back.moves in omega (arith, m, few)) (subst (λ st. Low st.heap (length (returned_to p b y).live)) (sym back.store) (subst (λ l. Low y.store.heap (length l)) (sym back.live) (low_here y low))) back.arrives

  -- a term begins where the frames stand
  pub here_reaches : (links : Links) (s : State) (u : FrameState) (c : Context) (t body : ℕ) (scope : Scope) (ops : List FrameOp) (last : FrameEnd) (env : Env) → Lays cps w c body ops last → HoldAll w links scope env c.vars → Leads scope c.exits
      → Waits w links u.frames c.catches s.waiting u.live → SameMade cps w links s u → s.control ≡ At body scope → w.rank body < w.rank t → Reaches cps p w Low s (going (Running ops last env) u) give_moves (w.rank t)
  here_reaches links s u c t body scope ops last env laying h leads waits made control lower = record {
    arrives = record {
      end = going (Running ops last env) u;
      path = record { count = 0; goes = refl; moves = omega arith; low = λ i a b. absurd (omega (arith, a, b)) };
      related = record {
        links = links;
        made = remade cps w links s s u (going (Running ops last env) u) made refl refl;
        doing = subst (λ x. SameDoing cps w links u.frames u.objects s.waiting u.live x (Running ops last env)) (sym control) (same_term c body scope ops last env laying h leads waits);
      };
    };
    goes = inr (subst (λ x. rank_of w x < w.rank t) (sym control) lower);
  }

  pub gives_arrives : (links : Links) (s : State) (u : FrameState) (c : Context) (t : ℕ) (k : Cont) (scope : Scope) (a : FrameArg) (v b : Val) (ops : List FrameOp) (last : FrameEnd) (env : Env) → Gives cps w c t k a ops last → lasting_value p.shared env a ≡ Some b → SameVal links v b
      → HoldAll w links scope env c.vars → Leads scope c.exits → Waits w links u.frames c.catches s.waiting u.live → SameMade cps w links s u → LowBelow u
      → Reaches cps p w Low (give P scope k v s) (going (Running ops last env) u) give_moves (w.rank t)
  gives_arrives links s u c t k scope a v b ops last env (gives_out c2 t2 j a2 out none) reads same h leads waits made low =
      let x = going (Running [] (Last.Return a2) env) u in
      let one : step p x ≡ returned_to p b (counted 2 x) = ap (λ o. or_wrong o x (λ v. returned_to p v (counted 2 x))) reads in
      let there : give P scope (Continuation.Var j) v s ≡ returned P s.waiting v s = ap (λ way. given P way v s) (leads_out scope c2.exits j.0 leads out) in
      let waits2 = subst (λ cs. Waits w links u.frames cs s.waiting u.live) none waits in
      let back = returned_arrives links s (counted 2 x) v b waits2 same (remade cps w links s s u (counted 2 x) made refl refl) low in
      subst (λ y. Reaches cps p w Low y x give_moves (w.rank t2)) (sym there) (reaches_more cps p w Low (returned P s.waiting v s) x (2 + return_moves) give_moves (w.rank t2) (omega arith) (return_reaches (returned P s.waiting v s) x (counted 2 x) b 2 (w.rank t2) one (omega arith) low back))
  gives_arrives links s u c t k scope a v b ops last env (gives_join c2 t2 j a2 m rest ys meets for held new few) reads same h leads waits made low =
      let to = leads_to scope c2.exits j.0 m rest leads meets in
      let kept = kept_all w links scope env c2.vars m.needs ys h held in
      let there : give P scope (Continuation.Var j) v s ≡ resumed P (record { param = m.param; body = m.body; scope = to.inner }) v s = ap (λ way. given P way v s) to.way in
      subst (λ y. Reaches cps p w Low y (going (Running [] (Last.Jump m.block (a2 ∷ variables ys)) env) u) give_moves (w.rank t2)) (sym there)
      (resumed_arrives links s u scope to.inner env v b a2 m.param m.body m.block m.needs rest c2.catches ys kept.values for reads same kept.are (captured_there links scope to.inner m.needs kept.values to.same kept.captured) new to.leads waits made low
      (let x = variables_count ys in let y = zipped_length _ _ _ held in omega (arith, x, y, few)) (w.rank t2))
  gives_arrives links s u c t k scope a v b ops last env (gives_jump c2 t2 param body a2 block needs ys for held new few) reads same h leads waits made low =
      let kept = kept_all w links scope env c2.vars needs ys h held in
      resumed_arrives links s u scope scope env v b a2 param.0 body block needs c2.exits c2.catches ys kept.values for reads same kept.are kept.captured new leads waits made low
      (let x = variables_count ys in let y = zipped_length _ _ _ held in omega (arith, x, y, few)) (w.rank t2)
  gives_arrives links s u c t k scope a v b ops last env (gives_here c2 t2 param body x ops2 last2 fresh plain lower laying) reads same h leads waits made low =
      let scope2 : Scope = Bound param.0 (Direct v) ∷ scope in
      let s2 = going_to (At body scope2) s in
      let there : give P scope (Continuation.Lam param body) v s ≡ s2 = bound_to param.0 v scope s (λ scope t. going_to (At body scope) t) in
      let held = hold_more w links scope2 env c2.vars param.0 x.0 (record { meant = Direct v; value = Lasting b; is = found_first param.0 (Direct v) scope; at = lasting_is (value_at env x.0) b reads; same = direct_same links param.0 v b plain same }) (hold_bound w links scope env c2.vars param.0 (Direct v) fresh.0 h) in
      subst (λ y. Reaches cps p w Low y (going (Running ops2 last2 env) u) give_moves (w.rank t2)) (sym there)
      (here_reaches links s2 u (with_var param.0 x.0 c2) t2 body scope2 ops2 last2 env laying held (leads_bound param.0 (Direct v) scope c2.exits fresh.1 leads) waits (remade cps w links s s2 u u made refl refl) refl lower)
  gives_arrives links s u c t k scope a v b ops last env (gives_unused c2 t2 param body a2 ops2 last2 fresh lower laying) reads same h leads waits made low =
      let scope2 : Scope = Bound param.0 (Direct v) ∷ scope in
      let s2 = going_to (At body scope2) s in
      let there : give P scope (Continuation.Lam param body) v s ≡ s2 = bound_to param.0 v scope s (λ scope t. going_to (At body scope) t) in
      subst (λ y. Reaches cps p w Low y (going (Running ops2 last2 env) u) give_moves (w.rank t2)) (sym there)
      (here_reaches links s2 u c2 t2 body scope2 ops2 last2 env laying (hold_bound w links scope env c2.vars param.0 (Direct v) fresh.0 h) (leads_bound param.0 (Direct v) scope c2.exits fresh.1 leads) waits (remade cps w links s s2 u u made refl refl) refl lower)
