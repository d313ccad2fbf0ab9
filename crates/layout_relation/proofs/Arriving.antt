-- The frames arrive where a term begins: by a jump, or behind what is fetched from a frame or a closure.
use Rattle.std.proofs.Common.{◌≡◌, ℕ, suc, ◌+◌, ◌*◌, ◌≤◌, ◌==◌, false, if◌then◌else◌, List, [], ◌∷◌, ◌++◌, length, Option, Some, None, slice_get, refl, sym, ap, subst, ◌∙◌, arith, ⊎_elim}
use Rattle.std.specs.Prelude.{option_and_then, IsSomeAnd}
use Rattle.std.specs.Option.{option_map}
use Rattle.std.proofs.lemmas.Bool.{eq-eqb}
use Rattle.t_base.specs.declared.basics.Var.{Var}
use Rattle.t_prim.specs.Values.{Val, ClosureV, ObjectV}
use Rattle.cps_ir.specs.declared.terms.Cps.{Cps}
use Rattle.cps_ir.specs.States.{Scope, At, State}
use Rattle.cps_ir.specs.declared.args.Arg.{Arg as FrameArg}
use Rattle.frame_ir.specs.declared.forms.FrameOp.{FrameOp}
use Rattle.frame_ir.specs.declared.forms.FrameOp.TheVariants as Op
use Rattle.frame_ir.specs.declared.forms.FrameEnd.{FrameEnd}
use Rattle.frame_ir.specs.declared.forms.FrameEnd.TheVariants as Last
use Rattle.frame_ir.specs.declared.forms.Block.{Block}
use Rattle.frame_ir.specs.declared.forms.Frames.{Frames}
use Rattle.t_base.specs.declared.shared_parts.Shared.{Shared}
use Rattle.frame_ir.specs.Values.{Value, Lasting, InFrame, CellAt, Frame, Closure as FrameClosure, Object as FrameObject, Env, value_at, lasting_of, value_in, captured_in, kept_or}
use Rattle.frame_ir.specs.States.{Running, State as FrameState, going, counted, wrong, or_wrong, youngest}
use Rattle.frame_ir.specs.Arguments.{values_of, kept_values, bound}
use Rattle.frame_ir.specs.Calls.{jumped, begun}
use Rattle.frame_ir.specs.Operations.{captured_by}
use Rattle.frame_ir.specs.Running.{step}
use Rattle.layout_relation.specs.Links.{IsIn, first, later, zip_none, zip_one, Links}
use Rattle.layout_relation.specs.Contexts.{paired, IsUnused, Start, Purpose, Begins}
use Rattle.layout_relation.specs.Laid.{Sketch, IsFor, numbers, AreDistinct, variables, Fetches, fetches_none, fetches_one, BlockFits, IsLaidOut}
use Rattle.layout_relation.specs.Related.{parts_at, Leads, HoldAll, IsCaptured, AreCaptured, Waits, SameMade, SameDoing, same_term, Related}
use Rattle.layout_relation.proofs.Lists.{zipped_at, zipped_length, in_is_not, in_cases, in_none}
use Rattle.layout_relation.proofs.Scopes.{eqb_flip, eqb_same, other_value, hold_set, hold_more}
use Rattle.layout_relation.proofs.Paths.{Path, stays, steps, follows}
use Rattle.layout_relation.proofs.Preparing.{remade}

-- ---- parameters

pub in_numbers : (xs : List ℕ) (ys : List Var) (a b : ℕ) → IsIn (a, b) (paired xs ys) → IsIn b (numbers ys)
in_numbers [] ys a b h = absurd (in_none (a, b) h)
in_numbers (x ∷ xs) [] a b h = absurd (in_none (a, b) h)
in_numbers (x ∷ xs) (y ∷ ys) a b h = ⊎_elim
    (λ e. subst (λ z. IsIn z (numbers (y ∷ ys))) (sym (ap {A = ℕ × ℕ} {B = ℕ} (λ q. q.1) e)) (first y.0 (numbers ys)))
    (λ k. later b y.0 (numbers ys) (in_numbers xs ys a b k))
    (in_cases (a, b) (x, y.0) (paired xs ys) h)

module _ (w : Sketch) (links : Links) (scope : Scope) where
  pub bound_later : (env : Env) (vars : List (ℕ × ℕ)) (y : ℕ) (v : Value) → ((a b : ℕ) → IsIn (a, b) vars → (b == y) ≡ false) → HoldAll w links scope env vars → HoldAll w links scope ((y, v) ∷ env) vars
  bound_later env vars y v apart h a b i =
      let k = h a b i in
      record { meant = k.meant; value = k.value; is = k.is; at = other_value y b v env (eqb_flip b y (apart a b i)) ∙ k.at; same = k.same }

  -- parameters hold what they get
  pub bound_hold : (xs : List ℕ) (vs : List Value) (ys : List Var) → AreCaptured w links scope xs vs → length xs ≡ length ys → AreDistinct (numbers ys) → HoldAll w links scope (bound ys vs) (paired xs ys)
  bound_hold xs vs [] zip_none e d = λ a b i. absurd (in_none (a, b) i)
  bound_hold xs vs (y ∷ ys) zip_none e d = absurd (omega (arith, e))
  bound_hold xs vs [] (zip_one x v us ws h rest) e d = absurd (omega (arith, e))
  bound_hold xs vs (y ∷ ys) (zip_one x v us ws h rest) e d =
      hold_more w links scope ((y.0, v) ∷ bound ys ws) (paired us ys) x y.0
      (record { meant = h.meant; value = v; is = h.is; at = ap (λ b. if b then Some v else value_at (bound ys ws) y.0) (eqb_same y.0); same = h.same })
      (bound_later (bound ys ws) (paired us ys) y.0 v (λ a b i. in_is_not (numbers ys) y.0 b d.0 (in_numbers us ys a b i)) (bound_hold us ws ys rest (omega (arith, e)) d.1))

-- ---- values of arguments

pub lasting_is : (o : Option Value) (b : Val) → option_and_then lasting_of o ≡ Some b → o ≡ Some (Lasting b)
lasting_is None b e = cc
lasting_is (Some (Lasting v)) b e = ap (λ u. Some (Lasting u)) (same v b e)
  where
    same : (a b : Val) → Some a ≡ Some b → a ≡ b
    same a b h = cc
lasting_is (Some (InFrame birth slot)) b e = absurd (never b e)
  where
    never : (b : Val) → None ≡ Some b → ⊥
    never b h = cc
lasting_is (Some (CellAt k)) b e = absurd (never b e)
  where
    never : (b : Val) → None ≡ Some b → ⊥
    never b h = cc

pub variables_read : (shared : Shared) (env : Env) (ys : List Var) → values_of shared env (variables ys) ≡ kept_values env ys
variables_read shared env [] = refl
variables_read shared env (y ∷ ys) = ap (λ os. option_and_then (λ u. option_map (λ us. u ∷ us) os) (value_at env y.0)) (variables_read shared env ys)

pub variables_count : (ys : List Var) → length (variables ys) ≡ length ys
variables_count [] = refl
variables_count (y ∷ ys) = ap suc (variables_count ys)

-- ---- blocks

pub record BlockAt (cps : Cps) (p : Frames) (w : Sketch) (k : ℕ) (purpose : Purpose) : Type 0 where
  pub block : Block
  pub is : slice_get p.blocks.items k ≡ Some block
  pub fits : BlockFits cps w purpose block

pub block_at : (cps : Cps) (p : Frames) (laid : IsLaidOut cps p) (k : ℕ) (purpose : Purpose) → IsFor laid.sketch k purpose → BlockAt cps p laid.sketch k purpose
block_at cps p laid k purpose e = by (slice_get p.blocks.items k) refl (laid.blocks k purpose e)
  where
    by : (o : Option Block) → slice_get p.blocks.items k ≡ o → IsSomeAnd o (BlockFits cps laid.sketch purpose) → BlockAt cps p laid.sketch k purpose
    by None e h = absurd h
    by (Some b) e h = record { block = b; is = e; fits = h }

-- ---- only moves are counted

pub record OnlyCounts (t u : FrameState) : Type 0 where
  pub parts : parts_at u ≡ parts_at t
  pub frames : u.frames ≡ t.frames
  pub live : u.live ≡ t.live

-- where s has come to, t comes to with so many moves
pub record Arrives (cps : Cps) (p : Frames) (w : Sketch) (Low : ℕ → ℕ → Type 0) (s : State) (t : FrameState) (most : ℕ) : Type 0 where
  pub end : FrameState
  pub path : Path p Low t end most
  pub related : Related cps w s end

abbrev pub arrives_after : (cps : Cps) (p : Frames) (w : Sketch) (Low : ℕ → ℕ → Type 0) (s : State) (t u : FrameState) (m n : ℕ) → Path p Low t u m → Arrives cps p w Low s u n → Arrives cps p w Low s t (m + n)
arrives_after cps p w Low s t u m n path a = record { end = a.end; path = follows p Low t u a.end m n path a.path; related = a.related }

abbrev pub arrives_more : (cps : Cps) (p : Frames) (w : Sketch) (Low : ℕ → ℕ → Type 0) (s : State) (t : FrameState) (m n : ℕ) → m ≤ n → Arrives cps p w Low s t m → Arrives cps p w Low s t n
arrives_more cps p w Low s t m n le a = record { end = a.end; path = record { count = a.path.count; goes = a.path.goes; moves = let x = a.path.moves in omega (arith, x, le); low = a.path.low }; related = a.related }

module _ (cps : Cps) (p : Frames) (laid : IsLaidOut cps p) (Low : ℕ → ℕ → Type 0) where
  abbrev w : Sketch
  w = laid.sketch

  -- a jump to a block that begins the term at which s stands
  pub jump_arrives : (links : Links) (s : State) (u : FrameState) (scope : Scope) (env : Env) (block : ℕ) (start : Start) (args : List FrameArg) (vs : List Value) → IsFor w block (Begins start) → values_of p.shared env args ≡ Some vs
      → AreCaptured w links scope start.vars vs → Leads scope start.exits → Waits w links u.frames start.catches s.waiting u.live → SameMade cps w links s u → s.control ≡ At start.term scope → Low u.store.heap (length u.live)
      → (a : Arrives cps p w Low s (going (Running [] (Last.Jump block args) env) u) (1 + length args)) × (1 ≤ a.path.count)
  jump_arrives links s u scope env block start args vs e reads captured leads waits made control low =
      let b = block_at cps p laid block (Begins start) e in
      let n : length b.block.params ≡ length vs = let x = b.fits.count in let y = zipped_length _ _ _ captured in omega (arith, x, y) in
      let t = going (Running [] (Last.Jump block args) env) u in
      let end = going (Running b.block.ops.items b.block.last (bound b.block.params vs)) (counted (1 + length args) u) in
      let one : step p t ≡ end = ap (λ o. or_wrong o t (λ vs. jumped p block vs (counted (1 + length args) t))) reads
      ∙ ap (λ o. or_wrong o (counted (1 + length args) t) (λ b. if length b.params == length vs then begun b (bound b.params vs) (counted (1 + length args) t) else wrong (counted (1 + length args) t))) b.is
      ∙ ap (λ x. if x then begun b.block (bound b.block.params vs) (counted (1 + length args) t) else wrong (counted (1 + length args) t)) (eq-eqb (length b.block.params) (length vs) n) in (
        record {
          end = end;
          path = steps p Low t end (1 + length args) one (omega arith) low;
          related = record {
            links = links;
            made = remade cps w links s s u end made refl refl;
            doing = subst (λ c. SameDoing cps w links u.frames u.objects s.waiting u.live c (Running b.block.ops.items b.block.last (bound b.block.params vs))) (sym control)
                (same_term (record { vars = paired start.vars b.block.params; exits = start.exits; catches = start.catches }) start.term scope b.block.ops.items b.block.last (bound b.block.params vs) b.fits.lays
                (bound_hold w links scope start.vars vs b.block.params captured b.fits.count b.fits.distinct) leads waits);
          };
        },
        omega arith,
      )

  -- ---- what is fetched

  pub record Fetched (links : Links) (scope : Scope) (behind : List (ℕ × ℕ)) (ops rest : List FrameOp) (last : FrameEnd) (env : Env) (u : FrameState) (apart most : ℕ) : Type 0 where
    pub env2 : Env
    pub state : FrameState
    pub counts : OnlyCounts u state
    pub path : Path p Low (going (Running (ops ++ rest) last env) u) (going (Running rest last env2) state) most
    pub held : HoldAll w links scope env2 behind
    pub stays : value_at env2 apart ≡ value_at env apart

  pub fetched_none : (links : Links) (scope : Scope) (vars : List (ℕ × ℕ)) (rest : List FrameOp) (last : FrameEnd) (env : Env) (u : FrameState) (apart : ℕ) → HoldAll w links scope env vars → Fetched links scope vars [] rest last env u apart 0
  fetched_none links scope vars rest last env u apart h = record { env2 = env; state = u; counts = record { parts = refl; frames = refl; live = refl }; path = stays p Low (going (Running rest last env) u); held = h; stays = refl }

  fetched_one : (links : Links) (scope : Scope) (behind : List (ℕ × ℕ)) (op : FrameOp) (ops rest : List FrameOp) (last : FrameEnd) (env : Env) (u : FrameState) (apart y n most : ℕ) (v : Value) → step p (going (Running (op ∷ ops ++ rest) last env) u) ≡ going (Running (ops ++ rest) last ((y, v) ∷ env)) (counted n u)
      → (y == apart) ≡ false → Low u.store.heap (length u.live) → Fetched links scope behind ops rest last ((y, v) ∷ env) (counted n u) apart most → Fetched links scope behind (op ∷ ops) rest last env u apart (n + most)
  fetched_one links scope behind op ops rest last env u apart y n most v one e low f = record {
    env2 = f.env2;
    state = f.state;
    counts = record { parts = f.counts.parts; frames = f.counts.frames; live = f.counts.live };
    path = follows p Low _ (going (Running (ops ++ rest) last ((y, v) ∷ env)) (counted n u)) _ n most (steps p Low (going (Running (op ∷ ops ++ rest) last env) u) (going (Running (ops ++ rest) last ((y, v) ∷ env)) (counted n u)) n one (omega arith) low) f.path;
    held = f.held;
    stays = f.stays ∙ other_value y apart v env e;
  }

  -- one variable more is held
  held_more : (links : Links) (scope : Scope) (env : Env) (vars : List (ℕ × ℕ)) (x y : ℕ) (v : Value) → IsCaptured w links scope x v → IsUnused vars y → HoldAll w links scope env vars → HoldAll w links scope ((y, v) ∷ env) ((x, y) ∷ vars)
  held_more links scope env vars x y v c unused h =
      hold_more w links scope ((y, v) ∷ env) vars x y (record { meant = c.meant; value = v; is = c.is; at = ap (λ b. if b then Some v else value_at env y) (eqb_same y); same = c.same }) (hold_set w links scope env vars y v unused h)

  frame_get : (to : Var) (slot : ℕ) (ops : List FrameOp) (last : FrameEnd) (env : Env) (u : FrameState) (birth : ℕ) (older : List ℕ) (f : Frame) (v : Value) → u.live ≡ birth ∷ older → slice_get u.frames birth ≡ Some f → f.catch ≡ false → slice_get f.kept slot ≡ Some v
      → step p (going (Running (Op.FrameGet to slot ∷ ops) last env) u) ≡ going (Running ops last ((to.0, v) ∷ env)) (counted 1 u)
  frame_get to slot ops last env u birth older f v live is push at =
      let t = going (Running (Op.FrameGet to slot ∷ ops) last env) u in
      let got : Frame → FrameState = λ f. or_wrong (value_in f slot) t (λ v. going (Running ops last ((to.0, v) ∷ env)) (counted 1 t)) in
      ap (λ l. or_wrong (youngest l) t (λ birth. or_wrong (slice_get t.frames birth) t (λ f. if f.catch then wrong t else got f))) live
      ∙ ap (λ o. or_wrong o t (λ f. if f.catch then wrong t else got f)) is
      ∙ ap (λ b. if b then wrong t else got f) push
      ∙ ap (λ o. or_wrong (kept_or o (captured_in f.inner slot)) t (λ v. going (Running ops last ((to.0, v) ∷ env)) (counted 1 t))) at

  pub frame_fetches : (links : Links) (scope : Scope) (kept : List ℕ) (apart : ℕ) (before behind : List (ℕ × ℕ)) (ops rest : List FrameOp) (last : FrameEnd) (env : Env) (u : FrameState) (birth : ℕ) (older : List ℕ) (f : Frame) → u.live ≡ birth ∷ older
      → slice_get u.frames birth ≡ Some f → f.catch ≡ false → AreCaptured w links scope kept f.kept → Low u.store.heap (length u.live) → HoldAll w links scope env before → Fetches (λ y slot. Op.FrameGet y slot) apart kept before behind ops
      → Fetched links scope behind ops rest last env u apart (1 * length ops)
  frame_fetches links scope kept apart before behind ops rest last env u birth older f live is push captured low h (fetches_none vars) = subst (λ n. Fetched links scope vars [] rest last env u apart n) (let e : 0 ≡ 1 * 0 = omega arith in e) (fetched_none links scope vars rest last env u apart h)
  frame_fetches links scope kept apart before behind ops rest last env u birth older f live is push captured low h (fetches_one x y slot bs as_ ms e unused other more) =
      let found = zipped_at (IsCaptured w links scope) kept f.kept slot x captured e in
      let fetched = frame_fetches links scope kept apart ((x, y.0) ∷ bs) as_ ms rest last ((y.0, found.y) ∷ env) (counted 1 u) birth older f live is push captured low (held_more links scope env bs x y.0 found.y found.related unused h) more in
      subst (λ n. Fetched links scope as_ (Op.FrameGet y slot ∷ ms) rest last env u apart n) (let e : 1 + 1 * length ms ≡ 1 * suc (length ms) = omega arith in e)
      (fetched_one links scope as_ (Op.FrameGet y slot) ms rest last env u apart y.0 1 (1 * length ms) found.y (frame_get y slot (ms ++ rest) last env u birth older f found.y live is push found.is) other low fetched)

  closure_get : (to self : Var) (slot : ℕ) (ops : List FrameOp) (last : FrameEnd) (env : Env) (u : FrameState) (i : ℕ) (c : FrameClosure) (v : Value) → value_at env self.0 ≡ Some (Lasting (ClosureV i)) → slice_get u.closures i ≡ Some c → slice_get c.captured slot ≡ Some v
      → step p (going (Running (Op.ClosureGet to self slot ∷ ops) last env) u) ≡ going (Running ops last ((to.0, v) ∷ env)) (counted 2 u)
  closure_get to self slot ops last env u i c v at is got =
      let t = going (Running (Op.ClosureGet to self slot ∷ ops) last env) u in
      let go : Value → FrameState = λ w. going (Running ops last ((to.0, w) ∷ env)) (counted 2 t) in
      ap (λ o. or_wrong o t (λ v. captured_by v slot t go)) at
      ∙ ap (λ o. or_wrong o t (λ c. or_wrong (slice_get c.captured slot) t go)) is
      ∙ ap (λ o. or_wrong o t go) got

  pub closure_fetches : (links : Links) (scope : Scope) (kept : List ℕ) (self : Var) (before behind : List (ℕ × ℕ)) (ops rest : List FrameOp) (last : FrameEnd) (env : Env) (u : FrameState) (i : ℕ) (c : FrameClosure) → value_at env self.0 ≡ Some (Lasting (ClosureV i))
      → slice_get u.closures i ≡ Some c → AreCaptured w links scope kept c.captured → Low u.store.heap (length u.live) → HoldAll w links scope env before → Fetches (λ y slot. Op.ClosureGet y self slot) self.0 kept before behind ops
      → Fetched links scope behind ops rest last env u self.0 (2 * length ops)
  closure_fetches links scope kept self before behind ops rest last env u i c at is captured low h (fetches_none vars) = subst (λ n. Fetched links scope vars [] rest last env u self.0 n) (let e : 0 ≡ 2 * 0 = omega arith in e) (fetched_none links scope vars rest last env u self.0 h)
  closure_fetches links scope kept self before behind ops rest last env u i c at is captured low h (fetches_one x y slot bs as_ ms e unused other more) =
      let found = zipped_at (IsCaptured w links scope) kept c.captured slot x captured e in
      let fetched = closure_fetches links scope kept self ((x, y.0) ∷ bs) as_ ms rest last ((y.0, found.y) ∷ env) (counted 2 u) i c (other_value y.0 self.0 found.y env other ∙ at) is captured low (held_more links scope env bs x y.0 found.y found.related unused h) more in
      subst (λ n. Fetched links scope as_ (Op.ClosureGet y self slot ∷ ms) rest last env u self.0 n) (let e : 2 + 2 * length ms ≡ 2 * suc (length ms) = omega arith in e)
      (fetched_one links scope as_ (Op.ClosureGet y self slot) ms rest last env u self.0 y.0 2 (2 * length ms) found.y (closure_get y self slot (ms ++ rest) last env u i c found.y at is found.is) other low fetched)

  object_get : (to self : Var) (slot : ℕ) (ops : List FrameOp) (last : FrameEnd) (env : Env) (u : FrameState) (i : ℕ) (x : FrameObject) (v : Value) → value_at env self.0 ≡ Some (Lasting (ObjectV i)) → slice_get u.objects i ≡ Some x → slice_get x.captured slot ≡ Some v
      → step p (going (Running (Op.ClosureGet to self slot ∷ ops) last env) u) ≡ going (Running ops last ((to.0, v) ∷ env)) (counted 2 u)
  object_get to self slot ops last env u i x v at is got =
      let t = going (Running (Op.ClosureGet to self slot ∷ ops) last env) u in
      let go : Value → FrameState = λ w. going (Running ops last ((to.0, w) ∷ env)) (counted 2 t) in
      ap (λ o. or_wrong o t (λ v. captured_by v slot t go)) at
      ∙ ap (λ o. or_wrong o t (λ c. or_wrong (slice_get c.captured slot) t go)) is
      ∙ ap (λ o. or_wrong o t go) got

  pub object_fetches : (links : Links) (scope : Scope) (kept : List ℕ) (self : Var) (before behind : List (ℕ × ℕ)) (ops rest : List FrameOp) (last : FrameEnd) (env : Env) (u : FrameState) (i : ℕ) (x : FrameObject) → value_at env self.0 ≡ Some (Lasting (ObjectV i))
      → slice_get u.objects i ≡ Some x → AreCaptured w links scope kept x.captured → Low u.store.heap (length u.live) → HoldAll w links scope env before → Fetches (λ y slot. Op.ClosureGet y self slot) self.0 kept before behind ops
      → Fetched links scope behind ops rest last env u self.0 (2 * length ops)
  object_fetches links scope kept self before behind ops rest last env u i c at is captured low h (fetches_none vars) = subst (λ n. Fetched links scope vars [] rest last env u self.0 n) (let e : 0 ≡ 2 * 0 = omega arith in e) (fetched_none links scope vars rest last env u self.0 h)
  object_fetches links scope kept self before behind ops rest last env u i c at is captured low h (fetches_one x y slot bs as_ ms e unused other more) =
      let found = zipped_at (IsCaptured w links scope) kept c.captured slot x captured e in
      let fetched = object_fetches links scope kept self ((x, y.0) ∷ bs) as_ ms rest last ((y.0, found.y) ∷ env) (counted 2 u) i c (other_value y.0 self.0 found.y env other ∙ at) is captured low (held_more links scope env bs x y.0 found.y found.related unused h) more in
      subst (λ n. Fetched links scope as_ (Op.ClosureGet y self slot ∷ ms) rest last env u self.0 n) (let e : 2 + 2 * length ms ≡ 2 * suc (length ms) = omega arith in e)
      (fetched_one links scope as_ (Op.ClosureGet y self slot) ms rest last env u self.0 y.0 2 (2 * length ms) found.y (object_get y self slot (ms ++ rest) last env u i c found.y at is found.is) other low fetched)
