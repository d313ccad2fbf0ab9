-- The closures at the head of a term's operations are made in one step.
use Rattle.std.proofs.Common.{◌≡◌, ℕ, suc, ◌+◌, ◌*◌, ◌≤◌, List, [], ◌∷◌, ◌++◌, length, Some, refl, sym, ap, subst, ◌∙◌, arith, mul-le-mul_right}
use Rattle.std.specs.Prelude.{sum_by}
use Rattle.std.proofs.lemmas.Bool.{true≢false}
use Rattle.t_base.specs.declared.basics.Var.{Var}
use Rattle.t_prim.specs.Values.{Val}
use Rattle.cps_ir.specs.declared.args.Arg.{Arg}
use Rattle.cps_ir.specs.declared.terms.Cps.{Cps}
use Rattle.cps_ir.specs.States.{Scope, marked, all_escape, State}
use Rattle.cps_ir.specs.Giving.{lam_words, with_args}
use Rattle.cps_ir.specs.Running.{closures_of}
use Rattle.frame_ir.specs.declared.forms.Place.TheVariants as At
use Rattle.frame_ir.specs.declared.forms.FrameOp.{FrameOp}
use Rattle.frame_ir.specs.declared.forms.FrameOp.TheVariants as Op
use Rattle.frame_ir.specs.declared.forms.FrameEnd.{FrameEnd}
use Rattle.frame_ir.specs.declared.forms.Frames.{Frames}
use Rattle.frame_ir.specs.Values.{Frame, Closure as FrameClosure, Env}
use Rattle.frame_ir.specs.States.{Running, State as FrameState, going}
use Rattle.frame_ir.specs.Arguments.{lasting_values}
use Rattle.frame_ir.specs.Groups.{Making as Planned, makings, behind, youngest_birth, addressed, made}
use Rattle.frame_ir.specs.Running.{step}
use Rattle.layout_relation.specs.Links.{Zipped, zip_none, Links, Extends, SameVal}
use Rattle.layout_relation.specs.Laid.{Sketch, StartsApart, Prepares}
use Rattle.layout_relation.specs.Related.{HoldAll, SameClosure, parts_of, parts_at, SameParts, SameMade}
use Rattle.layout_relation.proofs.Lists.{get_front, zipped_more, in_left}
use Rattle.layout_relation.proofs.Growing.{hold_grows, closure_grows}
use Rattle.layout_relation.proofs.Paths.{Path, stays, steps}
use Rattle.layout_relation.proofs.Made.{ties, tied, tied_extends, tie_at, Builds, words_in, made_more, Makes, makes_none, makes_one}
use Rattle.layout_relation.proofs.Making.{built, built_is, making}
use Rattle.layout_relation.proofs.Arguments.{arguments}

-- ---- a group

pub no_makings : (ops : List FrameOp) → StartsApart ops → makings ops ≡ []
no_makings [] h = refl
no_makings (Op.Closure to code kept at ∷ ops) h = absurd (true≢false h)
no_makings (_ ∷ ops) h = refl

pub none_behind : (ops : List FrameOp) → StartsApart ops → behind ops ≡ ops
none_behind [] h = refl
none_behind (Op.Closure to code kept at ∷ ops) h = absurd (true≢false h)
none_behind (_ ∷ ops) h = refl

makings_join : (cps : Cps) (w : Sketch) (vars : List (ℕ × ℕ)) (lams : List ℕ) (ms ops : List FrameOp) (tos : List Var) → Makes cps w vars lams ms tos → StartsApart ops → makings (ms ++ ops) ≡ makings ms
makings_join cps w vars lams ms ops tos makes_none apart = no_makings ops apart
makings_join cps w vars lams ms ops tos (makes_one l to code kept ls ns ts h rest) apart = ap (λ xs. record { to = to; code = code; kept = kept; at = At.Heap } ∷ xs) (makings_join cps w vars ls ns ops ts rest apart)

behind_join : (cps : Cps) (w : Sketch) (vars : List (ℕ × ℕ)) (lams : List ℕ) (ms ops : List FrameOp) (tos : List Var) → Makes cps w vars lams ms tos → StartsApart ops → behind (ms ++ ops) ≡ ops
behind_join cps w vars lams ms ops tos makes_none apart = none_behind ops apart
behind_join cps w vars lams ms ops tos (makes_one l to code kept ls ns ts h rest) apart = behind_join cps w vars ls ns ops ts rest apart

-- ---- what was made, seen of other states

pub remade : (cps : Cps) (w : Sketch) (links : Links) (s s2 : State) (t t2 : FrameState) → SameMade cps w links s t → parts_of s2 ≡ parts_of s → parts_at t2 ≡ parts_at t → SameMade cps w links s2 t2
remade cps w links s s2 t t2 h a b = subst (λ x. SameParts cps w links x (parts_at t2)) (sym a) (subst (λ y. SameParts cps w links (parts_of s) y) (sym b) h)

-- one frame more
pub framed_made : (cps : Cps) (w : Sketch) (links : Links) (s : State) (t : FrameState) (f : Frame) → SameMade cps w links s t → SameParts cps w links (parts_of s) (record (parts_at t) { frames = t.frames ++ f ∷ [] })
framed_made cps w links s t f h = record {
  one = h.one;
  store = h.store;
  closures = h.closures;
  globals = h.globals;
  count = h.count;
  procedures = h.procedures;
  cells = h.cells;
  objects = h.objects;
  located = h.located;
  objected = h.objected;
  escapes = λ i j k. let at = h.escapes i j k in record { made = at.made; frame = at.frame; is = get_front t.frames (f ∷ []) j at.frame at.is; opened = at.opened };
}

module _ (cps : Cps) (p : Frames) (w : Sketch) (small : (l : ℕ) → length (w.needs l) ≤ cps.shared.size) (Low : ℕ → ℕ → Type 0) where
  -- so many words of heap more are low
  abbrev pub Lowered : FrameState → ℕ → Type 0
  Lowered t words = (h : ℕ) → h ≤ t.store.heap + words → Low h (length t.live)

  -- behind a group: the records that it made
  pub record Grouped (links : Links) (scope : Scope) (lams : List ℕ) (ms ops : List FrameOp) (last : FrameEnd) (env : Env) (t : FrameState) : Type 0 where
    pub records : List FrameClosure
    pub same : Zipped (SameClosure w links) (closures_of lams scope) records
    pub words : words_in records ≤ sum_by (lam_words (marked cps all_escape)) lams
    pub state : FrameState
    pub builds : Builds t state records
    pub path : Lowered t (sum_by (lam_words (marked cps all_escape)) lams) → Path p Low (going (Running (ms ++ ops) last env) t) (going (Running ops last (addressed (makings ms) env t)) state) (length lams * (1 + cps.shared.size))

  low_built : (t u : FrameState) (records : List FrameClosure) (words : ℕ) → Builds t u records → words_in records ≤ words → Lowered t words → Low u.store.heap (length u.live)
  low_built t u records words b few low =
      subst (λ n. Low u.store.heap n) (sym (ap length b.live)) (low u.store.heap (let e = ap (λ x. x.store.heap) b.parts in omega (arith, e, few)))

  pub group : (links : Links) (scope : Scope) (vars : List (ℕ × ℕ)) (lams : List ℕ) (ms ops : List FrameOp) (tos : List Var) (last : FrameEnd) (env : Env) (t : FrameState) → Makes cps w vars lams ms tos → StartsApart ops
      → HoldAll w links scope (addressed (makings ms) env t) vars → Grouped links scope lams ms ops last env t
  group links scope vars lams ms ops tos last env t makes_none apart h = record {
    records = [];
    same = zip_none;
    words = omega arith;
    state = t;
    builds = let b = built_is [] t in record { parts = b.parts; frames = b.frames; live = b.live; moves = b.moves };
    path = λ low. subst (λ n. Path p Low (going (Running ops last env) t) (going (Running ops last env) t) n) (let e : 0 ≡ 0 * (1 + cps.shared.size) = omega arith in e) (stays p Low (going (Running ops last env) t));
  }
  group links scope vars lams ms ops tos last env t (makes_one l to code kept ls ns ts i rest) apart h =
      let made_ops = Op.Closure to code kept At.Heap ∷ ns in
      let all = makes_one l to code kept ls ns ts i rest in
      let m = making cps w small links scope (addressed (makings made_ops) env t) vars (l ∷ ls) made_ops (to ∷ ts) h all in
      let u = going (Running (made_ops ++ ops) last env) t in
      let k : List Planned → List FrameOp → FrameState = λ xs bs. made xs (addressed xs env u) u (λ v. going (Running bs last (addressed xs env u)) v) in
      let b0 = built_is m.records u in
      let b : Builds t (built m.records u) m.records = record { parts = b0.parts; frames = b0.frames; live = b0.live; moves = b0.moves } in
      let end = going (Running ops last (addressed (makings made_ops) env t)) (built m.records u) in
      let one : step p u ≡ end = ap (λ xs. k xs (behind (made_ops ++ ops))) (makings_join cps w vars (l ∷ ls) made_ops ops (to ∷ ts) all apart) ∙ ap (λ bs. k (makings made_ops) bs) (behind_join cps w vars (l ∷ ls) made_ops ops (to ∷ ts) all apart)
      ∙ m.makes u (λ v. going (Running ops last (addressed (makings made_ops) env t)) v) in
      record {
        records = m.records;
        same = m.same;
        words = m.words;
        state = built m.records u;
        builds = b;
        path = λ low. steps p Low u end (suc (length ls) * (1 + cps.shared.size)) one (let x = b.moves in let y = m.moves in omega (arith, x, y)) (low_built t (built m.records u) m.records (sum_by (lam_words (marked cps all_escape)) (l ∷ ls)) b m.words low);
      }

  -- ---- arguments, with the closures made for them

  pub record Prepared (links : Links) (scope : Scope) (vars : List (ℕ × ℕ)) (s : State) (t : FrameState) (args : List Arg) (ms ops : List FrameOp) (bs : List Arg) (last : FrameEnd) (env : Env) : Type 0 where
    pub links2 : Links
    pub extends : Extends links links2
    pub left : State
    pub lefts : List Val
    pub gives : (rest : State → List Val → State) → with_args (marked cps all_escape) scope args s rest ≡ rest left lefts
    pub waiting : left.waiting ≡ s.waiting
    pub moves : left.moves ≡ s.moves
    pub heap : s.store.heap ≤ left.store.heap
    pub env2 : Env
    pub right : FrameState
    pub live : right.live ≡ t.live
    pub frames : right.frames ≡ t.frames
    pub rights : List Val
    pub reads : lasting_values cps.shared env2 bs ≡ Some rights
    pub same : Zipped (SameVal links2) lefts rights
    pub made : SameMade cps w links2 left right
    pub held : HoldAll w links2 scope env2 vars
    pub path : (low : (h : ℕ) → h ≤ left.store.heap → Low h (length t.live)) → Path p Low (going (Running (ms ++ ops) last env) t) (going (Running ops last env2) right) (length args * (1 + cps.shared.size))

  same_count : (links : Links) (scope : Scope) (lams : List ℕ) → length (closures_of lams scope) ≡ length lams
  same_count links scope [] = refl
  same_count links scope (l ∷ lams) = ap suc (same_count links scope lams)

  pub prepared : (links : Links) (scope : Scope) (vars : List (ℕ × ℕ)) (s : State) (t : FrameState) (args : List Arg) (ms ops : List FrameOp) (bs : List Arg) (last : FrameEnd) (env : Env) → SameMade cps w links s t → HoldAll w links scope env vars
      → Prepares cps w vars args ms bs → StartsApart ops → Prepared links scope vars s t args ms ops bs last env
  prepared links scope vars s t args ms ops bs last env made held d apart =
      let a = arguments cps w small links scope vars s (length t.closures) (youngest_birth t) env args ms bs made.procedures held d in
      let g = group links scope vars a.lams ms ops a.tos last env t a.makes apart a.held in
      let cs = closures_of a.lams scope in
      let new = tied links (length s.closures) (length t.closures) cs in
      let more = tied_extends links (length s.closures) (length t.closures) cs in
      let words = sum_by (lam_words (marked cps all_escape)) a.lams in
      let same = zipped_more (SameClosure w links) (SameClosure w new) (closure_grows links new more w) cs g.records g.same in
      let all = made_more cps w links s a.state t g.state cs g.records words made a.closes g.builds g.words same in
      let heap : a.state.store.heap ≡ s.store.heap + words = ap (λ x. x.store.heap) a.closes.parts in
      record {
        links2 = new;
        extends = more;
        left = a.state;
        lefts = a.lefts;
        gives = a.gives;
        waiting = a.closes.waiting;
        moves = a.closes.moves;
        heap = omega (arith, heap);
        env2 = addressed (makings ms) env t;
        right = g.state;
        live = g.builds.live;
        frames = g.builds.frames;
        rights = a.rights;
        reads = a.reads;
        same = a.same new more (λ k lt. in_left _ (ties (length s.closures) (length t.closures) cs) links.closures (tie_at cs (length s.closures) (length t.closures) k (let e = same_count links scope a.lams in omega (arith, e, lt))));
        made = all;
        held = hold_grows links new more w scope (addressed (makings ms) env t) vars a.held;
        path = λ low. more_moves (length a.lams) (length args) (1 + cps.shared.size) _ _ a.few (g.path (λ h le. low h (let x = made.store.heap in omega (arith, le, heap, x))));
      }
    where
      more_moves : (m n k : ℕ) (x y : FrameState) → m ≤ n → Path p Low x y (m * k) → Path p Low x y (n * k)
      more_moves m n k x y le path = record { count = path.count; goes = path.goes; moves = let a = path.moves in let b : m * k ≤ n * k = mul-le-mul_right k le in omega (arith, a, b); low = path.low }
