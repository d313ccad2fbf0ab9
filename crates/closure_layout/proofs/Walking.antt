-- Lines of terms, and blocks.
use Rattle.std.proofs.Common.{◌≡◌, ℕ, zero, suc, ◌+◌, ◌<◌, ◌≤◌, ◌==◌, false, ◌||◌, List, [], ◌∷◌, ◌++◌, length, get_or, slice_get, Option, Some, None, refl, sym, ap, subst, ◌∙◌, arith, append_assoc}
use Rattle.std.proofs.lemmas.List.{append-nil, length-map, map-append}
use Rattle.std.proofs.lemmas.Option.{slice_get_read}
use Rattle.t_base.specs.declared.basics.Var.{Var}
use Rattle.cps_ir.specs.declared.terms.Cps.{Cps}
use Rattle.cps_ir.specs.Reaches.{is_in}
use Rattle.frame_ir.specs.declared.forms.FrameOp.{FrameOp}
use Rattle.frame_ir.specs.declared.forms.FrameOp.TheVariants as Op
use Rattle.frame_ir.specs.declared.forms.FrameEnd.{FrameEnd}
use Rattle.frame_ir.specs.declared.forms.Block.{Block}
use Rattle.layout_relation.specs.Contexts.{IsUnused, IsUnneeded, OwnExit, Begins, paired}
use Rattle.layout_relation.specs.Laid.{Lays, lays, AreDistinct, numbers, Fetches, fetches_none, fetches_one, GoesOn, goes_here, AreHeld, IsFor, variables}
use Rattle.cps_ir.specs.declared.terms.Lam.{Lam}
use Rattle.frame_ir.specs.declared.forms.FrameEnd.TheVariants as Last
use Rattle.std.specs.List.{AllByRecursion}
use Rattle.layout_tables.specs.declared.tables.Tables.{Tables}
use Rattle.layout_tables.specs.declared.requests.Work.{Work}
use Rattle.layout_tables.specs.declared.requests.Request.TheVariants as For
use Rattle.layout_tables.specs.declared.lines.Line.{Line}
use Rattle.layout_tables.specs.declared.lines.Step.TheVariants.{Next, Done}
use Rattle.layout_tables.specs.Around.{Around}
use Rattle.layout_tables.specs.Sketches.{Scoped, Ever, Grows, AreBelow, context_at, context_of, sketch_of, counted, needs_behind, term_needs, is_celled, exits_at, lam_needs, purpose_of}
use Rattle.closure_layout.specs.Blocks.{IsStep, IsLaidFrom, IsGoneFrom, IsBlockFor, IsOpened, IsFetched, IsCallable, binds_of}
use Rattle.closure_layout.specs.declared.blocks.OpenScope.{OpenScope}
use Rattle.layout_steps.specs.Steps.{Ends}
use Rattle.layout_tables.proofs.Basics.{not_behind}
use Rattle.layout_relation.proofs.Scopes.{eqb_same}
use Rattle.layout_tables.proofs.Growing.{grows_more, grows_same, later}
use Rattle.layout_steps.proofs.Preparing.{more_differs}
use Rattle.frame_ir.specs.Parts.{arms_of}
use Rattle.layout_tables.specs.Additions.{Adds, Rises, bound_by}
use Rattle.layout_tables.proofs.Adding.{adds_none, adds_more, adds_ops, adds_behind, adds_bound, adds_variable, rises_counted, bound_by_join}

-- ---- what is added

adds_line : (old mid new : Work) (made more : List FrameOp) (arms : List ℕ) → Adds old mid (bound_by made) [] → Adds mid new (bound_by more) arms → Adds old new (bound_by (made ++ more)) arms
adds_line old mid new made more arms g h = subst (λ zs. Adds old new zs arms) (sym (bound_by_join made more)) (adds_more old mid new (bound_by made) (bound_by more) [] arms g h)

pub block_adds : (old mid new : Work) (b : Block) (params : List Var) (made : List FrameOp) → b.params ≡ params → b.ops.items ≡ made → Adds old mid (numbers params) [] → Adds mid new (bound_by made) (arms_of b.last) → Adds old new (binds_of b) (arms_of b.last)
block_adds old mid new b params made takes ops g h =
    subst (λ xs. Adds old new (numbers xs ++ bound_by b.ops.items) (arms_of b.last)) (sym takes) (subst (λ os. Adds old new (numbers params ++ bound_by os) (arms_of b.last)) (sym ops) (adds_more old mid new (numbers params) (bound_by made) [] (arms_of b.last) g h))

pub opened_adds : (old new : Work) (vars : List Var) (opened : OpenScope) → IsOpened old new vars opened → Adds old new (numbers opened.params) []
opened_adds old new vars opened o = adds_bound old new (numbers opened.params) o.requests
    (subst (λ ns. Rises old.next ns new.next) (sym o.params) (rises_counted old.next (length vars) new.next (let n = o.next in omega (arith, n))))

module _ (cps : Cps) (w : Tables) where
  -- a line on its way
  pub record OnItsWay (old work : Work) (before line : Line) (start place : ℕ) : Type 0 where
    pub made : List FrameOp
    pub ops : line.ops.items ≡ before.ops.items ++ made
    pub below : AreBelow work.next line.scope
    pub grows : Grows w old work
    pub adds : Adds old work (bound_by made) []
    pub lays : Ever w work (λ v. (ops : List FrameOp) (last : FrameEnd) → Lays cps v (context_of w line) place ops last → Lays cps v (context_of w before) start (made ++ ops) last)

  pub sets_out : (old : Work) (before : Line) (start : ℕ) → AreBelow old.next before.scope → OnItsWay old old before before start start
  sets_out old before start below = record { made = []; ops = sym (append-nil before.ops.items); below = below; grows = record { requests = λ k x e. e; templates = λ k x e. e; next = omega arith }; adds = adds_none old; lays = λ ps ts f g ops last lay. lay }

  pub goes_on : (old work new : Work) (before line after : Line) (start place next : ℕ) → OnItsWay old work before line start place → IsStep cps w work new line after place (Next next) → OnItsWay old new before after start next
  goes_on old work new before line after start place next o s = record {
    made = o.made ++ s.laid.made;
    ops = s.laid.ops ∙ ap (λ zs. zs ++ s.laid.made) o.ops ∙ append_assoc before.ops.items o.made s.laid.made;
    below = s.laid.leads.below;
    grows = grows_more w old work new o.grows s.laid.leads.grows;
    adds = adds_ops old work new o.made s.laid.made o.adds s.laid.leads.adds;
    lays = λ ps ts f g ops last lay. subst (λ zs. Lays cps (sketch_of w ps ts) (context_of w before) start zs last) (sym (append_assoc o.made s.laid.made ops))
        (later w work new (λ v. (zs : List FrameOp) (end : FrameEnd) → Lays cps v (context_of w line) place zs end → Lays cps v (context_of w before) start (o.made ++ zs) end) s.laid.leads.grows o.lays ps ts f g (s.laid.made ++ ops) last
        (lays (context_of w line) place s.term (s.laid.made ++ ops) last s.is (s.laid.leads.reaches ps ts f g ops last lay)));
  }

  pub arrives_at : (old work new : Work) (before line after : Line) (start place : ℕ) (last : FrameEnd) → OnItsWay old work before line start place → IsStep cps w work new line after place (Done last) → IsLaidFrom cps w old new before after start last
  arrives_at old work new before line after start place last o s = record {
    made = o.made ++ (s.laid.made ++ []);
    ops = s.laid.ops ∙ ap (λ zs. zs ++ s.laid.made) o.ops ∙ append_assoc before.ops.items o.made s.laid.made ∙ ap (λ zs. before.ops.items ++ (o.made ++ zs)) (sym (append-nil s.laid.made));
    grows = grows_more w old work new o.grows s.laid.leads.grows;
    adds = subst (λ zs. Adds old new (bound_by (o.made ++ zs)) (arms_of last)) (sym (append-nil s.laid.made)) (adds_line old work new o.made s.laid.made (arms_of last) o.adds s.laid.leads.adds);
    lays = λ ps ts f g. later w work new (λ v. (zs : List FrameOp) (end : FrameEnd) → Lays cps v (context_of w line) place zs end → Lays cps v (context_of w before) start (o.made ++ zs) end) s.laid.leads.grows o.lays ps ts f g (s.laid.made ++ []) last
        (lays (context_of w line) place s.term (s.laid.made ++ []) last s.is (s.laid.leads.reaches ps ts f g));
  }

  pub gone_here : (old new : Work) (before after : Line) (t : ℕ) (last : FrameEnd) → IsLaidFrom cps w old new before after t last → IsGoneFrom cps w old new before after t last
  gone_here old new before after t last l = record { made = l.made; ops = l.ops; grows = l.grows; adds = l.adds; goes = λ ps ts f g. goes_here (context_of w before) t l.made last (l.lays ps ts f g) }

  pub gone_to : (k : Work) (line : Line) (t : ℕ) (last : FrameEnd) → Ends w k k last (λ v. GoesOn cps v (context_of w line) t [] last) → IsGoneFrom cps w k k line line t last
  gone_to k line t last e = record { made = []; ops = sym (append-nil line.ops.items); grows = e.grows; adds = e.adds; goes = e.ever }

  pub arm_fits : (old new : Work) (before after : Line) (vars : Scoped) (a : Around) (t : ℕ) (b : Block) → before.ops.items ≡ [] → before.scope ≡ vars → before.site ≡ a → b.params ≡ [] → b.ops ≡ after.ops → IsLaidFrom cps w old new before after t b.last
      → IsBlockFor cps w old new (For.ArmOf vars a t) b
  arm_fits old new before after vars a t b none scope site params ops l = record {
    grows = l.grows;
    adds = block_adds old old new b [] l.made params (ap (λ (o : _). o.items) ops ∙ l.ops ∙ ap (λ zs. zs ++ l.made) none) (adds_none old) l.adds;
    fits = λ ps ts f g. record {
      takes = params;
      lays = subst (λ zs. Lays cps (sketch_of w ps ts) (context_at w vars a) t zs b.last) (sym (ap (λ (o : _). o.items) ops ∙ l.ops ∙ ap (λ zs. zs ++ l.made) none))
          (subst (λ s. Lays cps (sketch_of w ps ts) (context_at w vars s) t l.made b.last) site (subst (λ s. Lays cps (sketch_of w ps ts) (context_at w s before.site) t l.made b.last) scope (l.lays ps ts f g)));
    };
  }

-- ---- new variables

next_is : (a b n : ℕ) → a ≡ n + 1 → b ≡ n → a ≡ suc b
next_is a b n e f = omega (arith, e, f)

pub item_there : {X : Type 0} (items xs : List X) (i : ℕ) (x : X) → xs ≡ items → i < length xs → x ≡ get_or xs i x → slice_get items i ≡ Some x
item_there items xs i x same lt e = subst (λ zs. slice_get zs i ≡ Some x) same (slice_get_read xs (length xs) i x refl lt e)

lacks_counted : (n m k : ℕ) → n < m → is_in (counted m k) n ≡ false
lacks_counted n m zero lt = refl
lacks_counted n m (suc k) lt = ap (λ b. b || is_in (counted (suc m) k) n) (more_differs n m lt) ∙ lacks_counted n (suc m) k (omega (arith, lt))

pub counted_distinct : (n k : ℕ) → AreDistinct (counted n k)
counted_distinct n zero = tt
counted_distinct n (suc k) = (lacks_counted n (suc n) k (omega arith), counted_distinct (suc n) k)

pub counted_length : (n k : ℕ) → length (counted n k) ≡ k
counted_length n zero = refl
counted_length n (suc k) = ap suc (counted_length (suc n) k)

pub new_distinct : (n k : ℕ) (xs : List Var) → numbers xs ≡ counted n k → AreDistinct (numbers xs)
new_distinct n k xs e = subst AreDistinct (sym e) (counted_distinct n k)

pub new_length : (n k : ℕ) (xs : List Var) → numbers xs ≡ counted n k → length xs ≡ k
new_length n k xs e = sym (length-map xs (λ x. x.0)) ∙ ap length e ∙ counted_length n k

-- what pairs hold is below what is next
pub pairs_below : (xs : List ℕ) (ys : List Var) (n k m : ℕ) → numbers ys ≡ counted n k → n + k ≤ m → AreBelow m (paired xs ys)
pairs_below [] ys n k m e le = tt
pairs_below (x ∷ xs) [] n k m e le = tt
pairs_below (x ∷ xs) (y ∷ ys) n zero m e le = cc
pairs_below (x ∷ xs) (y ∷ ys) n (suc k) m e le = ((let h = head_same y.0 n (numbers ys) (counted (suc n) k) e in omega (arith, h, le)), pairs_below xs ys (suc n) k m (tail_same y.0 n (numbers ys) (counted (suc n) k) e) (omega (arith, le)))
  where
    head_same : (a b : ℕ) (as_ bs : List ℕ) → a ∷ as_ ≡ b ∷ bs → a ≡ b
    head_same a b as_ bs h = cc

    tail_same : (a b : ℕ) (as_ bs : List ℕ) → a ∷ as_ ≡ b ∷ bs → as_ ≡ bs
    tail_same a b as_ bs h = cc

head_below : (n k m : ℕ) (x : Var) (xs : List Var) → numbers (x ∷ xs) ≡ counted n k → n + k ≤ m → x.0 < m
head_below n zero m x xs e le = cc
head_below n (suc k) m x xs e le = let h = same_head x.0 n (numbers xs) (counted (suc n) k) e in omega (arith, h, le)
  where
    same_head : (a b : ℕ) (as_ bs : List ℕ) → a ∷ as_ ≡ b ∷ bs → a ≡ b
    same_head a b as_ bs h = cc

-- ---- fetching

pub fetches_more : (get : Var → ℕ → FrameOp) (apart : ℕ) (kept : List ℕ) (before mid : Scoped) (ops : List FrameOp) (x slot : ℕ) (y : Var) → Fetches get apart kept before mid ops → slice_get kept slot ≡ Some x → IsUnused mid y.0 → (y.0 == apart) ≡ false
    → Fetches get apart kept before ((x, y.0) ∷ mid) (ops ++ get y slot ∷ [])
fetches_more get apart kept before mid ops x slot y (fetches_none vars) e u d = fetches_one x y slot vars ((x, y.0) ∷ vars) [] e u d (fetches_none ((x, y.0) ∷ vars))
fetches_more get apart kept before mid ops x slot y (fetches_one x2 y2 slot2 bs as_ ms e2 u2 d2 rest) e u d = fetches_one x2 y2 slot2 bs ((x, y.0) ∷ as_) (ms ++ get y slot ∷ []) e2 u2 d2 (fetches_more get apart kept ((x2, y2.0) ∷ bs) as_ ms x slot y rest e u d)

pub opened_length : (old new : Work) (vars : List Var) (opened : OpenScope) → IsOpened old new vars opened → length vars ≡ length opened.params
opened_length old new vars opened o = sym (new_length old.next (length vars) opened.params o.params)

pub opened_below : (old new : Work) (vars : List Var) (opened : OpenScope) → IsOpened old new vars opened → AreBelow new.next opened.scope
opened_below old new vars opened o = subst (AreBelow new.next) (sym o.scope) (pairs_below (numbers vars) opened.params old.next (length vars) new.next o.params (let n = o.next in omega (arith, n)))

pub opened_made : (old new : Work) (vars params items : List Var) (scope none : Scoped) (slice : List Var) (n : ℕ) → scope ≡ paired (numbers vars) slice ++ none → none ≡ [] → slice ≡ items → params ≡ items → numbers items ≡ counted old.next n → n ≡ length vars → new.next ≡ old.next + n
    → new.requests ≡ old.requests → new.templates ≡ old.templates → IsOpened old new vars (record { params = params; scope = scope })
opened_made old new vars params items scope none slice n s e f g h k next rs ts = record {
  scope = s ∙ ap (λ zs. paired (numbers vars) slice ++ zs) e ∙ append-nil (paired (numbers vars) slice) ∙ ap (paired (numbers vars)) (f ∙ sym g);
  params = ap numbers g ∙ h ∙ ap (counted old.next) k;
  next = next ∙ ap (λ m. old.next + m) k;
  requests = rs;
  templates = ts;
}

module _ (cps : Cps) (w : Tables) where
  pub begin_fits : (old mid new : Work) (before after : Line) (vars : List Var) (opened : OpenScope) (a : Around) (t : ℕ) (b : Block) → IsOpened old mid vars opened → before.ops.items ≡ [] → before.scope ≡ opened.scope → before.site ≡ a → b.params ≡ opened.params → b.ops ≡ after.ops → IsLaidFrom cps w mid new before after t b.last → IsBlockFor cps w old new (For.Begins vars a t) b
  begin_fits old mid new before after vars opened a t b o none scope site takes ops l = let params = opened.params in record {
    grows = grows_more w old mid new (grows_same w old mid o.requests o.templates (let n = o.next in omega (arith, n))) l.grows;
    adds = block_adds old mid new b params l.made takes (ap (λ (o : _). o.items) ops ∙ l.ops ∙ ap (λ zs. zs ++ l.made) none) (opened_adds old mid vars opened o) l.adds;
    fits = λ ps ts f g. record {
      count = length-map vars (λ x. x.0) ∙ opened_length old mid vars opened o ∙ ap length (sym takes);
      distinct = subst (λ xs. AreDistinct (numbers xs)) (sym takes) (new_distinct old.next (length vars) params o.params);
      lays = subst (λ xs. Lays cps (sketch_of w ps ts) (context_at w (paired (numbers vars) xs) a) t b.ops.items b.last) (sym takes)
          (subst (λ zs. Lays cps (sketch_of w ps ts) (context_at w (paired (numbers vars) params) a) t zs b.last) (sym (ap (λ (o : _). o.items) ops ∙ l.ops ∙ ap (λ zs. zs ++ l.made) none))
          (subst (λ s. Lays cps (sketch_of w ps ts) (context_at w (paired (numbers vars) params) s) t l.made b.last) site
          (subst (λ s. Lays cps (sketch_of w ps ts) (context_at w s before.site) t l.made b.last) (scope ∙ o.scope) (l.lays ps ts f g))));
    };
  }

  pub return_fits : (old one two three new : Work) (before after : Line) (param value : Var) (body : ℕ) (a : Around) (join : Option ℕ) (needs : List Var) (held : Scoped) (gets : List FrameOp) (b : Block) → numbers needs ≡ needs_behind w param body → is_celled w param.0 ≡ false → IsUnneeded (exits_at w a) param.0
      → length needs ≤ cps.shared.size + 2 → value.0 ≡ old.next → one.next ≡ old.next + 1 → one.requests ≡ old.requests → one.templates ≡ old.templates → IsFetched one two ((param.0, value.0) ∷ []) held [] gets needs None
      → before.ops.items ≡ gets ++ Op.Pop ∷ [] → before.scope ≡ held → before.site ≡ a → b.params ≡ value ∷ [] → b.ops ≡ after.ops → IsGoneFrom cps w two new before after body b.last → IsBlockFor cps w old new (For.Resumes param body a join) b
  return_fits old one two three new before after param value body a join needs held gets b same plain unneeded few is next rs ts f popped scope site takes ops l = record {
    grows = grows_more w old two new (grows_same w old two (f.requests ∙ rs) (f.templates ∙ ts) (let n = f.next in omega (arith, n, next))) l.grows;
    adds = block_adds old one new b (value ∷ []) (f.made ++ Op.Pop ∷ l.made) takes
        (ap (λ (o : _). o.items) ops ∙ l.ops ∙ ap (λ zs. zs ++ l.made) popped ∙ append_assoc gets (Op.Pop ∷ []) l.made ∙ ap (λ zs. zs ++ Op.Pop ∷ l.made) f.ops)
        (adds_variable old one value.0 rs is next) (adds_line one two new f.made (Op.Pop ∷ l.made) (arms_of b.last) f.adds l.adds);
    fits = λ ps ts2 x y. record {
      value = value;
      vars = held;
      gets = gets;
      rest = l.made;
      takes = takes;
      ops = ap (λ (o : _). o.items) ops ∙ l.ops ∙ ap (λ zs. zs ++ l.made) popped ∙ append_assoc gets (Op.Pop ∷ []) l.made;
      new = record { plain = plain; apart = not_behind (term_needs w body) param.0 param.0 (eqb_same param.0); unneeded = unneeded };
      small = let e = sym (length-map needs (λ x. x.0)) ∙ ap length same in omega (arith, e, few);
      fetches = subst (λ zs. Fetches (λ y slot. Op.FrameGet y slot) value.0 (needs_behind w param body) ((param.0, value.0) ∷ []) held zs) (sym (f.ops)) (subst (λ ns. Fetches (λ y slot. Op.FrameGet y slot) value.0 ns ((param.0, value.0) ∷ []) held f.made) same (f.fetches value.0 (omega (arith, is, next))));
      few = let e = ap length f.ops in let k = f.count in omega (arith, e, k, few);
      goes = subst (λ s. GoesOn cps (sketch_of w ps ts2) (context_at w held s) body l.made b.last) site (subst (λ s. GoesOn cps (sketch_of w ps ts2) (context_at w s before.site) body l.made b.last) scope (l.goes ps ts2 x y));
    };
  }

  pub code_fits : (old one two three new : Work) (l : ℕ) (lam : Lam) (own : Var) (opened : OpenScope) (held : Scoped) (needs ats vars : List Var) (block : ℕ) (b : Block) → slice_get cps.lams.items l ≡ Some lam → numbers needs ≡ lam_needs w l → IsCallable cps w lam.params needs
      → own.0 ≡ old.next → one.next ≡ old.next + 1 → one.requests ≡ old.requests → one.templates ≡ old.templates → IsOpened one two lam.params opened → IsFetched two three opened.scope held [] b.ops.items needs (Some own) → vars ≡ lam.params ++ needs
      → AreHeld held (numbers vars) ats → Grows w three new → Adds three new [] [] → Ever w new (λ v. IsFor v block (purpose_of w (For.Begins vars (record { joins = []; own = Some lam.k; catches = [] }) lam.body))) → b.last ≡ Last.Jump block (variables ats) → b.params ≡ own ∷ opened.params
      → IsBlockFor cps w old new (For.CodeOf l) b
  code_fits old one two three new l lam own opened held needs ats vars block b is same callable first next rs ts o f joined found more asks begins last params = record {
    grows = grows_more w old three new (grows_same w old three (f.requests ∙ o.requests ∙ rs) (f.templates ∙ o.templates ∙ ts) (let n = o.next in let m = f.next in omega (arith, n, m, next))) more;
    adds = block_adds old two new b (own ∷ opened.params) f.made params f.ops (adds_more old one two (own.0 ∷ []) (numbers opened.params) [] [] (adds_variable old one own.0 rs first next) (opened_adds one two lam.params opened o))
        (adds_behind two three new (bound_by f.made) [] (arms_of b.last) f.adds (subst (Adds three new []) (sym (ap arms_of last)) asks));
    fits = λ ps ts2 x y.
        let whole : numbers vars ≡ numbers lam.params ++ lam_needs w l = ap numbers joined ∙ map-append (λ z. z.0) lam.params needs ∙ ap (λ ns. numbers lam.params ++ ns) same in
        record {
          lam = lam;
          is = is;
          self = own;
          params = opened.params;
          vars = held;
          ys = ats;
          body = block;
          takes = params;
          distinct = subst AreDistinct (sym (ap (λ n. own.0 ∷ n) (o.params ∙ ap (λ n. counted n (length lam.params)) (next_is one.next own.0 old.next next first)))) (counted_distinct own.0 (suc (length lam.params)));
          count = sym (opened_length one two lam.params opened o);
          few = callable.count;
          fetches = subst (λ zs. Fetches (λ z slot. Op.ClosureGet z own slot) own.0 (lam_needs w l) (paired (numbers lam.params) opened.params) held zs) (sym f.ops)
              (subst (λ hs. Fetches (λ z slot. Op.ClosureGet z own slot) own.0 (lam_needs w l) hs held f.made) o.scope (subst (λ ns. Fetches (λ z slot. Op.ClosureGet z own slot) own.0 ns opened.scope held f.made) same (f.fetches own.0 (let n = o.next in omega (arith, n, next, first)))));
          short = let e = ap length f.ops in let k = f.count in let m = callable.few in omega (arith, e, k, m);
          goes = last;
          begins = subst (λ ns. IsFor (sketch_of w ps ts2) block (Begins (record { vars = ns; exits = OwnExit lam.k.0; catches = []; term = lam.body }))) whole (begins ps ts2 x y);
          held = subst (λ ns. AreHeld held ns ats) whole found;
          once = callable.distinct;
          apart = subst (λ ns. AllByRecursion (λ z. (is_in ns z ≡ false) × (is_celled w z ≡ false)) (numbers lam.params)) same callable.apart;
        };
  }

  pub method_fits : (old two three new : Work) (l : ℕ) (lam : Lam) (own : Var) (params : List Var) (opened : OpenScope) (held : Scoped) (kept needs ats vars : List Var) (block : ℕ) (b : Block) → slice_get cps.lams.items l ≡ Some lam → numbers needs ≡ lam_needs w l → IsCallable cps w lam.params kept
      → IsOpened old two lam.params opened → opened.params ≡ own ∷ params → IsFetched two three opened.scope held [] b.ops.items kept (Some own) → vars ≡ lam.params ++ needs
      → AreHeld held (numbers vars) ats → Grows w three new → Adds three new [] [] → Ever w new (λ v. IsFor v block (purpose_of w (For.Begins vars (record { joins = []; own = Some lam.k; catches = [] }) lam.body))) → b.last ≡ Last.Jump block (variables ats) → b.params ≡ opened.params
      → IsBlockFor cps w old new (For.MethodOf l kept) b
  method_fits old two three new l lam own params opened held kept needs ats vars block b is same callable o split f joined found more asks begins last takes = record {
    grows = grows_more w old three new (grows_same w old three (f.requests ∙ o.requests) (f.templates ∙ o.templates) (let n = o.next in let m = f.next in omega (arith, n, m))) more;
    adds = block_adds old two new b opened.params f.made takes f.ops (opened_adds old two lam.params opened o)
        (adds_behind two three new (bound_by f.made) [] (arms_of b.last) f.adds (subst (Adds three new []) (sym (ap arms_of last)) asks));
    fits = λ ps ts2 x y.
        let whole : numbers vars ≡ numbers lam.params ++ lam_needs w l = ap numbers joined ∙ map-append (λ z. z.0) lam.params needs ∙ ap (λ ns. numbers lam.params ++ ns) same in
        let below : own.0 < two.next = (head_below old.next (length lam.params) two.next own params (ap numbers (sym split) ∙ o.params) (let n = o.next in omega (arith, n))) in
        record {
          lam = lam;
          is = is;
          self = own;
          params = params;
          vars = held;
          ys = ats;
          body = block;
          takes = takes ∙ split;
          distinct = subst (λ xs. AreDistinct (numbers xs)) split (new_distinct old.next (length lam.params) opened.params o.params);
          count = ap length (sym split) ∙ sym (opened_length old two lam.params opened o);
          few = callable.count;
          fetches = subst (λ zs. Fetches (λ z slot. Op.ClosureGet z own slot) own.0 (numbers kept) (paired (numbers lam.params) (own ∷ params)) held zs) (sym f.ops)
              (subst (λ xs. Fetches (λ z slot. Op.ClosureGet z own slot) own.0 (numbers kept) (paired (numbers lam.params) xs) held f.made) split
              (subst (λ hs. Fetches (λ z slot. Op.ClosureGet z own slot) own.0 (numbers kept) hs held f.made) o.scope (f.fetches own.0 below)));
          short = let e = ap length f.ops in let k = f.count in let m = callable.few in omega (arith, e, k, m);
          goes = last;
          begins = subst (λ ns. IsFor (sketch_of w ps ts2) block (Begins (record { vars = ns; exits = OwnExit lam.k.0; catches = []; term = lam.body }))) whole (begins ps ts2 x y);
          held = subst (λ ns. AreHeld held ns ats) whole found;
          once = callable.distinct;
          apart = callable.apart;
        };
  }
