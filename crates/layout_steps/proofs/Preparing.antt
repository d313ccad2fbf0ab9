-- Arguments one after another.
use Rattle.std.proofs.Common.{◌≡◌, ℕ, zero, suc, ◌+◌, ◌<◌, ◌≤◌, ◌==◌, nat_lt, Bool, true, false, ◌||◌, List, [], ◌∷◌, ◌++◌, length, take, drop, get_or, slice_get, Some, None, if◌then◌else◌, refl, sym, ap, subst, ◌∙◌, arith, append_assoc}
use Rattle.std.specs.List.{AllByRecursion}
use Rattle.std.proofs.lemmas.Bool.{true≢false, eqb-true, ltb-true}
use Rattle.std.proofs.lemmas.List.{append-nil}
use Rattle.t_base.specs.declared.basics.Var.{Var}
use Rattle.t_base.specs.declared.shared_parts.Global1.{Global1}
use Rattle.std.proofs.lemmas.Option.{slice_get_read}
use Rattle.t_base.specs.declared.shared_parts.GlobalKind.{GlobalKind}
use Rattle.t_base.specs.declared.shared_parts.GlobalKind.TheVariants as Kind
use Rattle.t_base.specs.declared.shared_parts.Shared.{Shared}
use Rattle.cps_ir.specs.declared.args.Arg.{Arg}
use Rattle.cps_ir.specs.declared.args.Arg.TheVariants as Argument
use Rattle.cps_ir.specs.declared.terms.Cps.{Cps}
use Rattle.cps_ir.specs.Parts.{first_lams}
use Rattle.cps_ir.specs.Reaches.{is_in}
use Rattle.cps_ir.proofs.ProperLists.{each_append, each_more}
use Rattle.frame_ir.specs.declared.forms.Place.TheVariants as At
use Rattle.frame_ir.specs.declared.forms.FrameOp.{FrameOp}
use Rattle.frame_ir.specs.declared.forms.FrameOp.TheVariants as Op
use Rattle.frame_ir.specs.Arguments.{number_among, is_proc}
use Rattle.layout_relation.specs.Contexts.{IsUnused}
use Rattle.layout_relation.specs.Laid.{Sketch, awaits_lam, awaits_join, Prepares, prepares_none, prepares_same, prepares_closure, made_by}
use Rattle.layout_tables.specs.declared.tables.Tables.{Tables}
use Rattle.layout_tables.specs.declared.requests.Work.{Work}
use Rattle.layout_tables.specs.Sketches.{Scoped, Grows, AreBelow, sketch_of, needs_behind, meeting_of, exits_of, IsWay}
use Rattle.layout_steps.specs.Steps.{MakesNew, IsPrepared, IsSameArg, IsGlobalKind, IsFrame, IsAwaited, return_of}
use Rattle.layout_tables.specs.Around.{Around}
use Rattle.layout_tables.specs.declared.sites.Join.{Join}
use Rattle.layout_tables.specs.declared.sites.Way.TheVariants as To
use Rattle.layout_steps.specs.declared.frames.Waiting.{Waiting}
use Rattle.cps_ir.specs.declared.terms.Cont.{Cont}
use Rattle.cps_ir.specs.declared.terms.Cont.TheVariants as Continuation
use Rattle.layout_tables.proofs.Basics.{take_more}
use Rattle.layout_tables.proofs.Growing.{later, grows_none, grows_more}
use Rattle.layout_tables.specs.Additions.{Adds}
use Rattle.layout_tables.proofs.Adding.{adds_none, adds_ops, adds_behind}

-- ---- numbers apart

pub less_differs : (x y : ℕ) → x < y → (x == y) ≡ false
less_differs x y lt = by (x == y) refl
  where
    by : (b : Bool) → (x == y) ≡ b → b ≡ false
    by true k = absurd (let e = eqb-true x y k in omega (arith, lt, e))
    by false k = refl

pub more_differs : (x y : ℕ) → x < y → (y == x) ≡ false
more_differs x y lt = by (y == x) refl
  where
    by : (b : Bool) → (y == x) ≡ b → b ≡ false
    by true k = absurd (let e = eqb-true y x k in omega (arith, lt, e))
    by false k = refl

pub not_less : (x y : ℕ) → y ≤ x → nat_lt x y ≡ false
not_less x y le = by (nat_lt x y) refl
  where
    by : (b : Bool) → nat_lt x y ≡ b → b ≡ false
    by true k = absurd (let e = ltb-true x y k in omega (arith, le, e))
    by false k = refl

pub unused_above : (n y : ℕ) (vars : Scoped) → n ≤ y → AreBelow n vars → IsUnused vars y
unused_above n y [] le h = tt
unused_above n y (p ∷ vars) le h = (less_differs p.1 y (let a = h.0 in omega (arith, a, le)), unused_above n y vars le h.1)

-- what is from a number on lacks what is below it
pub lacks_below : (n x : ℕ) (ys : List ℕ) → x < n → AllByRecursion (λ y. n ≤ y) ys → is_in ys x ≡ false
lacks_below n x [] lt h = refl
lacks_below n x (y ∷ ys) lt h = ap (λ b. b || is_in ys x) (more_differs x y (let a = h.0 in omega (arith, a, lt))) ∙ lacks_below n x ys lt h.1

pub is_in_join : (xs ys : List ℕ) (x : ℕ) → is_in xs x ≡ false → is_in ys x ≡ false → is_in (xs ++ ys) x ≡ false
is_in_join [] ys x h k = k
is_in_join (y ∷ xs) ys x h k = by (y == x) (is_in xs x) h (λ g. is_in_join xs ys x g k)
  where
    by : (a b : Bool) → (a || b) ≡ false → (b ≡ false → is_in (xs ++ ys) x ≡ false) → (a || is_in (xs ++ ys) x) ≡ false
    by true b h go = absurd (true≢false h)
    by false b h go = go h

pub made_by_join : (xs ys : List FrameOp) → made_by (xs ++ ys) ≡ made_by xs ++ made_by ys
made_by_join [] ys = refl
made_by_join (Op.Closure to code kept at ∷ xs) ys = ap (λ zs. to.0 ∷ zs) (made_by_join xs ys)
made_by_join (_ ∷ xs) ys = made_by_join xs ys

-- ---- two lists of arguments

module _ (cps : Cps) (v : Sketch) (vars : Scoped) where
  pub prepares_join : (n : ℕ) (as_ : List Arg) (ms : List FrameOp) (bs : List Arg) (cs : List Arg) (ns : List FrameOp) (ds : List Arg) → Prepares cps v vars as_ ms bs
      → Prepares cps v vars cs ns ds → AllByRecursion (λ y. y < n) (made_by ms) → AllByRecursion (λ y. n ≤ y) (made_by ns) → Prepares cps v vars (as_ ++ cs) (ms ++ ns) (bs ++ ds)
  prepares_join n as_ ms bs cs ns ds prepares_none q h k = q
  prepares_join n as_ ms bs cs ns ds (prepares_same a b es fs gs same rest) q h k = prepares_same a b (es ++ cs) (fs ++ ns) (gs ++ ds) same (prepares_join n es fs gs cs ns ds rest q h k)
  prepares_join n as_ ms bs cs ns ds (prepares_closure l to code kept es fs gs makes unused rest) q h k =
      prepares_closure l to code kept (es ++ cs) (fs ++ ns) (gs ++ ds)
      (record { lambda = makes.lambda; runs = makes.runs; holds = makes.holds; later = subst (λ zs. is_in zs to.0 ≡ false) (sym (made_by_join fs ns)) (is_in_join (made_by fs) (made_by ns) to.0 makes.later (lacks_below n to.0 (made_by ns) h.0 k)) })
      unused (prepares_join n es fs gs cs ns ds rest q h.1 k)

each_less : (n m : ℕ) (ys : List ℕ) → n ≤ m → AllByRecursion (λ y. y < n) ys → AllByRecursion (λ y. y < m) ys
each_less n m ys le h = each_more (λ y. y < n) (λ y. y < m) ys (λ y a. omega (arith, a, le)) h

each_from : (n m : ℕ) (ys : List ℕ) → n ≤ m → AllByRecursion (λ y. m ≤ y) ys → AllByRecursion (λ y. n ≤ y) ys
each_from n m ys le h = each_more (λ y. m ≤ y) (λ y. n ≤ y) ys (λ y a. omega (arith, a, le)) h

module _ (cps : Cps) (w : Tables) (vars : Scoped) where
  pub prepared_none : (old : Work) (ops : List FrameOp) → IsPrepared cps w vars old old [] ops ops []
  prepared_none old ops = record { made = []; ops = sym (append-nil ops); grows = grows_none w old; adds = adds_none old; from = tt; below = tt; prepares = λ ps ts f g. prepares_none }

  pub prepared_join : (old mid new : Work) (as_ cs : List Arg) (one two three : List FrameOp) (bs ds : List Arg) → IsPrepared cps w vars old mid as_ one two bs → IsPrepared cps w vars mid new cs two three ds
      → IsPrepared cps w vars old new (as_ ++ cs) one three (bs ++ ds)
  prepared_join old mid new as_ cs one two three bs ds p q = record {
    made = p.made ++ q.made;
    ops = q.ops ∙ ap (λ zs. zs ++ q.made) p.ops ∙ append_assoc one p.made q.made;
    grows = grows_more w old mid new p.grows q.grows;
    adds = adds_ops old mid new p.made q.made p.adds q.adds;
    from = subst (AllByRecursion (λ y. old.next ≤ y)) (sym (made_by_join p.made q.made)) (each_append (λ y. old.next ≤ y) (made_by p.made) (made_by q.made) p.from (each_from old.next mid.next (made_by q.made) p.grows.next q.from));
    below = subst (AllByRecursion (λ y. y < new.next)) (sym (made_by_join p.made q.made)) (each_append (λ y. y < new.next) (made_by p.made) (made_by q.made) (each_less mid.next new.next (made_by p.made) q.grows.next p.below) q.below);
    prepares = λ ps ts f g. prepares_join cps (sketch_of w ps ts) vars mid.next as_ p.made bs cs q.made ds
        (later w mid new (λ v. Prepares cps v vars as_ p.made bs) q.grows p.prepares ps ts f g) (q.prepares ps ts f g) p.below q.from;
  }

  pub prepared_same : (old : Work) (a b : Arg) (ops : List FrameOp) → IsSameArg cps w vars a b → IsPrepared cps w vars old old (a ∷ []) ops ops (b ∷ [])
  prepared_same old a b ops same = record { made = []; ops = sym (append-nil ops); grows = grows_none w old; adds = adds_none old; from = tt; below = tt; prepares = λ ps ts f g. prepares_same a b [] [] [] (same ps ts) prepares_none }

  pub prepared_closure : (old mid new : Work) (l : ℕ) (to : Var) (op : FrameOp) (one two : List FrameOp) → w.first ≡ first_lams cps → AreBelow old.next vars → Grows w old mid → Adds old mid (to.0 ∷ []) [] → to.0 ≡ old.next → mid.next ≡ old.next + 1
      → MakesNew w vars mid new l to op → two ≡ one ++ op ∷ [] → IsPrepared cps w vars old new (Argument.Proc l ∷ []) one two (Argument.Var to ∷ [])
  prepared_closure old mid new l to op one two first below grows adds e n m ops = record {
    made = Op.Closure to m.code m.kept At.Heap ∷ [];
    ops = ops ∙ ap (λ o. one ++ o ∷ []) m.is;
    grows = grows_more w old mid new grows m.grows;
    adds = adds_behind old mid new (to.0 ∷ []) [] [] adds m.adds;
    from = (omega (arith, e), tt);
    below = ((let k = m.next in omega (arith, e, n, k)), tt);
    prepares = λ ps ts f g. prepares_closure l to m.code m.kept [] [] []
        (record { lambda = subst (λ k. nat_lt l k ≡ false) first m.lambda; runs = m.runs ps ts f g; holds = m.holds; later = refl }) (unused_above old.next to.0 vars (omega (arith, e)) below) prepares_none;
  }

-- ---- the codes of globals

pub a_code : (test : Global1 → Bool) (xs : List Global1) (n g : ℕ) (x : Global1) → slice_get xs g ≡ Some x → test x ≡ true → (code : ℕ) × (number_among test n xs g ≡ Some code)
a_code test [] n g x e h = absurd (never e)
  where
    never : None ≡ Some x → ⊥
    never k = cc
a_code test (y ∷ xs) n zero x e h = (n, ap (λ (b : Bool). if b then Some n else None) (ap test (same y x e) ∙ h))
  where
    same : (a b : Global1) → Some a ≡ Some b → a ≡ b
    same a b k = cc
a_code test (y ∷ xs) n (suc g) x e h = a_code test xs (if test y then suc n else n) g x e h

pub no_code : (test : Global1 → Bool) (xs : List Global1) (n g : ℕ) (x : Global1) → slice_get xs g ≡ Some x → test x ≡ false → number_among test n xs g ≡ None
no_code test [] n g x e h = refl
no_code test (y ∷ xs) n zero x e h = ap (λ (b : Bool). if b then Some n else None) (ap test (same y x e) ∙ h)
  where
    same : (a b : Global1) → Some a ≡ Some b → a ≡ b
    same a b k = cc
no_code test (y ∷ xs) n (suc g) x e h = no_code test xs (if test y then suc n else n) g x e h

pub global_is : (shared : Shared) (xs : List Global1) (g : ℕ) (x : Global1) → xs ≡ shared.globals.items → g < length xs → x ≡ get_or xs g x → x.kind ≡ Kind.Proc → IsGlobalKind shared g true
global_is shared xs g x same lt e k =
    let there = subst (λ zs. slice_get zs g ≡ Some x) same (slice_get_read xs (length xs) g x refl lt e) in
    record { there = subst (λ zs. g < length zs) same lt; code = a_code (λ info. is_proc info.kind) shared.globals.items 0 g x there (ap is_proc k) }

pub global_isnt : (shared : Shared) (xs : List Global1) (g : ℕ) (x : Global1) → xs ≡ shared.globals.items → g < length xs → x ≡ get_or xs g x → (x.kind ≡ Kind.Proc → ⊥) → IsGlobalKind shared g false
global_isnt shared xs g x same lt e k =
    let there = subst (λ zs. slice_get zs g ≡ Some x) same (slice_get_read xs (length xs) g x refl lt e) in
    record { there = subst (λ zs. g < length zs) same lt; code = no_code (λ info. is_proc info.kind) shared.globals.items 0 g x there (no_proc x.kind k) }
  where
    no_proc : (kind : GlobalKind) → (kind ≡ Kind.Proc → ⊥) → is_proc kind ≡ false
    no_proc Kind.Proc h = absurd (h refl)
    no_proc Kind.Value h = refl
    no_proc Kind.Variable h = refl

pub prepared_more : (cps : Cps) (w : Tables) (vars : Scoped) (old mid new : Work) (args : List Arg) (i : ℕ) (d b : Arg) (one two three : List FrameOp) (bs cs : List Arg) → i < length args → IsPrepared cps w vars old mid (take i args) one two bs
    → IsPrepared cps w vars mid new (get_or args i d ∷ []) two three (b ∷ []) → cs ≡ bs ++ b ∷ [] → IsPrepared cps w vars old new (take (i + 1) args) one three cs
prepared_more cps w vars old mid new args i d b one two three bs cs lt p q e =
    subst (λ as_. IsPrepared cps w vars old new as_ one three cs) (sym (take_more args i d lt))
    (subst (λ zs. IsPrepared cps w vars old new (take i args ++ get_or args i d ∷ []) one three zs) (sym e) (prepared_join cps w vars old mid new (take i args) (get_or args i d ∷ []) one two three bs (b ∷ []) p q))

-- ---- frames

pub awaited_here : (w : Tables) (vars : Scoped) (a b : Around) (old new : Work) (k : Cont) (param : Var) (body : ℕ) (frame : Waiting) → k ≡ Continuation.Lam param body → b ≡ a → IsFrame w vars b old new param body frame → IsAwaited w vars a old new k frame
awaited_here w vars a b old new k param body frame e same h = subst (λ j. IsAwaited w vars a old new j frame) (sym e) (by (subst (λ c. IsFrame w vars c old new param body frame) same h))
  where
    by : IsFrame w vars a old new param body frame → IsAwaited w vars a old new (Continuation.Lam param body) frame
    by g = record { return = return_of w a param body; awaits = awaits_lam param body (needs_behind w param body); runs = g.runs; holds = g.holds; once = g.once; grows = g.grows; next = g.next; adds = g.adds }

pub awaited_join : (w : Tables) (vars : Scoped) (a b : Around) (old new : Work) (k : Cont) (j : Var) (join : Join) (place : ℕ) (frame : Waiting) → k ≡ Continuation.Var j → IsWay w a j (To.Meets join place) → b ≡ record a { joins = drop (place + 1) a.joins }
    → IsFrame w vars b old new join.param join.body frame → IsAwaited w vars a old new k frame
awaited_join w vars a b old new k j join place frame e way same h = subst (λ i. IsAwaited w vars a old new i frame) (sym e) (by (subst (λ c. IsFrame w vars c old new join.param join.body frame) same h))
  where
    by : IsFrame w vars (record a { joins = drop (place + 1) a.joins }) old new join.param join.body frame → IsAwaited w vars a old new (Continuation.Var j) frame
    by g = record { return = return_of w (record a { joins = drop (place + 1) a.joins }) join.param join.body; awaits = awaits_join j (meeting_of w join) (exits_of w (drop (place + 1) a.joins) a.own) way; runs = g.runs; holds = g.holds; once = g.once; grows = g.grows; next = g.next; adds = g.adds }
