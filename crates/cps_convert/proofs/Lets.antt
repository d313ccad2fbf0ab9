-- The steps of the conversion of LETs and LABELS.
use Rattle.std.proofs.Common.{◌≡◌, ℕ, suc, ◌<◌, ◌≤◌, Bool, true, false, if◌then◌else◌, List, [], ◌∷◌, ◌++◌, map, length, Some, None, refl, sym, ap, ◌∙◌, subst, arith, inl, inr}
use Rattle.std.proofs.lemmas.Bool.{true≢false}
use Rattle.std.specs.List.{AllByRecursion}
use Rattle.t_base.specs.declared.basics.Var.{Var}
use Rattle.t_core.specs.declared.forms.Core.TheVariants as Node
use Rattle.t_core.specs.declared.forms.UnitCore.{UnitCore}
use Rattle.t_core.specs.Nodes.{part, early}
use Rattle.t_meaning.specs.Costs.{is_assigned}
use Rattle.cps_ir.specs.declared.args.Arg.{Arg}
use Rattle.cps_ir.specs.declared.args.Arg.TheVariants as Argument
use Rattle.cps_ir.specs.declared.terms.Cont.{Cont}
use Rattle.cps_ir.specs.declared.terms.Cont.TheVariants as Continuation
use Rattle.cps_ir.specs.Reaches.{is_in}
use Rattle.cps_conversion.specs.Conversion.{Translation, Converting, IsNew, Values, ConvertsWithin, adding, own_place}
use Rattle.cps_convert.specs.declared.conversion.Conversion.{Conversion}
use Rattle.cps_convert.specs.declared.operands.Job.{Job}
use Rattle.cps_convert.specs.Claims.{IsBinder, Setting, IsOuter, AreOuter, AreOwn, IsScopedIn, GoesTo, Converted, translation}
use Rattle.cps_convert.specs.Operands.{IsLet, AreLets, AreLetsAdded, vars_of, Evaluates, CanEvaluate, JobsConverted}
use Rattle.cps_convert.specs.Naming.{BindsAll}
use Rattle.cps_convert.specs.Kinds.{KindConverted}
use Rattle.cps_convert.proofs.Listing.{grows_more}
use Rattle.cps_convert.proofs.Spots.{outer_more, are_more, outer_cons, fresh_new, child, opened, ready_bound}
use Rattle.cps_convert.proofs.Own.{one_binder, NoneHeld, NoneSet, not_in_cons, none_held, none_fresh, none_own, ArePlain, assigned_from}
use Rattle.cps_convert.proofs.Bodies.{own_all, outer_own}

-- ---- the parameter of the continuation

outer_other : (unit : UnitCore) (marks : List Bool) (base next form key v p : ℕ) → Setting unit marks base → IsBinder unit form key v → IsOuter unit base next form (suc key) p → v ≡ p → ⊥
outer_other unit marks base next form key v p setting own (inl o) e = let below : v < base = setting.binders form key v own in omega (arith, below, e, o.0)
outer_other unit marks base next form key v p setting own (inr o) e =
    let same : o.0 ≡ key = one_binder unit marks base form o.0 key v setting (subst (IsBinder unit form o.0) (sym e) o.2) own in omega (arith, same, o.1)

apart_adding : (unit : UnitCore) (marks : List Bool) (base next form key p : ℕ) (vars : List Var) (held : List ℕ) → Setting unit marks base → AreOwn unit form key vars → IsOuter unit base next form (suc key) p → is_in held p ≡ false → is_in (adding vars held) p ≡ false
apart_adding unit marks base next form key p [] held setting own out e = e
apart_adding unit marks base next form key p (v ∷ vars) held setting own out e =
    apart_adding unit marks base next form key p vars (v.0 ∷ held) setting own.2 out (not_in_cons v.0 p held (outer_other unit marks base next form key v.0 p setting own.0 out) e)

pub goes_inside : (x : Translation) (marks : List Bool) (base next form key : ℕ) (vars : List Var) (held : List ℕ) (k : Cont) → Setting x.unit marks base → AreOwn x.unit form key vars → GoesTo x base next form (suc key) held k
    → GoesTo x base next form key (adding vars held) k
goes_inside x marks base next form key vars held (Continuation.Var k) setting own h = tt
goes_inside x marks base next form key vars held (Continuation.Lam param body) setting own h =
    (record { apart = apart_adding x.unit marks base next form key param.0 vars held setting own h.1 h.0.apart; unassigned = h.0.unassigned }, outer_more x.unit base next next form (suc key) key (omega arith) (omega arith) param.0 h.1)

pub all_left : {X : Type 0} (P : X → Type 0) (xs ys : List X) → AllByRecursion P (xs ++ ys) → AllByRecursion P xs
all_left P [] ys h = tt
all_left P (x ∷ xs) ys h = (h.0, all_left P xs ys h.1)

pub all_right : {X : Type 0} (P : X → Type 0) (xs ys : List X) → AllByRecursion P (xs ++ ys) → AllByRecursion P ys
all_right P [] ys h = h
all_right P (x ∷ xs) ys h = all_right P xs ys h.1

each_early : (unit : UnitCore) (form : ℕ) (bound keys : List ℕ) → AllByRecursion (λ p. IsScopedIn unit form p.at (adding p.binds bound)) (map early keys) → AllByRecursion (λ c. IsScopedIn unit form c bound) keys
each_early unit form bound [] h = tt
each_early unit form bound (c ∷ keys) h = (h.0, each_early unit form bound keys h.1)

-- ---- LET

lets_grow : (unit : UnitCore) (form next after : ℕ) (vars : List Var) (keys : List ℕ) (args : List Arg) (jobs : List Job) → AreLets unit form next after vars keys args jobs → next ≤ after
lets_grow unit form next after [] [] [] jobs h = omega (arith, h.1)
lets_grow unit form next after (v ∷ vars) (c ∷ keys) (a ∷ args) jobs h = by h.4 (lets_grow unit form h.0 after vars keys args h.2 h.5)
  where
    by : IsLet unit form next h.0 v c a h.1 → h.0 ≤ after → next ≤ after
    by (inl (s, inl o)) le = omega (arith, o.2, le)
    by (inl (s, inr o)) le = omega (arith, o.1.4, le)
    by (inr o) le = omega (arith, o.3, le)
lets_grow unit form next after [] [] (a ∷ args) jobs h = absurd h
lets_grow unit form next after [] (c ∷ keys) args jobs h = absurd h
lets_grow unit form next after (v ∷ vars) [] args jobs h = absurd h
lets_grow unit form next after (v ∷ vars) (c ∷ keys) [] jobs h = absurd h

-- one job more in front
can_more : (x : Translation) (base most form key : ℕ) (bound held : List ℕ) (first rest : List Job) (c : ℕ) (v : Var) → first ≡ record { node = c; var = v } ∷ [] → IsNew x held v → IsOuter x.unit base most form key v.0 → IsScopedIn x.unit form c bound
    → CanEvaluate x base most form key bound (v.0 ∷ held) rest → CanEvaluate x base most form key bound held (first ++ rest)
can_more x base most form key bound held first rest c v e new out scoped h = subst (λ l. CanEvaluate x base most form key bound held (l ++ rest)) (sym e) (new, out, scoped, h)

lets_can : (x : Translation) (marks : List Bool) (base most form key next after : ℕ) (bound held : List ℕ) (vars : List Var) (keys : List ℕ) (args : List Arg) (jobs : List Job) → Setting x.unit marks base → base ≤ next → after ≤ most
    → AreOuter x.unit base next form key held → AreOwn x.unit form key vars → NoneHeld held vars → AllByRecursion (λ c. IsScopedIn x.unit form c bound) keys → AreLets x.unit form next after vars keys args jobs
    → CanEvaluate x base most form key bound held jobs
lets_can x marks base most form key next after bound held [] [] [] jobs setting first few helds own none scoped h = subst (CanEvaluate x base most form key bound held) (sym h.0) tt
lets_can x marks base most form key next after bound held (v ∷ vars) (c ∷ keys) (a ∷ args) jobs setting first few helds own none scoped h =
    subst (CanEvaluate x base most form key bound held) (sym h.3)
    (by h.4 (lets_grow x.unit form h.0 after vars keys args h.2 h.5)
    (λ hs start outs free. lets_can x marks base most form key h.0 after bound hs vars keys args h.2 setting start few outs own.2 free scoped.1 h.5))
  where
    by : IsLet x.unit form next h.0 v c a h.1 → h.0 ≤ after → ((hs : List ℕ) → base ≤ h.0 → AreOuter x.unit base h.0 form key hs → NoneHeld hs vars → CanEvaluate x base most form key bound hs h.2)
        → CanEvaluate x base most form key bound held (h.1 ++ h.2)
    by (inl (s, inl o)) le go =
        subst (λ l. CanEvaluate x base most form key bound held (l ++ h.2)) (sym o.1)
        (go held (omega (arith, first, o.2)) (are_more x.unit base next h.0 form key key (omega (arith, o.2)) (omega arith) held helds) none.1)
    by (inl (s, inr o)) le go =
        let y : Var = o.1.0 in
        let is : y.0 ≡ next = o.1.2 in
        let more : next < h.0 = o.1.4 in
        let new : base ≤ y.0 = omega (arith, first, is) in
        can_more x base most form key bound held h.1 h.2 c y o.1.3 (fresh_new x marks base next form key y held setting first (omega (arith, is)) helds) (inl (new, omega (arith, is, more, le, few))) scoped.0
        (go (y.0 ∷ held) (omega (arith, first, more)) (outer_cons x.unit base h.0 form key y.0 held (inl (new, omega (arith, is, more))) (are_more x.unit base next h.0 form key key (omega (arith, more)) (omega arith) held helds))
        (none_fresh x.unit marks base form key y.0 held vars setting new own.2 none.1))
    by (inr o) le go =
        can_more x base most form key bound held h.1 h.2 c v o.2 (record { apart = none.0; unassigned = o.0 }) (inr (key, omega arith, own.0)) scoped.0
        (go (v.0 ∷ held) (omega (arith, first, o.3)) (outer_cons x.unit base h.0 form key v.0 held (inr (key, omega arith, own.0)) (are_more x.unit base next h.0 form key key (omega (arith, o.3)) (omega arith) held helds))
        (none_own v held vars own.1 none.1))
lets_can x marks base most form key next after bound held [] [] (a ∷ args) jobs setting first few helds own none scoped h = absurd h
lets_can x marks base most form key next after bound held [] (c ∷ keys) args jobs setting first few helds own none scoped h = absurd h
lets_can x marks base most form key next after bound held (v ∷ vars) [] args jobs setting first few helds own none scoped h = absurd h
lets_can x marks base most form key next after bound held (v ∷ vars) (c ∷ keys) [] jobs setting first few helds own none scoped h = absurd h

lets_plain : (unit : UnitCore) (form next after : ℕ) (vars : List Var) (keys : List ℕ) (args : List Arg) (jobs : List Job) → AreLets unit form next after vars keys args jobs → ArePlain unit vars args
lets_plain unit form next after [] [] [] jobs h = tt
lets_plain unit form next after (v ∷ vars) (c ∷ keys) (a ∷ args) jobs h = (by h.4, lets_plain unit form h.0 after vars keys args h.2 h.5)
  where
    by : IsLet unit form next h.0 v c a h.1 → is_assigned unit v ≡ false → a ≡ Argument.Var v
    by (inl o) free = absurd (true≢false (sym o.0 ∙ free))
    by (inr o) free = o.1
lets_plain unit form next after [] [] (a ∷ args) jobs h = absurd h
lets_plain unit form next after [] (c ∷ keys) args jobs h = absurd h
lets_plain unit form next after (v ∷ vars) [] args jobs h = absurd h
lets_plain unit form next after (v ∷ vars) (c ∷ keys) [] jobs h = absurd h

-- the variables of jobs are new ones, or not assigned; so no assigned variable is among them
jobs_apart : (unit : UnitCore) (marks : List Bool) (base form next after : ℕ) (vars : List Var) (keys : List ℕ) (args : List Arg) (jobs : List Job) (held : List ℕ) (w : Var) → Setting unit marks base → base ≤ next → is_assigned unit w ≡ true
    → AreLets unit form next after vars keys args jobs → is_in held w.0 ≡ false → is_in (adding (vars_of jobs) held) w.0 ≡ false
jobs_apart unit marks base form next after [] [] [] jobs held w setting first set h e = subst (λ l. is_in (adding (vars_of l) held) w.0 ≡ false) (sym h.0) e
jobs_apart unit marks base form next after (v ∷ vars) (c ∷ keys) (a ∷ args) jobs held w setting first set h e =
    subst (λ l. is_in (adding (vars_of l) held) w.0 ≡ false) (sym h.3) (by h.4 (λ hs start out. jobs_apart unit marks base form h.0 after vars keys args h.2 hs w setting start set h.5 out))
  where
    by : IsLet unit form next h.0 v c a h.1 → ((hs : List ℕ) → base ≤ h.0 → is_in hs w.0 ≡ false → is_in (adding (vars_of h.2) hs) w.0 ≡ false) → is_in (adding (vars_of (h.1 ++ h.2)) held) w.0 ≡ false
    by (inl (s, inl o)) go = subst (λ l. is_in (adding (vars_of (l ++ h.2)) held) w.0 ≡ false) (sym o.1) (go held (omega (arith, first, o.2)) e)
    by (inl (s, inr o)) go =
        let y : Var = o.1.0 in
        let below : w.0 < base = setting.assigned w set in
        subst (λ l. is_in (adding (vars_of (l ++ h.2)) held) w.0 ≡ false) (sym o.1.3)
        (go (y.0 ∷ held) (omega (arith, first, o.1.4)) (not_in_cons y.0 w.0 held (λ f. omega (arith, f, below, first, o.1.2)) e))
    by (inr o) go =
        subst (λ l. is_in (adding (vars_of (l ++ h.2)) held) w.0 ≡ false) (sym o.2)
        (go (v.0 ∷ held) (omega (arith, first, o.3)) (not_in_cons v.0 w.0 held (λ f. let same : v ≡ w = ap (λ k. record { 0 = k }) f in true≢false (sym set ∙ sym (ap (is_assigned unit) same) ∙ o.0)) e))
jobs_apart unit marks base form next after [] [] (a ∷ args) jobs held w setting first set h e = absurd h
jobs_apart unit marks base form next after [] (c ∷ keys) args jobs held w setting first set h e = absurd h
jobs_apart unit marks base form next after (v ∷ vars) [] args jobs held w setting first set h e = absurd h
jobs_apart unit marks base form next after (v ∷ vars) (c ∷ keys) [] jobs held w setting first set h e = absurd h

jobs_set : (unit : UnitCore) (marks : List Bool) (base form next after : ℕ) (all : List Var) (keys : List ℕ) (args : List Arg) (jobs : List Job) (held : List ℕ) (vars : List Var) → Setting unit marks base → base ≤ next
    → AreLets unit form next after all keys args jobs → NoneHeld held vars → NoneSet unit (adding (vars_of jobs) held) vars
jobs_set unit marks base form next after all keys args jobs held [] setting first h none = tt
jobs_set unit marks base form next after all keys args jobs held (v ∷ vars) setting first h none =
    ((λ set. jobs_apart unit marks base form next after all keys args jobs held v setting first set h none.0), jobs_set unit marks base form next after all keys args jobs held vars setting first h none.1)

lets_values : (x : Translation) (conv : Converting) (form : ℕ) (bound : List ℕ) (next after : ℕ) (held : List ℕ) (vars : List Var) (keys : List ℕ) (args : List Arg) (jobs : List Job) (t last : ℕ)
    → AllByRecursion (λ c. IsScopedIn x.unit form c bound) keys → AreLets x.unit form next after vars keys args jobs → Evaluates x conv form bound held jobs t last
    → Values x conv form bound held (map (own_place x.unit) vars) keys args t last (adding (vars_of jobs) held)
lets_values x conv form bound next after held [] [] [] jobs t last scoped h ev = (subst (λ l. Evaluates x conv form bound held l t last) h.0 ev, ap (λ l. adding (vars_of l) held) h.0)
lets_values x conv form bound next after held (v ∷ vars) (c ∷ keys) (a ∷ args) jobs t last scoped h ev = by h.4 (λ hs u e. lets_values x conv form bound h.0 after hs vars keys args h.2 u last scoped.1 h.5 e)
  where
    by : IsLet x.unit form next h.0 v c a h.1
        → ((hs : List ℕ) (u : ℕ) → Evaluates x conv form bound hs h.2 u last → Values x conv form bound hs (map (own_place x.unit) vars) keys args u last (adding (vars_of h.2) hs))
        → Values x conv form bound held (own_place x.unit v ∷ map (own_place x.unit) vars) (c ∷ keys) (a ∷ args) t last (adding (vars_of jobs) held)
    by (inl (s, inl o)) go =
        let e : jobs ≡ h.2 = h.3 ∙ ap (λ l. l ++ h.2) o.1 in
        subst (λ p. Values x conv form bound held (p ∷ map (own_place x.unit) vars) (c ∷ keys) (a ∷ args) t last (adding (vars_of jobs) held)) (sym (ap (λ b. if b then None else Some v) s))
        (subst (λ l. Values x conv form bound held (None ∷ map (own_place x.unit) vars) (c ∷ keys) (a ∷ args) t last (adding (vars_of l) held)) (sym e)
        (inl (o.0, ready_bound x.unit form c bound a scoped.0 o.0, go held t (subst (λ l. Evaluates x conv form bound held l t last) e ev))))
    by (inl (s, inr o)) go =
        let e : jobs ≡ record { node = c; var = o.1.0 } ∷ h.2 = h.3 ∙ ap (λ l. l ++ h.2) o.1.3 in
        let f : Evaluates x conv form bound held (record { node = c; var = o.1.0 } ∷ h.2) t last = subst (λ l. Evaluates x conv form bound held l t last) e ev in
        subst (λ p. Values x conv form bound held (p ∷ map (own_place x.unit) vars) (c ∷ keys) (a ∷ args) t last (adding (vars_of jobs) held)) (sym (ap (λ b. if b then None else Some v) s))
        (subst (λ l. Values x conv form bound held (None ∷ map (own_place x.unit) vars) (c ∷ keys) (a ∷ args) t last (adding (vars_of l) held)) (sym e)
        (inr (o.0, (o.1.0, f.0, o.1.1, f.1, f.2, go (o.1.0.0 ∷ held) f.0 f.3))))
    by (inr o) go =
        let e : jobs ≡ record { node = c; var = v } ∷ h.2 = h.3 ∙ ap (λ l. l ++ h.2) o.2 in
        let f : Evaluates x conv form bound held (record { node = c; var = v } ∷ h.2) t last = subst (λ l. Evaluates x conv form bound held l t last) e ev in
        subst (λ p. Values x conv form bound held (p ∷ map (own_place x.unit) vars) (c ∷ keys) (a ∷ args) t last (adding (vars_of jobs) held)) (sym (ap (λ b. if b then None else Some v) o.0))
        (subst (λ l. Values x conv form bound held (Some v ∷ map (own_place x.unit) vars) (c ∷ keys) (a ∷ args) t last (adding (vars_of l) held)) (sym e) (f.0, o.1, f.1, f.2, go (v.0 ∷ held) f.0 f.3))
lets_values x conv form bound next after held [] [] (a ∷ args) jobs t last scoped h ev = absurd h
lets_values x conv form bound next after held [] (c ∷ keys) args jobs t last scoped h ev = absurd h
lets_values x conv form bound next after held (v ∷ vars) [] args jobs t last scoped h ev = absurd h
lets_values x conv form bound next after held (v ∷ vars) (c ∷ keys) [] jobs t last scoped h ev = absurd h

lets_length : (unit : UnitCore) (form next after : ℕ) (vars : List Var) (keys : List ℕ) (args : List Arg) (jobs : List Job) → AreLets unit form next after vars keys args jobs → length vars ≡ length args
lets_length unit form next after [] [] [] jobs h = refl
lets_length unit form next after (v ∷ vars) (c ∷ keys) (a ∷ args) jobs h = let e = lets_length unit form h.0 after vars keys args h.2 h.5 in omega (arith, e)
lets_length unit form next after [] [] (a ∷ args) jobs h = absurd h
lets_length unit form next after [] (c ∷ keys) args jobs h = absurd h
lets_length unit form next after (v ∷ vars) [] args jobs h = absurd h
lets_length unit form next after (v ∷ vars) (c ∷ keys) [] jobs h = absurd h

pub let_converted : (unit : UnitCore) (marks : List Bool) (form : ℕ) (a b c d e : Conversion) (key : ℕ) (vars : List Var) (keys : List ℕ) (body : ℕ) (k : Cont) (args : List Arg) (jobs : List Job) (start behind t : ℕ)
    → Converted unit marks form a b key body k start → AreLetsAdded unit form b c vars keys args [] jobs → (length vars ≡ length args → BindsAll c d marks vars args start behind) → JobsConverted unit marks form d e key jobs t behind
    → KindConverted unit marks form a e key (Node.Let vars keys body) k t
let_converted unit marks form a b c d e key vars keys body k args jobs start behind t done lets binding evaluated =
    let binds = binding (lets_length unit form b.next c.next vars keys args lets.added lets.are) in
    record {
      grows = grows_more a b e done.grows (grows_more b c e lets.grows (grows_more c d e binds.grows evaluated.grows));
      holds = λ cps origins inc base there setting bound held spot goes.
          let x = translation unit cps origins in
          let at_d = evaluated.grows.includes x inc in
          let at_c = binds.grows.includes x at_d in
          let at_b = lets.grows.includes x at_c in
          let o = opened unit form key bound (Node.Let vars keys body) spot.scoped there in
          let own = own_all unit marks base form key (Node.Let vars keys body) setting there in
          let scoped = each_early unit form bound keys (all_left (λ p. IsScopedIn unit form p.at (adding p.binds bound)) (map early keys) (part body vars o.tail ∷ []) o.parts) in
          let scoped_body = (all_right (λ p. IsScopedIn unit form p.at (adding p.binds bound)) (map early keys) (part body vars o.tail ∷ []) o.parts).0 in
          let are : AreLets unit form b.next c.next vars keys args jobs = subst (λ l. AreLets unit form b.next c.next vars keys args l) (sym lets.after) lets.are in
          let up_b : a.next ≤ b.next = done.grows.next in
          let first_b : base ≤ b.next = omega (arith, spot.base_first, up_b) in
          let up_d : b.next ≤ d.next = omega (arith, lets.grows.next, binds.grows.next) in
          let bounds = are_more unit base a.next a.next form (suc key) key (omega arith) (omega arith) bound spot.bound_outer in
          let helds = are_more unit base a.next a.next form (suc key) key (omega arith) (omega arith) held spot.held_outer in
          let none = none_held unit marks base a.next form key held vars setting spot.held_outer own in
          let can = lets_can x marks base d.next form key b.next c.next bound held vars keys args jobs setting first_b binds.grows.next (are_more unit base a.next b.next form key key up_b (omega arith) held helds) own none scoped are in
          let ev = evaluated.holds cps origins inc base setting (omega (arith, first_b, up_d)) bound held (are_more unit base a.next d.next form key key (omega (arith, up_b, up_d)) (omega arith) bound bounds)
          (are_more unit base a.next d.next form key key (omega (arith, up_b, up_d)) (omega arith) held helds) can in
          record {
            args = args;
            inner = adding (vars_of jobs) held;
            behind = behind;
            start = start;
            values = lets_values x (ConvertsWithin x key) form bound b.next c.next held vars keys args jobs t behind scoped are ev;
            assigned = assigned_from x marks form key (adding (vars_of jobs) held) vars args behind start setting.marked own
                (jobs_set unit marks base form b.next c.next vars keys args jobs held vars setting first_b are none) (lets_plain unit form b.next c.next vars keys args jobs are) (binds.holds x at_d);
            body_as = child x marks base a.next a.next form key body (adding vars bound) (adding vars held) k start (done.holds cps origins at_b base) done.below (omega arith) setting spot.base_first scoped_body
                (outer_own unit base a.next form key vars bound own bounds) (outer_own unit base a.next form key vars held own helds) (goes_inside x marks base a.next form key vars held k setting own goes);
          };
    }
