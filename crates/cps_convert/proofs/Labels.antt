-- The steps of the conversion of LABELS.
use Rattle.std.proofs.Common.{◌≡◌, ℕ, suc, ◌<◌, ◌≤◌, ◌⊎◌, Bool, true, false, if◌then◌else◌, List, [], ◌∷◌, map, length, refl, sym, ap, ◌∙◌, subst, arith, inl, inr}
use Rattle.std.proofs.lemmas.Bool.{true≢false}
use Rattle.std.specs.List.{AllByRecursion}
use Rattle.t_base.specs.declared.basics.Var.{Var}
use Rattle.t_base.specs.declared.shared_parts.Const.TheVariants as Constant
use Rattle.t_core.specs.declared.forms.Core.TheVariants as Node
use Rattle.t_core.specs.declared.forms.UnitCore.{UnitCore}
use Rattle.t_core.specs.Nodes.{Part, part}
use Rattle.t_meaning.specs.Costs.{is_assigned}
use Rattle.cps_ir.specs.declared.args.Arg.{Arg}
use Rattle.cps_ir.specs.declared.args.Arg.TheVariants as Argument
use Rattle.cps_ir.specs.declared.terms.Cont.{Cont}
use Rattle.cps_ir.specs.declared.terms.Term.TheVariants as Step
use Rattle.cps_ir.specs.Reaches.{is_in}
use Rattle.cps_conversion.specs.Conversion.{Translation, IsNew, AreNew, Names, Sets, adding, adding_assigned, unset}
use Rattle.cps_convert.specs.declared.conversion.Conversion.{Conversion}
use Rattle.cps_convert.specs.Growing.{AddsTerm}
use Rattle.cps_convert.specs.Claims.{HasMarks, Setting, AreOuter, AreOwn, IsScopedIn, Converted, translation}
use Rattle.cps_convert.specs.Naming.{IsName, AreNames, AreNamed, unset_by, AreBoundTo, BindsAll, IsSetTo, AreSetTo, SetsAll}
use Rattle.cps_convert.specs.Kinds.{LambdasMade, KindConverted}
use Rattle.cps_convert.proofs.Listing.{grows_more}
use Rattle.cps_convert.proofs.Spots.{are_more, outer_cons, fresh_new, child, opened}
use Rattle.cps_convert.proofs.Own.{NoneHeld, not_in_cons, none_held, none_set, adding_other, ArePlain, assigned_from}
use Rattle.cps_convert.proofs.Bodies.{own_all, outer_own}
use Rattle.cps_convert.proofs.Groups.{lambda_nodes}
use Rattle.cps_convert.proofs.Lets.{goes_inside, all_left, all_right}
use Rattle.cps_convert.proofs.Steps.{shaped}
use Rattle.cps_conversion.proofs.Scopes.{in_here, in_adding}

-- ---- what isn't assigned isn't held

abbrev NoneFree : UnitCore → List ℕ → List Var → Type 0
NoneFree unit held [] = Unit {0}
NoneFree unit held (v ∷ vars) = (is_assigned unit v ≡ false → is_in held v.0 ≡ false) × NoneFree unit held vars

free_fresh : (unit : UnitCore) (marks : List Bool) (base form key y : ℕ) (held : List ℕ) (vars : List Var) → Setting unit marks base → base ≤ y → AreOwn unit form key vars → NoneFree unit held vars → NoneFree unit (y ∷ held) vars
free_fresh unit marks base form key y held [] setting new own h = tt
free_fresh unit marks base form key y held (v ∷ vars) setting new own h =
    let below : v.0 < base = setting.binders form key v.0 own.0 in
    ((λ free. not_in_cons y v.0 held (λ e. omega (arith, e, below, new)) (h.0 free)), free_fresh unit marks base form key y held vars setting new own.2 h.1)

free_own : (unit : UnitCore) (v : Var) (held : List ℕ) (vars : List Var) → is_in (adding vars []) v.0 ≡ false → NoneFree unit held vars → NoneFree unit (v.0 ∷ held) vars
free_own unit v held [] apart h = tt
free_own unit v held (w ∷ vars) apart h = (
  (λ free. not_in_cons v.0 w.0 held (λ e. true≢false (sym (in_adding vars v.0 (w.0 ∷ []) (subst (λ n. is_in (n ∷ []) v.0 ≡ true) e (in_here v.0 []))) ∙ apart)) (h.0 free)),
  free_own unit v held vars (adding_other vars v.0 (w.0 ∷ []) [] apart (λ m e. absurd (true≢false (sym e)))) h.1,
)

names_free : (x : Translation) (marks : List Bool) (base next after form key : ℕ) (vars names : List Var) (acc : List ℕ) → Setting x.unit marks base → base ≤ next → AreOuter x.unit base next form key acc
    → AreOwn x.unit form key vars → NoneFree x.unit acc vars → AreNames marks next after vars names → AreNew x acc names × AreOuter x.unit base after form key (adding names acc)
names_free x marks base next after form key [] [] acc setting first outs own none h = (tt, subst (λ n. AreOuter x.unit base n form key acc) (sym h) outs)
names_free x marks base next after form key (v ∷ vars) (y ∷ names) acc setting first outs own none h =
    by h.1 (λ first' outs' none'. names_free x marks base h.0 after form key vars names (y.0 ∷ acc) setting first' outs' own.2 none' h.2)
  where
    by : IsName marks next h.0 v y
        → (base ≤ h.0 → AreOuter x.unit base h.0 form key (y.0 ∷ acc) → NoneFree x.unit (y.0 ∷ acc) vars → AreNew x (y.0 ∷ acc) names × AreOuter x.unit base after form key (adding names (y.0 ∷ acc)))
        → (IsNew x acc y × AreNew x (y.0 ∷ acc) names) × AreOuter x.unit base after form key (adding names (y.0 ∷ acc))
    by (inl n) go =
        let is : y.0 ≡ next = n.1 in
        let up : next < h.0 = n.2 in
        let new : base ≤ y.0 = omega (arith, first, is) in
        let rest = go (omega (arith, first, up)) (outer_cons x.unit base h.0 form key y.0 acc (inl (new, omega (arith, is, up))) (are_more x.unit base next h.0 form key key (omega (arith, up)) (omega arith) acc outs))
        (free_fresh x.unit marks base form key y.0 acc vars setting new own.2 none.1) in
        ((fresh_new x marks base next form key y acc setting first (omega (arith, is)) outs, rest.0), rest.1)
    by (inr n) go =
        let same : v ≡ y = sym n.1 in
        let up : h.0 ≡ next = n.2 in
        let free : is_assigned x.unit v ≡ false = sym (setting.marked v) ∙ n.0 in
        let rest = go (omega (arith, first, up))
        (subst (λ w. AreOuter x.unit base h.0 form key (w.0 ∷ acc)) same
        (outer_cons x.unit base h.0 form key v.0 acc (inr (key, omega arith, own.0)) (are_more x.unit base next h.0 form key key (omega (arith, up)) (omega arith) acc outs)))
        (subst (λ w. NoneFree x.unit (w.0 ∷ acc) vars) same (free_own x.unit v acc vars own.1 none.1)) in
        ((record { apart = subst (λ w. is_in acc w.0 ≡ false) same (none.0 free); unassigned = subst (λ w. is_assigned x.unit w ≡ false) same free }, rest.0), rest.1)
names_free x marks base next after form key [] (y ∷ names) acc setting first outs own none h = absurd h
names_free x marks base next after form key (v ∷ vars) [] acc setting first outs own none h = absurd h

-- the assigned variables among some are held
in_assigned : (unit : UnitCore) (all : List Var) (held : List ℕ) (v : Var) → is_assigned unit v ≡ false → is_in held v.0 ≡ false → is_in (adding_assigned unit all held) v.0 ≡ false
in_assigned unit [] held v free e = e
in_assigned unit (w ∷ all) held v free e = by (is_assigned unit w) refl (λ hs out. in_assigned unit all hs v free out)
  where
    by : (b : Bool) → is_assigned unit w ≡ b → ((hs : List ℕ) → is_in hs v.0 ≡ false → is_in (adding_assigned unit all hs) v.0 ≡ false) → is_in (adding_assigned unit all (if b then w.0 ∷ held else held)) v.0 ≡ false
    by true set go = go (w.0 ∷ held) (not_in_cons w.0 v.0 held (λ f. let same : w ≡ v = ap (λ k. record { 0 = k }) f in true≢false (sym set ∙ ap (is_assigned unit) same ∙ free)) e)
    by false set go = go held e

free_assigned : (unit : UnitCore) (all : List Var) (held : List ℕ) (vars : List Var) → NoneHeld held vars → NoneFree unit (adding_assigned unit all held) vars
free_assigned unit all held [] h = tt
free_assigned unit all held (v ∷ vars) h = ((λ free. in_assigned unit all held v free h.0), free_assigned unit all held vars h.1)

outer_assigned : (unit : UnitCore) (base next form key : ℕ) (vars : List Var) (held : List ℕ) → AreOwn unit form key vars → AreOuter unit base next form key held → AreOuter unit base next form key (adding_assigned unit vars held)
outer_assigned unit base next form key [] held own outs = outs
outer_assigned unit base next form key (v ∷ vars) held own outs = by (is_assigned unit v) (λ hs o. outer_assigned unit base next form key vars hs own.2 o)
  where
    by : (b : Bool) → ((hs : List ℕ) → AreOuter unit base next form key hs → AreOuter unit base next form key (adding_assigned unit vars hs)) → AreOuter unit base next form key (adding_assigned unit vars (if b then v.0 ∷ held else held))
    by true go = go (v.0 ∷ held) (outer_cons unit base next form key v.0 held (inr (key, omega arith, own.0)) outs)
    by false go = go held outs

-- ---- names, what they are given, and what they are set to

names_are : (unit : UnitCore) (marks : List Bool) (next after : ℕ) (vars names : List Var) → HasMarks unit marks → AreNames marks next after vars names → Names unit vars names
names_are unit marks next after [] [] marked h = tt
names_are unit marks next after (v ∷ vars) (y ∷ names) marked h = (by h.1, names_are unit marks h.0 after vars names marked h.2)
  where
    by : IsName marks next h.0 v y → (is_assigned unit v ≡ true) ⊎ (y ≡ v)
    by (inl n) = inl (sym (marked v) ∙ n.0)
    by (inr n) = inr n.1
names_are unit marks next after [] (y ∷ names) marked h = absurd h
names_are unit marks next after (v ∷ vars) [] marked h = absurd h

names_count : (marks : List Bool) (next after : ℕ) (vars names : List Var) → AreNames marks next after vars names → length vars ≡ length names
names_count marks next after [] [] h = refl
names_count marks next after (v ∷ vars) (y ∷ names) h = let e = names_count marks h.0 after vars names h.2 in omega (arith, e)
names_count marks next after [] (y ∷ names) h = absurd h
names_count marks next after (v ∷ vars) [] h = absurd h

unset_same : (unit : UnitCore) (marks : List Bool) (vars : List Var) → HasMarks unit marks → map (unset_by marks) vars ≡ map (unset unit) vars
unset_same unit marks [] marked = refl
unset_same unit marks (v ∷ vars) marked =
    ap (λ b. (if b then Argument.Const Constant.Nil else Argument.Var v) ∷ map (unset_by marks) vars) (marked v) ∙ ap (λ l. unset unit v ∷ l) (unset_same unit marks vars marked)

unset_plain : (unit : UnitCore) (vars : List Var) → ArePlain unit vars (map (unset unit) vars)
unset_plain unit [] = tt
unset_plain unit (v ∷ vars) = ((λ free. ap (λ b. if b then Argument.Const Constant.Nil else Argument.Var v) free), unset_plain unit vars)

unset_count : (marks : List Bool) (vars : List Var) → length vars ≡ length (map (unset_by marks) vars)
unset_count marks [] = refl
unset_count marks (v ∷ vars) = let e = unset_count marks vars in omega (arith, e)

sets_from : (x : Translation) (marks : List Bool) (base least form key : ℕ) (held : List ℕ) (vars names : List Var) (t next : ℕ) → Setting x.unit marks base → base ≤ least → AreOuter x.unit base least form key held
    → AreSetTo x marks least vars names t next → Sets x held vars names t next
sets_from x marks base least form key held [] [] t next setting first outs h = h
sets_from x marks base least form key held (v ∷ vars) (y ∷ names) t next setting first outs h = by h.1 (sets_from x marks base least form key held vars names h.0 next setting first outs h.2)
  where
    by : IsSetTo x marks least v y t h.0 → Sets x held vars names h.0 next → Sets x held (v ∷ vars) (y ∷ names) t next
    by (inl s) rest = inl (sym (setting.marked v) ∙ s.0, subst (λ n. Sets x held vars names n next) s.1 rest)
    by (inr s) rest = inr (sym (setting.marked v) ∙ s.0, (s.1.0, h.0, fresh_new x marks base least form key s.1.0 held setting first s.1.1 outs, s.1.2, rest))
sets_from x marks base least form key held [] (y ∷ names) t next setting first outs h = absurd h
sets_from x marks base least form key held (v ∷ vars) [] t next setting first outs h = absurd h

each_lambda : (unit : UnitCore) (form : ℕ) (vars : List Var) (bound keys : List ℕ) → AllByRecursion (λ p. IsScopedIn unit form p.at (adding p.binds bound)) (map (λ k. part k vars false) keys)
    → AllByRecursion (λ c. IsScopedIn unit form c (adding vars bound)) keys
each_lambda unit form vars bound [] h = tt
each_lambda unit form vars bound (c ∷ keys) h = (h.0, each_lambda unit form vars bound keys h.1)

pub labels_converted : (unit : UnitCore) (marks : List Bool) (form : ℕ) (a b c d e f g : Conversion) (key : ℕ) (vars : List Var) (keys : List ℕ) (body : ℕ) (k : Cont) (lams : List ℕ) (names : List Var) (args : List Arg) (start behind at t : ℕ)
    → LambdasMade unit marks form a b key keys lams → Converted unit marks form b c key body k start → AreNamed c d marks vars names → (length vars ≡ length names → SetsAll d e marks vars names start behind)
    → AddsTerm e f (Step.Labels names lams behind) at → args ≡ map (unset_by marks) vars → (length vars ≡ length args → BindsAll f g marks vars args at t) → KindConverted unit marks form a g key (Node.Labels vars keys body) k t
labels_converted unit marks form a b c d e f g key vars keys body k lams names args start behind at t made done named setting_all adds are binding =
    let sets = setting_all (names_count marks c.next d.next vars names named.are) in
    let binds : BindsAll f g marks vars (map (unset_by marks) vars) at t = subst (λ l. BindsAll f g marks vars l at t) are (binding (unset_count marks vars ∙ ap length (sym are))) in
    record {
      grows = grows_more a b g made.grows (grows_more b c g done.grows (grows_more c d g named.grows (grows_more d e g sets.grows (grows_more e f g adds.grows binds.grows))));
      holds = λ cps origins inc base there setting bound held spot goes.
          let x = translation unit cps origins in
          let at_f = binds.grows.includes x inc in
          let at_e = adds.grows.includes x at_f in
          let at_d = sets.grows.includes x at_e in
          let at_c = named.grows.includes x at_d in
          let at_b = done.grows.includes x at_c in
          let o = opened unit form key bound (Node.Labels vars keys body) spot.scoped there in
          let own = own_all unit marks base form key (Node.Labels vars keys body) setting there in
          let P : Part → Type 0 = λ p. IsScopedIn unit form p.at (adding p.binds bound) in
          let scoped = each_lambda unit form vars bound keys (all_left P (map (λ k. part k vars false) keys) (part body vars o.tail ∷ []) o.parts) in
          let scoped_body = (all_right P (map (λ k. part k vars false) keys) (part body vars o.tail ∷ []) o.parts).0 in
          let up_b : a.next ≤ b.next = made.grows.next in
          let up_c : a.next ≤ c.next = omega (arith, up_b, done.grows.next) in
          let first_b : base ≤ b.next = omega (arith, spot.base_first, up_b) in
          let first_c : base ≤ c.next = omega (arith, spot.base_first, up_c) in
          let first_d : base ≤ d.next = omega (arith, first_c, named.grows.next) in
          let bounds = are_more unit base a.next a.next form (suc key) key (omega arith) (omega arith) bound spot.bound_outer in
          let helds = are_more unit base a.next a.next form (suc key) key (omega arith) (omega arith) held spot.held_outer in
          let none = none_held unit marks base a.next form key held vars setting spot.held_outer own in
          let inside = outer_own unit base a.next form key vars bound own bounds in
          let acc = outer_assigned unit base c.next form key vars held own (are_more unit base a.next c.next form key key up_c (omega arith) held helds) in
          let new = names_free x marks base c.next d.next form key vars names (adding_assigned unit vars held) setting first_c acc own (free_assigned unit vars held vars none) named.are in
          record {
            names = names;
            lams = lams;
            at = at;
            behind = behind;
            start = start;
            as_many = sym (shaped unit setting.whole.shapes form key (Node.Labels vars keys body) there).2.0;
            unset = assigned_from x marks form key held vars (map (unset unit) vars) t at setting.marked own (none_set unit held vars none) (unset_plain unit vars)
                (subst (λ l. AreBoundTo x marks vars l t at) (unset_same unit marks vars setting.marked) (binds.holds x inc));
            names_for = names_are unit marks c.next d.next vars names setting.marked named.are;
            names_new = new.0;
            stands = adds.stands x at_f;
            lambdas = lambda_nodes x marks base a.next form key (adding vars bound) keys lams setting spot.base_first scoped inside (made.holds cps origins at_b base);
            sets = sets_from x marks base d.next form key (adding names (adding_assigned unit vars held)) vars names behind start setting first_d new.1 (sets.holds x at_e);
            body_as = child x marks base a.next b.next form key body (adding vars bound) (adding vars held) k start (done.holds cps origins at_c base) done.below up_b setting spot.base_first scoped_body inside
                (outer_own unit base a.next form key vars held own helds) (goes_inside x marks base a.next form key vars held k setting own goes);
          };
    }
