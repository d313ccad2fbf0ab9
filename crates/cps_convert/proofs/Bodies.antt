-- The steps of the conversion of LAMBDAs, CATCHes and BLOCKs.
use Rattle.std.proofs.Common.{◌≡◌, ℕ, zero, suc, ◌≤◌, ◌⊎◌, Bool, true, false, List, [], ◌∷◌, length, Some, slice_get, Contains, refl, sym, ap, ◌∙◌, subst, arith, inl, inr}
use Rattle.std.proofs.lemmas.Bool.{true≢false, eqb-true}
use Rattle.t_base.specs.declared.basics.Var.{Var}
use Rattle.t_core.specs.declared.forms.Core.{Core}
use Rattle.t_core.specs.declared.forms.Core.TheVariants as Node
use Rattle.t_core.specs.declared.forms.UnitCore.{UnitCore}
use Rattle.t_core.specs.Nodes.{binders_of}
use Rattle.t_meaning.specs.Programs.{node_at}
use Rattle.expand_laws.proofs.Standing.{StandsOnce, once_within}
use Rattle.cps_ir.specs.declared.args.Arg.{Arg}
use Rattle.cps_ir.specs.declared.terms.Cont.{Cont}
use Rattle.cps_ir.specs.declared.terms.Cont.TheVariants as Continuation
use Rattle.cps_ir.specs.declared.terms.Lam.{Lam}
use Rattle.cps_ir.specs.Reaches.{is_in}
use Rattle.cps_conversion.specs.Conversion.{Translation, LambdaAt, LambdaFor, ConvertsWithin, adding, variables}
use Rattle.cps_conversion.proofs.Scopes.{in_cases}
use Rattle.cps_convert.specs.declared.conversion.Conversion.{Conversion}
use Rattle.cps_convert.specs.Growing.{AddsProcedure, TakesNew}
use Rattle.cps_convert.specs.Claims.{IsBinder, Setting, AreOuter, AreOwn, IsScopedIn, GoesTo, Converted, LamConverted, translation}
use Rattle.cps_convert.specs.Naming.{AreNames, AreNamed, BindsAll}
use Rattle.cps_convert.specs.Kinds.{GivesAs, Given, LambdaIs, LambdaMade, KindConverted}
use Rattle.cps_convert.proofs.Listing.{grows_more}
use Rattle.cps_convert.proofs.Spots.{are_more, outer_adding, child, opened}
use Rattle.cps_convert.proofs.Own.{form_of, once_in_form, none_held, named_set, names_new, names_plain, assigned_from}

-- ---- variables of a node

in_adding_where : (vars : List Var) (n : ℕ) (held : List ℕ) → is_in (adding vars held) n ≡ true → ((j : ℕ) × (w : Var) × (slice_get vars j ≡ Some w) × (w.0 ≡ n)) ⊎ (is_in held n ≡ true)
in_adding_where [] n held e = inr e
in_adding_where (v ∷ vars) n held e =
    elim (in_adding_where vars n (v.0 ∷ held) e) [
      | inl h ↦ inl (suc h.0, h.1, h.2, h.3)
      | inr h ↦ elim (in_cases v.0 n held h) [ inl s ↦ inl (0, v, refl, eqb-true v.0 n s) | inr r ↦ inr r.1 ]
    ]

own_from : (unit : UnitCore) (form key : ℕ) (vars : List Var) → ((i : ℕ) (v : Var) → slice_get vars i ≡ Some v → IsBinder unit form key v.0) → ((v : Var) → StandsOnce vars v) → AreOwn unit form key vars
own_from unit form key [] f once = tt
own_from unit form key (v ∷ vars) f once =
    (f 0 v refl, by (is_in (adding vars []) v.0) refl, own_from unit form key vars (λ i w e. f (suc i) w e) (λ w i j p q. let e : suc i ≡ suc j = once w (suc i) (suc j) p q in omega arith))
  where
    twice : (j : ℕ) (w : Var) → slice_get vars j ≡ Some w → w.0 ≡ v.0 → ⊥
    twice j w at e = let same : w ≡ v = ap (λ n. record { 0 = n }) e in let far : 0 ≡ suc j = once v 0 (suc j) refl (subst (λ z. slice_get vars j ≡ Some z) same at) in omega (arith, far)

    none : ((j : ℕ) × (w : Var) × (slice_get vars j ≡ Some w) × (w.0 ≡ v.0)) ⊎ (false ≡ true) → ⊥
    none (inl h) = twice h.0 h.1 h.2 h.3
    none (inr e) = true≢false (sym e)

    by : (b : Bool) → is_in (adding vars []) v.0 ≡ b → is_in (adding vars []) v.0 ≡ false
    by true e = absurd (none (in_adding_where vars v.0 [] e))
    by false e = e

-- the variables that a node binds
pub own_all : (unit : UnitCore) (marks : List Bool) (base form key : ℕ) (node : Core) → Setting unit marks base → node_at unit form key ≡ Some node → AreOwn unit form key (binders_of node)
own_all unit marks base form key node setting there =
    let f = form_of unit form key node there in
    own_from unit form key (binders_of node) (λ i v e. record { node = node; place = i; var = v; there = there; binds = e; number = refl })
    (λ v. once_within binders_of f.0.nodes.items key node v (once_in_form unit marks base form f.0 v setting f.1) f.2)

own_contains : (unit : UnitCore) (form key : ℕ) (vars : List Var) (v : Var) → AreOwn unit form key vars → Contains vars v → IsBinder unit form key v.0
own_contains unit form key [] v own c = absurd (omega (arith, c.1))
own_contains unit form key (w ∷ vars) v own (zero, below, e) = subst (λ z. IsBinder unit form key z.0) e own.0
own_contains unit form key (w ∷ vars) v own (suc i, below, e) = own_contains unit form key vars v own.2 (i, omega (arith, below), e)

pub outer_own : (unit : UnitCore) (base next form key : ℕ) (vars : List Var) (held : List ℕ) → AreOwn unit form key vars → AreOuter unit base next form key held → AreOuter unit base next form key (adding vars held)
outer_own unit base next form key vars held own outs = outer_adding unit base next form key vars held (λ v c. inr (key, omega arith, own_contains unit form key vars v own c)) outs

-- ---- LAMBDAs

names_grow : (marks : List Bool) (next after : ℕ) (vars names : List Var) → AreNames marks next after vars names → length vars ≡ length (variables names)
names_grow marks next after [] [] h = refl
names_grow marks next after (v ∷ vars) (y ∷ names) h = let e = names_grow marks h.0 after vars names h.2 in omega (arith, e)
names_grow marks next after [] (y ∷ names) h = absurd h
names_grow marks next after (v ∷ vars) [] h = absurd h

pub lam_converted : (unit : UnitCore) (marks : List Bool) (form : ℕ) (a b c d e : Conversion) (key : ℕ) (params names : List Var) (body : ℕ) (k : Var) (args : List Arg) (first start : ℕ) → AreNamed a b marks params names → TakesNew b c k
    → Converted unit marks form c d key body (Continuation.Var k) first → args ≡ variables names → (length params ≡ length args → BindsAll d e marks params args first start)
    → LamConverted unit marks form a e key params body (record { params = names; k = k; body = start })
lam_converted unit marks form a b c d e key params names body k args first start named fresh done are binds =
    let all : BindsAll d e marks params (variables names) first start =
    subst (λ l. BindsAll d e marks params l first start) are (binds (names_grow marks a.next b.next params names named.are ∙ ap length (sym are))) in
    record {
      grows = grows_more a b e named.grows (grows_more b c e fresh.grows (grows_more c d e done.grows all.grows));
      holds = λ cps origins inc base setting start_at bound own scoped outs.
          let x = translation unit cps origins in
          let outs_here = are_more unit base a.next a.next form (suc key) key (omega arith) (omega arith) bound outs in
          let inside = outer_own unit base a.next form key params bound own outs_here in
          record {
            start = first;
            names_new = names_new x marks base a.next b.next form key params names bound setting start_at outs_here own (none_held unit marks base a.next form key bound params setting outs own) named.are;
            assigned = assigned_from x marks form key (adding names bound) params (variables names) start first setting.marked own
                (named_set unit marks base a.next b.next params names bound params setting start_at named.are (none_held unit marks base a.next form key bound params setting outs own))
                (names_plain unit marks a.next b.next params names setting.marked named.are) (all.holds x inc);
            body_as = child x marks base a.next c.next form key body (adding params bound) (adding params bound) (Continuation.Var k) first (done.holds cps origins (all.grows.includes x inc) base) done.below
                (omega (arith, named.grows.next, fresh.grows.next)) setting start_at scoped inside inside tt;
          };
    }

pub lambda_made : (unit : UnitCore) (marks : List Bool) (form : ℕ) (a b c : Conversion) (key : ℕ) (params : List Var) (body : ℕ) (lam : Lam) (l : ℕ) → node_at unit form key ≡ Some (Node.Lambda params body)
    → LamConverted unit marks form a b key params body lam → AddsProcedure b c (record { lam = lam; form = form; node = key }) l → LambdaMade unit marks form a c key l
lambda_made unit marks form a b c key params body lam l there made adds = record {
  grows = grows_more a b c made.grows adds.grows;
  holds = λ cps origins inc base.
      let x = translation unit cps origins in
      subst (λ o. LambdaIs x marks base a.next form key o l) (sym there) (lam, adds.behind x inc, adds.stands x inc, made.holds cps origins (adds.grows.includes x inc) base);
}

-- the procedure of a LAMBDA, where the node is in its scope
pub lambda_at : (x : Translation) (marks : List Bool) (base now next form key : ℕ) (bound : List ℕ) (params : List Var) (body l : ℕ) → Setting x.unit marks base → base ≤ now → now ≤ next → node_at x.unit form key ≡ Some (Node.Lambda params body)
    → IsScopedIn x.unit form key bound → AreOuter x.unit base now form (suc key) bound → LambdaIs x marks base next form key (Some (Node.Lambda params body)) l → LambdaAt x (ConvertsWithin x key) form bound key params body l
lambda_at x marks base now next form key bound params body l setting first up there scoped outs h =
    let o = opened x.unit form key bound (Node.Lambda params body) scoped there in
    record {
      lam_at = (h.0, h.2.lam, h.3 setting (omega (arith, first, up)) bound (own_all x.unit marks base form key (Node.Lambda params body) setting there) o.parts.0 (are_more x.unit base now next form (suc key) (suc key) up (omega arith) bound outs));
      behind = h.1;
      origin = h.2.origin;
    }

pub lambda_converted : (unit : UnitCore) (marks : List Bool) (form : ℕ) (a b c : Conversion) (key : ℕ) (params : List Var) (body : ℕ) (k : Cont) (l t : ℕ) → LambdaMade unit marks form a b key l → Given b c k l t
    → KindConverted unit marks form a c key (Node.Lambda params body) k t
lambda_converted unit marks form a b c key params body k l t made given = record {
  grows = grows_more a b c made.grows given.grows;
  holds = λ cps origins inc base there setting bound held spot goes.
      let x = translation unit cps origins in
      by x k (lambda_at x marks base a.next a.next form key bound params body l setting spot.base_first (omega arith) there spot.scoped spot.bound_outer
      (subst (λ o. LambdaIs x marks base a.next form key o l) there (made.holds cps origins (given.grows.includes x inc) base))) base a.next bound held goes (given.holds x inc);
}
  where
    by : (x : Translation) (k : Cont) → {bound' : List ℕ} → LambdaAt x (ConvertsWithin x key) form bound' key params body l → (base next : ℕ) (bound held : List ℕ) → GoesTo x base next form (suc key) held k → GivesAs x k l t
        → LambdaFor x (ConvertsWithin x key) form bound' held key params body k t
    by x (Continuation.Var k) at base next bound held goes gives = (l, at, gives)
    by x (Continuation.Lam v rest) at base next bound held goes gives = (l, goes.0, at, gives)
