-- What holds of a term and of all that it is made of, where these names stand around it and these catches are open.
use Rattle.std.specs.Prelude.{Contains, IsSomeAnd, nat_lt}
use Rattle.std.specs.List.{AllByRecursion, filter_map, cons_option}
use Rattle.std.specs.Option.{option_map, option_and_then}
use Rattle.std.proofs.Common.{◌≡◌, ◌<◌, ℕ, zero, suc, ◌==◌, ◌||◌, Bool, true, false, if◌then◌else◌, List, [], ◌∷◌, ◌++◌, map, Option, Some, None, slice_get, refl, sym, ap, ◌∙◌, subst, arith}
use Rattle.std.proofs.lemmas.Bool.{true≢false, eqb-true}
use Rattle.t_base.specs.declared.basics.Var.{Var}
use Rattle.t_base.specs.declared.shared_parts.Const.{Const}
use Rattle.t_core.specs.declared.forms.Core.{Core}
use Rattle.t_core.specs.declared.forms.Core.TheVariants as Node
use Rattle.t_core.specs.declared.forms.UnitCore.{UnitCore}
use Rattle.t_meaning.specs.Costs.{is_assigned}
use Rattle.cps_ir.specs.declared.args.Arg.{Arg}
use Rattle.cps_ir.specs.declared.args.Arg.TheVariants as Argument
use Rattle.cps_ir.specs.declared.terms.Cont.{Cont}
use Rattle.cps_ir.specs.declared.terms.Cont.TheVariants as Continuation
use Rattle.cps_ir.specs.declared.terms.Lam.{Lam}
use Rattle.cps_ir.specs.declared.terms.Term.{Term}
use Rattle.cps_ir.specs.declared.terms.Term.TheVariants as Step
use Rattle.cps_ir.specs.declared.terms.Cps.{Cps}
use Rattle.cps_ir.specs.Terms.{args_of, cont_of}
use Rattle.cps_ir.specs.Reaches.{is_in}
use Rattle.cps_ir.specs.Parts.{Name, Named, OwnK, named, Part, proc_of, lams_of, lambda_at, lambdas_of, lambda_part, around, behind, own_parts, cont_parts, parts_of, first_lams, arg_variables, cont_variable}
use Rattle.cps_ir.specs.Whole.{HoldsWithin, PlaceIsBound, UsesVariables, open_at, EndsACatch, LeadsOn}
use Rattle.cps_ir.proofs.ProperLists.{some_same, none_some, each_append, each_more, each_of_all, each_of_two}
use Rattle.cps_ir.proofs.Closed.{same_number, parts_same, all_of_each}
use Rattle.cps_walk.specs.Walks.{part_places}
use Rattle.cps_walk.proofs.Walked.{parts_placed}
use Rattle.cps_order.specs.Order.{IsOrdered}
use Rattle.cps_conversion.specs.Conversion.{adding, is_proc, ready_arg, IsBound}

-- ---- scopes

abbrev pub Has : List Name → ℕ → Type 0
Has scope v = Contains scope (Named v)

pub first_of : (n : Name) (scope : List Name) → Contains (n ∷ scope) n
first_of n scope = (0, omega arith, refl)

pub behind_it : (m n : Name) (scope : List Name) → Contains scope n → Contains (m ∷ scope) n
behind_it m n scope c = let lt = c.1 in (suc c.0, omega (arith, lt), c.2)

-- a scope that binds more values, and has the same ways
pub record Extends (scope wide : List Name) : Type 0 where
  pub values : (v : ℕ) → Has scope v → Has wide v
  pub ways : (k : ℕ) → open_at wide k ≡ open_at scope k

pub same_scope : (scope : List Name) → Extends scope scope
same_scope scope = record { values = λ v h. h; ways = λ k. refl }

pub wider : (a b c : List Name) → Extends a b → Extends b c → Extends a c
wider a b c e f = record { values = λ v h. f.values v (e.values v h); ways = λ k. f.ways k ∙ e.ways k }

pub with_value : (scope : List Name) (v : ℕ) → Extends scope (Named v ∷ scope)
with_value scope v = record { values = λ w h. behind_it (Named v) (Named w) scope h; ways = λ k. refl }

pub with_values : (vars : List Var) (scope : List Name) → Extends scope (named vars ++ scope)
with_values [] scope = same_scope scope
with_values (v ∷ vars) scope = wider scope (named vars ++ scope) (Named v.0 ∷ (named vars ++ scope)) (with_values vars scope) (with_value (named vars ++ scope) v.0)

abbrev pub HasAll : List Name → List Var → Type 0
HasAll scope vars = AllByRecursion (λ v. Has scope v.0) vars

pub values_in : (vars : List Var) (scope : List Name) → HasAll (named vars ++ scope) vars
values_in [] scope = tt
values_in (v ∷ vars) scope = (
  first_of (Named v.0) (named vars ++ scope),
  each_more (λ w. Has (named vars ++ scope) w.0) (λ w. Has (Named v.0 ∷ (named vars ++ scope)) w.0) vars (λ w h. behind_it (Named v.0) (Named w.0) (named vars ++ scope) h) (values_in vars scope),
)

pub all_grown : (scope wide : List Name) (vars : List Var) → ((v : ℕ) → Has scope v → Has wide v) → HasAll scope vars → HasAll wide vars
all_grown scope wide vars f h = each_more (λ v. Has scope v.0) (λ v. Has wide v.0) vars (λ v k. f v.0 k) h

-- these variables are bound
abbrev pub HasBound : List Name → List ℕ → Type 0
HasBound scope bound = (v : ℕ) → is_in bound v ≡ true → Has scope v

pub bound_grown : (scope wide : List Name) (bound : List ℕ) → ((v : ℕ) → Has scope v → Has wide v) → HasBound scope bound → HasBound wide bound
bound_grown scope wide bound f b v h = f v (b v h)

pub none_bound : (scope : List Name) → HasBound scope []
none_bound scope v h = absurd (true≢false (sym h))

pub one_bound : (scope : List Name) (v : ℕ) (bound : List ℕ) → Has scope v → HasBound scope bound → HasBound scope (v ∷ bound)
one_bound scope v bound h b w e = by (v == w) refl e (b w)
  where
    by : (c : Bool) → (v == w) ≡ c → (c || is_in bound w) ≡ true → (is_in bound w ≡ true → Has scope w) → Has scope w
    by true q e go = subst (Has scope) (eqb-true v w q) h
    by false q e go = go e

pub all_bound : (scope : List Name) (vars : List Var) (bound : List ℕ) → HasAll scope vars → HasBound scope bound → HasBound scope (adding vars bound)
all_bound scope [] bound h b = b
all_bound scope (v ∷ vars) bound h b = all_bound scope vars (v.0 ∷ bound) h.1 (one_bound scope v.0 bound h.0 b)

pub own_way : (vars : List Var) (k : ℕ) (scope : List Name) → open_at (named vars ++ OwnK k ∷ scope) k ≡ Some []
own_way [] k scope = ap (λ b. if b then Some [] else None) (same_number k k refl)
own_way (v ∷ vars) k scope = own_way vars k scope

module _ (unit : UnitCore) where
  -- ---- arguments

  -- a variable that no SET assigns
  abbrev pub IsFree : Var → Type 0
  IsFree v = is_assigned unit v ≡ false

  abbrev pub AreFree : List Var → Type 0
  AreFree vars = AllByRecursion IsFree vars

  -- a variable that is bound and that no SET assigns; no procedure
  abbrev pub ArgIn : List Name → Arg → Type 0
  ArgIn scope (Argument.Var v) = Has scope v.0 × IsFree v
  ArgIn scope (Argument.Proc l) = ⊥
  ArgIn scope _ = Unit {0}

  pub arg_grown : (scope wide : List Name) (a : Arg) → ((v : ℕ) → Has scope v → Has wide v) → ArgIn scope a → ArgIn wide a
  arg_grown scope wide (Argument.Const c) f h = tt
  arg_grown scope wide (Argument.Var v) f h = (f v.0 h.0, h.1)
  arg_grown scope wide (Argument.Proc l) f h = absurd h
  arg_grown scope wide (Argument.Global g) f h = tt
  arg_grown scope wide (Argument.Builtin b) f h = tt
  arg_grown scope wide (Argument.Op o) f h = tt

  pub args_grown : (scope wide : List Name) (args : List Arg) → ((v : ℕ) → Has scope v → Has wide v) → AllByRecursion (ArgIn scope) args → AllByRecursion (ArgIn wide) args
  args_grown scope wide args f h = each_more (ArgIn scope) (ArgIn wide) args (λ a k. arg_grown scope wide a f k) h

  pub args_named : (scope : List Name) (args : List Arg) → AllByRecursion (ArgIn scope) args → AllByRecursion (Has scope) (arg_variables args)
  args_named scope [] h = tt
  args_named scope (Argument.Const c ∷ args) h = args_named scope args h.1
  args_named scope (Argument.Var v ∷ args) h = (h.0.0, args_named scope args h.1)
  args_named scope (Argument.Proc l ∷ args) h = absurd h.0
  args_named scope (Argument.Global g ∷ args) h = args_named scope args h.1
  args_named scope (Argument.Builtin b ∷ args) h = args_named scope args h.1
  args_named scope (Argument.Op o ∷ args) h = args_named scope args h.1

  pub no_procs : (Q : ℕ → Type 0) (scope : List Name) (args : List Arg) → AllByRecursion (ArgIn scope) args → AllByRecursion Q (filter_map proc_of args)
  no_procs Q scope [] h = tt
  no_procs Q scope (Argument.Const c ∷ args) h = no_procs Q scope args h.1
  no_procs Q scope (Argument.Var v ∷ args) h = no_procs Q scope args h.1
  no_procs Q scope (Argument.Proc l ∷ args) h = absurd h.0
  no_procs Q scope (Argument.Global g ∷ args) h = no_procs Q scope args h.1
  no_procs Q scope (Argument.Builtin b ∷ args) h = no_procs Q scope args h.1
  no_procs Q scope (Argument.Op o ∷ args) h = no_procs Q scope args h.1

  pub variables_in : (scope : List Name) (vars : List Var) → HasAll scope vars → AreFree vars → AllByRecursion (ArgIn scope) (map Argument.Var vars)
  variables_in scope [] h f = tt
  variables_in scope (v ∷ vars) h f = ((h.0, f.0), variables_in scope vars h.1 f.1)

  -- ---- assigned variables

  abbrev pub IsFreeArg : Arg → Type 0
  IsFreeArg (Argument.Var v) = IsFree v
  IsFreeArg _ = Unit {0}

  abbrev pub AreFreeArgs : List Arg → Type 0
  AreFreeArgs args = AllByRecursion IsFreeArg args

  pub arg_free : (scope : List Name) (a : Arg) → ArgIn scope a → IsFreeArg a
  arg_free scope (Argument.Const c) h = tt
  arg_free scope (Argument.Var v) h = h.1
  arg_free scope (Argument.Proc l) h = tt
  arg_free scope (Argument.Global g) h = tt
  arg_free scope (Argument.Builtin b) h = tt
  arg_free scope (Argument.Op o) h = tt

  pub args_free : (scope : List Name) (args : List Arg) → AllByRecursion (ArgIn scope) args → AreFreeArgs args
  args_free scope args h = each_more (ArgIn scope) IsFreeArg args (λ a k. arg_free scope a k) h

  abbrev pub IsFreeCont : Cont → Type 0
  IsFreeCont (Continuation.Var k) = Unit {0}
  IsFreeCont (Continuation.Lam v body) = IsFree v

  -- what a continuation binds to an assigned variable is no assigned one
  abbrev pub GivesAlone : Cont → Arg → Type 0
  GivesAlone (Continuation.Var k) a = Unit {0}
  GivesAlone (Continuation.Lam v body) a = is_assigned unit v ≡ true → IsFreeArg a

  -- A term binds and uses no assigned variable, but for a Give. The k of a Join isn't meant. There are no cells.
  abbrev pub StandsAlone : Term → Type 0
  StandsAlone (Step.Call f args k) = AreFreeArgs (f ∷ args) × IsFreeCont k
  StandsAlone (Step.Prim b args k) = AreFreeArgs args × IsFreeCont k
  StandsAlone (Step.If test a b) = AreFreeArgs (test ∷ [])
  StandsAlone (Step.Labels vars lams body) = AreFree vars
  StandsAlone (Step.Join j v body rest) = IsFree v
  StandsAlone (Step.Give k a) = GivesAlone k a
  StandsAlone (Step.Set v a k) = AreFreeArgs (a ∷ []) × IsFreeCont k
  StandsAlone (Step.Cell v a rest) = ⊥
  StandsAlone (Step.CellGet v k) = ⊥
  StandsAlone (Step.CellSet v a k) = ⊥
  StandsAlone (Step.GlobalGet g k) = IsFreeCont k
  StandsAlone (Step.GlobalInit g a k) = AreFreeArgs (a ∷ []) × IsFreeCont k
  StandsAlone (Step.GlobalSet g a k) = AreFreeArgs (a ∷ []) × IsFreeCont k
  StandsAlone (Step.Catch escape body k) = IsFree escape × IsFreeCont k
  StandsAlone (Step.Uncatch k a) = AreFreeArgs (a ∷ []) × IsFreeCont k
  StandsAlone (Step.Object a ops lams k) = AreFreeArgs (a ∷ []) × IsFreeCont k
  StandsAlone (Step.Halt a) = AreFreeArgs (a ∷ [])

  pub name_in : {X : Type 0} (scope : List Name) (f : X → Const) (o : Option X) (a : Arg) → option_map (λ i. Argument.Const (f i)) o ≡ Some a → ArgIn scope a
  name_in scope f None a e = none_some a e
  name_in scope f (Some i) a e = subst (ArgIn scope) (some_same (Argument.Const (f i)) a e) tt

  -- an argument that stands for a node that is ready
  pub ready_in : (scope : List Name) (bound : List ℕ) (node : Option Core) (a : Arg) → HasBound scope bound → option_and_then (ready_arg unit) node ≡ Some a → IsBound bound a → ArgIn scope a
  ready_in scope bound node a b e is = by node e is
    where
      same : (c : Arg) → Some c ≡ Some a → ArgIn scope c → ArgIn scope a
      same c e h = subst (ArgIn scope) (some_same c a e) h

      unset_var : (c : Bool) (v : Var) → is_assigned unit v ≡ c → (if c then None else Some (Argument.Var v)) ≡ Some a → IsBound bound a → ArgIn scope a
      unset_var true v q e is = none_some a e
      unset_var false v q e is = same (Argument.Var v) e (b v.0 (subst (IsBound bound) (sym (some_same (Argument.Var v) a e)) is), q)

      defined : (c : Bool) (g : ℕ) → (if c then Some (Argument.Global g) else None) ≡ Some a → ArgIn scope a
      defined true g e = same (Argument.Global g) e tt
      defined false g e = none_some a e

      by : (node : Option Core) → option_and_then (ready_arg unit) node ≡ Some a → IsBound bound a → ArgIn scope a
      by None e is = none_some a e
      by (Some (Node.Const c)) e is = same (Argument.Const c) e tt
      by (Some (Node.Local v)) e is = unset_var (is_assigned unit v) v refl e is
      by (Some (Node.Global g)) e is = defined (is_proc unit g) g e
      by (Some (Node.Builtin p)) e is = same (Argument.Builtin p) e tt
      by (Some (Node.Op o)) e is = same (Argument.Op o) e tt
      by (Some (Node.Lambda params body)) e is = none_some a e
      by (Some (Node.If test first second)) e is = none_some a e
      by (Some (Node.Block items)) e is = none_some a e
      by (Some (Node.Let vars values body)) e is = none_some a e
      by (Some (Node.Labels vars lambdas body)) e is = none_some a e
      by (Some (Node.SetLocal v value)) e is = none_some a e
      by (Some (Node.SetGlobal g value)) e is = none_some a e
      by (Some (Node.Catch v body)) e is = none_some a e
      by (Some (Node.Object proc methods)) e is = none_some a e
      by (Some (Node.Call operator operands tail)) e is = none_some a e
      by (Some (Node.Prim p operands)) e is = none_some a e

-- ---- terms

-- no SET assigns a parameter of the procedure at a place
abbrev pub HasFree : UnitCore → Cps → ℕ → Type 0
HasFree unit cps l = (lam : Lam) → slice_get cps.lams.items l ≡ Some lam → AreFree unit lam.params

-- a term uses what is bound, and leads on; and assigned variables stand alone
pub record Fine (unit : UnitCore) (cps : Cps) (scope : List Name) (catches : List ℕ) (term : Term) : Type 0 where
  pub uses : UsesVariables scope catches term
  pub leads : LeadsOn scope catches term
  pub alone : StandsAlone unit term
  pub lams : AllByRecursion (HasFree unit cps) (lams_of term)

each_mapped : {X Y : Type 0} (Q : Y → Type 0) (f : X → Y) (xs : List X) → AllByRecursion Q (map f xs) → AllByRecursion (λ y. Q (f y)) xs
each_mapped Q f [] h = tt
each_mapped Q f (y ∷ xs) h = (h.0, each_mapped Q f xs h.1)

module _ (unit : UnitCore) (cps : Cps) (ordered : IsOrdered cps) where
  pub record Good (scope : List Name) (catches : List ℕ) (t : ℕ) : Type 0 where
    pub each : (depth : ℕ) → t < depth → HoldsWithin (Fine unit cps) cps depth scope catches t

  abbrev pub GoodPart : List Name → Part → Type 0
  GoodPart scope p = Good (p.binds ++ scope) p.catches p.at

  parts_below : (catches : List ℕ) (t : ℕ) (term : Term) → slice_get cps.terms.items t ≡ Some term → AllByRecursion (λ (p : Part). p.at < t) (parts_of cps catches term)
  parts_below catches t term e =
      parts_same (λ bound at. at < t) cps [] catches term
      (each_mapped (λ u. u < t) (λ (p : Part). p.at) (parts_of cps [] term)
      (subst (AllByRecursion (λ u. u < t)) (sym (parts_placed cps term)) (each_of_all (λ u. u < t) (part_places cps term) (ordered.lower t term e))))

  good_of : (scope : List Name) (catches : List ℕ) (t : ℕ) (term : Term) → slice_get cps.terms.items t ≡ Some term → Fine unit cps scope catches term → AllByRecursion (GoodPart scope) (parts_of cps catches term) → Good scope catches t
  unfolding HoldsWithin
  good_of scope catches t term e fine parts = record { each = by }
    where
      by : (depth : ℕ) → t < depth → HoldsWithin (Fine unit cps) cps depth scope catches t
      by zero lt = absurd (omega (arith, lt))
      by (suc depth) lt =
          subst (λ o. IsSomeAnd o (λ s. Fine unit cps scope catches s × AllByRecursion (λ p. HoldsWithin (Fine unit cps) cps depth (p.binds ++ scope) p.catches p.at) (parts_of cps catches s))) (sym e) (
            fine,
            each_of_two (GoodPart scope) (λ (p : Part). p.at < t) (λ p. HoldsWithin (Fine unit cps) cps depth (p.binds ++ scope) p.catches p.at) (parts_of cps catches term) (λ p g low. g.each depth (omega (arith, low, lt))) parts (parts_below catches t term e),
          )

  -- a procedure that a term names, where these names stand around it too
  pub record GoodLam (scope names : List Name) (l : ℕ) : Type 0 where
    pub free : HasFree unit cps l
    pub body : (lam : Lam) → slice_get cps.lams.items l ≡ Some lam → Good ((named lam.params ++ OwnK lam.k.0 ∷ names) ++ scope) [] lam.body

  lams_good : (scope names : List Name) (ls : List ℕ) → AllByRecursion (GoodLam scope names) ls → AllByRecursion (GoodPart scope) (map (lambda_part names) (filter_map (lambda_at cps) ls))
  lams_good scope names [] h = tt
  lams_good scope names (l ∷ ls) h = by (nat_lt l (first_lams cps)) (slice_get cps.lams.items l) refl (lams_good scope names ls h.1)
    where
      by : (b : Bool) (o : Option Lam) → slice_get cps.lams.items l ≡ o → AllByRecursion (GoodPart scope) (map (lambda_part names) (filter_map (lambda_at cps) ls)) → AllByRecursion (GoodPart scope) (map (lambda_part names) (cons_option (if b then None else o) (filter_map (lambda_at cps) ls)))
      by true o e rest = rest
      by false None e rest = rest
      by false (Some lam) e rest = (h.0.body lam e, rest)

  -- ---- continuations

  -- the continuation leads on wherever more values are bound
  abbrev pub GoodCont : List Name → List ℕ → Cont → Type 0
  GoodCont scope catches (Continuation.Var k) = open_at scope k.0 ≡ Some catches
  GoodCont scope catches (Continuation.Lam v body) = IsFree unit v × ((wide : List Name) → Extends scope wide → Good (Named v.0 ∷ wide) catches body)

  pub cont_grown : (scope wide : List Name) (catches : List ℕ) (k : Cont) → Extends scope wide → GoodCont scope catches k → GoodCont wide catches k
  cont_grown scope wide catches (Continuation.Var k) e g = e.ways k.0 ∙ g
  cont_grown scope wide catches (Continuation.Lam v body) e g = (g.0, λ more f. g.1 more (wider scope wide more e f))

  pub cont_good : (scope : List Name) (catches : List ℕ) (k : Cont) → GoodCont scope catches k → AllByRecursion (GoodPart scope) (cont_parts catches (Some k))
  cont_good scope catches (Continuation.Var k) g = tt
  cont_good scope catches (Continuation.Lam v body) g = (g.1 scope (same_scope scope), tt)

  pub cont_leads : (scope : List Name) (catches : List ℕ) (k : Cont) → GoodCont scope catches k → AllByRecursion (λ j. open_at scope j ≡ Some catches) (cont_variable (Some k))
  cont_leads scope catches (Continuation.Var k) g = (g, tt)
  cont_leads scope catches (Continuation.Lam v body) g = tt

  -- ---- terms over arguments

  abbrev Ways : List Name → List ℕ → Term → Type 0
  Ways scope catches term = AllByRecursion (λ k. open_at scope k ≡ Some (behind catches term)) (cont_variable (cont_of term))

  fine_of : (scope : List Name) (catches : List ℕ) (term : Term) → AllByRecursion (Has scope) (arg_variables (args_of term)) → PlaceIsBound scope term → Ways scope catches term → EndsACatch catches term → StandsAlone unit term → AllByRecursion (HasFree unit cps) (lams_of term) → Fine unit cps scope catches term
  fine_of scope catches term args place ways ends alone lams = record {
    uses = record { args = all_of_each (Has scope) (arg_variables (args_of term)) args; place = place };
    leads = record { conts = all_of_each (λ k. open_at scope k ≡ Some (behind catches term)) (cont_variable (cont_of term)) ways; ends = ends };
    alone = alone;
    lams = lams;
  }

  -- a term that is made: what it uses, its procedures, its parts
  pub made : (scope : List Name) (catches : List ℕ) (t : ℕ) (term : Term) → slice_get cps.terms.items t ≡ Some term → AllByRecursion (Has scope) (arg_variables (args_of term)) → PlaceIsBound scope term → Ways scope catches term → EndsACatch catches term → StandsAlone unit term
      → AllByRecursion (GoodLam scope (around term)) (lams_of term) → AllByRecursion (GoodPart scope) (own_parts catches term) → Good scope catches t
  made scope catches t term e args place ways ends alone lams own =
      good_of scope catches t term e (fine_of scope catches term args place ways ends alone (each_more (GoodLam scope (around term)) (HasFree unit cps) (lams_of term) (λ l g. g.free) lams))
      (each_append (GoodPart scope) (map (lambda_part (around term)) (lambdas_of cps term)) (own_parts catches term) (lams_good scope (around term) (lams_of term) lams) own)

  pub cont_free : (scope : List Name) (catches : List ℕ) (k : Cont) → GoodCont scope catches k → IsFreeCont unit k
  cont_free scope catches (Continuation.Var k) g = tt
  cont_free scope catches (Continuation.Lam v body) g = g.0

  pub give_alone : (k : Cont) (a : Arg) → IsFreeCont unit k → GivesAlone unit k a
  give_alone (Continuation.Var k) a h = tt
  give_alone (Continuation.Lam v body) a h = λ e. absurd (true≢false (sym e ∙ h))

  -- a value that is no procedure goes to a continuation
  pub give_good : (scope : List Name) (catches : List ℕ) (t : ℕ) (k : Cont) (a : Arg) → slice_get cps.terms.items t ≡ Some (Step.Give k a) → AllByRecursion (Has scope) (arg_variables (a ∷ [])) → AllByRecursion (GoodLam scope []) (filter_map proc_of (a ∷ [])) → GoodCont scope catches k → Good scope catches t
  give_good scope catches t k a e h p g =
      made scope catches t (Step.Give k a) e h tt (cont_leads scope catches k g) tt (give_alone k a (cont_free scope catches k g)) p (cont_good scope catches k g)

  -- an assigned variable is bound
  pub bind_good : (scope : List Name) (catches : List ℕ) (t : ℕ) (v : Var) (rest : ℕ) (a : Arg) → slice_get cps.terms.items t ≡ Some (Step.Give (Continuation.Lam v rest) a) → ArgIn unit scope a → Good (Named v.0 ∷ scope) catches rest → Good scope catches t
  bind_good scope catches t v rest a e h g =
      made scope catches t (Step.Give (Continuation.Lam v rest) a) e (args_named unit scope (a ∷ []) (h, tt)) tt tt tt (λ q. arg_free unit scope a h) (no_procs unit (GoodLam scope []) scope (a ∷ []) (h, tt)) (g, tt)
