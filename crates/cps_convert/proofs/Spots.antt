-- What the parts of a node need, from what the node has.
use Rattle.std.proofs.Common.{◌≡◌, ℕ, zero, suc, ◌<◌, ◌≤◌, Bool, true, false, List, [], ◌∷◌, ◌++◌, Option, Some, None, slice_get, Contains, IsSomeAnd, option_and_then, if◌then◌else◌, refl, sym, ap, ◌∙◌, subst, arith, inl, inr}
use Rattle.std.proofs.lemmas.Bool.{eqb-true}
use Rattle.std.proofs.lemmas.List.Elements.{Contains-append_cases}
use Rattle.std.specs.List.{AllByRecursion}
use Rattle.std.specs.Option.{option_map_or}
use Rattle.t_base.specs.declared.basics.Var.{Var}
use Rattle.t_core.specs.declared.forms.Core.{Core}
use Rattle.t_core.specs.declared.forms.Core.TheVariants as Node
use Rattle.t_core.specs.declared.forms.Form.{Form}
use Rattle.t_core.specs.declared.forms.UnitCore.{UnitCore}
use Rattle.t_core.specs.Nodes.{Part, parts_of}
use Rattle.t_core.specs.Whole.{IsInPlace, IsScopedWithin}
use Rattle.t_meaning.specs.Programs.{node_at}
use Rattle.t_meaning.specs.Costs.{is_assigned}
use Rattle.cps_ir.specs.declared.args.Arg.{Arg}
use Rattle.cps_ir.specs.declared.args.Arg.TheVariants as Argument
use Rattle.cps_ir.specs.declared.terms.Cont.{Cont}
use Rattle.cps_ir.specs.declared.terms.Cont.TheVariants as Continuation
use Rattle.cps_ir.specs.declared.terms.Term.{Term}
use Rattle.cps_ir.specs.Reaches.{is_in}
use Rattle.cps_conversion.specs.Conversion.{Translation, Converting, Stands, IsNew, IsBound, Values, nowhere, OverAll, ConvertsWithin, adding, is_proc, ready_arg}
use Rattle.cps_conversion.proofs.Scopes.{in_here, in_cases, in_adding}
use Rattle.cps_conversion.proofs.Deeper.{converts_deeper}
use Rattle.cps_convert.specs.declared.operands.Job.{Job}
use Rattle.cps_convert.specs.Operands.{ready_of, IsOperand, AreOperands, vars_of, Evaluates, CanEvaluate, JobsClaim}
use Rattle.cps_convert.specs.Claims.{Setting, IsOuter, AreOuter, IsScopedIn, nodes_of, GoesTo, NodeClaim}

-- ---- outer variables

pub outer_more : (unit : UnitCore) (base next more form least less : ℕ) → next ≤ more → less ≤ least → (v : ℕ) → IsOuter unit base next form least v → IsOuter unit base more form less v
outer_more unit base next more form least less up down v (inl h) = inl (h.0, omega (arith, up, h.1))
outer_more unit base next more form least less up down v (inr h) = inr (h.0, omega (arith, down, h.1), h.2)

pub are_more : (unit : UnitCore) (base next more form least less : ℕ) → next ≤ more → less ≤ least → (held : List ℕ) → AreOuter unit base next form least held → AreOuter unit base more form less held
are_more unit base next more form least less up down held h v e = outer_more unit base next more form least less up down v (h v e)

pub outer_cons : (unit : UnitCore) (base next form least v : ℕ) (held : List ℕ) → IsOuter unit base next form least v → AreOuter unit base next form least held → AreOuter unit base next form least (v ∷ held)
outer_cons unit base next form least v held o h w e =
    elim (in_cases v w held e) [ inl s ↦ subst (IsOuter unit base next form least) (eqb-true v w s) o | inr r ↦ h w r.1 ]

pub outer_adding : (unit : UnitCore) (base next form least : ℕ) (vars : List Var) (held : List ℕ) → ((v : Var) → Contains vars v → IsOuter unit base next form least v.0) → AreOuter unit base next form least held
    → AreOuter unit base next form least (adding vars held)
outer_adding unit base next form least [] held f h = h
outer_adding unit base next form least (v ∷ vars) held f h =
    outer_adding unit base next form least vars (v.0 ∷ held) (λ w c. f w (suc c.0, omega (arith, c.1), c.2)) (outer_cons unit base next form least v.0 held (f v (0, omega arith, refl)) h)

-- ---- new variables

pub fresh_apart : (unit : UnitCore) (marks : List Bool) (base next form least v : ℕ) (held : List ℕ) → Setting unit marks base → base ≤ next → next ≤ v → AreOuter unit base next form least held → is_in held v ≡ false
fresh_apart unit marks base next form least v held setting first new h = by (is_in held v) refl
  where
    none : IsOuter unit base next form least v → ⊥
    none (inl o) = omega (arith, new, o.1)
    none (inr o) = let below : v < base = setting.binders form o.0 v o.2 in omega (arith, below, first, new)

    by : (b : Bool) → is_in held v ≡ b → is_in held v ≡ false
    by true e = absurd (none (h v e))
    by false e = e

pub fresh_unassigned : (unit : UnitCore) (marks : List Bool) (base : ℕ) (v : Var) → Setting unit marks base → base ≤ v.0 → is_assigned unit v ≡ false
fresh_unassigned unit marks base v setting first = by (is_assigned unit v) refl
  where
    by : (b : Bool) → is_assigned unit v ≡ b → is_assigned unit v ≡ false
    by true e = let below : v.0 < base = setting.assigned v e in absurd (omega (arith, below, first))
    by false e = e

pub fresh_new : (x : Translation) (marks : List Bool) (base next form least : ℕ) (v : Var) (held : List ℕ) → Setting x.unit marks base → base ≤ next → next ≤ v.0 → AreOuter x.unit base next form least held → IsNew x held v
fresh_new x marks base next form least v held setting first new h = record {
  apart = fresh_apart x.unit marks base next form least v.0 held setting first new h;
  unassigned = fresh_unassigned x.unit marks base v setting (omega (arith, first, new));
}

-- ---- parts

node_there : (unit : UnitCore) (form key : ℕ) (node : Core) → node_at unit form key ≡ Some node → slice_get (nodes_of unit form) key ≡ Some node
node_there unit form key node h = by (slice_get unit.forms.items form) h
  where
    by : (o : Option Form) → option_and_then (λ f. slice_get f.nodes.items key) o ≡ Some node → slice_get (option_map_or (λ f. f.nodes.items) o []) key ≡ Some node
    by None e = cc
    by (Some f) e = e

pub goes_more : (x : Translation) (base next more form least less : ℕ) → next ≤ more → less ≤ least → (held : List ℕ) (k : Cont) → GoesTo x base next form least held k → GoesTo x base more form less held k
goes_more x base next more form least less up down held (Continuation.Var k) h = tt
goes_more x base next more form least less up down held (Continuation.Lam param body) h = (h.0, outer_more x.unit base next more form least less up down param.0 h.1)

-- a part of the node at `key` is converted, as deep as the node's parts are
pub child : (x : Translation) (marks : List Bool) (base now next form key c : ℕ) (bound held : List ℕ) (k : Cont) (t : ℕ) → NodeClaim x marks base next form c k t → c < key → now ≤ next → Setting x.unit marks base
    → base ≤ now → IsScopedIn x.unit form c bound → AreOuter x.unit base now form key bound → AreOuter x.unit base now form key held → GoesTo x base now form key held k
    → ConvertsWithin x key form bound held c k t
child x marks base now next form key c bound held k t claim below grown setting first scoped bounds helds goes =
    converts_deeper x (suc c) key (omega (arith, below)) form bound held c k t
    (claim setting bound held (record {
      base_first = omega (arith, first, grown);
      scoped = scoped;
      bound_outer = are_more x.unit base now next form key (suc c) grown (omega (arith, below)) bound bounds;
      held_outer = are_more x.unit base now next form key (suc c) grown (omega (arith, below)) held helds;
    }) (goes_more x base now next form key (suc c) grown (omega (arith, below)) held k goes))

in_adding_var : (vars : List Var) (w : Var) (held : List ℕ) → Contains vars w → is_in (adding vars held) w.0 ≡ true
in_adding_var [] w held c = absurd (omega (arith, c.1))
in_adding_var (v ∷ vars) w held (zero, below, e) = in_adding vars w.0 (v.0 ∷ held) (subst (λ n. is_in (n ∷ held) w.0 ≡ true) (ap (λ y. y.0) (sym e)) (in_here w.0 held))
in_adding_var (v ∷ vars) w held (suc i, below, e) = in_adding_var vars w (v.0 ∷ held) (i, omega (arith, below), e)

scoped_binds : (binds scope : List Var) (bound : List ℕ) → ((v : Var) → Contains scope v → is_in bound v.0 ≡ true) → (v : Var) → Contains (binds ++ scope) v → is_in (adding binds bound) v.0 ≡ true
scoped_binds binds scope bound f v c = elim (Contains-append_cases binds scope v c) [ inl h ↦ in_adding_var binds v bound h | inr h ↦ in_adding binds v.0 bound (f v h) ]

-- the node itself, in its scope, and its parts
pub record Opened (unit : UnitCore) (form : ℕ) (bound : List ℕ) (node : Core) : Type 0 where
  pub scope : List Var
  pub tail : Bool
  pub binds : (v : Var) → Contains scope v → is_in bound v.0 ≡ true
  pub place : IsInPlace scope tail node
  pub parts : AllByRecursion (λ p. IsScopedIn unit form p.at (adding p.binds bound)) (parts_of node tail)

each_part : (unit : UnitCore) (form depth : ℕ) (scope : List Var) (bound : List ℕ) → ((v : Var) → Contains scope v → is_in bound v.0 ≡ true) → (parts : List Part)
    → AllByRecursion (λ p. IsScopedWithin (nodes_of unit form) depth (p.binds ++ scope) p.tail p.at) parts → AllByRecursion (λ p. IsScopedIn unit form p.at (adding p.binds bound)) parts
each_part unit form depth scope bound f [] h = tt
each_part unit form depth scope bound f (p ∷ parts) h =
    (record { depth = depth; scope = p.binds ++ scope; tail = p.tail; within = h.0; binds = scoped_binds p.binds scope bound f }, each_part unit form depth scope bound f parts h.1)

opened_at : (unit : UnitCore) (form key depth : ℕ) (scope : List Var) (tail : Bool) (bound : List ℕ) (node : Core) → ((v : Var) → Contains scope v → is_in bound v.0 ≡ true)
    → slice_get (nodes_of unit form) key ≡ Some node → IsScopedWithin (nodes_of unit form) depth scope tail key → Opened unit form bound node
unfolding IsScopedWithin
opened_at unit form key zero scope tail bound node f there h = absurd h
opened_at unit form key (suc depth) scope tail bound node f there h =
    let s = subst (λ o. IsSomeAnd o (λ n. IsInPlace scope tail n × AllByRecursion (λ p. IsScopedWithin (nodes_of unit form) depth (p.binds ++ scope) p.tail p.at) (parts_of n tail))) there h in
    record { scope = scope; tail = tail; binds = f; place = s.0; parts = each_part unit form depth scope bound f (parts_of node tail) s.1 }

-- a part is in the scope that the node gives it
pub opened : (unit : UnitCore) (form key : ℕ) (bound : List ℕ) (node : Core) → IsScopedIn unit form key bound → node_at unit form key ≡ Some node → Opened unit form bound node
opened unit form key bound node h there = opened_at unit form key h.depth h.scope h.tail bound node h.binds (node_there unit form key node there) h.within

-- ---- operands

local_of : (unit : UnitCore) (node : Core) (v : Var) → ready_arg unit node ≡ Some (Argument.Var v) → node ≡ Node.Local v
local_of unit (Node.Const c) v e = cc
local_of unit (Node.Local w) v e = by (is_assigned unit w) e
  where
    by : (b : Bool) → (if b then None else Some (Argument.Var w)) ≡ Some (Argument.Var v) → Node.Local w ≡ Node.Local v
    by true e = cc
    by false e = cc
local_of unit (Node.Global g) v e = by (is_proc unit g) e
  where
    by : (b : Bool) → (if b then Some (Argument.Global g) else None) ≡ Some (Argument.Var v) → Node.Global g ≡ Node.Local v
    by true e = cc
    by false e = cc
local_of unit (Node.Builtin b) v e = cc
local_of unit (Node.Op o) v e = cc
local_of unit (Node.Lambda params body) v e = cc
local_of unit (Node.If test first second) v e = cc
local_of unit (Node.Block items) v e = cc
local_of unit (Node.Let vars values body) v e = cc
local_of unit (Node.Labels vars lambdas body) v e = cc
local_of unit (Node.SetLocal w value) v e = cc
local_of unit (Node.SetGlobal g value) v e = cc
local_of unit (Node.Catch w body) v e = cc
local_of unit (Node.Object proc methods) v e = cc
local_of unit (Node.Call operator operands tail) v e = cc
local_of unit (Node.Prim b operands) v e = cc

pub ready_bound : (unit : UnitCore) (form key : ℕ) (bound : List ℕ) (a : Arg) → IsScopedIn unit form key bound → ready_of unit form key ≡ Some a → IsBound bound a
ready_bound unit form key bound (Argument.Const c) h e = tt
ready_bound unit form key bound (Argument.Var v) h e = by (node_at unit form key) refl e
  where
    by : (o : Option Core) → node_at unit form key ≡ o → option_and_then (ready_arg unit) o ≡ Some (Argument.Var v) → is_in bound v.0 ≡ true
    by None there e = cc
    by (Some node) there e =
        let o = opened unit form key bound (Node.Local v) h (there ∙ ap Some (local_of unit node v e)) in o.binds v o.place
ready_bound unit form key bound (Argument.Proc l) h e = tt
ready_bound unit form key bound (Argument.Global g) h e = tt
ready_bound unit form key bound (Argument.Builtin b) h e = tt
ready_bound unit form key bound (Argument.Op o) h e = tt

operands_grow : (unit : UnitCore) (form next after : ℕ) (keys : List ℕ) (args : List Arg) (jobs : List Job) → AreOperands unit form next after keys args jobs → next ≤ after
operands_grow unit form next after [] [] jobs h = omega (arith, h.1)
operands_grow unit form next after (c ∷ keys) (a ∷ args) jobs h = let rest : h.0 ≤ after = operands_grow unit form h.0 after keys args h.2 h.5 in by h.4 rest
  where
    by : IsOperand unit form next h.0 c a h.1 → h.0 ≤ after → next ≤ after
    by (inl o) le = omega (arith, o.2, le)
    by (inr o) le = omega (arith, o.1.4, le)
operands_grow unit form next after [] (a ∷ args) jobs h = absurd h
operands_grow unit form next after (c ∷ keys) [] jobs h = absurd h

-- the jobs of operands can be done
pub can_evaluate : (x : Translation) (marks : List Bool) (base most form key next after : ℕ) (bound held : List ℕ) (keys : List ℕ) (args : List Arg) (jobs : List Job) → Setting x.unit marks base → base ≤ next → after ≤ most
    → AreOuter x.unit base next form key held → AllByRecursion (λ c. IsScopedIn x.unit form c bound) keys → AreOperands x.unit form next after keys args jobs → CanEvaluate x base most form key bound held jobs
can_evaluate x marks base most form key next after bound held [] [] jobs setting first few helds scoped h = subst (CanEvaluate x base most form key bound held) (sym h.0) tt
can_evaluate x marks base most form key next after bound held (c ∷ keys) (a ∷ args) jobs setting first few helds scoped h =
    subst (CanEvaluate x base most form key bound held) (sym h.3)
    (by h.4 (operands_grow x.unit form h.0 after keys args h.2 h.5)
    (λ n hs start outs rest. can_evaluate x marks base most form key n after bound hs keys args h.2 setting start few outs scoped.1 rest))
  where
    by : IsOperand x.unit form next h.0 c a h.1 → h.0 ≤ after
        → ((n : ℕ) (hs : List ℕ) → base ≤ n → AreOuter x.unit base n form key hs → AreOperands x.unit form n after keys args h.2 → CanEvaluate x base most form key bound hs h.2)
        → CanEvaluate x base most form key bound held (h.1 ++ h.2)
    by (inl o) le go =
        subst (λ l. CanEvaluate x base most form key bound held (l ++ h.2)) (sym o.1) (go next held first helds (subst (λ n. AreOperands x.unit form n after keys args h.2) o.2 h.5))
    by (inr o) le go =
        let v : Var = o.1.0 in
        let is : v.0 ≡ next = o.1.2 in
        let more : next < h.0 = o.1.4 in
        let start : base ≤ v.0 = omega (arith, first, is) in
        subst (λ l. CanEvaluate x base most form key bound held (l ++ h.2)) (sym o.1.3) (
          fresh_new x marks base next form key v held setting first (omega (arith, is)) helds,
          inl (start, omega (arith, is, more, le, few)),
          scoped.0,
          go h.0 (v.0 ∷ held) (omega (arith, first, more))
              (outer_cons x.unit base h.0 form key v.0 held (inl (start, omega (arith, is, more))) (are_more x.unit base next h.0 form key key (omega (arith, more)) (omega arith) held helds)) h.5,
        )
can_evaluate x marks base most form key next after bound held [] (a ∷ args) jobs setting first few helds scoped h = absurd h
can_evaluate x marks base most form key next after bound held (c ∷ keys) [] jobs setting first few helds scoped h = absurd h

-- what the jobs evaluate are the operands' values
pub operand_values : (x : Translation) (conv : Converting) (form : ℕ) (bound : List ℕ) (next after : ℕ) (held keys : List ℕ) (args : List Arg) (jobs : List Job) (t last : ℕ)
    → AllByRecursion (λ c. IsScopedIn x.unit form c bound) keys → AreOperands x.unit form next after keys args jobs → Evaluates x conv form bound held jobs t last
    → Values x conv form bound held (nowhere keys) keys args t last (adding (vars_of jobs) held)
operand_values x conv form bound next after held [] [] jobs t last scoped h ev = (subst (λ l. Evaluates x conv form bound held l t last) h.0 ev, ap (λ l. adding (vars_of l) held) h.0)
operand_values x conv form bound next after held (c ∷ keys) (a ∷ args) jobs t last scoped h ev = by h.4 (λ hs u e. operand_values x conv form bound h.0 after hs keys args h.2 u last scoped.1 h.5 e)
  where
    by : IsOperand x.unit form next h.0 c a h.1 → ((hs : List ℕ) (u : ℕ) → Evaluates x conv form bound hs h.2 u last → Values x conv form bound hs (nowhere keys) keys args u last (adding (vars_of h.2) hs))
        → Values x conv form bound held (nowhere (c ∷ keys)) (c ∷ keys) (a ∷ args) t last (adding (vars_of jobs) held)
    by (inl o) go =
        let e : jobs ≡ h.2 = h.3 ∙ ap (λ l. l ++ h.2) o.1 in
        subst (λ l. Values x conv form bound held (nowhere (c ∷ keys)) (c ∷ keys) (a ∷ args) t last (adding (vars_of l) held)) (sym e)
        (inl (o.0, ready_bound x.unit form c bound a scoped.0 o.0, go held t (subst (λ l. Evaluates x conv form bound held l t last) e ev)))
    by (inr o) go =
        let e : jobs ≡ record { node = c; var = o.1.0 } ∷ h.2 = h.3 ∙ ap (λ l. l ++ h.2) o.1.3 in
        let f : Evaluates x conv form bound held (record { node = c; var = o.1.0 } ∷ h.2) t last = subst (λ l. Evaluates x conv form bound held l t last) e ev in
        subst (λ l. Values x conv form bound held (nowhere (c ∷ keys)) (c ∷ keys) (a ∷ args) t last (adding (vars_of l) held)) (sym e)
        (inr (o.0, (o.1.0, f.0, o.1.1, f.1, f.2, go (o.1.0.0 ∷ held) f.0 f.3)))
operand_values x conv form bound next after held [] (a ∷ args) jobs t last scoped h ev = absurd h
operand_values x conv form bound next after held (c ∷ keys) [] jobs t last scoped h ev = absurd h

-- a term over the values of nodes
pub over : (x : Translation) (marks : List Bool) (base now next after most form key : ℕ) (bound held keys : List ℕ) (args : List Arg) (jobs : List Job) (term : Term) (t last : ℕ) → Setting x.unit marks base → base ≤ now → now ≤ next
    → after ≤ most → AreOuter x.unit base now form key bound → AreOuter x.unit base now form key held → AllByRecursion (λ c. IsScopedIn x.unit form c bound) keys → AreOperands x.unit form next after keys args jobs
    → JobsClaim x marks base most form key jobs t last → Stands x last term → OverAll x (ConvertsWithin x key) form bound held keys args term t
over x marks base now next after most form key bound held keys args jobs term t last setting first grown few bounds helds scoped operands claim stands =
    let le : next ≤ after = operands_grow x.unit form next after keys args jobs operands in
    record {
      last = last;
      inner = adding (vars_of jobs) held;
      values = operand_values x (ConvertsWithin x key) form bound next after held keys args jobs t last scoped operands
          (claim setting (omega (arith, first, grown, le, few)) bound held (are_more x.unit base now most form key key (omega (arith, grown, le, few)) (omega arith) bound bounds)
          (are_more x.unit base now most form key key (omega (arith, grown, le, few)) (omega arith) held helds)
          (can_evaluate x marks base most form key next after bound held keys args jobs setting (omega (arith, first, grown)) few (are_more x.unit base now next form key key grown (omega arith) held helds) scoped operands));
      stands = stands;
    }
