-- What holds of each term that a conversion makes, by the kind of node for which it is made.
use Rattle.std.specs.Prelude.{nat_lt}
use Rattle.std.specs.List.{AllByRecursion, filter_map, flat_map, cons_option}
use Rattle.std.specs.Option.{option_map, option_map_or, option_and_then}
use Rattle.std.proofs.Common.{◌≡◌, ◌<◌, ℕ, zero, suc, ◌+◌, Bool, true, false, if◌then◌else◌, ◌⊎◌, inl, inr, List, [], ◌∷◌, length, map, Option, Some, None, slice_get, refl, sym, ap, ◌∙◌, subst, arith}
use Rattle.std.proofs.lemmas.Option.{slice_get_within}
use Rattle.t_base.specs.declared.basics.Var.{Var}
use Rattle.t_base.specs.declared.builtins.Builtin.{Builtin}
use Rattle.t_base.specs.declared.shared_parts.Const.{Const}
use Rattle.t_base.specs.declared.shared_parts.Const.TheVariants as Constant
use Rattle.t_core.specs.declared.forms.Core.{Core}
use Rattle.t_core.specs.declared.forms.Core.TheVariants as Node
use Rattle.t_core.specs.declared.forms.Method.{Method}
use Rattle.t_core.specs.declared.forms.FormKind.{FormKind}
use Rattle.t_core.specs.declared.forms.FormKind.TheVariants.{Define, Lset, Operation, Plain}
use Rattle.t_core.specs.declared.forms.Form.{Form}
use Rattle.t_meaning.specs.Programs.{node_at}
use Rattle.t_meaning.specs.State.{Procedure}
use Rattle.t_meaning.specs.Operations.{lambda_of}
use Rattle.t_meaning.specs.Costs.{is_assigned}
use Rattle.cps_ir.specs.declared.args.Arg.{Arg}
use Rattle.cps_ir.specs.declared.args.Arg.TheVariants as Argument
use Rattle.cps_ir.specs.declared.terms.Cont.{Cont}
use Rattle.cps_ir.specs.declared.terms.Cont.TheVariants as Continuation
use Rattle.cps_ir.specs.declared.terms.Lam.{Lam}
use Rattle.cps_ir.specs.declared.terms.Term.{Term}
use Rattle.cps_ir.specs.declared.terms.Term.TheVariants as Step
use Rattle.cps_ir.specs.Parts.{Name, Part, proc_of, lams_of, lambda_at, lambda_part, around, own_parts, cont_parts, parts_of, first_lams, walked_within}
use Rattle.cps_ir.proofs.ProperLists.{some_same, none_some, each_append, each_more, each_joined}
use Rattle.cps_conversion.specs.Conversion.{Translation, Stands, Converting, Assigned, variables, adding, is_proc, ready_at, nowhere, ready_arg, Values, OverAll, OverOne, LamAt, LambdaAt, WithName, LambdaFor, IfAs, BlockAs, own_place, LetAs, unset, Names, Sets, LambdaNode, LambdaNodes, adding_assigned, LabelsAs, CatchAs, MethodsAs, ObjectAs, CallAs, PrimAs, ConvertsNode, ConvertsWithin, name_of_global, name_of_op, InitAs, FormAs, FormsAs}

module _ (x : Translation) (A : Arg → Type 0) (P : Term → Type 0) (R : Lam → Type 0) where
  -- the procedures of methods, each with as many parameters
  abbrev pub MethodLams : List Method → List ℕ → List ℕ → Type 0
  MethodLams [] [] [] = Unit {0}
  MethodLams (m ∷ methods) (o ∷ ops) (l ∷ lams) = (o ≡ m.op) × ((lam : Lam) × (slice_get x.cps.lams.items l ≡ Some lam) × (length lam.params ≡ length m.params)) × MethodLams methods ops lams
  MethodLams _ _ _ = ⊥

  -- what holds of the terms that are made, by the kind of node
  pub record Table : Type 0 where
    pub ready : (form key : ℕ) (a : Arg) → ready_at x form key ≡ Some a → A a
    pub var : (v : Var) → A (Argument.Var v)
    pub proc : (l : ℕ) → A (Argument.Proc l)
    pub nil : A (Argument.Const Constant.Nil)
    pub global_name : (g : ℕ) (a : Arg) → name_of_global x.cps.shared g ≡ Some a → A a
    pub op_name : (o : ℕ) (a : Arg) → name_of_op x.cps.shared o ≡ Some a → A a
    pub give : (k : Cont) (a : Arg) → A a → P (Step.Give k a)
    pub get : (form key g : ℕ) (k : Cont) → node_at x.unit form key ≡ Some (Node.Global g) → is_proc x.unit g ≡ false → P (Step.GlobalGet g k)
    pub tests : (a : Arg) (first second : ℕ) → A a → P (Step.If a first second)
    pub join : (j v : Var) (body rest : ℕ) → P (Step.Join j v body rest)
    pub labels : (vars : List Var) (lams : List ℕ) (body : ℕ) → length vars ≡ length lams → P (Step.Labels vars lams body)
    pub set : (v : Var) (a : Arg) (k : Cont) → is_assigned x.unit v ≡ true → A a → P (Step.Set v a k)
    pub set_local : (form key value : ℕ) (v : Var) (a : Arg) (k : Cont) → node_at x.unit form key ≡ Some (Node.SetLocal v value) → A a → P (Step.Set v a k)
    pub set_global : (form key value g : ℕ) (a : Arg) (k : Cont) → node_at x.unit form key ≡ Some (Node.SetGlobal g value) → is_proc x.unit g ≡ false → A a → P (Step.GlobalSet g a k)
    pub catches : (form key body : ℕ) (v name : Var) (inner : ℕ) (k : Cont) → node_at x.unit form key ≡ Some (Node.Catch v body) → P (Step.Catch name inner k)
    pub uncatch : (form key body : ℕ) (v : Var) (a : Arg) (k : Cont) → node_at x.unit form key ≡ Some (Node.Catch v body) → A a → P (Step.Uncatch k a)
    pub object : (form key proc : ℕ) (methods : List Method) (a : Arg) (ops lams : List ℕ) (k : Cont) → node_at x.unit form key ≡ Some (Node.Object proc methods) → MethodLams methods ops lams → A a → P (Step.Object a ops lams k)
    pub call : (form key operator : ℕ) (operands : List ℕ) (tail : Bool) (f : Arg) (args : List Arg) (k : Cont) → node_at x.unit form key ≡ Some (Node.Call operator operands tail) → length args ≡ length operands → AllByRecursion A (f ∷ args) → P (Step.Call f args k)
    pub prim : (form key : ℕ) (b : Builtin) (operands : List ℕ) (args : List Arg) (k : Cont) → node_at x.unit form key ≡ Some (Node.Prim b operands) → length args ≡ length operands → AllByRecursion A args → P (Step.Prim b args k)
    pub halt : (a : Arg) → A a → P (Step.Halt a)
    pub lambda : (form key body : ℕ) (params : List Var) (lam : Lam) → node_at x.unit form key ≡ Some (Node.Lambda params body) → length lam.params ≡ length params → R lam
    pub method : (form key proc : ℕ) (methods : List Method) (m : Method) (i : ℕ) (lam : Lam) → node_at x.unit form key ≡ Some (Node.Object proc methods) → slice_get methods i ≡ Some m → length lam.params ≡ length m.params → R lam

  -- ---- what is reached from a place

  abbrev pub LamIs : ℕ → Type 0
  LamIs l = (l < length x.cps.lams.items) × ((lam : Lam) → slice_get x.cps.lams.items l ≡ Some lam → R lam)

  abbrev pub Full : Term → Type 0
  Full term = P term × AllByRecursion LamIs (lams_of term)

  abbrev pub FullAt : ℕ → Type 0
  FullAt t = (term : Term) → Stands x t term → Full term

  pub record Good (t : ℕ) : Type 0 where
    pub each : (depth : ℕ) → AllByRecursion FullAt (walked_within x.cps depth t)

  abbrev GoodPart : Part → Type 0
  GoodPart p = Good p.at

  abbrev GoodLam : ℕ → Type 0
  GoodLam l = (l < length x.cps.lams.items) × ((lam : Lam) → slice_get x.cps.lams.items l ≡ Some lam → R lam × Good lam.body)

  good_of : (t : ℕ) (term : Term) → Stands x t term → Full term → AllByRecursion GoodPart (parts_of x.cps [] term) → Good t
  unfolding walked_within
  good_of t term e full parts = record { each = by }
    where
      by : (depth : ℕ) → AllByRecursion FullAt (walked_within x.cps depth t)
      by zero = tt
      by (suc depth) = (
        λ u q. subst Full (some_same term u (sym e ∙ q)) full,
        subst (λ o. AllByRecursion FullAt (option_map_or (λ s. flat_map (λ p. walked_within x.cps depth p.at) (parts_of x.cps [] s)) o [])) (sym e)
            (each_joined (λ p. walked_within x.cps depth p.at) FullAt (parts_of x.cps [] term) (each_more GoodPart (λ p. AllByRecursion FullAt (walked_within x.cps depth p.at)) (parts_of x.cps [] term) (λ p g. g.each depth) parts)),
      )

  lams_good : (names : List Name) (ls : List ℕ) → AllByRecursion GoodLam ls → AllByRecursion GoodPart (map (lambda_part names) (filter_map (lambda_at x.cps) ls))
  lams_good names [] h = tt
  lams_good names (l ∷ ls) h = by (nat_lt l (first_lams x.cps)) (slice_get x.cps.lams.items l) refl (lams_good names ls h.1)
    where
      by : (b : Bool) (o : Option Lam) → slice_get x.cps.lams.items l ≡ o → AllByRecursion GoodPart (map (lambda_part names) (filter_map (lambda_at x.cps) ls)) → AllByRecursion GoodPart (map (lambda_part names) (cons_option (if b then None else o) (filter_map (lambda_at x.cps) ls)))
      by true o e rest = rest
      by false None e rest = rest
      by false (Some lam) e rest = ((h.0.1 lam e).1, rest)

  made : (t : ℕ) (term : Term) → Stands x t term → P term → AllByRecursion GoodLam (lams_of term) → AllByRecursion GoodPart (own_parts [] term) → Good t
  made t term e p lams own =
      good_of t term e (p, each_more GoodLam LamIs (lams_of term) (λ l g. (g.0, λ lam q. (g.1 lam q).0)) lams)
      (each_append GoodPart (map (lambda_part (around term)) (filter_map (lambda_at x.cps) (lams_of term))) (own_parts [] term) (lams_good (around term) (lams_of term) lams) own)

  -- ---- arguments and continuations

  abbrev ProcGood : Arg → Type 0
  ProcGood (Argument.Proc l) = GoodLam l
  ProcGood _ = Unit {0}

  abbrev GoodArg : Arg → Type 0
  GoodArg a = A a × ProcGood a

  procs_good : (args : List Arg) → AllByRecursion GoodArg args → AllByRecursion GoodLam (filter_map proc_of args)
  procs_good [] h = tt
  procs_good (Argument.Const c ∷ args) h = procs_good args h.1
  procs_good (Argument.Var v ∷ args) h = procs_good args h.1
  procs_good (Argument.Proc l ∷ args) h = (h.0.1, procs_good args h.1)
  procs_good (Argument.Global g ∷ args) h = procs_good args h.1
  procs_good (Argument.Builtin b ∷ args) h = procs_good args h.1
  procs_good (Argument.Op o ∷ args) h = procs_good args h.1

  abbrev GoodCont : Cont → Type 0
  GoodCont (Continuation.Var k) = Unit {0}
  GoodCont (Continuation.Lam v body) = Good body

  cont_good : (k : Cont) (catches : List ℕ) → GoodCont k → AllByRecursion GoodPart (cont_parts catches (Some k))
  cont_good (Continuation.Var k) catches g = tt
  cont_good (Continuation.Lam v body) catches g = (g, tt)

  var_good : Table → (v : Var) → GoodArg (Argument.Var v)
  var_good T v = (T.var v, tt)

  -- a ready argument is no procedure
  ready_good : Table → (form key : ℕ) (a : Arg) → ready_at x form key ≡ Some a → GoodArg a
  ready_good T form key a e = (T.ready form key a e, plain a (node_at x.unit form key) refl e)
    where
      unset_var : (b : Bool) (v : Var) (a : Arg) → (if b then None else Some (Argument.Var v)) ≡ Some a → ProcGood a
      unset_var true v a e = none_some a e
      unset_var false v a e = subst ProcGood (some_same (Argument.Var v) a e) tt

      defined : (b : Bool) (g : ℕ) (a : Arg) → (if b then Some (Argument.Global g) else None) ≡ Some a → ProcGood a
      defined true g a e = subst ProcGood (some_same (Argument.Global g) a e) tt
      defined false g a e = none_some a e

      plain : (a : Arg) (node : Option Core) → node_at x.unit form key ≡ node → option_and_then (ready_arg x.unit) node ≡ Some a → ProcGood a
      plain a None q e = none_some a e
      plain a (Some (Node.Const c)) q e = subst ProcGood (some_same (Argument.Const c) a e) tt
      plain a (Some (Node.Local v)) q e = unset_var (is_assigned x.unit v) v a e
      plain a (Some (Node.Global g)) q e = defined (is_proc x.unit g) g a e
      plain a (Some (Node.Builtin b)) q e = subst ProcGood (some_same (Argument.Builtin b) a e) tt
      plain a (Some (Node.Op o)) q e = subst ProcGood (some_same (Argument.Op o) a e) tt
      plain a (Some (Node.Lambda params body)) q e = none_some a e
      plain a (Some (Node.If test first second)) q e = none_some a e
      plain a (Some (Node.Block items)) q e = none_some a e
      plain a (Some (Node.Let vars values body)) q e = none_some a e
      plain a (Some (Node.Labels vars lambdas body)) q e = none_some a e
      plain a (Some (Node.SetLocal v value)) q e = none_some a e
      plain a (Some (Node.SetGlobal g value)) q e = none_some a e
      plain a (Some (Node.Catch v body)) q e = none_some a e
      plain a (Some (Node.Object proc methods)) q e = none_some a e
      plain a (Some (Node.Call operator operands tail)) q e = none_some a e
      plain a (Some (Node.Prim b operands)) q e = none_some a e

  -- ---- terms over arguments

  give_good : Table → (t : ℕ) (k : Cont) (a : Arg) → Stands x t (Step.Give k a) → GoodArg a → GoodCont k → Good t
  give_good T t k a e g c = made t (Step.Give k a) e (T.give k a g.0) (procs_good (a ∷ []) (g, tt)) (cont_good k [] c)

  assigned_good : Table → (held : List ℕ) (vars : List Var) (args : List Arg) (t next : ℕ) → AllByRecursion GoodArg args → Good next → Assigned x held vars args t next → Good t
  assigned_good T held [] [] t next given g h = subst Good h g
  assigned_good T held (v ∷ vars) (a ∷ args) t next given g (inl h) = assigned_good T held vars args t next given.1 g h.2
  assigned_good T held (v ∷ vars) (a ∷ args) t next given g (inr h) =
      give_good T t (Continuation.Lam v h.2.0) a h.2.1 given.0 (assigned_good T (v.0 ∷ held) vars args h.2.0 next given.1 g h.2.2)
  assigned_good T held [] (a ∷ args) t next given g h = absurd h
  assigned_good T held (v ∷ vars) [] t next given g h = absurd h

  variables_good : Table → (vars : List Var) → AllByRecursion GoodArg (variables vars)
  variables_good T [] = tt
  variables_good T (v ∷ vars) = (var_good T v, variables_good T vars)

  pub assigned_count : (held : List ℕ) (vars : List Var) (args : List Arg) (t next : ℕ) → Assigned x held vars args t next → length args ≡ length vars
  assigned_count held [] [] t next h = refl
  assigned_count held (v ∷ vars) (a ∷ args) t next (inl h) = ap suc (assigned_count held vars args t next h.2)
  assigned_count held (v ∷ vars) (a ∷ args) t next (inr h) = ap suc (assigned_count (v.0 ∷ held) vars args h.2.0 next h.2.2)
  assigned_count held [] (a ∷ args) t next h = absurd h
  assigned_count held (v ∷ vars) [] t next h = absurd h

  pub variables_count : (vars : List Var) → length (variables vars) ≡ length vars
  variables_count [] = refl
  variables_count (v ∷ vars) = ap suc (variables_count vars)

  -- ---- nodes, where all that is nested less deep is known

  module _ (T : Table) (n : ℕ) (go : (form : ℕ) (bound held : List ℕ) (key : ℕ) (k : Cont) (t : ℕ) → GoodCont k → ConvertsWithin x n form bound held key k t → Good t) where
    abbrev conv : Converting
    conv = ConvertsWithin x n

    values_args : (form : ℕ) (bound held : List ℕ) (tos : List (Option Var)) (keys : List ℕ) (args : List Arg) (t last : ℕ) (inner : List ℕ) → Values x conv form bound held tos keys args t last inner → AllByRecursion GoodArg args × (length args ≡ length keys)
    values_args form bound held [] [] [] t last inner h = (tt, refl)
    values_args form bound held (None ∷ tos) (key ∷ keys) (a ∷ args) t last inner (inl h) =
        let r = values_args form bound held tos keys args t last inner h.2 in ((ready_good T form key a h.0, r.0), ap suc r.1)
    values_args form bound held (None ∷ tos) (key ∷ keys) (a ∷ args) t last inner (inr h) =
        let r = values_args form bound (h.1.0.0 ∷ held) tos keys args h.1.1 last inner h.1.5 in ((subst GoodArg (sym h.1.2) (var_good T h.1.0), r.0), ap suc r.1)
    values_args form bound held (Some v ∷ tos) (key ∷ keys) (a ∷ args) t last inner h =
        let r = values_args form bound (v.0 ∷ held) tos keys args h.0 last inner h.4 in ((subst GoodArg (sym h.1) (var_good T v), r.0), ap suc r.1)
    values_args form bound held [] [] (a ∷ args) t last inner h = absurd h
    values_args form bound held [] (key ∷ keys) args t last inner h = absurd h
    values_args form bound held (None ∷ tos) [] args t last inner h = absurd h
    values_args form bound held (Some v ∷ tos) [] args t last inner h = absurd h
    values_args form bound held (None ∷ tos) (key ∷ keys) [] t last inner h = absurd h
    values_args form bound held (Some v ∷ tos) (key ∷ keys) [] t last inner h = absurd h

    values_good : (form : ℕ) (bound held : List ℕ) (tos : List (Option Var)) (keys : List ℕ) (args : List Arg) (t last : ℕ) (inner : List ℕ) → Good last → Values x conv form bound held tos keys args t last inner → Good t
    values_good form bound held [] [] [] t last inner g h = subst Good h.0 g
    values_good form bound held (None ∷ tos) (key ∷ keys) (a ∷ args) t last inner g (inl h) = values_good form bound held tos keys args t last inner g h.2
    values_good form bound held (None ∷ tos) (key ∷ keys) (a ∷ args) t last inner g (inr h) =
        go form bound held key (Continuation.Lam h.1.0 h.1.1) t (values_good form bound (h.1.0.0 ∷ held) tos keys args h.1.1 last inner g h.1.5) h.1.4
    values_good form bound held (Some v ∷ tos) (key ∷ keys) (a ∷ args) t last inner g h =
        go form bound held key (Continuation.Lam v h.0) t (values_good form bound (v.0 ∷ held) tos keys args h.0 last inner g h.4) h.3
    values_good form bound held [] [] (a ∷ args) t last inner g h = absurd h
    values_good form bound held [] (key ∷ keys) args t last inner g h = absurd h
    values_good form bound held (None ∷ tos) [] args t last inner g h = absurd h
    values_good form bound held (Some v ∷ tos) [] args t last inner g h = absurd h
    values_good form bound held (None ∷ tos) (key ∷ keys) [] t last inner g h = absurd h
    values_good form bound held (Some v ∷ tos) (key ∷ keys) [] t last inner g h = absurd h

    over_good : (form : ℕ) (bound held : List ℕ) (keys : List ℕ) (args : List Arg) (term : Term) (t : ℕ) → (AllByRecursion GoodArg args → length args ≡ length keys → (u : ℕ) → Stands x u term → Good u) → OverAll x conv form bound held keys args term t → Good t
    over_good form bound held keys args term t f h =
        let r = values_args form bound held (nowhere keys) keys args t h.last h.inner h.values in
        values_good form bound held (nowhere keys) keys args t h.last h.inner (f r.0 r.1 h.last h.stands) h.values

    one_good : (form : ℕ) (bound held : List ℕ) (key : ℕ) (term : Arg → Term) (t : ℕ) → ((a : Arg) → GoodArg a → (u : ℕ) → Stands x u (term a) → Good u) → OverOne x conv form bound held key term t → Good t
    one_good form bound held key term t f h = over_good form bound held (key ∷ []) (h.0 ∷ []) (term h.0) t (λ given e u s. f h.0 given.0 u s) h.1

    -- a procedure has as many parameters as it stands for, and its body is good
    pub lam_good : (form : ℕ) (bound : List ℕ) (params : List Var) (body l : ℕ) → ((lam : Lam) → length lam.params ≡ length params → R lam) → LamAt x conv form bound params body l → GoodLam l
    lam_good form bound params body l f h = (
      slice_get_within x.cps.lams.items l h.0 h.1,
      λ lam e.
          subst (λ z. R z × Good z.body) (some_same h.0 lam (sym h.1 ∙ e)) (
            f h.0 (sym (variables_count h.0.params) ∙ assigned_count (adding h.0.params bound) params (variables h.0.params) h.0.body h.2.start h.2.assigned),
            assigned_good T (adding h.0.params bound) params (variables h.0.params) h.0.body h.2.start (variables_good T h.0.params)
                (go form (adding params bound) (adding params bound) body (Continuation.Var h.0.k) h.2.start tt h.2.body_as) h.2.assigned,
          ),
    )

    lambda_good : (form key : ℕ) (bound : List ℕ) (params : List Var) (body l : ℕ) → node_at x.unit form key ≡ Some (Node.Lambda params body) → LambdaAt x conv form bound key params body l → GoodLam l
    lambda_good form key bound params body l q h = lam_good form bound params body l (λ lam c. T.lambda form key body params lam q c) h.lam_at

    -- ---- nodes, by their kinds

    good : (t : ℕ) (term : Term) → Stands x t term → P term → AllByRecursion GoodLam (lams_of term) → AllByRecursion GoodPart (own_parts [] term) → Good t
    good = made

    named_good : (k : Cont) (t : ℕ) (rest_as : Cont → ℕ → Type 0) → GoodCont k → ((j : Cont) (u : ℕ) → GoodCont j → rest_as j u → Good u) → WithName x k t rest_as → Good t
    named_good (Continuation.Var k) t rest_as g f h = f (Continuation.Var k) t tt h
    named_good (Continuation.Lam v body) t rest_as g f h = good t (Step.Join h.0 v body h.1) h.2 (T.join h.0 v body h.1) tt (g, (f (Continuation.Var h.0) h.1 tt h.3, tt))

    lambda_for : (form key : ℕ) (bound held : List ℕ) (params : List Var) (body : ℕ) (k : Cont) (t : ℕ) → node_at x.unit form key ≡ Some (Node.Lambda params body) → GoodCont k → LambdaFor x conv form bound held key params body k t → Good t
    lambda_for form key bound held params body (Continuation.Var k) t q g h = give_good T t (Continuation.Var k) (Argument.Proc h.0) h.2 (T.proc h.0, lambda_good form key bound params body h.0 q h.1) tt
    lambda_for form key bound held params body (Continuation.Lam v b) t q g h = good t (Step.Labels (v ∷ []) (h.0 ∷ []) b) h.3 (T.labels (v ∷ []) (h.0 ∷ []) b refl) (lambda_good form key bound params body h.0 q h.2, tt) (g, tt)

    if_good : (form : ℕ) (bound held : List ℕ) (test first second : ℕ) (k : Cont) (t : ℕ) → GoodCont k → IfAs x conv form bound held test first second k t → Good t
    if_good form bound held test first second k t g h =
        one_good form bound held test (λ a. Step.If a h.first_at h.second_at) t
        (λ a ga u s. good u (Step.If a h.first_at h.second_at) s (T.tests a h.first_at h.second_at ga.0) (procs_good (a ∷ []) (ga, tt)) (go form bound held first k h.first_at g h.first_as, (go form bound held second k h.second_at g h.second_as, tt))) h.over

    block_good : (form : ℕ) (bound held : List ℕ) (items : List ℕ) (k : Cont) (t : ℕ) → GoodCont k → BlockAs x conv form bound held items k t → Good t
    block_good form bound held [] k t g h = absurd h
    block_good form bound held (key ∷ []) k t g h = go form bound held key k t g h
    block_good form bound held (key ∷ next ∷ keys) k t g h = go form bound held key (Continuation.Lam h.0 h.1) t (block_good form bound held (next ∷ keys) k h.1 g h.4) h.3

    let_good : (form : ℕ) (bound held : List ℕ) (vars : List Var) (keys : List ℕ) (body : ℕ) (k : Cont) (t : ℕ) → GoodCont k → LetAs x conv form bound held vars keys body k t → Good t
    let_good form bound held vars keys body k t g h =
        values_good form bound held (map (own_place x.unit) vars) keys h.args t h.behind h.inner
        (assigned_good T h.inner vars h.args h.behind h.start (values_args form bound held (map (own_place x.unit) vars) keys h.args t h.behind h.inner h.values).0 (go form (adding vars bound) (adding vars held) body k h.start g h.body_as) h.assigned)
        h.values

    unset_good : (vars : List Var) → AllByRecursion GoodArg (map (unset x.unit) vars)
    unset_good [] = tt
    unset_good (v ∷ vars) = (by (is_assigned x.unit v), unset_good vars)
      where
        by : (b : Bool) → GoodArg (if b then Argument.Const Constant.Nil else Argument.Var v)
        by true = (T.nil, tt)
        by false = var_good T v

    names_count : (vars names : List Var) → Names x.unit vars names → length names ≡ length vars
    names_count [] [] h = refl
    names_count (v ∷ vars) (y ∷ names) h = ap suc (names_count vars names h.1)
    names_count [] (y ∷ names) h = absurd h
    names_count (v ∷ vars) [] h = absurd h

    sets_good : (held : List ℕ) (vars names : List Var) (t next : ℕ) → Good next → Sets x held vars names t next → Good t
    sets_good held [] [] t next g h = subst Good h g
    sets_good held (v ∷ vars) (y ∷ names) t next g (inl h) = sets_good held vars names t next g h.1
    sets_good held (v ∷ vars) (y ∷ names) t next g (inr h) =
        good t (Step.Set v (Argument.Var y) (Continuation.Lam h.1.0 h.1.1)) h.1.3 (T.set v (Argument.Var y) (Continuation.Lam h.1.0 h.1.1) h.0 (T.var y)) tt (sets_good held vars names h.1.1 next g h.1.4, tt)
    sets_good held [] (y ∷ names) t next g h = absurd h
    sets_good held (v ∷ vars) [] t next g h = absurd h

    lambda_node : (form key : ℕ) (bound : List ℕ) (l : ℕ) (node : Option Core) → node_at x.unit form key ≡ node → LambdaNode x conv form bound key node l → GoodLam l
    lambda_node form key bound l (Some (Node.Lambda params body)) q h = lambda_good form key bound params body l q h
    lambda_node form key bound l None q h = absurd h
    lambda_node form key bound l (Some (Node.Const c)) q h = absurd h
    lambda_node form key bound l (Some (Node.Local v)) q h = absurd h
    lambda_node form key bound l (Some (Node.Global g)) q h = absurd h
    lambda_node form key bound l (Some (Node.Builtin b)) q h = absurd h
    lambda_node form key bound l (Some (Node.Op o)) q h = absurd h
    lambda_node form key bound l (Some (Node.If test first second)) q h = absurd h
    lambda_node form key bound l (Some (Node.Block items)) q h = absurd h
    lambda_node form key bound l (Some (Node.Let vars values body)) q h = absurd h
    lambda_node form key bound l (Some (Node.Labels vars lambdas body)) q h = absurd h
    lambda_node form key bound l (Some (Node.SetLocal v value)) q h = absurd h
    lambda_node form key bound l (Some (Node.SetGlobal g value)) q h = absurd h
    lambda_node form key bound l (Some (Node.Catch v body)) q h = absurd h
    lambda_node form key bound l (Some (Node.Object proc methods)) q h = absurd h
    lambda_node form key bound l (Some (Node.Call operator operands tail)) q h = absurd h
    lambda_node form key bound l (Some (Node.Prim b operands)) q h = absurd h

    lambda_nodes : (form : ℕ) (bound : List ℕ) (keys lams : List ℕ) → LambdaNodes x conv form bound keys lams → AllByRecursion GoodLam lams × (length lams ≡ length keys)
    lambda_nodes form bound [] [] h = (tt, refl)
    lambda_nodes form bound (key ∷ keys) (l ∷ lams) h = let r = lambda_nodes form bound keys lams h.1 in ((lambda_node form key bound l (node_at x.unit form key) refl h.0, r.0), ap suc r.1)
    lambda_nodes form bound [] (l ∷ lams) h = absurd h
    lambda_nodes form bound (key ∷ keys) [] h = absurd h

    labels_good : (form : ℕ) (bound held : List ℕ) (vars : List Var) (keys : List ℕ) (body : ℕ) (k : Cont) (t : ℕ) → GoodCont k → LabelsAs x conv form bound held vars keys body k t → Good t
    labels_good form bound held vars keys body k t g h =
        let r = lambda_nodes form (adding vars bound) keys h.lams h.lambdas in
        assigned_good T held vars (map (unset x.unit) vars) t h.at (unset_good vars)
        (good h.at (Step.Labels h.names h.lams h.behind) h.stands (T.labels h.names h.lams h.behind (names_count vars h.names h.names_for ∙ sym h.as_many ∙ sym r.1)) r.0
        (sets_good (adding h.names (adding_assigned x.unit vars held)) vars h.names h.behind h.start (go form (adding vars bound) (adding vars held) body k h.start g h.body_as) h.sets, tt))
        h.unset

    catch_good : (form key : ℕ) (bound held : List ℕ) (v : Var) (body : ℕ) (k : Cont) (t : ℕ) → node_at x.unit form key ≡ Some (Node.Catch v body) → GoodCont k → CatchAs x conv form bound held v body k t → Good t
    catch_good form key bound held v body k t q g h =
        good t (Step.Catch h.name h.inner k) h.stands (T.catches form key body v h.name h.inner k q) tt (
          assigned_good T (h.name.0 ∷ held) (v ∷ []) (Argument.Var h.name ∷ []) h.inner h.start (var_good T h.name, tt)
              (go form (v.0 ∷ bound) (v.0 ∷ held) body (Continuation.Lam h.value h.end) h.start
              (good h.end (Step.Uncatch k (Argument.Var h.value)) h.ends (T.uncatch form key body v (Argument.Var h.value) k q (T.var h.value)) tt (cont_good k [] g)) h.body_as)
              h.assigned,
          cont_good k [] g,
        )

    methods_good : (form : ℕ) (bound : List ℕ) (methods : List Method) (ops lams : List ℕ) → ((i : ℕ) (m : Method) (lam : Lam) → slice_get methods i ≡ Some m → length lam.params ≡ length m.params → R lam) → MethodsAs x conv form bound methods ops lams → MethodLams methods ops lams × AllByRecursion GoodLam lams
    methods_good form bound [] [] [] f h = (tt, tt)
    methods_good form bound (m ∷ methods) (o ∷ ops) (l ∷ lams) f h =
        let r = methods_good form bound methods ops lams (λ i. f (suc i)) h.2 in
        let z = h.1 in
        let count = sym (variables_count z.0.params) ∙ assigned_count (adding z.0.params bound) m.params (variables z.0.params) z.0.body z.2.start z.2.assigned in
        ((h.0, (z.0, z.1, count), r.0), (lam_good form bound m.params m.body l (λ lam c. f 0 m lam refl c) z, r.1))
    methods_good form bound [] [] (l ∷ lams) f h = absurd h
    methods_good form bound [] (o ∷ ops) lams f h = absurd h
    methods_good form bound (m ∷ methods) [] lams f h = absurd h
    methods_good form bound (m ∷ methods) (o ∷ ops) [] f h = absurd h

    object_good : (form key : ℕ) (bound held : List ℕ) (proc : ℕ) (methods : List Method) (k : Cont) (t : ℕ) → node_at x.unit form key ≡ Some (Node.Object proc methods) → GoodCont k → ObjectAs x conv form bound held proc methods k t → Good t
    object_good form key bound held proc methods k t q g h =
        let r = methods_good form bound methods h.ops h.lams (λ i m lam e c. T.method form key proc methods m i lam q e c) h.methods_as in
        one_good form bound held proc (λ a. Step.Object a h.ops h.lams k) t
        (λ a ga u s. good u (Step.Object a h.ops h.lams k) s (T.object form key proc methods a h.ops h.lams k q r.0 ga.0) (each_append GoodLam (filter_map proc_of (a ∷ [])) h.lams (procs_good (a ∷ []) (ga, tt)) r.1) (cont_good k [] g))
        h.over

    call_good : (form key : ℕ) (bound held : List ℕ) (operator : ℕ) (operands : List ℕ) (tail : Bool) (k : Cont) (t : ℕ) → node_at x.unit form key ≡ Some (Node.Call operator operands tail) → GoodCont k → CallAs x conv form bound held operator operands k t → Good t
    call_good form key bound held operator operands tail k t q g h =
        over_good form bound held (operator ∷ operands) (h.f ∷ h.args) (Step.Call h.f h.args k) t
        (λ given count u s. good u (Step.Call h.f h.args k) s (T.call form key operator operands tail h.f h.args k q (suc_same count) (each_more GoodArg A (h.f ∷ h.args) (λ a ga. ga.0) given)) (procs_good (h.f ∷ h.args) given) (cont_good k [] g))
        h.over
      where
        suc_same : {m n : ℕ} → suc m ≡ suc n → m ≡ n
        suc_same e = cc

    prim_good : (form key : ℕ) (bound held : List ℕ) (b : Builtin) (operands : List ℕ) (k : Cont) (t : ℕ) → node_at x.unit form key ≡ Some (Node.Prim b operands) → GoodCont k → PrimAs x conv form bound held b operands k t → Good t
    prim_good form key bound held b operands k t q g h =
        over_good form bound held operands h.args (Step.Prim b h.args k) t
        (λ given count u s. good u (Step.Prim b h.args k) s (T.prim form key b operands h.args k q count (each_more GoodArg A h.args (λ a ga. ga.0) given)) (procs_good h.args given) (cont_good k [] g))
        h.over

    -- an argument by which a node stands
    ready_node : (form key : ℕ) (node : Core) (a : Arg) → node_at x.unit form key ≡ Some node → ready_arg x.unit node ≡ Some a → GoodArg a
    ready_node form key node a q e = ready_good T form key a (ap (option_and_then (ready_arg x.unit)) q ∙ e)

    global_good : (form key g : ℕ) (k : Cont) (t : ℕ) → node_at x.unit form key ≡ Some (Node.Global g) → GoodCont k → Stands x t (if is_proc x.unit g then Step.Give k (Argument.Global g) else Step.GlobalGet g k) → Good t
    global_good form key g k t q c h = by (is_proc x.unit g) refl h
      where
        by : (b : Bool) → is_proc x.unit g ≡ b → Stands x t (if b then Step.Give k (Argument.Global g) else Step.GlobalGet g k) → Good t
        by true e h = give_good T t k (Argument.Global g) h (ready_node form key (Node.Global g) (Argument.Global g) q (ap (λ b. if b then Some (Argument.Global g) else None) e)) c
        by false e h = good t (Step.GlobalGet g k) h (T.get form key g k q e) tt (cont_good k [] c)

    node_good : (form : ℕ) (bound held : List ℕ) (key : ℕ) (k : Cont) (t : ℕ) (node : Option Core) → node_at x.unit form key ≡ node → GoodCont k → ConvertsNode x conv form bound held key node k t → Good t
    node_good form bound held key k t None q g h = absurd h
    node_good form bound held key k t (Some (Node.Const c)) q g h = give_good T t k (Argument.Const c) h (ready_node form key (Node.Const c) (Argument.Const c) q refl) g
    node_good form bound held key k t (Some (Node.Local v)) q g h = give_good T t k (Argument.Var v) h.1 (var_good T v) g
    node_good form bound held key k t (Some (Node.Global gl)) q g h = global_good form key gl k t q g h
    node_good form bound held key k t (Some (Node.Builtin b)) q g h = give_good T t k (Argument.Builtin b) h (ready_node form key (Node.Builtin b) (Argument.Builtin b) q refl) g
    node_good form bound held key k t (Some (Node.Op o)) q g h = give_good T t k (Argument.Op o) h (ready_node form key (Node.Op o) (Argument.Op o) q refl) g
    node_good form bound held key k t (Some (Node.Lambda params body)) q g h = lambda_for form key bound held params body k t q g h
    node_good form bound held key k t (Some (Node.If test first second)) q g h = named_good k t (IfAs x conv form bound held test first second) g (λ j u gj r. if_good form bound held test first second j u gj r) h
    node_good form bound held key k t (Some (Node.Block items)) q g h = block_good form bound held items k t g h
    node_good form bound held key k t (Some (Node.Let vars values body)) q g h = let_good form bound held vars values body k t g h
    node_good form bound held key k t (Some (Node.Labels vars lambdas body)) q g h = labels_good form bound held vars lambdas body k t g h
    node_good form bound held key k t (Some (Node.SetLocal v value)) q g h =
        one_good form bound held value (λ a. Step.Set v a k) t (λ a ga u s. good u (Step.Set v a k) s (T.set_local form key value v a k q ga.0) (procs_good (a ∷ []) (ga, tt)) (cont_good k [] g)) h.1
    node_good form bound held key k t (Some (Node.SetGlobal gl value)) q g h =
        one_good form bound held value (λ a. Step.GlobalSet gl a k) t (λ a ga u s. good u (Step.GlobalSet gl a k) s (T.set_global form key value gl a k q h.0 ga.0) (procs_good (a ∷ []) (ga, tt)) (cont_good k [] g)) h.1
    node_good form bound held key k t (Some (Node.Catch v body)) q g h = named_good k t (CatchAs x conv form bound held v body) g (λ j u gj r. catch_good form key bound held v body j u q gj r) h
    node_good form bound held key k t (Some (Node.Object proc methods)) q g h = object_good form key bound held proc methods k t q g h
    node_good form bound held key k t (Some (Node.Call operator operands tail)) q g h = call_good form key bound held operator operands tail k t q g h
    node_good form bound held key k t (Some (Node.Prim b operands)) q g h = prim_good form key bound held b operands k t q g h

  -- ---- all nodes

  pub within_good : (T : Table) (n : ℕ) (form : ℕ) (bound held : List ℕ) (key : ℕ) (k : Cont) (t : ℕ) → GoodCont k → ConvertsWithin x n form bound held key k t → Good t
  within_good T zero form bound held key k t g h = absurd h
  within_good T (suc n) form bound held key k t g h = node_good T n (within_good T n) form bound held key k t (node_at x.unit form key) refl g h

  -- ---- forms

  -- a form that defines a global has a value by a term of its own only where the global is no procedure, and what does so is within the test
  pub record FormTable : Type 0 where
    pub init : (at : ℕ) (f : Form) (g : ℕ) (a : Arg) (k : Cont) → slice_get x.unit.forms.items at ≡ Some f → (f.kind ≡ Define g) ⊎ (f.kind ≡ Lset g) → is_proc x.unit g ≡ false → A a → P (Step.GlobalInit g a k)

  name_is_none : {X : Type 0} (f : X → Const) (o : Option X) (a : Arg) → option_map (λ i. Argument.Const (f i)) o ≡ Some a → ProcGood a
  name_is_none f None a e = none_some a e
  name_is_none f (Some i) a e = subst ProcGood (some_same (Argument.Const (f i)) a e) tt

  global_named : Table → (g : ℕ) (a : Arg) → name_of_global x.cps.shared g ≡ Some a → GoodArg a
  global_named T g a e = (T.global_name g a e, name_is_none (λ info. Constant.Sym info.name) (slice_get x.cps.shared.globals.items g) a e)

  op_named : Table → (o : ℕ) (a : Arg) → name_of_op x.cps.shared o ≡ Some a → GoodArg a
  op_named T o a e = (T.op_name o a e, name_is_none (λ info. Constant.Sym info.name) (slice_get x.cps.shared.ops.items o) a e)

  module _ (T : Table) (F : FormTable) (n : ℕ) where
    init_good : (at : ℕ) (f : Form) (g t next : ℕ) (a : Arg) → slice_get x.unit.forms.items at ≡ Some f → (f.kind ≡ Define g) ⊎ (f.kind ≡ Lset g) → (GoodArg a → Good next) → InitAs x (ConvertsWithin x n) at f.root g t next a → Good t
    init_good at f g t next a e k c h =
        one_good T n (within_good T n) at [] [] f.root (λ value. Step.GlobalInit g value (Continuation.Lam h.unused next)) t
        (λ v gv u s. made u (Step.GlobalInit g v (Continuation.Lam h.unused next)) s (F.init at f g v (Continuation.Lam h.unused next) e k h.no_procedure gv.0) (procs_good (v ∷ []) (gv, tt)) (c (global_named T g a h.gives), tt))
        h.over

    form_good : (at : ℕ) (f : Form) (kind : FormKind) (p : Option Procedure) (t next : ℕ) (a : Arg) → slice_get x.unit.forms.items at ≡ Some f → f.kind ≡ kind → (GoodArg a → Good next) → FormAs x (ConvertsWithin x n) at kind p f.root t next a → Good t
    form_good at f (Define g) (Some p) t next a e q c h = subst Good h.0 (c (global_named T g a h.2))
    form_good at f (Define g) None t next a e q c h = init_good at f g t next a e (inl q) c h
    form_good at f (Lset g) p t next a e q c h = init_good at f g t next a e (inr q) c h
    form_good at f (Operation o) p t next a e q c h = subst Good h.0 (c (op_named T o a h.1))
    form_good at f Plain p t next a e q c h = within_good T n at [] [] f.root (Continuation.Lam h.value next) t (c (subst GoodArg (sym h.gives) (var_good T h.value))) h.root_as

    pub forms_good : (at : ℕ) (forms : List Form) (before : Arg) (t : ℕ) → ((i : ℕ) (f : Form) → slice_get forms i ≡ Some f → slice_get x.unit.forms.items (at + i) ≡ Some f) → GoodArg before → FormsAs x (ConvertsWithin x n) at forms before t → Good t
    forms_good at [] before t all b h = made t (Step.Halt before) h (T.halt before b.0) (procs_good (before ∷ []) (b, tt)) tt
    forms_good at (f ∷ forms) before t all b h =
        form_good at f f.kind (lambda_of at f) t h.0 h.1 (subst (λ i. slice_get x.unit.forms.items i ≡ Some f) (omega arith) (all 0 f refl)) refl
        (λ a. forms_good (suc at) forms h.1 h.0 (λ i g e. subst (λ j. slice_get x.unit.forms.items j ≡ Some g) (omega arith) (all (suc i) g e)) a h.3)
        h.2
