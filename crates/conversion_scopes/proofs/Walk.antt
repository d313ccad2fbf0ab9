-- What a conversion makes is fine where it stands.
use Rattle.std.specs.List.{AllByRecursion, filter_map}
use Rattle.std.proofs.Common.{◌≡◌, ℕ, zero, suc, Bool, true, false, if◌then◌else◌, ◌⊎◌, inl, inr, List, [], ◌∷◌, ◌++◌, map, Option, Some, None, slice_get, refl, sym, ap, ◌∙◌, subst, arith, append_assoc}
use Rattle.std.proofs.lemmas.Bool.{true≢false}
use Rattle.t_base.specs.declared.basics.Var.{Var}
use Rattle.t_base.specs.declared.builtins.Builtin.{Builtin}
use Rattle.t_base.specs.declared.shared_parts.Global1.{Global1}
use Rattle.t_base.specs.declared.shared_parts.OpInfo.{OpInfo}
use Rattle.t_base.specs.declared.shared_parts.Const.TheVariants as Constant
use Rattle.t_core.specs.declared.forms.Core.{Core}
use Rattle.t_core.specs.declared.forms.Core.TheVariants as Node
use Rattle.t_core.specs.declared.forms.Method.{Method}
use Rattle.t_core.specs.declared.forms.FormKind.{FormKind}
use Rattle.t_core.specs.declared.forms.FormKind.TheVariants.{Define, Lset, Operation, Plain}
use Rattle.t_core.specs.declared.forms.Form.{Form}
use Rattle.t_meaning.specs.State.{Procedure}
use Rattle.t_meaning.specs.Operations.{lambda_of}
use Rattle.t_meaning.specs.Programs.{node_at}
use Rattle.t_meaning.specs.Costs.{is_assigned}
use Rattle.cps_ir.specs.declared.args.Arg.{Arg}
use Rattle.cps_ir.specs.declared.args.Arg.TheVariants as Argument
use Rattle.cps_ir.specs.declared.terms.Cont.{Cont}
use Rattle.cps_ir.specs.declared.terms.Cont.TheVariants as Continuation
use Rattle.cps_ir.specs.declared.terms.Lam.{Lam}
use Rattle.cps_ir.specs.declared.terms.Term.{Term}
use Rattle.cps_ir.specs.declared.terms.Term.TheVariants as Step
use Rattle.cps_ir.specs.Parts.{Name, Named, OwnK, JoinK, named, proc_of}
use Rattle.cps_ir.specs.Reaches.{is_in}
use Rattle.cps_ir.specs.Whole.{open_at}
use Rattle.cps_ir.proofs.ProperLists.{some_same, each_append}
use Rattle.cps_ir.proofs.Closed.{same_number}
use Rattle.cps_order.specs.Order.{IsOrdered}
use Rattle.cps_conversion.specs.Conversion.{Translation, Stands, Converting, AreNew, Assigned, variables, adding, is_proc, nowhere, Values, OverAll, OverOne, LamAt, LambdaAt, WithName, LambdaFor, IfAs, BlockAs, own_place, LetAs, unset, Names, Sets, LambdaNode, LambdaNodes, adding_assigned, LabelsAs, CatchAs, MethodsAs, ObjectAs, CallAs, PrimAs, ConvertsNode, ConvertsWithin, InitAs, FormAs, FormsAs}
use Rattle.conversion_scopes.proofs.Scopes.{Has, first_of, behind_it, Extends, same_scope, wider, with_value, with_values, HasAll, values_in, all_grown, HasBound, bound_grown, none_bound, one_bound, all_bound, own_way, ArgIn, arg_grown, args_grown, args_named, no_procs, variables_in, name_in, ready_in, IsFree, AreFree, args_free}
use Rattle.conversion_scopes.proofs.Scopes as scopes

module _ (x : Translation) (ordered : IsOrdered x.cps) where
  abbrev Good : List Name → List ℕ → ℕ → Type 0
  Good = scopes.Good x.unit x.cps ordered

  abbrev GoodLam : List Name → List Name → ℕ → Type 0
  GoodLam = scopes.GoodLam x.unit x.cps ordered

  abbrev GoodCont : List Name → List ℕ → Cont → Type 0
  GoodCont = scopes.GoodCont x.unit x.cps ordered

  -- ---- assigned variables

  -- arguments to which assigned variables are bound
  abbrev ArgsFor : List Name → List Var → List Arg → Type 0
  ArgsFor scope (v ∷ vars) (a ∷ args) = (is_assigned x.unit v ≡ true → ArgIn x.unit scope a) × ArgsFor scope vars args
  ArgsFor scope _ _ = Unit {0}

  -- each variable is bound, or it isn't assigned and is its own argument
  abbrev BoundAs : List Name → List Var → List Arg → Type 0
  BoundAs scope [] [] = Unit {0}
  BoundAs scope (v ∷ vars) (a ∷ args) = (Has scope v.0 ⊎ (is_assigned x.unit v ≡ false) × (a ≡ Argument.Var v)) × BoundAs scope vars args
  BoundAs scope _ _ = ⊥

  for_grown : (scope wide : List Name) (vars : List Var) (args : List Arg) → ((v : ℕ) → Has scope v → Has wide v) → ArgsFor scope vars args → ArgsFor wide vars args
  for_grown scope wide [] [] f h = tt
  for_grown scope wide [] (a ∷ args) f h = tt
  for_grown scope wide (v ∷ vars) [] f h = tt
  for_grown scope wide (v ∷ vars) (a ∷ args) f h = ((λ e. arg_grown x.unit scope wide a f (h.0 e)), for_grown scope wide vars args f h.1)

  for_all : (scope : List Name) (vars : List Var) (args : List Arg) → AllByRecursion (ArgIn x.unit scope) args → ArgsFor scope vars args
  for_all scope [] [] h = tt
  for_all scope [] (a ∷ args) h = tt
  for_all scope (v ∷ vars) [] h = tt
  for_all scope (v ∷ vars) (a ∷ args) h = ((λ e. h.0), for_all scope vars args h.1)

  each_bound : (scope : List Name) (vars : List Var) (args : List Arg) → AllByRecursion (ArgIn x.unit scope) args → BoundAs scope vars args → HasAll scope vars
  each_bound scope [] [] h b = tt
  each_bound scope (v ∷ vars) (a ∷ args) h b = (by b.0, each_bound scope vars args h.1 b.1)
    where
      by : Has scope v.0 ⊎ (is_assigned x.unit v ≡ false) × (a ≡ Argument.Var v) → Has scope v.0
      by (inl c) = c
      by (inr e) = (subst (ArgIn x.unit scope) e.1 h.0).0
  each_bound scope [] (a ∷ args) h b = absurd b
  each_bound scope (v ∷ vars) [] h b = absurd b

  assigned_good : (held : List ℕ) (vars : List Var) (args : List Arg) (t next : ℕ) (scope : List Name) (catches : List ℕ) → ArgsFor scope vars args
      → ((wide : List Name) → Extends scope wide → BoundAs wide vars args → Good wide catches next) → Assigned x held vars args t next → Good scope catches t
  assigned_good held [] [] t next scope catches given f h = subst (Good scope catches) h (f scope (same_scope scope) tt)
  assigned_good held (v ∷ vars) (a ∷ args) t next scope catches given f (inl h) =
      assigned_good held vars args t next scope catches given.1 (λ wide e b. f wide e (inr (h.0, h.1), b)) h.2
  assigned_good held (v ∷ vars) (a ∷ args) t next scope catches given f (inr h) =
      scopes.bind_good x.unit x.cps ordered scope catches t v h.2.0 a h.2.1 (given.0 h.0)
      (assigned_good (v.0 ∷ held) vars args h.2.0 next (Named v.0 ∷ scope) catches
      (for_grown scope (Named v.0 ∷ scope) vars args (with_value scope v.0).values given.1)
      (λ more e2 b. f more (wider scope (Named v.0 ∷ scope) more (with_value scope v.0) e2) (inl (e2.values v.0 (first_of (Named v.0) scope)), b)) h.2.2)
  assigned_good held [] (a ∷ args) t next scope catches given f h = absurd h
  assigned_good held (v ∷ vars) [] t next scope catches given f h = absurd h

  -- ---- nodes, where all that is nested less deep is known

  module _ (n : ℕ) (go : (form : ℕ) (bound held : List ℕ) (key : ℕ) (k : Cont) (t : ℕ) (scope : List Name) (catches : List ℕ) → HasBound scope bound → GoodCont scope catches k → ConvertsWithin x n form bound held key k t → Good scope catches t) where
    abbrev conv : Converting
    conv = ConvertsWithin x n

    values_good : (form : ℕ) (bound held : List ℕ) (tos : List (Option Var)) (keys : List ℕ) (args : List Arg) (t last : ℕ) (inner : List ℕ) (scope : List Name) (catches : List ℕ) → HasBound scope bound
        → ((wide : List Name) → Extends scope wide → AllByRecursion (ArgIn x.unit wide) args → Good wide catches last) → Values x conv form bound held tos keys args t last inner → Good scope catches t
    values_good form bound held [] [] [] t last inner scope catches b f h = subst (Good scope catches) h.0 (f scope (same_scope scope) tt)
    values_good form bound held (None ∷ tos) (key ∷ keys) (a ∷ args) t last inner scope catches b f (inl h) =
        values_good form bound held tos keys args t last inner scope catches b
        (λ wide e given. f wide e (arg_grown x.unit scope wide a e.values (ready_in x.unit scope bound (node_at x.unit form key) a b h.0 h.1), given)) h.2
    values_good form bound held (None ∷ tos) (key ∷ keys) (a ∷ args) t last inner scope catches b f (inr h) =
        go form bound held key (Continuation.Lam h.1.0 h.1.1) t scope catches b (
          h.1.3.unassigned,
          λ wide e.
              let here = wider scope wide (Named h.1.0.0 ∷ wide) e (with_value wide h.1.0.0) in
              values_good form bound (h.1.0.0 ∷ held) tos keys args h.1.1 last inner (Named h.1.0.0 ∷ wide) catches (bound_grown scope (Named h.1.0.0 ∷ wide) bound here.values b)
              (λ more e2 given. f more (wider scope (Named h.1.0.0 ∷ wide) more here e2) (subst (ArgIn x.unit more) (sym h.1.2) (e2.values h.1.0.0 (first_of (Named h.1.0.0) wide), h.1.3.unassigned), given)) h.1.5,
        )
        h.1.4
    values_good form bound held (Some v ∷ tos) (key ∷ keys) (a ∷ args) t last inner scope catches b f h =
        go form bound held key (Continuation.Lam v h.0) t scope catches b (
          h.2.unassigned,
          λ wide e.
              let here = wider scope wide (Named v.0 ∷ wide) e (with_value wide v.0) in
              values_good form bound (v.0 ∷ held) tos keys args h.0 last inner (Named v.0 ∷ wide) catches (bound_grown scope (Named v.0 ∷ wide) bound here.values b)
              (λ more e2 given. f more (wider scope (Named v.0 ∷ wide) more here e2) (subst (ArgIn x.unit more) (sym h.1) (e2.values v.0 (first_of (Named v.0) wide), h.2.unassigned), given)) h.4,
        )
        h.3
    values_good form bound held [] [] (a ∷ args) t last inner scope catches b f h = absurd h
    values_good form bound held [] (key ∷ keys) args t last inner scope catches b f h = absurd h
    values_good form bound held (None ∷ tos) [] args t last inner scope catches b f h = absurd h
    values_good form bound held (Some v ∷ tos) [] args t last inner scope catches b f h = absurd h
    values_good form bound held (None ∷ tos) (key ∷ keys) [] t last inner scope catches b f h = absurd h
    values_good form bound held (Some v ∷ tos) (key ∷ keys) [] t last inner scope catches b f h = absurd h

    over_good : (form : ℕ) (bound held : List ℕ) (keys : List ℕ) (args : List Arg) (term : Term) (t : ℕ) (scope : List Name) (catches : List ℕ) → HasBound scope bound
        → ((wide : List Name) → Extends scope wide → AllByRecursion (ArgIn x.unit wide) args → (u : ℕ) → Stands x u term → Good wide catches u) → OverAll x conv form bound held keys args term t → Good scope catches t
    over_good form bound held keys args term t scope catches b f h =
        values_good form bound held (nowhere keys) keys args t h.last h.inner scope catches b (λ wide e given. f wide e given h.last h.stands) h.values

    one_good : (form : ℕ) (bound held : List ℕ) (key : ℕ) (term : Arg → Term) (t : ℕ) (scope : List Name) (catches : List ℕ) → HasBound scope bound
        → ((a : Arg) (wide : List Name) → Extends scope wide → ArgIn x.unit wide a → (u : ℕ) → Stands x u (term a) → Good wide catches u) → OverOne x conv form bound held key term t → Good scope catches t
    one_good form bound held key term t scope catches b f h = over_good form bound held (key ∷ []) (h.0 ∷ []) (term h.0) t scope catches b (λ wide e given u s. f h.0 wide e given.0 u s) h.1

    -- ---- procedures

    new_free : (held : List ℕ) (vars : List Var) → AreNew x held vars → AreFree x.unit vars
    new_free held [] h = tt
    new_free held (v ∷ vars) h = (h.0.unassigned, new_free (v.0 ∷ held) vars h.1)

    pub lam_good : (form : ℕ) (bound : List ℕ) (params : List Var) (body l : ℕ) (scope names : List Name) → HasBound (names ++ scope) bound → LamAt x conv form bound params body l → GoodLam scope names l
    lam_good form bound params body l scope names b h = record {
      free = λ lam e. subst (λ z. AreFree x.unit z.params) (some_same h.0 lam (sym h.1 ∙ e)) (new_free bound h.0.params h.2.names_new);
      body = λ lam e.
          subst (λ z. Good ((named z.params ++ OwnK z.k.0 ∷ names) ++ scope) [] z.body) (some_same h.0 lam (sym h.1 ∙ e))
          (subst (λ s. Good s [] h.0.body) (sym (append_assoc (named h.0.params) (OwnK h.0.k.0 ∷ names) scope)) (inside h.0 h.2.start (adding h.0.params bound) (new_free bound h.0.params h.2.names_new) h.2.assigned h.2.body_as));
    }
      where
        inside : (lam : Lam) (start : ℕ) (held : List ℕ) → AreFree x.unit lam.params → Assigned x held params (variables lam.params) lam.body start → conv form (adding params bound) (adding params bound) body (Continuation.Var lam.k) start
            → Good (named lam.params ++ OwnK lam.k.0 ∷ (names ++ scope)) [] lam.body
        inside lam start held free assigned body_as =
            let outer = OwnK lam.k.0 ∷ (names ++ scope) in
            let all = named lam.params ++ outer in
            let own = values_in lam.params outer in
            let around = λ (v : ℕ) (c : Has (names ++ scope) v). (with_values lam.params outer).values v (behind_it (OwnK lam.k.0) (Named v) (names ++ scope) c) in
            assigned_good held params (variables lam.params) lam.body start all [] (for_all all params (variables lam.params) (variables_in x.unit all lam.params own free))
            (λ wide e bs.
            go form (adding params bound) (adding params bound) body (Continuation.Var lam.k) start wide []
            (all_bound wide params bound (each_bound wide params (variables lam.params) (args_grown x.unit all wide (variables lam.params) e.values (variables_in x.unit all lam.params own free)) bs)
            (bound_grown (names ++ scope) wide bound (λ v c. e.values v (around v c)) b))
            (e.ways lam.k.0 ∙ own_way lam.params lam.k.0 (names ++ scope)) body_as)
            assigned

    lambda_good : (form key : ℕ) (bound : List ℕ) (params : List Var) (body l : ℕ) (scope names : List Name) → HasBound (names ++ scope) bound → LambdaAt x conv form bound key params body l → GoodLam scope names l
    lambda_good form key bound params body l scope names b h = lam_good form bound params body l scope names b h.lam_at

    lambda_node : (form key : ℕ) (bound : List ℕ) (l : ℕ) (scope names : List Name) (node : Option Core) → HasBound (names ++ scope) bound → LambdaNode x conv form bound key node l → GoodLam scope names l
    lambda_node form key bound l scope names (Some (Node.Lambda params body)) b h = lambda_good form key bound params body l scope names b h
    lambda_node form key bound l scope names None b h = absurd h
    lambda_node form key bound l scope names (Some (Node.Const c)) b h = absurd h
    lambda_node form key bound l scope names (Some (Node.Local v)) b h = absurd h
    lambda_node form key bound l scope names (Some (Node.Global g)) b h = absurd h
    lambda_node form key bound l scope names (Some (Node.Builtin p)) b h = absurd h
    lambda_node form key bound l scope names (Some (Node.Op o)) b h = absurd h
    lambda_node form key bound l scope names (Some (Node.If test first second)) b h = absurd h
    lambda_node form key bound l scope names (Some (Node.Block items)) b h = absurd h
    lambda_node form key bound l scope names (Some (Node.Let vars values body)) b h = absurd h
    lambda_node form key bound l scope names (Some (Node.Labels vars lambdas body)) b h = absurd h
    lambda_node form key bound l scope names (Some (Node.SetLocal v value)) b h = absurd h
    lambda_node form key bound l scope names (Some (Node.SetGlobal g value)) b h = absurd h
    lambda_node form key bound l scope names (Some (Node.Catch v body)) b h = absurd h
    lambda_node form key bound l scope names (Some (Node.Object proc methods)) b h = absurd h
    lambda_node form key bound l scope names (Some (Node.Call operator operands tail)) b h = absurd h
    lambda_node form key bound l scope names (Some (Node.Prim p operands)) b h = absurd h

    lambda_nodes : (form : ℕ) (bound : List ℕ) (keys lams : List ℕ) (scope names : List Name) → HasBound (names ++ scope) bound → LambdaNodes x conv form bound keys lams → AllByRecursion (GoodLam scope names) lams
    lambda_nodes form bound [] [] scope names b h = tt
    lambda_nodes form bound (key ∷ keys) (l ∷ lams) scope names b h = (lambda_node form key bound l scope names (node_at x.unit form key) b h.0, lambda_nodes form bound keys lams scope names b h.1)
    lambda_nodes form bound [] (l ∷ lams) scope names b h = absurd h
    lambda_nodes form bound (key ∷ keys) [] scope names b h = absurd h

    methods_good : (form : ℕ) (bound : List ℕ) (methods : List Method) (ops lams : List ℕ) (scope : List Name) → HasBound scope bound → MethodsAs x conv form bound methods ops lams → AllByRecursion (GoodLam scope []) lams
    methods_good form bound [] [] [] scope b h = tt
    methods_good form bound (m ∷ methods) (o ∷ ops) (l ∷ lams) scope b h = (lam_good form bound m.params m.body l scope [] b h.1, methods_good form bound methods ops lams scope b h.2)
    methods_good form bound [] [] (l ∷ lams) scope b h = absurd h
    methods_good form bound [] (o ∷ ops) lams scope b h = absurd h
    methods_good form bound (m ∷ methods) [] lams scope b h = absurd h
    methods_good form bound (m ∷ methods) (o ∷ ops) [] scope b h = absurd h

    -- ---- nodes, by their kinds

    named_good : (k : Cont) (t : ℕ) (rest_as : Cont → ℕ → Type 0) (scope : List Name) (catches : List ℕ) → GoodCont scope catches k
        → ((j : Cont) (wide : List Name) (u : ℕ) → ((v : ℕ) → Has scope v → Has wide v) → GoodCont wide catches j → rest_as j u → Good wide catches u) → WithName x k t rest_as → Good scope catches t
    named_good (Continuation.Var k) t rest_as scope catches g f h = f (Continuation.Var k) scope t (λ v c. c) g h
    named_good (Continuation.Lam v body) t rest_as scope catches g f h =
        scopes.made x.unit x.cps ordered scope catches t (Step.Join h.0 v body h.1) h.2 tt tt tt tt g.0 tt (
          g.1 scope (same_scope scope),
          (f (Continuation.Var h.0) (JoinK h.0.0 catches ∷ scope) h.1 (λ w c. behind_it (JoinK h.0.0 catches) (Named w) scope c) (ap (λ b. if b then Some catches else open_at scope h.0.0) (same_number h.0.0 h.0.0 refl)) h.3, tt),
        )

    lambda_for : (form key : ℕ) (bound held : List ℕ) (params : List Var) (body : ℕ) (k : Cont) (t : ℕ) (scope : List Name) (catches : List ℕ) → HasBound scope bound → GoodCont scope catches k → LambdaFor x conv form bound held key params body k t → Good scope catches t
    lambda_for form key bound held params body (Continuation.Var k) t scope catches b g h =
        scopes.give_good x.unit x.cps ordered scope catches t (Continuation.Var k) (Argument.Proc h.0) h.2 tt (lambda_good form key bound params body h.0 scope [] b h.1, tt) g
    lambda_for form key bound held params body (Continuation.Lam v rest) t scope catches b g h =
        scopes.made x.unit x.cps ordered scope catches t (Step.Labels (v ∷ []) (h.0 ∷ []) rest) h.3 tt tt tt tt (h.1.unassigned, tt)
        (lambda_good form key bound params body h.0 scope (Named v.0 ∷ []) (bound_grown scope (Named v.0 ∷ scope) bound (with_value scope v.0).values b) h.2, tt) (g.1 scope (same_scope scope), tt)

    if_good : (form : ℕ) (bound held : List ℕ) (test first second : ℕ) (k : Cont) (t : ℕ) (scope : List Name) (catches : List ℕ) → HasBound scope bound → GoodCont scope catches k → IfAs x conv form bound held test first second k t → Good scope catches t
    if_good form bound held test first second k t scope catches b g h =
        one_good form bound held test (λ a. Step.If a h.first_at h.second_at) t scope catches b
        (λ a wide e given u s.
        let wide_bound = bound_grown scope wide bound e.values b in
        let cont = scopes.cont_grown x.unit x.cps ordered scope wide catches k e g in
        scopes.made x.unit x.cps ordered wide catches u (Step.If a h.first_at h.second_at) s (args_named x.unit wide (a ∷ []) (given, tt)) tt tt tt (args_free x.unit wide (a ∷ []) (given, tt)) (no_procs x.unit (GoodLam wide []) wide (a ∷ []) (given, tt))
        (go form bound held first k h.first_at wide catches wide_bound cont h.first_as, (go form bound held second k h.second_at wide catches wide_bound cont h.second_as, tt))) h.over

    block_good : (form : ℕ) (bound held : List ℕ) (items : List ℕ) (k : Cont) (t : ℕ) (scope : List Name) (catches : List ℕ) → HasBound scope bound → GoodCont scope catches k → BlockAs x conv form bound held items k t → Good scope catches t
    block_good form bound held [] k t scope catches b g h = absurd h
    block_good form bound held (key ∷ []) k t scope catches b g h = go form bound held key k t scope catches b g h
    block_good form bound held (key ∷ next ∷ keys) k t scope catches b g h =
        go form bound held key (Continuation.Lam h.0 h.1) t scope catches b (
          h.2.unassigned,
          λ wide e.
              let here = wider scope wide (Named h.0.0 ∷ wide) e (with_value wide h.0.0) in
              block_good form bound held (next ∷ keys) k h.1 (Named h.0.0 ∷ wide) catches (bound_grown scope (Named h.0.0 ∷ wide) bound here.values b) (scopes.cont_grown x.unit x.cps ordered scope (Named h.0.0 ∷ wide) catches k here g) h.4,
        ) h.3

    let_good : (form : ℕ) (bound held : List ℕ) (vars : List Var) (keys : List ℕ) (body : ℕ) (k : Cont) (t : ℕ) (scope : List Name) (catches : List ℕ) → HasBound scope bound → GoodCont scope catches k → LetAs x conv form bound held vars keys body k t → Good scope catches t
    let_good form bound held vars keys body k t scope catches b g h =
        values_good form bound held (map (own_place x.unit) vars) keys h.args t h.behind h.inner scope catches b
        (λ wide e given.
        assigned_good h.inner vars h.args h.behind h.start wide catches (for_all wide vars h.args given)
        (λ more e2 bs.
        let here = wider scope wide more e e2 in
        go form (adding vars bound) (adding vars held) body k h.start more catches
        (all_bound more vars bound (each_bound more vars h.args (args_grown x.unit wide more h.args e2.values given) bs) (bound_grown scope more bound here.values b)) (scopes.cont_grown x.unit x.cps ordered scope more catches k here g) h.body_as)
        h.assigned)
        h.values

    -- ---- LABELS

    unset_for : (scope : List Name) (vars : List Var) → ArgsFor scope vars (map (unset x.unit) vars)
    unset_for scope [] = tt
    unset_for scope (v ∷ vars) = ((λ e. subst (λ b. ArgIn x.unit scope (if b then Argument.Const Constant.Nil else Argument.Var v)) (sym e) tt), unset_for scope vars)

    labelled : (scope wide : List Name) (vars names : List Var) → ((v : ℕ) → Has scope v → Has wide v) → HasAll wide names → Names x.unit vars names → BoundAs scope vars (map (unset x.unit) vars) → HasAll wide vars
    labelled scope wide [] [] f all h b = tt
    labelled scope wide (v ∷ vars) (y ∷ names) f all h b = (by h.0 b.0, labelled scope wide vars names f all.1 h.1 b.1)
      where
        by : (is_assigned x.unit v ≡ true) ⊎ (y ≡ v) → Has scope v.0 ⊎ (is_assigned x.unit v ≡ false) × (unset x.unit v ≡ Argument.Var v) → Has wide v.0
        by p (inl c) = f v.0 c
        by (inl e) (inr q) = absurd (true≢false (sym e ∙ q.0))
        by (inr e) (inr q) = subst (λ (z : Var). Has wide z.0) e all.0
    labelled scope wide [] (y ∷ names) f all h b = absurd h
    labelled scope wide (v ∷ vars) [] f all h b = absurd h

    sets_good : (held : List ℕ) (vars names : List Var) (t next : ℕ) (scope : List Name) (catches : List ℕ) → HasAll scope vars → HasAll scope names → AreFree x.unit names → ((wide : List Name) → Extends scope wide → Good wide catches next) → Sets x held vars names t next → Good scope catches t
    sets_good held [] [] t next scope catches hv hn free f h = subst (Good scope catches) h (f scope (same_scope scope))
    sets_good held (v ∷ vars) (y ∷ names) t next scope catches hv hn free f (inl h) = sets_good held vars names t next scope catches hv.1 hn.1 free.1 f h.1
    sets_good held (v ∷ vars) (y ∷ names) t next scope catches hv hn free f (inr h) =
        let wide = Named h.1.0.0 ∷ scope in
        let e = with_value scope h.1.0.0 in
        scopes.made x.unit x.cps ordered scope catches t (Step.Set v (Argument.Var y) (Continuation.Lam h.1.0 h.1.1)) h.1.3 (hn.0, tt) hv.0 tt tt ((free.0, tt), h.1.2.unassigned) tt
        (sets_good held vars names h.1.1 next wide catches (all_grown scope wide vars e.values hv.1) (all_grown scope wide names e.values hn.1) free.1 (λ more e2. f more (wider scope wide more e e2)) h.1.4, tt)
    sets_good held [] (y ∷ names) t next scope catches hv hn free f h = absurd h
    sets_good held (v ∷ vars) [] t next scope catches hv hn free f h = absurd h

    labels_good : (form : ℕ) (bound held : List ℕ) (vars : List Var) (keys : List ℕ) (body : ℕ) (k : Cont) (t : ℕ) (scope : List Name) (catches : List ℕ) → HasBound scope bound → GoodCont scope catches k → LabelsAs x conv form bound held vars keys body k t → Good scope catches t
    labels_good form bound held vars keys body k t scope catches b g h =
        assigned_good held vars (map (unset x.unit) vars) t h.at scope catches (unset_for scope vars)
        (λ wide e bs.
        let inner = named h.names ++ wide in
        let in_names = with_values h.names wide in
        let here = wider scope wide inner e in_names in
        let own = values_in h.names wide in
        let all = labelled wide inner vars h.names in_names.values own h.names_for bs in
        let free = new_free (adding_assigned x.unit vars held) h.names h.names_new in
        let inner_bound = all_bound inner vars bound all (bound_grown scope inner bound here.values b) in
        scopes.made x.unit x.cps ordered wide catches h.at (Step.Labels h.names h.lams h.behind) h.stands tt tt tt tt free (lambda_nodes form (adding vars bound) keys h.lams wide (named h.names) inner_bound h.lambdas) (
          sets_good (adding h.names (adding_assigned x.unit vars held)) vars h.names h.behind h.start inner catches all own free
              (λ more e2.
              let there = wider scope inner more here e2 in
              go form (adding vars bound) (adding vars held) body k h.start more catches (bound_grown inner more (adding vars bound) e2.values inner_bound) (scopes.cont_grown x.unit x.cps ordered scope more catches k there g) h.body_as) h.sets,
          tt,
        ))
        h.unset

    catch_good : (form : ℕ) (bound held : List ℕ) (v : Var) (body : ℕ) (k : Cont) (t : ℕ) (scope : List Name) (catches : List ℕ) → HasBound scope bound → GoodCont scope catches k → CatchAs x conv form bound held v body k t → Good scope catches t
    catch_good form bound held v body k t scope catches b g h =
        let inner = Named h.name.0 ∷ scope in
        let opened = h.name.0 ∷ catches in
        let first = with_value scope h.name.0 in
        scopes.made x.unit x.cps ordered scope catches t (Step.Catch h.name h.inner k) h.stands tt tt (scopes.cont_leads x.unit x.cps ordered scope catches k g) tt (h.name_new.unassigned, scopes.cont_free x.unit x.cps ordered scope catches k g) tt (
          assigned_good (h.name.0 ∷ held) (v ∷ []) (Argument.Var h.name ∷ []) h.inner h.start inner opened ((λ e. (first_of (Named h.name.0) scope, h.name_new.unassigned)), tt)
              (λ wide e bs.
              let here = wider scope inner wide first e in
              go form (v.0 ∷ bound) (v.0 ∷ held) body (Continuation.Lam h.value h.end) h.start wide opened
              (all_bound wide (v ∷ []) bound (each_bound wide (v ∷ []) (Argument.Var h.name ∷ []) ((e.values h.name.0 (first_of (Named h.name.0) scope), h.name_new.unassigned), tt) bs) (bound_grown scope wide bound here.values b)) (
                h.value_new.unassigned,
                λ more e2.
                    let last = Named h.value.0 ∷ more in
                    let way = scopes.cont_grown x.unit x.cps ordered scope last catches k (wider scope wide last here (wider wide more last e2 (with_value more h.value.0))) g in
                    scopes.made x.unit x.cps ordered last opened h.end (Step.Uncatch k (Argument.Var h.value)) h.ends (first_of (Named h.value.0) more, tt) tt (scopes.cont_leads x.unit x.cps ordered last catches k way) (omega arith) ((h.value_new.unassigned, tt), scopes.cont_free x.unit x.cps ordered last catches k way) tt (scopes.cont_good x.unit x.cps ordered last catches k way),
              )
              h.body_as)
              h.assigned,
          scopes.cont_good x.unit x.cps ordered scope catches k g,
        )

    object_good : (form : ℕ) (bound held : List ℕ) (proc : ℕ) (methods : List Method) (k : Cont) (t : ℕ) (scope : List Name) (catches : List ℕ) → HasBound scope bound → GoodCont scope catches k → ObjectAs x conv form bound held proc methods k t → Good scope catches t
    object_good form bound held proc methods k t scope catches b g h =
        one_good form bound held proc (λ a. Step.Object a h.ops h.lams k) t scope catches b
        (λ a wide e given u s.
        let cont = scopes.cont_grown x.unit x.cps ordered scope wide catches k e g in
        scopes.made x.unit x.cps ordered wide catches u (Step.Object a h.ops h.lams k) s (args_named x.unit wide (a ∷ []) (given, tt)) tt (scopes.cont_leads x.unit x.cps ordered wide catches k cont) tt (args_free x.unit wide (a ∷ []) (given, tt), scopes.cont_free x.unit x.cps ordered wide catches k cont)
        (each_append (GoodLam wide []) (filter_map proc_of (a ∷ [])) h.lams (no_procs x.unit (GoodLam wide []) wide (a ∷ []) (given, tt)) (methods_good form bound methods h.ops h.lams wide (bound_grown scope wide bound e.values b) h.methods_as))
        (scopes.cont_good x.unit x.cps ordered wide catches k cont))
        h.over

    call_good : (form : ℕ) (bound held : List ℕ) (operator : ℕ) (operands : List ℕ) (k : Cont) (t : ℕ) (scope : List Name) (catches : List ℕ) → HasBound scope bound → GoodCont scope catches k → CallAs x conv form bound held operator operands k t → Good scope catches t
    call_good form bound held operator operands k t scope catches b g h =
        over_good form bound held (operator ∷ operands) (h.f ∷ h.args) (Step.Call h.f h.args k) t scope catches b
        (λ wide e given u s.
        let cont = scopes.cont_grown x.unit x.cps ordered scope wide catches k e g in
        scopes.made x.unit x.cps ordered wide catches u (Step.Call h.f h.args k) s (args_named x.unit wide (h.f ∷ h.args) given) tt (scopes.cont_leads x.unit x.cps ordered wide catches k cont) tt (args_free x.unit wide (h.f ∷ h.args) given, scopes.cont_free x.unit x.cps ordered wide catches k cont)
        (no_procs x.unit (GoodLam wide []) wide (h.f ∷ h.args) given) (scopes.cont_good x.unit x.cps ordered wide catches k cont))
        h.over

    prim_good : (form : ℕ) (bound held : List ℕ) (b : Builtin) (operands : List ℕ) (k : Cont) (t : ℕ) (scope : List Name) (catches : List ℕ) → HasBound scope bound → GoodCont scope catches k → PrimAs x conv form bound held b operands k t → Good scope catches t
    prim_good form bound held p operands k t scope catches b g h =
        over_good form bound held operands h.args (Step.Prim p h.args k) t scope catches b
        (λ wide e given u s.
        let cont = scopes.cont_grown x.unit x.cps ordered scope wide catches k e g in
        scopes.made x.unit x.cps ordered wide catches u (Step.Prim p h.args k) s (args_named x.unit wide h.args given) tt (scopes.cont_leads x.unit x.cps ordered wide catches k cont) tt (args_free x.unit wide h.args given, scopes.cont_free x.unit x.cps ordered wide catches k cont)
        (no_procs x.unit (GoodLam wide []) wide h.args given) (scopes.cont_good x.unit x.cps ordered wide catches k cont))
        h.over

    global_good : (g : ℕ) (k : Cont) (t : ℕ) (scope : List Name) (catches : List ℕ) → GoodCont scope catches k → Stands x t (if is_proc x.unit g then Step.Give k (Argument.Global g) else Step.GlobalGet g k) → Good scope catches t
    global_good g k t scope catches c h = by (is_proc x.unit g) h
      where
        by : (b : Bool) → Stands x t (if b then Step.Give k (Argument.Global g) else Step.GlobalGet g k) → Good scope catches t
        by true h = scopes.give_good x.unit x.cps ordered scope catches t k (Argument.Global g) h tt tt c
        by false h = scopes.made x.unit x.cps ordered scope catches t (Step.GlobalGet g k) h tt tt (scopes.cont_leads x.unit x.cps ordered scope catches k c) tt (scopes.cont_free x.unit x.cps ordered scope catches k c) tt (scopes.cont_good x.unit x.cps ordered scope catches k c)

    set_good : (form : ℕ) (bound held : List ℕ) (v : Var) (value : ℕ) (k : Cont) (t : ℕ) (scope : List Name) (catches : List ℕ) → HasBound scope bound → GoodCont scope catches k → is_in bound v.0 ≡ true → OverOne x conv form bound held value (λ a. Step.Set v a k) t → Good scope catches t
    set_good form bound held v value k t scope catches b g is h =
        one_good form bound held value (λ a. Step.Set v a k) t scope catches b
        (λ a wide e given u s.
        let cont = scopes.cont_grown x.unit x.cps ordered scope wide catches k e g in
        scopes.made x.unit x.cps ordered wide catches u (Step.Set v a k) s (args_named x.unit wide (a ∷ []) (given, tt)) (e.values v.0 (b v.0 is)) (scopes.cont_leads x.unit x.cps ordered wide catches k cont) tt (args_free x.unit wide (a ∷ []) (given, tt), scopes.cont_free x.unit x.cps ordered wide catches k cont)
        (no_procs x.unit (GoodLam wide []) wide (a ∷ []) (given, tt)) (scopes.cont_good x.unit x.cps ordered wide catches k cont))
        h

    set_global_good : (form : ℕ) (bound held : List ℕ) (g value : ℕ) (k : Cont) (t : ℕ) (scope : List Name) (catches : List ℕ) → HasBound scope bound → GoodCont scope catches k → OverOne x conv form bound held value (λ a. Step.GlobalSet g a k) t → Good scope catches t
    set_global_good form bound held gl value k t scope catches b g h =
        one_good form bound held value (λ a. Step.GlobalSet gl a k) t scope catches b
        (λ a wide e given u s.
        let cont = scopes.cont_grown x.unit x.cps ordered scope wide catches k e g in
        scopes.made x.unit x.cps ordered wide catches u (Step.GlobalSet gl a k) s (args_named x.unit wide (a ∷ []) (given, tt)) tt (scopes.cont_leads x.unit x.cps ordered wide catches k cont) tt (args_free x.unit wide (a ∷ []) (given, tt), scopes.cont_free x.unit x.cps ordered wide catches k cont)
        (no_procs x.unit (GoodLam wide []) wide (a ∷ []) (given, tt)) (scopes.cont_good x.unit x.cps ordered wide catches k cont))
        h

    node_good : (form : ℕ) (bound held : List ℕ) (key : ℕ) (k : Cont) (t : ℕ) (scope : List Name) (catches : List ℕ) (node : Option Core) → HasBound scope bound → GoodCont scope catches k → ConvertsNode x conv form bound held key node k t → Good scope catches t
    node_good form bound held key k t scope catches None b g h = absurd h
    node_good form bound held key k t scope catches (Some (Node.Const c)) b g h = scopes.give_good x.unit x.cps ordered scope catches t k (Argument.Const c) h tt tt g
    node_good form bound held key k t scope catches (Some (Node.Local v)) b g h = scopes.give_good x.unit x.cps ordered scope catches t k (Argument.Var v) h.1 (b v.0 h.0, tt) tt g
    node_good form bound held key k t scope catches (Some (Node.Global gl)) b g h = global_good gl k t scope catches g h
    node_good form bound held key k t scope catches (Some (Node.Builtin p)) b g h = scopes.give_good x.unit x.cps ordered scope catches t k (Argument.Builtin p) h tt tt g
    node_good form bound held key k t scope catches (Some (Node.Op o)) b g h = scopes.give_good x.unit x.cps ordered scope catches t k (Argument.Op o) h tt tt g
    node_good form bound held key k t scope catches (Some (Node.Lambda params body)) b g h = lambda_for form key bound held params body k t scope catches b g h
    node_good form bound held key k t scope catches (Some (Node.If test first second)) b g h =
        named_good k t (IfAs x conv form bound held test first second) scope catches g (λ j wide u f gj hj. if_good form bound held test first second j u wide catches (bound_grown scope wide bound f b) gj hj) h
    node_good form bound held key k t scope catches (Some (Node.Block items)) b g h = block_good form bound held items k t scope catches b g h
    node_good form bound held key k t scope catches (Some (Node.Let vars values body)) b g h = let_good form bound held vars values body k t scope catches b g h
    node_good form bound held key k t scope catches (Some (Node.Labels vars lambdas body)) b g h = labels_good form bound held vars lambdas body k t scope catches b g h
    node_good form bound held key k t scope catches (Some (Node.SetLocal v value)) b g h = set_good form bound held v value k t scope catches b g h.0 h.1
    node_good form bound held key k t scope catches (Some (Node.SetGlobal gl value)) b g h = set_global_good form bound held gl value k t scope catches b g h.1
    node_good form bound held key k t scope catches (Some (Node.Catch v body)) b g h =
        named_good k t (CatchAs x conv form bound held v body) scope catches g (λ j wide u f gj hj. catch_good form bound held v body j u wide catches (bound_grown scope wide bound f b) gj hj) h
    node_good form bound held key k t scope catches (Some (Node.Object proc methods)) b g h = object_good form bound held proc methods k t scope catches b g h
    node_good form bound held key k t scope catches (Some (Node.Call operator operands tail)) b g h = call_good form bound held operator operands k t scope catches b g h
    node_good form bound held key k t scope catches (Some (Node.Prim p operands)) b g h = prim_good form bound held p operands k t scope catches b g h

  -- ---- all nodes

  pub within_good : (n : ℕ) (form : ℕ) (bound held : List ℕ) (key : ℕ) (k : Cont) (t : ℕ) (scope : List Name) (catches : List ℕ) → HasBound scope bound → GoodCont scope catches k → ConvertsWithin x n form bound held key k t → Good scope catches t
  within_good zero form bound held key k t scope catches b g h = absurd h
  within_good (suc n) form bound held key k t scope catches b g h = node_good n (within_good n) form bound held key k t scope catches (node_at x.unit form key) b g h

  -- ---- forms

  module _ (n : ℕ) where
    init_good : (at root g t next : ℕ) (a : Arg) (scope : List Name) → ((wide : List Name) → Extends scope wide → ArgIn x.unit wide a → Good wide [] next) → InitAs x (ConvertsWithin x n) at root g t next a → Good scope [] t
    init_good at root g t next a scope f h =
        one_good n (within_good n) at [] [] root (λ value. Step.GlobalInit g value (Continuation.Lam h.unused next)) t scope [] (none_bound scope)
        (λ v wide e given u s.
        let more = Named h.unused.0 ∷ wide in
        scopes.made x.unit x.cps ordered wide [] u (Step.GlobalInit g v (Continuation.Lam h.unused next)) s (args_named x.unit wide (v ∷ []) (given, tt)) tt tt tt (args_free x.unit wide (v ∷ []) (given, tt), h.unassigned) (no_procs x.unit (GoodLam wide []) wide (v ∷ []) (given, tt))
        (f more (wider scope wide more e (with_value wide h.unused.0)) (name_in x.unit more (λ (info : Global1). Constant.Sym info.name) (slice_get x.cps.shared.globals.items g) a h.gives), tt))
        h.over

    form_good : (at root : ℕ) (kind : FormKind) (p : Option Procedure) (t next : ℕ) (a : Arg) (scope : List Name) → ((wide : List Name) → Extends scope wide → ArgIn x.unit wide a → Good wide [] next) → FormAs x (ConvertsWithin x n) at kind p root t next a → Good scope [] t
    form_good at root (Define g) (Some p) t next a scope f h = subst (Good scope []) h.0 (f scope (same_scope scope) (name_in x.unit scope (λ (info : Global1). Constant.Sym info.name) (slice_get x.cps.shared.globals.items g) a h.2))
    form_good at root (Define g) None t next a scope f h = init_good at root g t next a scope f h
    form_good at root (Lset g) p t next a scope f h = init_good at root g t next a scope f h
    form_good at root (Operation o) p t next a scope f h = subst (Good scope []) h.0 (f scope (same_scope scope) (name_in x.unit scope (λ (info : OpInfo). Constant.Sym info.name) (slice_get x.cps.shared.ops.items o) a h.1))
    form_good at root Plain p t next a scope f h =
        within_good n at [] [] root (Continuation.Lam h.value next) t scope [] (none_bound scope)
        (h.unassigned, λ wide e. f (Named h.value.0 ∷ wide) (wider scope wide (Named h.value.0 ∷ wide) e (with_value wide h.value.0)) (subst (ArgIn x.unit (Named h.value.0 ∷ wide)) (sym h.gives) (first_of (Named h.value.0) wide, h.unassigned))) h.root_as

    pub forms_good : (at : ℕ) (forms : List Form) (before : Arg) (t : ℕ) (scope : List Name) → ArgIn x.unit scope before → FormsAs x (ConvertsWithin x n) at forms before t → Good scope [] t
    forms_good at [] before t scope b h = scopes.made x.unit x.cps ordered scope [] t (Step.Halt before) h (args_named x.unit scope (before ∷ []) (b, tt)) tt tt tt (args_free x.unit scope (before ∷ []) (b, tt)) (no_procs x.unit (GoodLam scope []) scope (before ∷ []) (b, tt)) tt
    forms_good at (f ∷ forms) before t scope b h =
        form_good at f.root f.kind (lambda_of at f) t h.0 h.1 scope (λ wide e given. forms_good (suc at) forms h.1 h.0 wide given h.3) h.2
