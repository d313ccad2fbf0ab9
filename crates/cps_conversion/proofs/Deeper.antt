-- What is converted where nodes nest less deep than a bound is converted with every greater bound.
use Rattle.std.proofs.Common.{ℕ, zero, suc, ◌≤◌, List, [], ◌∷◌, Option, Some, None, arith, inl, inr}
use Rattle.t_base.specs.declared.basics.Var.{Var}
use Rattle.t_core.specs.declared.forms.Core.{Core}
use Rattle.t_core.specs.declared.forms.Core.TheVariants as Node
use Rattle.t_core.specs.declared.forms.Method.{Method}
use Rattle.t_core.specs.declared.forms.FormKind.{FormKind}
use Rattle.t_core.specs.declared.forms.FormKind.TheVariants.{Define, Lset, Operation, Plain}
use Rattle.t_core.specs.declared.forms.Form.{Form}
use Rattle.t_meaning.specs.Programs.{node_at}
use Rattle.t_meaning.specs.State.{Procedure}
use Rattle.t_meaning.specs.Operations.{lambda_of}
use Rattle.cps_ir.specs.declared.args.Arg.{Arg}
use Rattle.cps_ir.specs.declared.terms.Cont.{Cont}
use Rattle.cps_ir.specs.declared.terms.Cont.TheVariants as Continuation
use Rattle.cps_ir.specs.declared.terms.Term.{Term}
use Rattle.cps_ir.specs.States.{Closure}
use Rattle.cps_conversion.specs.Conversion.{Translation, Converting, Values, OverAll, OverOne, LamAt, LambdaAt, WithName, LambdaFor, IfAs, BlockAs, LetAs, LambdaNode, LambdaNodes, LabelsAs, CatchAs, MethodsAs, ConvertsNode, ConvertsWithin, FormAs, FormsAs, RootsAs}

module _ (x : Translation) (conv more : Converting) (w : (form : ℕ) (bound held : List ℕ) (key : ℕ) (k : Cont) (t : ℕ) → conv form bound held key k t → more form bound held key k t) where
  pub values_more : (form : ℕ) (bound held inner : List ℕ) (tos : List (Option Var)) (keys : List ℕ) (args : List Arg) (t last : ℕ) → Values x conv form bound held tos keys args t last inner → Values x more form bound held tos keys args t last inner
  values_more form bound held inner [] [] [] t last h = h
  values_more form bound held inner (None ∷ tos) (key ∷ keys) (a ∷ args) t last (inl h) = inl (h.0, h.1, values_more form bound held inner tos keys args t last h.2)
  values_more form bound held inner (None ∷ tos) (key ∷ keys) (a ∷ args) t last (inr h) =
      inr (h.0, (h.1.0, h.1.1, h.1.2, h.1.3, w form bound held key (Continuation.Lam h.1.0 h.1.1) t h.1.4, values_more form bound (h.1.0.0 ∷ held) inner tos keys args h.1.1 last h.1.5))
  values_more form bound held inner (Some v ∷ tos) (key ∷ keys) (a ∷ args) t last h =
      (h.0, h.1, h.2, w form bound held key (Continuation.Lam v h.0) t h.3, values_more form bound (v.0 ∷ held) inner tos keys args h.0 last h.4)
  values_more form bound held inner [] [] (a ∷ args) t last h = absurd h
  values_more form bound held inner [] (key ∷ keys) args t last h = absurd h
  values_more form bound held inner (None ∷ tos) [] args t last h = absurd h
  values_more form bound held inner (Some v ∷ tos) [] args t last h = absurd h
  values_more form bound held inner (None ∷ tos) (key ∷ keys) [] t last h = absurd h
  values_more form bound held inner (Some v ∷ tos) (key ∷ keys) [] t last h = absurd h

  over_more : (form : ℕ) (bound held keys : List ℕ) (args : List Arg) (term : Term) (t : ℕ) → OverAll x conv form bound held keys args term t → OverAll x more form bound held keys args term t
  over_more form bound held keys args term t h = record { last = h.last; inner = h.inner; values = values_more form bound held h.inner _ keys args t h.last h.values; stands = h.stands }

  one_more : (form : ℕ) (bound held : List ℕ) (key : ℕ) (term : Arg → Term) (t : ℕ) → OverOne x conv form bound held key term t → OverOne x more form bound held key term t
  one_more form bound held key term t h = (h.0, over_more form bound held (key ∷ []) (h.0 ∷ []) (term h.0) t h.1)

  pub lam_more : (form : ℕ) (bound : List ℕ) (params : List Var) (body l : ℕ) → LamAt x conv form bound params body l → LamAt x more form bound params body l
  lam_more form bound params body l h = (h.0, h.1, record { start = h.2.start; names_new = h.2.names_new; assigned = h.2.assigned; body_as = w form _ _ body (Continuation.Var h.0.k) h.2.start h.2.body_as })

  lambda_more : (form : ℕ) (bound : List ℕ) (key : ℕ) (params : List Var) (body l : ℕ) → LambdaAt x conv form bound key params body l → LambdaAt x more form bound key params body l
  lambda_more form bound key params body l h = record { lam_at = lam_more form bound params body l h.lam_at; behind = h.behind; origin = h.origin }

  lambda_for_more : (form : ℕ) (bound held : List ℕ) (key : ℕ) (params : List Var) (body : ℕ) (k : Cont) (t : ℕ) → LambdaFor x conv form bound held key params body k t → LambdaFor x more form bound held key params body k t
  lambda_for_more form bound held key params body (Continuation.Var k) t h = (h.0, lambda_more form bound key params body h.0 h.1, h.2)
  lambda_for_more form bound held key params body (Continuation.Lam v b) t h = (h.0, h.1, lambda_more form bound key params body h.0 h.2, h.3)

  if_more : (form : ℕ) (bound held : List ℕ) (test first second : ℕ) (k : Cont) (t : ℕ) → IfAs x conv form bound held test first second k t → IfAs x more form bound held test first second k t
  if_more form bound held test first second k t h = record {
    first_at = h.first_at;
    second_at = h.second_at;
    over = one_more form bound held test _ t h.over;
    first_as = w form bound held first k h.first_at h.first_as;
    second_as = w form bound held second k h.second_at h.second_as;
  }

  catch_more : (form : ℕ) (bound held : List ℕ) (v : Var) (body : ℕ) (k : Cont) (t : ℕ) → CatchAs x conv form bound held v body k t → CatchAs x more form bound held v body k t
  catch_more form bound held v body k t h = record {
    name = h.name;
    inner = h.inner;
    start = h.start;
    value = h.value;
    end = h.end;
    stands = h.stands;
    name_new = h.name_new;
    assigned = h.assigned;
    body_as = w form (v.0 ∷ bound) (v.0 ∷ held) body (Continuation.Lam h.value h.end) h.start h.body_as;
    value_new = h.value_new;
    ends = h.ends;
  }

  with_name_more : (k : Cont) (t : ℕ) (a b : Cont → ℕ → Type 0) → ((k : Cont) (t : ℕ) → a k t → b k t) → WithName x k t a → WithName x k t b
  with_name_more (Continuation.Var k) t a b f h = f (Continuation.Var k) t h
  with_name_more (Continuation.Lam p body) t a b f h = (h.0, h.1, h.2, f (Continuation.Var h.0) h.1 h.3)

  block_more : (form : ℕ) (bound held keys : List ℕ) (k : Cont) (t : ℕ) → BlockAs x conv form bound held keys k t → BlockAs x more form bound held keys k t
  block_more form bound held [] k t h = h
  block_more form bound held (key ∷ []) k t h = w form bound held key k t h
  block_more form bound held (key ∷ next ∷ keys) k t h = (h.0, h.1, h.2, w form bound held key (Continuation.Lam h.0 h.1) t h.3, block_more form bound held (next ∷ keys) k h.1 h.4)

  node_more : (form : ℕ) (bound : List ℕ) (key : ℕ) (o : Option Core) (l : ℕ) → LambdaNode x conv form bound key o l → LambdaNode x more form bound key o l
  node_more form bound key (Some (Node.Lambda params body)) l h = lambda_more form bound key params body l h
  node_more form bound key None l h = absurd h
  node_more form bound key (Some (Node.Const c)) l h = absurd h
  node_more form bound key (Some (Node.Local v)) l h = absurd h
  node_more form bound key (Some (Node.Global g)) l h = absurd h
  node_more form bound key (Some (Node.Builtin b)) l h = absurd h
  node_more form bound key (Some (Node.Op o)) l h = absurd h
  node_more form bound key (Some (Node.If test first second)) l h = absurd h
  node_more form bound key (Some (Node.Block items)) l h = absurd h
  node_more form bound key (Some (Node.Let vars values body)) l h = absurd h
  node_more form bound key (Some (Node.Labels vars lambdas body)) l h = absurd h
  node_more form bound key (Some (Node.SetLocal v value)) l h = absurd h
  node_more form bound key (Some (Node.SetGlobal g value)) l h = absurd h
  node_more form bound key (Some (Node.Catch v body)) l h = absurd h
  node_more form bound key (Some (Node.Object proc methods)) l h = absurd h
  node_more form bound key (Some (Node.Call operator operands tail)) l h = absurd h
  node_more form bound key (Some (Node.Prim b operands)) l h = absurd h

  nodes_more : (form : ℕ) (bound keys lams : List ℕ) → LambdaNodes x conv form bound keys lams → LambdaNodes x more form bound keys lams
  nodes_more form bound [] [] h = tt
  nodes_more form bound (key ∷ keys) (l ∷ lams) h = (node_more form bound key (node_at x.unit form key) l h.0, nodes_more form bound keys lams h.1)
  nodes_more form bound [] (l ∷ lams) h = absurd h
  nodes_more form bound (key ∷ keys) [] h = absurd h

  methods_more : (form : ℕ) (bound : List ℕ) (methods : List Method) (ops lams : List ℕ) → MethodsAs x conv form bound methods ops lams → MethodsAs x more form bound methods ops lams
  methods_more form bound [] [] [] h = tt
  methods_more form bound (a ∷ methods) (o ∷ ops) (l ∷ lams) h = (h.0, lam_more form bound a.params a.body l h.1, methods_more form bound methods ops lams h.2)
  methods_more form bound [] [] (l ∷ lams) h = absurd h
  methods_more form bound [] (o ∷ ops) lams h = absurd h
  methods_more form bound (a ∷ methods) [] lams h = absurd h
  methods_more form bound (a ∷ methods) (o ∷ ops) [] h = absurd h

  let_more : (form : ℕ) (bound held : List ℕ) (vars : List Var) (keys : List ℕ) (body : ℕ) (k : Cont) (t : ℕ) → LetAs x conv form bound held vars keys body k t → LetAs x more form bound held vars keys body k t
  let_more form bound held vars keys body k t h = record {
    args = h.args;
    inner = h.inner;
    behind = h.behind;
    start = h.start;
    values = values_more form bound held h.inner _ keys h.args t h.behind h.values;
    assigned = h.assigned;
    body_as = w form _ _ body k h.start h.body_as;
  }

  labels_more : (form : ℕ) (bound held : List ℕ) (vars : List Var) (keys : List ℕ) (body : ℕ) (k : Cont) (t : ℕ) → LabelsAs x conv form bound held vars keys body k t → LabelsAs x more form bound held vars keys body k t
  labels_more form bound held vars keys body k t h = record {
    names = h.names;
    lams = h.lams;
    at = h.at;
    behind = h.behind;
    start = h.start;
    as_many = h.as_many;
    unset = h.unset;
    names_for = h.names_for;
    names_new = h.names_new;
    stands = h.stands;
    lambdas = nodes_more form _ keys h.lams h.lambdas;
    sets = h.sets;
    body_as = w form _ _ body k h.start h.body_as;
  }

  pub core_more : (form : ℕ) (bound held : List ℕ) (key : ℕ) (o : Option Core) (k : Cont) (t : ℕ) → ConvertsNode x conv form bound held key o k t → ConvertsNode x more form bound held key o k t
  core_more form bound held key None k t h = h
  core_more form bound held key (Some (Node.Const c)) k t h = h
  core_more form bound held key (Some (Node.Local v)) k t h = h
  core_more form bound held key (Some (Node.Global g)) k t h = h
  core_more form bound held key (Some (Node.Builtin b)) k t h = h
  core_more form bound held key (Some (Node.Op o)) k t h = h
  core_more form bound held key (Some (Node.Lambda params body)) k t h = lambda_for_more form bound held key params body k t h
  core_more form bound held key (Some (Node.If test first second)) k t h = with_name_more k t _ _ (λ j s a. if_more form bound held test first second j s a) h
  core_more form bound held key (Some (Node.Block items)) k t h = block_more form bound held items k t h
  core_more form bound held key (Some (Node.Let vars values body)) k t h = let_more form bound held vars values body k t h
  core_more form bound held key (Some (Node.Labels vars lambdas body)) k t h = labels_more form bound held vars lambdas body k t h
  core_more form bound held key (Some (Node.SetLocal v value)) k t h = (h.0, one_more form bound held value _ t h.1)
  core_more form bound held key (Some (Node.SetGlobal g value)) k t h = (h.0, one_more form bound held value _ t h.1)
  core_more form bound held key (Some (Node.Catch v body)) k t h = with_name_more k t _ _ (λ j s a. catch_more form bound held v body j s a) h
  core_more form bound held key (Some (Node.Object proc methods)) k t h = record { ops = h.ops; lams = h.lams; methods_as = methods_more form bound methods h.ops h.lams h.methods_as; over = one_more form bound held proc _ t h.over }
  core_more form bound held key (Some (Node.Call operator operands tail)) k t h = record { f = h.f; args = h.args; over = over_more form bound held (operator ∷ operands) (h.f ∷ h.args) _ t h.over }
  core_more form bound held key (Some (Node.Prim b operands)) k t h = record { args = h.args; over = over_more form bound held operands h.args _ t h.over }

  -- ---- forms, and what stands from the start

  form_more : (form : ℕ) (kind : FormKind) (f : Option Procedure) (root t next : ℕ) (a : Arg) → FormAs x conv form kind f root t next a → FormAs x more form kind f root t next a
  form_more form (Define g) (Some f) root t next a h = h
  form_more form (Define g) None root t next a h = record { unused = h.unused; unassigned = h.unassigned; no_procedure = h.no_procedure; over = one_more form [] [] root _ t h.over; gives = h.gives }
  form_more form (Lset g) f root t next a h = record { unused = h.unused; unassigned = h.unassigned; no_procedure = h.no_procedure; over = one_more form [] [] root _ t h.over; gives = h.gives }
  form_more form (Operation o) f root t next a h = h
  form_more form Plain f root t next a h = record { value = h.value; unassigned = h.unassigned; root_as = w form [] [] root (Continuation.Lam h.value next) t h.root_as; gives = h.gives }

  pub forms_more : (form : ℕ) (forms : List Form) (before : Arg) (t : ℕ) → FormsAs x conv form forms before t → FormsAs x more form forms before t
  forms_more form [] before t h = h
  forms_more form (f ∷ forms) before t h = (h.0, h.1, form_more form f.kind (lambda_of form f) f.root t h.0 h.1 h.2, forms_more (suc form) forms h.1 h.0 h.3)

  pub roots_more : (fs : List Procedure) (cs : List Closure) → RootsAs x conv fs cs → RootsAs x more fs cs
  roots_more [] [] h = tt
  roots_more (f ∷ fs) (c ∷ cs) h = (lam_more f.form [] f.params f.body c.lam h.0, roots_more fs cs h.1)
  roots_more [] (c ∷ cs) h = absurd h
  roots_more (f ∷ fs) [] h = absurd h

pub converts_deeper : (x : Translation) (depth more : ℕ) → depth ≤ more → (form : ℕ) (bound held : List ℕ) (key : ℕ) (k : Cont) (t : ℕ) → ConvertsWithin x depth form bound held key k t → ConvertsWithin x more form bound held key k t
converts_deeper x zero more le form bound held key k t h = absurd h
converts_deeper x (suc depth) zero le form bound held key k t h = absurd (omega (arith, le))
converts_deeper x (suc depth) (suc more) le form bound held key k t h =
    core_more x (ConvertsWithin x depth) (ConvertsWithin x more) (converts_deeper x depth more (omega (arith, le))) form bound held key (node_at x.unit form key) k t h
