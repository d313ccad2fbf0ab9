-- Which kinds of terms stand for nodes of some kinds.
use Rattle.std.specs.List.{AllByRecursion, list_any}
use Rattle.std.specs.Option.{option_map, option_and_then}
use Rattle.std.proofs.Common.{◌≡◌, ℕ, suc, ◌&&◌, ◌||◌, Bool, true, false, if◌then◌else◌, ◌⊎◌, inl, inr, List, [], ◌∷◌, Option, Some, None, slice_get, refl, sym, ap, ◌∙◌, subst}
use Rattle.std.proofs.lemmas.Bool.{true≢false}
use Rattle.t_base.specs.declared.basics.Var.{Var}
use Rattle.t_base.specs.declared.shared_parts.Global1.{Global1}
use Rattle.t_base.specs.declared.shared_parts.OpInfo.{OpInfo}
use Rattle.t_base.specs.declared.shared_parts.Const.{Const}
use Rattle.t_base.specs.declared.shared_parts.Const.TheVariants as Constant
use Rattle.t_core.specs.declared.forms.Core.{Core}
use Rattle.t_core.specs.declared.forms.Core.TheVariants as Node
use Rattle.t_core.specs.declared.forms.Form.{Form}
use Rattle.t_core.specs.declared.forms.FormKind.{FormKind}
use Rattle.t_core.specs.declared.forms.FormKind.TheVariants.{Define, Lset}
use Rattle.t_core.specs.declared.forms.UnitCore.{UnitCore}
use Rattle.t_meaning.specs.Programs.{node_at}
use Rattle.t_meaning.specs.Costs.{assigns, is_assigned}
use Rattle.cps_ir.specs.declared.args.Arg.{Arg}
use Rattle.cps_ir.specs.declared.args.Arg.TheVariants as Argument
use Rattle.cps_ir.specs.declared.terms.Lam.{Lam}
use Rattle.cps_ir.specs.declared.terms.Term.{Term}
use Rattle.cps_ir.proofs.ProperLists.{some_same, none_some}
use Rattle.cps_conversion.specs.Conversion.{Translation, ready_arg, ready_at}
use Rattle.conversion_laws.specs.Plain.{is_plain, is_no_catch, is_plain_kind, Passes, is_plain_arg, are_plain, is_plain_term, is_no_catch_term, PlainGivesPlain, NoCatchIsMade}
use Rattle.conversion_laws.proofs.Visits.{Table}
use Rattle.conversion_laws.proofs.Roots.{all_full}

never : {Z : Type 0} → false ≡ true → Z
never e = absurd (true≢false (sym e))

-- ---- a unit without a SET assigns nothing

found_any : {X : Type 0} (p : X → Bool) (xs : List X) → list_any p xs ≡ true → (i : ℕ) × (x : X) × (slice_get xs i ≡ Some x) × (p x ≡ true)
found_any p [] e = never e
found_any {X} p (x ∷ xs) e = by (p x) refl e (found_any p xs)
  where
    by : (b : Bool) → p x ≡ b → (b || list_any p xs) ≡ true → (list_any p xs ≡ true → (i : ℕ) × (y : X) × (slice_get xs i ≡ Some y) × (p y ≡ true)) → (i : ℕ) × (y : X) × (slice_get (x ∷ xs) i ≡ Some y) × (p y ≡ true)
    by true q e go = (0, x, refl, q)
    by false q e go = let r = go e in (suc r.0, r.1, r.2, r.3)

no_set : (v : Var) (node : Core) → is_plain node ≡ true → assigns v node ≡ true → ⊥
no_set v (Node.Const c) p e = never e
no_set v (Node.Local y) p e = never e
no_set v (Node.Global g) p e = never p
no_set v (Node.Builtin b) p e = never e
no_set v (Node.Op o) p e = never p
no_set v (Node.Lambda params body) p e = never e
no_set v (Node.If test a b) p e = never e
no_set v (Node.Block items) p e = never e
no_set v (Node.Let vars values body) p e = never e
no_set v (Node.Labels vars lambdas body) p e = never e
no_set v (Node.SetLocal y value) p e = never p
no_set v (Node.SetGlobal g value) p e = never p
no_set v (Node.Catch y body) p e = never p
no_set v (Node.Object proc methods) p e = never p
no_set v (Node.Call operator operands tail) p e = never e
no_set v (Node.Prim b operands) p e = never e

none_assigned : (unit : UnitCore) → Passes is_plain unit → (v : Var) → is_assigned unit v ≡ true → ⊥
none_assigned unit p v e =
    let f = found_any (λ (form : Form). list_any (assigns v) form.nodes.items) unit.forms.items e in
    let n = found_any (assigns v) f.1.nodes.items f.3 in
    no_set v n.1 (p f.0 n.0 n.1 (ap (option_and_then (λ (form : Form). slice_get form.nodes.items n.0)) f.2 ∙ n.2)) n.3

-- ---- plain units

abbrev PlainArg : Arg → Type 0
PlainArg a = is_plain_arg a ≡ true

abbrev PlainTerm : Term → Type 0
PlainTerm term = is_plain_term term ≡ true

abbrev AnyLam : Lam → Type 0
AnyLam lam = Unit {0}

all_plain : (args : List Arg) → AllByRecursion PlainArg args → are_plain args ≡ true
all_plain [] h = refl
all_plain (a ∷ args) h = both (is_plain_arg a) (are_plain args) h.0 (all_plain args h.1)
  where
    both : (p q : Bool) → p ≡ true → q ≡ true → (p && q) ≡ true
    both true q e f = f
    both false q e f = e

plain_name : {X : Type 0} (f : X → Const) (o : Option X) (a : Arg) → option_map (λ i. Argument.Const (f i)) o ≡ Some a → PlainArg a
plain_name f None a e = none_some a e
plain_name f (Some i) a e = subst PlainArg (some_same (Argument.Const (f i)) a e) refl

module _ (x : Translation) (p : Passes is_plain x.unit) where
  plain_ready : (form key : ℕ) (a : Arg) → ready_at x form key ≡ Some a → PlainArg a
  plain_ready form key a e = by (node_at x.unit form key) refl e
    where
      local : (b : Bool) (v : Var) → (if b then None else Some (Argument.Var v)) ≡ Some a → PlainArg a
      local true v e = none_some a e
      local false v e = subst PlainArg (some_same (Argument.Var v) a e) refl

      by : (node : Option Core) → node_at x.unit form key ≡ node → option_and_then (ready_arg x.unit) node ≡ Some a → PlainArg a
      by None q e = none_some a e
      by (Some (Node.Const c)) q e = subst PlainArg (some_same (Argument.Const c) a e) refl
      by (Some (Node.Local v)) q e = local (is_assigned x.unit v) v e
      by (Some (Node.Global g)) q e = never (p form key (Node.Global g) q)
      by (Some (Node.Builtin b)) q e = subst PlainArg (some_same (Argument.Builtin b) a e) refl
      by (Some (Node.Op o)) q e = never (p form key (Node.Op o) q)
      by (Some (Node.Lambda params body)) q e = none_some a e
      by (Some (Node.If test first second)) q e = none_some a e
      by (Some (Node.Block items)) q e = none_some a e
      by (Some (Node.Let vars values body)) q e = none_some a e
      by (Some (Node.Labels vars lambdas body)) q e = none_some a e
      by (Some (Node.SetLocal v value)) q e = none_some a e
      by (Some (Node.SetGlobal g value)) q e = none_some a e
      by (Some (Node.Catch v body)) q e = none_some a e
      by (Some (Node.Object proc methods)) q e = none_some a e
      by (Some (Node.Call operator operands tail)) q e = none_some a e
      by (Some (Node.Prim b operands)) q e = none_some a e

  plain_table : Table x PlainArg PlainTerm AnyLam
  plain_table = record {
    ready = plain_ready;
    var = λ v. refl;
    proc = λ l. refl;
    nil = refl;
    global_name = λ g a e. plain_name (λ (info : Global1). Constant.Sym info.name) (slice_get x.cps.shared.globals.items g) a e;
    op_name = λ o a e. plain_name (λ (info : OpInfo). Constant.Sym info.name) (slice_get x.cps.shared.ops.items o) a e;
    give = λ k a h. h;
    get = λ form key g k q e. never (p form key (Node.Global g) q);
    tests = λ a first second h. h;
    join = λ j v body rest. refl;
    labels = λ vars lams body e. refl;
    set = λ v a k e h. absurd (none_assigned x.unit p v e);
    set_local = λ form key value v a k q h. never (p form key (Node.SetLocal v value) q);
    set_global = λ form key value g a k q e h. never (p form key (Node.SetGlobal g value) q);
    catches = λ form key body v name inner k q. never (p form key (Node.Catch v body) q);
    uncatch = λ form key body v a k q h. never (p form key (Node.Catch v body) q);
    object = λ form key proc methods a ops lams k q ms h. never (p form key (Node.Object proc methods) q);
    call = λ form key operator operands tail f args k q e h. all_plain (f ∷ args) h;
    prim = λ form key b operands args k q e h. all_plain args h;
    halt = λ a h. h;
    lambda = λ form key body params lam q e. tt;
    method = λ form key proc methods m i lam q there e. tt;
  }

no_form : (kind : FormKind) (g : ℕ) {Z : Type 0} → is_plain_kind kind ≡ true → (kind ≡ Define g) ⊎ (kind ≡ Lset g) → Z
no_form kind g e (inl q) = never (sym (ap is_plain_kind q) ∙ e)
no_form kind g e (inr q) = never (sym (ap is_plain_kind q) ∙ e)

pub plain_gives_plain : PlainGivesPlain
plain_gives_plain unit cps c owed plain t term e =
    (all_full (record { unit = unit; cps = cps; origins = c.origins }) PlainArg PlainTerm AnyLam (plain_table (record { unit = unit; cps = cps; origins = c.origins }) plain.nodes)
    (record { init = λ at f g a k there kind proc h. no_form f.kind g (plain.kinds at f there) kind })
    (record { closure = λ i f lam q n. tt; default = λ o f lam q n. tt }) c.translated owed.ordered t term e).0

-- ---- units without CATCH

abbrev AnyArg : Arg → Type 0
AnyArg a = Unit {0}

abbrev NoCatch : Term → Type 0
NoCatch term = is_no_catch_term term ≡ true

no_catch_table : (x : Translation) → Passes is_no_catch x.unit → Table x AnyArg NoCatch AnyLam
no_catch_table x p = record {
  ready = λ form key a e. tt;
  var = λ v. tt;
  proc = λ l. tt;
  nil = tt;
  global_name = λ g a e. tt;
  op_name = λ o a e. tt;
  give = λ k a h. refl;
  get = λ form key g k q e. refl;
  tests = λ a first second h. refl;
  join = λ j v body rest. refl;
  labels = λ vars lams body e. refl;
  set = λ v a k e h. refl;
  set_local = λ form key value v a k q h. refl;
  set_global = λ form key value g a k q e h. refl;
  catches = λ form key body v name inner k q. never (p form key (Node.Catch v body) q);
  uncatch = λ form key body v a k q h. never (p form key (Node.Catch v body) q);
  object = λ form key proc methods a ops lams k q ms h. refl;
  call = λ form key operator operands tail f args k q e h. refl;
  prim = λ form key b operands args k q e h. refl;
  halt = λ a h. refl;
  lambda = λ form key body params lam q e. tt;
  method = λ form key proc methods m i lam q there e. tt;
}

pub no_catch_is_made : NoCatchIsMade
no_catch_is_made unit cps c owed p t term e =
    (all_full (record { unit = unit; cps = cps; origins = c.origins }) AnyArg NoCatch AnyLam (no_catch_table (record { unit = unit; cps = cps; origins = c.origins }) p)
    (record { init = λ at f g a k there kind proc h. refl })
    (record { closure = λ i f lam q n. tt; default = λ o f lam q n. tt }) c.translated owed.ordered t term e).0
