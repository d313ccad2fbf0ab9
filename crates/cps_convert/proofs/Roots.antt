-- Forms, from the last one to the first.
use Rattle.std.proofs.Common.{◌≡◌, ℕ, ◌<◌, ◌≤◌, Bool, true, false, List, [], ◌∷◌, Option, Some, None, slice_get, length, refl, sym, ap, ◌∙◌, subst, arith, inl}
use Rattle.std.specs.Option.{option_map_or}
use Rattle.std.proofs.lemmas.Bool.{true≢false}
use Rattle.t_prim.proofs.RowParts.{all_at}
use Rattle.t_base.specs.declared.basics.Var.{Var}
use Rattle.t_core.specs.declared.forms.Core.{Core}
use Rattle.t_core.specs.declared.forms.Core.TheVariants as Node
use Rattle.t_core.specs.declared.forms.FormKind.{FormKind}
use Rattle.t_core.specs.declared.forms.FormKind.TheVariants.{Define, Lset, Operation, Plain}
use Rattle.t_core.specs.declared.forms.Form.{Form}
use Rattle.t_core.specs.declared.forms.UnitCore.{UnitCore}
use Rattle.t_core.specs.Whole.{IsScoped, IsScopedWithin, IsDefinition, is_lambda_at}
use Rattle.t_core.specs.Nodes.{is_lambda}
use Rattle.t_meaning.specs.State.{Procedure}
use Rattle.t_meaning.specs.Operations.{lambda_of, procedure_of}
use Rattle.cps_ir.specs.declared.args.Arg.{Arg}
use Rattle.cps_ir.specs.declared.args.Arg.TheVariants as Argument
use Rattle.cps_ir.specs.declared.terms.Cont.TheVariants as Continuation
use Rattle.cps_ir.specs.declared.terms.Term.TheVariants as Step
use Rattle.cps_conversion.specs.Conversion.{ConvertsWithin, FormAs, is_proc, name_of_global, name_of_op}
use Rattle.cps_convert.specs.declared.conversion.Conversion.{Conversion}
use Rattle.cps_convert.specs.declared.operands.Job.{Job}
use Rattle.cps_convert.specs.Growing.{AddsTerm, TakesNew}
use Rattle.cps_convert.specs.Claims.{Setting, AreOuter, IsScopedIn, nodes_of, Converted, translation}
use Rattle.cps_convert.specs.Operands.{IsOperand, IsOperandAdded, JobsConverted}
use Rattle.cps_convert.specs.Forms.{IsGiven, InitConverted, FormConverted}
use Rattle.cps_convert.proofs.Listing.{grows_same, grows_more, one_operand}
use Rattle.cps_convert.proofs.Spots.{fresh_unassigned, fresh_new, child, over}

-- ---- roots

pub none_outer : (unit : UnitCore) (base next form least : ℕ) → AreOuter unit base next form least []
none_outer unit base next form least v e = absurd (true≢false (sym e))

pub root_scoped : (unit : UnitCore) (marks : List Bool) (base at : ℕ) (form : Form) → Setting unit marks base → slice_get unit.forms.items at ≡ Some form → 0 < length form.nodes.items → IsScopedIn unit at form.root []
root_scoped unit marks base at form setting there some =
    let e : nodes_of unit at ≡ form.nodes.items = ap (λ o. option_map_or (λ f. f.nodes.items) o []) there in
    record {
      depth = length form.nodes.items;
      scope = [];
      tail = false;
      within = subst (λ ns. IsScopedWithin ns (length form.nodes.items) [] false form.root) (sym e) (all_at IsScoped unit.forms.items at form setting.whole.scopes.used there some);
      binds = λ v c. absurd (omega (arith, c.1));
    }

defined : (unit : UnitCore) (marks : List Bool) (base at : ℕ) (form : Form) (kind : FormKind) → Setting unit marks base → slice_get unit.forms.items at ≡ Some form → form.kind ≡ kind → IsDefinition unit.shared kind form.nodes.items form.root
defined unit marks base at form kind setting there is =
    subst (λ k. IsDefinition unit.shared k form.nodes.items form.root) is (all_at (λ f. IsDefinition unit.shared f.kind f.nodes.items f.root) unit.forms.items at form setting.whole.definitions.forms there)

-- ---- a form

pub init_converted : (unit : UnitCore) (marks : List Bool) (a b c d e : Conversion) (at : ℕ) (form : Form) (g rest last t : ℕ) (unused : Var) (arg : Arg) (jobs : List Job) → is_proc unit g ≡ false → TakesNew a b unused
    → IsOperandAdded unit at b c form.root arg [] jobs → AddsTerm c d (Step.GlobalInit g arg (Continuation.Lam unused rest)) last → JobsConverted unit marks at d e unit.shared.size jobs t last
    → InitConverted unit marks a e at form g rest t
init_converted unit marks a b c d e at form g rest last t unused arg jobs value fresh operand made done = record {
  grows = grows_more a b e fresh.grows (grows_more b c e operand.grows (grows_more c d e made.grows done.grows));
  holds = λ cps origins inc base setting first there some name named.
      let x = translation unit cps origins in
      let at_d = done.grows.includes x inc in
      let scoped = root_scoped unit marks base at form setting there some in
      record {
        unused = unused;
        unassigned = fresh_unassigned unit marks base unused setting (omega (arith, first, fresh.is));
        no_procedure = value;
        over = (
          arg,
          over x marks base a.next b.next c.next d.next at unit.shared.size [] [] (form.root ∷ []) (arg ∷ []) jobs (Step.GlobalInit g arg (Continuation.Lam unused rest)) t last setting first fresh.grows.next
              (omega (arith, made.next)) (none_outer unit base a.next at unit.shared.size) (none_outer unit base a.next at unit.shared.size) (scoped, tt)
              (one_operand unit at b.next c.next form.root arg jobs (subst (λ l. IsOperand unit at b.next c.next form.root arg l) (sym operand.after) operand.is)) (done.holds cps origins inc base)
              (made.stands x at_d),
        );
        gives = named;
      };
}

pub no_lambda : (at : ℕ) (o : Option Core) → option_map_or is_lambda o false ≡ false → procedure_of at o ≡ None
no_lambda at None e = refl
no_lambda at (Some (Node.Lambda params body)) e = absurd (true≢false e)
no_lambda at (Some (Node.Const c)) e = refl
no_lambda at (Some (Node.Local v)) e = refl
no_lambda at (Some (Node.Global g)) e = refl
no_lambda at (Some (Node.Builtin p)) e = refl
no_lambda at (Some (Node.Op o)) e = refl
no_lambda at (Some (Node.If test p q)) e = refl
no_lambda at (Some (Node.Block items)) e = refl
no_lambda at (Some (Node.Let vars values body)) e = refl
no_lambda at (Some (Node.Labels vars lambdas body)) e = refl
no_lambda at (Some (Node.SetLocal v value)) e = refl
no_lambda at (Some (Node.SetGlobal g value)) e = refl
no_lambda at (Some (Node.Catch v body)) e = refl
no_lambda at (Some (Node.Object proc methods)) e = refl
no_lambda at (Some (Node.Call operator operands tail)) e = refl
no_lambda at (Some (Node.Prim p operands)) e = refl

a_lambda : (at : ℕ) (o : Option Core) → option_map_or is_lambda o false ≡ true → (f : Procedure) × (procedure_of at o ≡ Some f)
a_lambda at None e = absurd (true≢false (sym e))
a_lambda at (Some (Node.Lambda params body)) e = (_, refl)
a_lambda at (Some (Node.Const c)) e = absurd (true≢false (sym e))
a_lambda at (Some (Node.Local v)) e = absurd (true≢false (sym e))
a_lambda at (Some (Node.Global g)) e = absurd (true≢false (sym e))
a_lambda at (Some (Node.Builtin p)) e = absurd (true≢false (sym e))
a_lambda at (Some (Node.Op o)) e = absurd (true≢false (sym e))
a_lambda at (Some (Node.If test p q)) e = absurd (true≢false (sym e))
a_lambda at (Some (Node.Block items)) e = absurd (true≢false (sym e))
a_lambda at (Some (Node.Let vars values body)) e = absurd (true≢false (sym e))
a_lambda at (Some (Node.Labels vars lambdas body)) e = absurd (true≢false (sym e))
a_lambda at (Some (Node.SetLocal v value)) e = absurd (true≢false (sym e))
a_lambda at (Some (Node.SetGlobal g value)) e = absurd (true≢false (sym e))
a_lambda at (Some (Node.Catch v body)) e = absurd (true≢false (sym e))
a_lambda at (Some (Node.Object proc methods)) e = absurd (true≢false (sym e))
a_lambda at (Some (Node.Call operator operands tail)) e = absurd (true≢false (sym e))
a_lambda at (Some (Node.Prim p operands)) e = absurd (true≢false (sym e))

module _ (unit : UnitCore) (marks : List Bool) (a b : Conversion) (at : ℕ) (form : Form) (value : Arg) (rest t : ℕ) where
  -- a DEFINE of a LAMBDA
  pub define_lambda : (g : ℕ) → form.kind ≡ Define g → is_lambda_at form.nodes.items form.root ≡ true → is_proc unit g ≡ true → FormConverted unit marks a a at form value rest rest
  define_lambda g is lambda proc = record {
    grows = grows_same a;
    holds = λ cps origins inc base setting first shared there given.
        let x = translation unit cps origins in
        let f = a_lambda at (slice_get form.nodes.items form.root) lambda in
        let named : name_of_global cps.shared g ≡ Some value = subst (λ s. name_of_global s g ≡ Some value) (sym shared) (subst (λ k. IsGiven unit base a.next k value) is given) in
        subst (λ k. FormAs x (ConvertsWithin x unit.shared.size) at k (lambda_of at form) form.root rest rest value) (sym is)
        (subst (λ o. FormAs x (ConvertsWithin x unit.shared.size) at (Define g) o form.root rest rest value) (sym f.1) (refl, proc, named));
  }

  pub define_value : (g : ℕ) → form.kind ≡ Define g → is_lambda_at form.nodes.items form.root ≡ false → InitConverted unit marks a b at form g rest t → FormConverted unit marks a b at form value rest t
  define_value g is lambda h = record {
    grows = h.grows;
    holds = λ cps origins inc base setting first shared there given.
        let x = translation unit cps origins in
        let none = no_lambda at (slice_get form.nodes.items form.root) lambda in
        let named : name_of_global cps.shared g ≡ Some value = subst (λ s. name_of_global s g ≡ Some value) (sym shared) (subst (λ k. IsGiven unit base a.next k value) is given) in
        subst (λ k. FormAs x (ConvertsWithin x unit.shared.size) at k (lambda_of at form) form.root t rest value) (sym is)
        (subst (λ o. FormAs x (ConvertsWithin x unit.shared.size) at (Define g) o form.root t rest value) (sym none)
        (h.holds cps origins inc base setting first there (defined unit marks base at form (Define g) setting there is).0 value named));
  }

  pub lset_converted : (g : ℕ) → form.kind ≡ Lset g → InitConverted unit marks a b at form g rest t → FormConverted unit marks a b at form value rest t
  lset_converted g is h = record {
    grows = h.grows;
    holds = λ cps origins inc base setting first shared there given.
        let x = translation unit cps origins in
        let named : name_of_global cps.shared g ≡ Some value = subst (λ s. name_of_global s g ≡ Some value) (sym shared) (subst (λ k. IsGiven unit base a.next k value) is given) in
        subst (λ k. FormAs x (ConvertsWithin x unit.shared.size) at k (lambda_of at form) form.root t rest value) (sym is)
        (h.holds cps origins inc base setting first there (defined unit marks base at form (Lset g) setting there is).0 value named);
  }

  pub operation_converted : (o : ℕ) → form.kind ≡ Operation o → FormConverted unit marks a a at form value rest rest
  operation_converted o is = record {
    grows = grows_same a;
    holds = λ cps origins inc base setting first shared there given.
        let x = translation unit cps origins in
        let named : name_of_op cps.shared o ≡ Some value = subst (λ s. name_of_op s o ≡ Some value) (sym shared) (subst (λ k. IsGiven unit base a.next k value) is given) in
        subst (λ k. FormAs x (ConvertsWithin x unit.shared.size) at k (lambda_of at form) form.root rest rest value) (sym is) (refl, named);
  }

  pub plain_converted : (v : Var) → form.kind ≡ Plain → value ≡ Argument.Var v → Converted unit marks at a b unit.shared.size form.root (Continuation.Lam v rest) t → FormConverted unit marks a b at form value rest t
  plain_converted v is var n = record {
    grows = n.grows;
    holds = λ cps origins inc base setting first shared there given.
        let x = translation unit cps origins in
        let g = subst (λ k. IsGiven unit base a.next k value) is given in
        let same : g.0 ≡ v = by_var (sym g.1 ∙ var) in
        let low : base ≤ v.0 = subst (λ w. base ≤ w.0) same g.2 in
        let high : v.0 < a.next = subst (λ w. w.0 < a.next) same g.3 in
        let scoped = root_scoped unit marks base at form setting there (defined unit marks base at form Plain setting there is) in
        subst (λ k. FormAs x (ConvertsWithin x unit.shared.size) at k (lambda_of at form) form.root t rest value) (sym is)
        (record {
          value = v;
          unassigned = fresh_unassigned unit marks base v setting low;
          root_as = child x marks base a.next a.next at unit.shared.size form.root [] [] (Continuation.Lam v rest) t (n.holds cps origins inc base) n.below (omega arith) setting first scoped
              (none_outer unit base a.next at unit.shared.size) (none_outer unit base a.next at unit.shared.size)
              (fresh_new x marks base base at unit.shared.size v [] setting (omega arith) low (none_outer unit base base at unit.shared.size), inl (low, high));
          gives = var;
        });
  }
    where
      by_var : {v w : Var} → Argument.Var v ≡ Argument.Var w → v ≡ w
      by_var e = cc
