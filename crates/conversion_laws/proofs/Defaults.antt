-- A default has its self parameter.
use Rattle.std.specs.Prelude.{All, IsSomeAnd, IsTrue}
use Rattle.std.specs.Option.{option_map_or}
use Rattle.std.proofs.Common.{◌≡◌, ℕ, suc, ◌<◌, Bool, true, false, if◌then◌else◌, List, [], ◌∷◌, length, Option, Some, None, slice_get, refl, sym, subst, arith}
use Rattle.std.proofs.lemmas.Bool.{true≢false, eqb-true}
use Rattle.t_base.specs.declared.shared_parts.OpInfo.{OpInfo}
use Rattle.t_base.specs.declared.shared_parts.Shared.{Shared}
use Rattle.t_core.specs.declared.forms.Core.{Core}
use Rattle.t_core.specs.declared.forms.Core.TheVariants as Node
use Rattle.t_core.specs.declared.forms.Form.{Form}
use Rattle.t_core.specs.declared.forms.FormKind.{FormKind}
use Rattle.t_core.specs.declared.forms.FormKind.TheVariants.{Define, Lset, Operation, Plain}
use Rattle.t_core.specs.Nodes.{has_self}
use Rattle.t_core.specs.Whole.{IsDefault, IsDefinition, defines_op}
use Rattle.t_meaning.specs.State.{Procedure}
use Rattle.t_meaning.specs.Operations.{procedure_of, lambda_of, default_in}
use Rattle.cps_ir.proofs.ProperLists.{none_some, all_head, all_tail}

same_procedure : (f g : Procedure) → Some f ≡ Some g → f ≡ g
same_procedure f g e = cc

self_of : (at : ℕ) (o : Option Core) (f : Procedure) → IsTrue (option_map_or has_self o false) → procedure_of at o ≡ Some f → 0 < length f.params
self_of at None f h e = none_some f e
self_of at (Some (Node.Lambda [] body)) f h e = absurd (true≢false (sym h))
self_of at (Some (Node.Lambda (s ∷ params) body)) f h e = subst (λ (g : Procedure). 0 < length g.params) (same_procedure (record { params = s ∷ params; form = at; body = body; env = [] }) f e) (omega arith)
self_of at (Some (Node.Const c)) f h e = none_some f e
self_of at (Some (Node.Local v)) f h e = none_some f e
self_of at (Some (Node.Global g)) f h e = none_some f e
self_of at (Some (Node.Builtin b)) f h e = none_some f e
self_of at (Some (Node.Op o)) f h e = none_some f e
self_of at (Some (Node.If test first second)) f h e = none_some f e
self_of at (Some (Node.Block items)) f h e = none_some f e
self_of at (Some (Node.Let vars values body)) f h e = none_some f e
self_of at (Some (Node.Labels vars lambdas body)) f h e = none_some f e
self_of at (Some (Node.SetLocal v value)) f h e = none_some f e
self_of at (Some (Node.SetGlobal g value)) f h e = none_some f e
self_of at (Some (Node.Catch v body)) f h e = none_some f e
self_of at (Some (Node.Object proc methods)) f h e = none_some f e
self_of at (Some (Node.Call operator operands tail)) f h e = none_some f e
self_of at (Some (Node.Prim b operands)) f h e = none_some f e

defined_here : (shared : Shared) (o : ℕ) (info : OpInfo) (kind : FormKind) (nodes : List Core) (root : ℕ) → slice_get shared.ops.items o ≡ Some info → info.default ≡ true → defines_op o kind ≡ true → IsDefinition shared kind nodes root → IsTrue (option_map_or has_self (slice_get nodes root) false)
defined_here shared o info (Define g) nodes root there has e d = absurd (true≢false (sym e))
defined_here shared o info (Lset g) nodes root there has e d = absurd (true≢false (sym e))
defined_here shared o info Plain nodes root there has e d = absurd (true≢false (sym e))
defined_here shared o info (Operation p) nodes root there has e d =
    let at_o = subst (λ n. IsSomeAnd (slice_get shared.ops.items n) (λ (i : OpInfo). IsDefault nodes root i.default)) (sym (eqb-true o p e)) d.1 in
    let here = subst (λ m. IsSomeAnd m (λ (i : OpInfo). IsDefault nodes root i.default)) there at_o in
    (subst (λ b. IsDefault nodes root b) has here).1

pub default_self : (shared : Shared) (o at : ℕ) (info : OpInfo) (forms : List Form) (f : Procedure) → slice_get shared.ops.items o ≡ Some info → info.default ≡ true → All (λ (form : Form). IsDefinition shared form.kind form.nodes.items form.root) forms → default_in o at forms ≡ Some f → 0 < length f.params
default_self shared o at info [] f there has d e = none_some f e
default_self shared o at info (form ∷ forms) f there has d e =
    by (defines_op o form.kind) refl e (default_self shared o (suc at) info forms f there has (all_tail (λ (form : Form). IsDefinition shared form.kind form.nodes.items form.root) form forms d))
  where
    by : (b : Bool) → defines_op o form.kind ≡ b → (if b then lambda_of at form else default_in o (suc at) forms) ≡ Some f → (default_in o (suc at) forms ≡ Some f → 0 < length f.params) → 0 < length f.params
    by true q e go = self_of at (slice_get form.nodes.items form.root) f (defined_here shared o info form.kind form.nodes.items form.root there has q (all_head (λ (form : Form). IsDefinition shared form.kind form.nodes.items form.root) form forms d)) e
    by false q e go = go e
