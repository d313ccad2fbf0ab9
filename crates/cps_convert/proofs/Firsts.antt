-- The procedure of a LAMBDA that is the root of a form.
use Rattle.std.proofs.Common.{◌≡◌, ℕ, ◌<◌, Bool, List, [], length, Some, slice_get, ap, sym, ◌∙◌, arith}
use Rattle.std.specs.Option.{option_and_then}
use Rattle.std.proofs.lemmas.Option.{slice_get_within}
use Rattle.t_base.specs.declared.basics.Var.{Var}
use Rattle.t_core.specs.declared.forms.Core.TheVariants as Node
use Rattle.t_core.specs.declared.forms.Form.{Form}
use Rattle.t_core.specs.declared.forms.UnitCore.{UnitCore}
use Rattle.t_meaning.specs.Programs.{node_at}
use Rattle.t_meaning.specs.Operations.{procedure_of}
use Rattle.cps_ir.specs.declared.terms.Cont.TheVariants as Continuation
use Rattle.cps_ir.specs.declared.terms.Lam.{Lam}
use Rattle.cps_conversion.specs.Conversion.{adding}
use Rattle.cps_conversion.proofs.Deeper.{converts_deeper}
use Rattle.cps_convert.specs.declared.conversion.Conversion.{Conversion}
use Rattle.cps_convert.specs.Claims.{LamConverted, translation}
use Rattle.cps_convert.specs.Firsts.{RootMade}
use Rattle.cps_convert.proofs.Spots.{opened}
use Rattle.cps_convert.proofs.Bodies.{own_all}
use Rattle.cps_convert.proofs.Roots.{none_outer, root_scoped}

pub root_made : (unit : UnitCore) (marks : List Bool) (a b : Conversion) (at : ℕ) (form : Form) (params : List Var) (body : ℕ) (lam : Lam) → slice_get unit.forms.items at ≡ Some form → node_at unit at form.root ≡ Some (Node.Lambda params body)
    → form.root < unit.shared.size → LamConverted unit marks at a b form.root params body lam → RootMade unit marks a b at lam
root_made unit marks a b at form params body lam there in_form below made =
    let is : slice_get form.nodes.items form.root ≡ Some (Node.Lambda params body) = sym (ap (λ o. option_and_then (λ f. slice_get f.nodes.items form.root) o) there) ∙ in_form in
    let within : form.root < length form.nodes.items = slice_get_within form.nodes.items form.root (Node.Lambda params body) is in
    record {
      form = form;
      procedure = record { params = params; form = at; body = body; env = [] };
      there = there;
      is = ap (procedure_of at) is;
      grows = made.grows;
      holds = record {
        holds = λ cps origins inc base setting first.
            let x = translation unit cps origins in
            let o = opened unit at form.root [] (Node.Lambda params body) (root_scoped unit marks base at form setting there (omega (arith, within))) in_form in
            let l = made.holds cps origins inc base setting first [] (own_all unit marks base at form.root (Node.Lambda params body) setting in_form) o.parts.0 (none_outer unit base a.next at _) in
            record {
              start = l.start;
              names_new = l.names_new;
              assigned = l.assigned;
              body_as = converts_deeper x form.root unit.shared.size (omega (arith, below)) at (adding params []) (adding params []) body (Continuation.Var lam.k) l.start l.body_as;
            };
      };
    }
