use Rattle.std.proofs.Common.{refl, ◌∙◌, subst, List, pos, false}
use Rattle.t_base.specs.declared.shared_parts.Const.{Const}
use Rattle.t_base.specs.declared.shared_parts.Const.TheVariants as Constant
use Rattle.t_core.specs.declared.forms.Core.TheVariants as Node
use Rattle.t_core.specs.declared.forms.FormKind.TheVariants.{Plain}
use Rattle.rows_core.specs.CallUnit.{IsBare, x_var}
use Rattle.rows_core.proofs.UnitLemmas.{pushed}
use Rattle.rows_core.proofs.CallUnitLemmas.{call_whole, call_nodes_are}
use Rattle.rows_core.proofs.units.call_unit.Goals as goal

pub returns-clause-unit : goal.returns-clause-unit
returns-clause-unit c =
    let params = c.from_vec.ensures ∙ pushed x_var c.in_ok-push.ensures.items c.new-params.ensures.items in
    let operands = c.from_vec-2.ensures ∙ pushed 2 c.in_ok-push-2.ensures.items c.new-operands.ensures.items in
    let nodes = pushed (Node.Call 1 c.from_vec-2.result false) c.in_ok-push-6.ensures.items (pushed (Node.Const (Constant.Fix (pos 5))) c.in_ok-push-5.ensures.items (pushed (Node.Lambda c.from_vec.result 0) c.in_ok-push-4.ensures.items (pushed (Node.Local x_var) c.in_ok-push-3.ensures.items c.new-nodes.ensures.items))) in
    record {
      shared = let P : List (Const × Const) → Type 0 = λ pairs. IsBare pairs 5 c.in_ok-shared.shared in subst P c.new.ensures.items c.in_ok-shared.ensures;
      form = record { kind = Plain; nodes = c.push-6.new.self; root = 3 };
      forms = pushed (record { kind = Plain; nodes = c.push-6.new.self; root = 3 }) c.in_ok-push-7.ensures.items c.new-forms.ensures.items;
      kind = refl;
      nodes = call_nodes_are c.push-6.new.self.items c.from_vec.result c.from_vec-2.result nodes params operands;
      root = refl;
    }

pub returns-clause-whole : goal.returns-clause-whole
returns-clause-whole c = call_whole (record { shared = c.in_ok-shared.shared; forms = c.push-7.new.self }) (returns-clause-unit c)
