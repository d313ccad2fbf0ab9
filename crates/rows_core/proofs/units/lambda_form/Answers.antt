use Rattle.std.proofs.Common.{refl}
use Rattle.t_base.specs.declared.shared_parts.Const.TheVariants as Constant
use Rattle.t_core.specs.declared.forms.Core.TheVariants as Node
use Rattle.t_core.specs.declared.forms.FormKind.TheVariants.{Plain}
use Rattle.rows_core.proofs.UnitLemmas.{lambda_size, pushed}
use Rattle.rows_core.proofs.units.lambda_form.Goals as goal

pub returns : goal.returns
returns c =
    let both = pushed (Node.Lambda c.in_ok-params.field-0 0) c.in_ok-push-2.ensures.items (pushed (Node.Const Constant.Nil) c.in_ok-push.ensures.items c.new-nodes.ensures.items) in
    lambda_size (record { kind = Plain; nodes = c.push-2.new.self; root = 1 }) c.in_ok-params.field-0 c.args.count refl both c.in_ok-params.ensures c.requires
