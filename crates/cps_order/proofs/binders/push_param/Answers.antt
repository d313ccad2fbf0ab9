use Rattle.std.proofs.Common.{◌≡◌, ◌++◌, [], Some, sym, ap, ◌∙◌, subst}
use Rattle.std.proofs.lemmas.List.{append-nil}
use Rattle.cps_ir.specs.Parts.{cont_parts}
use Rattle.cps_order.specs.Order.{bound_by}
use Rattle.cps_order.proofs.binders.push_param.Goals as goal

pub returns-in_ok-push : goal.returns-in_ok-push
returns-in_ok-push c = c.in_ok-push.ensures.items ∙ ap (λ k. c.args.out.now.items ++ bound_by (cont_parts [] (Some k))) (sym c.in-Lam.is)

pub returns-in_default : goal.returns-in_default
returns-in_default c = subst (λ k. c.args.out.now.items ≡ c.args.out.now.items ++ bound_by (cont_parts [] (Some k))) (sym c.in_default.is) (sym (append-nil c.args.out.now.items))
