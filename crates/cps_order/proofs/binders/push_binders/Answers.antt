use Rattle.std.proofs.Common.{◌≡◌, ◌++◌, OnOk, sym, ap, ◌∙◌, subst}
use Rattle.cps_ir.specs.Parts.{own_binders}
use Rattle.cps_order.specs.Order.{numbers_of}
use Rattle.cps_order.proofs.Names.{names_numbered}
use Rattle.cps_order.proofs.binders.push_binders.Goals as goal

pub returns-in-Labels : goal.returns-in-Labels
returns-in-Labels c =
    subst (λ l. OnOk c.push_vars.result (c.push_vars.new.out.items ≡ c.args.out.now.items ++ l)) (ap numbers_of c.as_slice.ensures ∙ names_numbered c.in-Labels.vars ∙ ap own_binders (sym c.in-Labels.is)) c.push_vars.ensures
