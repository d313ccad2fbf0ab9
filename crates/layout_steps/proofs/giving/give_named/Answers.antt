use Rattle.std.proofs.Common.{refl}
use Rattle.layout_steps.proofs.Handing.{given_out, given_join}
use Rattle.layout_steps.proofs.giving.give_named.Goals as goal

pub returns-in-Leaves : goal.returns-in-Leaves
returns-in-Leaves c = given_out c.args.cps.now c.args.tables.now c.args.scope.now c.args.work.now c.args.site.now c.args.k c.args.value (c.in-Leaves.ensures.way c.args.tables.now) (c.if-has_no_catch.ensures refl)

pub returns-in_ok-last-in-Meets : goal.returns-in_ok-last-in-Meets
returns-in_ok-last-in-Meets c = given_join c.args.cps.now c.args.tables.now c.args.scope.now c.args.work.now c.args.site.now c.in_ok-outside-in-Meets.outside c.args.k c.in-Meets.join c.in-Meets.place c.args.value _ (c.in-Meets.ensures.way c.args.tables.now) c.in_ok-outside-in-Meets.ensures c.in_ok-last-in-Meets.ensures
