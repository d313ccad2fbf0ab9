use Rattle.std.proofs.Common.{◌≡◌, false, subst, ◌∙◌}
use Rattle.std.proofs.lemmas.List.{take_all}
use Rattle.std.specs.List.{AllByRecursion}
use Rattle.cps_ir.specs.Reaches.{is_in}
use Rattle.layout_relation.specs.Contexts.{IsUnneeded}
use Rattle.layout_tables.specs.Sketches.{exits_at, needs_behind}
use Rattle.layout_tables.proofs.Basics.{unneeded_by}
use Rattle.layout_tables.proofs.sites.Site.is_unneeded.Goals as goal

pub returns : goal.returns
returns c = λ t.
    let w = c.args.tables.now in
    let all = subst (AllByRecursion (λ j. is_in (needs_behind w j.param j.body) c.args.var.0 ≡ false)) (take_all c.loop-join.join-index c.deref-join-items.result.now c.loop-join-test.false ∙ c.deref-join-items.ensures.value) c.loop-join.invariant in
    subst (λ a. IsUnneeded (exits_at w a) c.args.var.0) c.self.view_is (unneeded_by w c.self.inside.joins.items c.self.inside.own c.args.var.0 all)
