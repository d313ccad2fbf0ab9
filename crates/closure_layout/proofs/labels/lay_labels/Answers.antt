use Rattle.std.proofs.Common.{refl, sym, ap, subst, ◌∙◌, length, ◌<◌, ◌+◌, ◌++◌}
use Rattle.layout_relation.specs.Contexts.{paired}
use Rattle.layout_relation.specs.Laid.{numbers, AreDistinct}
use Rattle.layout_tables.specs.Sketches.{counted, rank_of}
use Rattle.closure_layout.specs.Labelled.{MayName, MakesAll}
use Rattle.closure_layout.proofs.Walking.{new_length}
use Rattle.closure_layout.proofs.Labelling.{laid_labels}
use Rattle.closure_layout.proofs.labels.lay_labels.Goals as goal

pub push_closures-requires : goal.push_closures-requires
push_closures-requires c = ap length c.deref-2.ensures.value ∙ new_length c.args.work.now.next (length c.as_slice-places.result.now) c.in_ok-tos.tos.items c.in_ok-tos.ensures.variables

pub returns : goal.returns
returns c =
    let w = c.args.tables.now in
    let old = c.args.work.now in
    let before = c.args.line.now in
    let names = c.as_slice-names.ensures in
    let places = c.as_slice-places.ensures in
    let tos = c.in_ok-tos.tos.items in
    laid_labels c.args.cps.now w old c.variables.new.self c.push_closures.new.work c.go_to.new.work before (record { ops = c.push_closures.new.ops; scope = c.hold_all.new.self; site = c.args.line.now.site }) c.args.term c.args.body c.args.vars.now c.args.lams.now tos c.in_ok-last.last
    c.requires.first c.requires.below (sym (ap length names) ∙ c.if-names-places.false ∙ ap length places)
    (new_length old.next (length c.as_slice-places.result.now) tos c.in_ok-tos.ensures.variables ∙ ap length places) (subst (MayName w before.scope before.site) names (c.if-not-may_name.ensures refl)) (subst (λ ns. AreDistinct (numbers ns)) names (c.if-not-are_distinct.ensures refl))
    (subst (λ n. n < rank_of w c.args.term) c.rank_of.ensures (subst (λ n. c.rank_of.result < n) c.rank_of-2.ensures c.if-rank_of.false))
    (c.in_ok-tos.ensures.variables ∙ ap (counted old.next) (ap length places)) (c.in_ok-tos.ensures.next ∙ ap (λ n. old.next + n) (ap length places)) c.variables.ensures.requests c.variables.ensures.templates
    (c.in_ok-hold_all.ensures ∙ ap (λ ns. paired (numbers ns) c.deref.result.now ++ before.scope) names ∙ ap (λ ys. paired (numbers c.args.vars.now) ys ++ before.scope) c.deref.ensures.value)
    (subst (λ ls. MakesAll w c.hold_all.new.self c.variables.new.self c.push_closures.new.work before.ops.items c.push_closures.new.ops.items ls tos) places
    (subst (λ ys. MakesAll w c.hold_all.new.self c.variables.new.self c.push_closures.new.work before.ops.items c.push_closures.new.ops.items c.as_slice-places.result.now ys) c.deref-2.ensures.value c.in_ok-push_closures.ensures))
    c.in_ok-last.ensures
