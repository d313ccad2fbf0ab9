use Rattle.std.proofs.Common.{[], ◌∷◌, Contains, refl, sym, subst, ◌∙◌}
use Rattle.unit_tops.specs.Marks.{Marks}
use Rattle.expansion.specs.Refusals.{RefusedDefinition, twice_defined}
use Rattle.expansion.specs.Units.{defining, defined_name as name_of}
use Rattle.t_expand.proofs.FirstLemmas.{first_then}
use Rattle.t_expand.proofs.KeepingLemmas.{keeps_trans, ready_kept}
use Rattle.t_expand.proofs.TopLemmas.{definition_kept, finished_means}
use Rattle.expansion.proofs.Places.{names_last}
use Rattle.t_expand.proofs.UnitTallies.{tallied_same, tallied_more}
use Rattle.t_expand.proofs.driver_state.Expansion.expand_defining.Goals as goal

pub returns-clause-kept : goal.returns-clause-kept
returns-clause-kept c d defined ready of =
    let first = c.in_ok-look_for_twice.ensures.kept in
    let ready-2 = ready_kept c.args.self.now c.look_for_twice.new.self defined first ready in
    let of-2 = definition_kept c.args.self.now c.look_for_twice.new.self c.args.definition.now d first of in
    let k = keeps_trans c.args.self.now c.look_for_twice.new.self c.expand_value.new.self first (c.in_ok-rooted.ensures.kept d defined ready-2 of-2) in
    record {
      forms = k.forms;
      scope = k.scope;
      shared = record { names = k.shared.names; strings = k.shared.strings; pairs = k.shared.pairs };
      globals = c.settle.ensures.names ∙ k.globals;
      ops = k.ops;
    }

pub returns-clause-refused : goal.returns-clause-refused
returns-clause-refused c before d defined ready of marks =
    let first = c.in_ok-look_for_twice.ensures.kept in
    let ready-2 = ready_kept c.args.self.now c.look_for_twice.new.self defined first ready in
    let of-2 = definition_kept c.args.self.now c.look_for_twice.new.self c.args.definition.now d first of in
    first_then (λ r. Contains (twice_defined before (name_of d)) r) (RefusedDefinition defined d) c.args.self.now.first c.look_for_twice.new.self.first c.expand_value.new.self.first
    (c.in_ok-look_for_twice.ensures.refused before defined (name_of d) ready (c.defined_name.ensures c.args.self.now.shared.names c.args.self.now.forms d of) marks)
    (c.in_ok-rooted.ensures.refused d defined ready-2 of-2)

pub returns-clause-marked : goal.returns-clause-marked
returns-clause-marked c before d defined ready of marks =
    subst (λ ns. Marks c.args.self.now.shared.names c.look_for_twice.new.marks ns) (sym (names_last before (defining d) ((name_of d).name ∷ []) refl))
    (c.in_ok-look_for_twice.ensures.marked before defined (name_of d) ready (c.defined_name.ensures c.args.self.now.shared.names c.args.self.now.forms d of) marks)

pub returns-clause-meant : goal.returns-clause-meant
returns-clause-meant c d defined ready of none later grown =
    let first = c.in_ok-look_for_twice.ensures.kept in
    let ready-2 = ready_kept c.args.self.now c.look_for_twice.new.self defined first ready in
    let of-2 = definition_kept c.args.self.now c.look_for_twice.new.self c.args.definition.now d first of in
    let second = c.in_ok-rooted.ensures.kept d defined ready-2 of-2 in
    let ready-3 = ready_kept c.look_for_twice.new.self c.expand_value.new.self defined second ready-2 in
    let of-3 = definition_kept c.look_for_twice.new.self c.expand_value.new.self c.args.definition.now d second of-2 in
    finished_means defined later c.finished.result c.in_ok-kind.kind c.in_ok-rooted.rooted (defining d) c.finished.ensures.kind c.finished.ensures.root
    c.finished.ensures.nodes c.finished.ensures.spans c.in_ok-rooted.ensures.lengths
    (c.in_ok-kind.ensures c.expand_value.new.self.forms d defined ready-3 of-3 none, c.in_ok-rooted.ensures.meant d defined ready-2 of-2 none later (record { names = grown.names; strings = grown.strings; pairs = grown.pairs }))

pub returns-clause-tallied : goal.returns-clause-tallied
returns-clause-tallied c forms tallied none =
    let twice = c.in_ok-look_for_twice.ensures in
    let before = tallied (twice.first (c.in_ok-rooted.ensures.first none)) in
    tallied_more forms c.finished.result.form c.in_ok-rooted.rooted c.expand_value.new.self _ c.finished.ensures.nodes c.finished.ensures.root refl refl refl before.trees
    (c.in_ok-rooted.ensures.tallied forms (λ n. tallied_same forms c.args.self.now c.look_for_twice.new.self twice.next twice.shared (tallied (twice.first n))) none)
