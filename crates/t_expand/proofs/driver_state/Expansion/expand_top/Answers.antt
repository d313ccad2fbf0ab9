use Rattle.std.proofs.Common.{◌≡◌, refl}
use Rattle.t_rows.specs.Rows.{refusal}
use Rattle.t_rows.specs.declared.refusal.SyntaxKind.TheVariants.{BadForm}
use Rattle.t_expand.proofs.FirstLemmas.{none_of}
use Rattle.unit_tops.proofs.TopLemmas.{is_defining_top, is_broken_top, is_expression_top}
use Rattle.t_expand.proofs.UnitTallies.{tallied_more}
use Rattle.t_expand.proofs.driver_state.Expansion.expand_top.Goals as goal

pub returns-in-Defining-clause-kept : goal.returns-in-Defining-clause-kept
returns-in-Defining-clause-kept c t defined ready is =
    let x = is_defining_top c.args.self.now.shared.names c.args.self.now.forms c.args.top.now c.in-Defining.definition t c.in-Defining.is is in
    c.expand_defining.ensures.kept x.definition defined ready x.of

pub returns-in-Defining-clause-refused : goal.returns-in-Defining-clause-refused
returns-in-Defining-clause-refused c before t defined ready is marks =
    let x = is_defining_top c.args.self.now.shared.names c.args.self.now.forms c.args.top.now c.in-Defining.definition t c.in-Defining.is is in
    rw x.is (c.expand_defining.ensures.refused before x.definition defined ready x.of marks)

pub returns-in-Defining-clause-meant : goal.returns-in-Defining-clause-meant
returns-in-Defining-clause-meant c t defined ready is =
    let x = is_defining_top c.args.self.now.shared.names c.args.self.now.forms c.args.top.now c.in-Defining.definition t c.in-Defining.is is in
    rw x.is (c.expand_defining.ensures.meant x.definition defined ready x.of)

pub returns-in-Broken-clause-refused : goal.returns-in-Broken-clause-refused
returns-in-Broken-clause-refused c before t defined ready is marks =
    rw (is_broken_top c.args.self.now.shared.names c.args.self.now.forms c.args.top.now c.in-Broken.span t c.in-Broken.is is) c.expand_broken.ensures.refused

pub returns-in-Broken-clause-meant : goal.returns-in-Broken-clause-meant
returns-in-Broken-clause-meant c t defined ready is none later grown =
    absurd (none_of (λ r. r ≡ refusal BadForm c.in-Broken.span) c.args.self.now.first c.expand_broken.new.self.first none c.expand_broken.ensures.refused (refusal BadForm c.in-Broken.span) refl)

pub returns-in_ok-rooted-in-Expression-clause-refused : goal.returns-in_ok-rooted-in-Expression-clause-refused
returns-in_ok-rooted-in-Expression-clause-refused c before t defined ready is marks =
    let x = is_expression_top c.args.self.now.shared.names c.args.self.now.forms c.args.top.now c.in-Expression.key t c.in-Expression.is is in
    rw x.is (c.in_ok-rooted-in-Expression.ensures.refused x.form defined ready x.held)

pub returns-in_ok-rooted-in-Expression-clause-tallied : goal.returns-in_ok-rooted-in-Expression-clause-tallied
returns-in_ok-rooted-in-Expression-clause-tallied c forms tallied none =
    let before = tallied (c.in_ok-rooted-in-Expression.ensures.first none) in
    tallied_more forms c.finished.result.form c.in_ok-rooted-in-Expression.rooted c.expand_root.new.self _ c.finished.ensures.nodes c.finished.ensures.root refl refl refl
    before.trees (c.in_ok-rooted-in-Expression.ensures.tallied forms tallied none)
