use Rattle.std.proofs.Common.{refl, sym, ◌∙◌, subst}
use Rattle.t_forms.specs.Data.{Datum}
use Rattle.t_forms.specs.Held.{Held}
use Rattle.choice_rows.proofs.CaseLemmas.{clause_last, clause_more, nil_left, no_items}
use Rattle.choice_rows.proofs.case.clause_before.Goals as goal

pub returns-in-None-clause-made : goal.returns-in-None-clause-made
returns-in-None-clause-made c names d cs r h l e o = rw (no_items c.args.span d cs r e (c.in-None.ensures names d h)) refl

pub returns-in_ok-found-in-Some-clause-made : goal.returns-in_ok-found-in-Some-clause-made
returns-in_ok-found-in-Some-clause-made c names d cs r h l e o =
    let last = sym l ∙ c.if-last.true in
    let i = c.in-Some.ensures names d h in
    rw (clause_last c.args.span d cs last, i.1)
    (c.in_ok-found-in-Some.ensures.made names i.0 i.2 (subst (λ (x : Datum). Held names c.args.forms.now c.args.others x) (sym (nil_left c.args.span cs r last e)) o))

pub returns-in_ok-found-in-Some-2-clause-made : goal.returns-in_ok-found-in-Some-2-clause-made
returns-in_ok-found-in-Some-2-clause-made c names d cs r h l e o =
    let more = sym l ∙ c.if-last.false in
    let i = c.in-Some.ensures names d h in
    rw (clause_more c.args.span d cs r more e, i.1) (c.in_ok-found-in-Some-2.ensures.made names i.0 r i.2 o)
