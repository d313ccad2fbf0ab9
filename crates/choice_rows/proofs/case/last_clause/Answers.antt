use Rattle.std.proofs.Common.{refl, sym, ◌∙◌}
use Rattle.t_forms.specs.Data.{a_nil}
use Rattle.choice_rows.proofs.CaseLemmas.{last_short}
use Rattle.choice_rows.proofs.case.last_clause.Goals as goal

pub returns-in-None-clause-made : goal.returns-in-None-clause-made
returns-in-None-clause-made c names ds h o = rw (last_short c.args.span ds (c.in-None.ensures names ds h)) refl

pub returns-in_ok-form-in-Some-clause-made : goal.returns-in_ok-form-in-Some-clause-made
returns-in_ok-form-in-Some-clause-made c names ds h o =
    let w = c.in-Some.ensures names ds h in
    rw (w.3, sym (c.word_of.ensures names w.0 w.4), sym c.is_else.ensures ∙ c.if-is_else.true) (_, refl, c.in_ok-form-in-Some.ensures.made names w.1 w.2 w.5)

pub returns-in_ok-found-in-Some-clause-made : goal.returns-in_ok-found-in-Some-clause-made
returns-in_ok-found-in-Some-clause-made c names ds h o =
    let w = c.in-Some.ensures names ds h in
    rw (w.3, sym (c.word_of.ensures names w.0 w.4), sym c.is_else.ensures ∙ c.if-is_else.false)
    (rw w.3 at (c.in_ok-found-in-Some.ensures.made names ds (a_nil c.args.span) h o))
