use Rattle.std.proofs.Common.{[], ◌∷◌, sym, ◌∙◌}
use Rattle.choice_rows.proofs.CondLemmas.{received_else, received_arrow, received_form}
use Rattle.choice_rows.proofs.cond.received.Goals as goal

pub returns-then-is_else-clause-made : goal.returns-then-is_else-clause-made
returns-then-is_else-clause-made c names f h =
    let w = c.word_of-word.ensures names f h in
    rw (received_else c.args.span f c.word_of-word.result w (sym c.is_else.ensures ∙ c.if-is_else.true)) h

pub returns-then-is_arrow-clause-made : goal.returns-then-is_arrow-clause-made
returns-then-is_arrow-clause-made c names f h =
    let w = c.word_of-word.ensures names f h in
    rw (received_arrow c.args.span f c.word_of-word.result w (sym c.is_else.ensures ∙ c.if-is_else.false) (sym c.is_arrow.ensures ∙ c.if-is_arrow.true)) h

pub returns-in_ok-call-clause-made : goal.returns-in_ok-call-clause-made
returns-in_ok-call-clause-made c names f h =
    let w = c.word_of-word.ensures names f h in
    rw (received_form c.args.span f c.word_of-word.result w (sym c.is_else.ensures ∙ c.if-is_else.false) (sym c.is_arrow.ensures ∙ c.if-is_arrow.false))
    (c.in_ok-call.ensures.made names (f ∷ []) [] (h, tt) tt)
