use Rattle.std.proofs.Common.{[], ◌∷◌, sym, ◌∙◌}
use Rattle.choice_rows.proofs.cond.plain_clause.Goals as goal

pub returns-in-Zero-clause-row : goal.returns-in-Zero-clause-row
returns-in-Zero-clause-row c names vars a bs cs h r o = rw (c.in-Zero.ensures names bs r) (c.rewritten.ensures.row names vars (a ∷ []) (cs ∷ []) (h, tt) (o, tt))

pub returns-then-is_arrow-clause-row : goal.returns-then-is_arrow-clause-row
returns-then-is_arrow-clause-row c names vars a bs cs h r o =
    let f = c.in-Two.ensures names bs r in
    rw (f.2, sym (c.word_of.ensures names f.0 f.3), sym c.is_arrow.ensures ∙ c.if-is_arrow.true) (c.clause_with_receiver.ensures.row names vars a f.1 cs h f.4 o)

pub returns-else-is_arrow-clause-row : goal.returns-else-is_arrow-clause-row
returns-else-is_arrow-clause-row c names vars a bs cs h r o =
    let f = c.in-Two.ensures names bs r in
    rw (f.2, sym (c.word_of.ensures names f.0 f.3), sym c.is_arrow.ensures ∙ c.if-is_arrow.false)
    (c.clause_with_body.ensures.row names vars a (f.0 ∷ f.1 ∷ []) cs h (rw f.2 at r) o)

pub returns-in-One-clause-row : goal.returns-in-One-clause-row
returns-in-One-clause-row c names vars a bs cs h r o =
    let f = c.in-One.ensures names bs r in
    rw f.1 (c.clause_with_body-in-One.ensures.row names vars a (f.0 ∷ []) cs h (rw f.1 at r) o)

pub returns-in-Three-clause-row : goal.returns-in-Three-clause-row
returns-in-Three-clause-row c names vars a bs cs h r o =
    let f = c.in-Three.ensures names bs r in
    rw f.3 (c.clause_with_body-in-Three.ensures.row names vars a (f.0 ∷ f.1 ∷ f.2 ∷ []) cs h (rw f.3 at r) o)

pub returns-in-More-clause-row : goal.returns-in-More-clause-row
returns-in-More-clause-row c names vars a bs cs h r o =
    let f = c.in-More.ensures names bs r in
    rw f.5 (c.clause_with_body-in-More.ensures.row names vars a (f.0 ∷ f.1 ∷ f.2 ∷ f.3 ∷ f.4) cs h (rw f.5 at r) o)
