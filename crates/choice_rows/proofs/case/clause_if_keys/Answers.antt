use Rattle.std.proofs.Common.{refl, sym, ◌∙◌}
use Rattle.choice_rows.proofs.case.clause_if_keys.Goals as goal

pub returns-in_ok-form-clause-made : goal.returns-in_ok-form-clause-made
returns-in_ok-form-clause-made c names ks bs r h k o =
    rw (sym (c.are_keys.ensures names ks h) ∙ c.if-are_keys.true) (_, refl, c.in_ok-form.ensures.made names ks bs r h k o)

pub returns-else-are_keys-clause-made : goal.returns-else-are_keys-clause-made
returns-else-are_keys-clause-made c names ks bs r h k o = rw (sym (c.are_keys.ensures names ks h) ∙ c.if-are_keys.false) refl
