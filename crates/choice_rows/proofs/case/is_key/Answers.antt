use Rattle.std.proofs.Common.{sym, ◌∙◌}
use Rattle.t_rows.proofs.ListLemmas.{nowhere}
use Rattle.choice_rows.proofs.CaseLemmas.{key_is}
use Rattle.choice_rows.proofs.case.is_key.Goals as goal

pub returns-in-Some : goal.returns-in-Some
returns-in-Some c names d h = c.is_key_form.ensures ∙ key_is names c.args.forms.now c.args.key c.in-Some.cell.now d (sym c.in-Some.ensures) h

pub returns-in-None : goal.returns-in-None
returns-in-None c names d h = absurd (nowhere names c.args.forms.now c.args.key d c.in-None.ensures h)
