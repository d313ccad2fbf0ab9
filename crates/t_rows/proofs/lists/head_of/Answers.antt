use Rattle.t_rows.proofs.ListLemmas.{form_at, nowhere, head-pair, head-none}
use Rattle.t_rows.proofs.lists.head_of.Goals as goal

pub returns-in-Pair : goal.returns-in-Pair
returns-in-Pair c names d h = head-pair names c.args.forms.now c.args.key _ _ _ _ d (form_at c.in-Some.ensures c.in-Pair.is) h

pub returns-in_default : goal.returns-in_default
returns-in_default c names d h = head-none names c.args.forms.now c.args.key _ d c.in-Some.ensures c.in_default.not-Pair h

pub returns-in-None : goal.returns-in-None
returns-in-None c names d h = absurd (nowhere names c.args.forms.now c.args.key d c.in-None.ensures h)
