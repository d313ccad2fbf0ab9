use Rattle.t_rows.proofs.ListLemmas.{form_at, split-pair, split-none, split-nowhere}
use Rattle.t_rows.proofs.lists.split.Goals as goal

pub returns-in-Pair : goal.returns-in-Pair
returns-in-Pair c names ds h = split-pair names c.args.forms.now c.args.items _ _ _ _ ds (form_at c.in-Some.ensures c.in-Pair.is) h

pub returns-in_default : goal.returns-in_default
returns-in_default c names ds h = split-none names c.args.forms.now c.args.items _ ds c.in-Some.ensures c.in_default.not-Pair h

pub returns-in-None : goal.returns-in-None
returns-in-None c names ds h = split-nowhere names c.args.forms.now c.args.items ds c.in-None.ensures h
