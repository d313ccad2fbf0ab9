use Rattle.std.proofs.Common.{sym, ◌∙◌}
use Rattle.t_rows.proofs.ListLemmas.{form_at, pair_is, items-nil, items-pair, items-dotted, items-none, nowhere}
use Rattle.t_rows.proofs.lists.items_of.Goals as goal

pub returns-in-Nil : goal.returns-in-Nil
returns-in-Nil c names d h = items-nil names c.args.forms.now c.args.key _ d (form_at c.in-Some.ensures c.in-Nil.is) h

pub returns-in-Some-get : goal.returns-in-Some-get
returns-in-Some-get c names d h =
    items-pair names c.args.forms.now c.args.key _ _ _ _ d (form_at c.in-Some.ensures (pair_is c.in-Pair.is (sym c.get-in-Pair.ensures ∙ c.in-Some-get.is))) h

pub returns-in-None-get : goal.returns-in-None-get
returns-in-None-get c names d h =
    items-dotted names c.args.forms.now c.args.key _ _ _ d (form_at c.in-Some.ensures (pair_is c.in-Pair.is (sym c.get-in-Pair.ensures ∙ c.in-None-get.is))) h

pub returns-in_default : goal.returns-in_default
returns-in_default c names d h = items-none names c.args.forms.now c.args.key _ d c.in-Some.ensures c.in_default.not-Nil c.in_default.not-Pair h

pub returns-in-None : goal.returns-in-None
returns-in-None c names d h = absurd (nowhere names c.args.forms.now c.args.key d c.in-None.ensures h)
