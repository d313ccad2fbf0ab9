use Rattle.std.proofs.Common.{sym, ◌∙◌}
use Rattle.t_rows.proofs.ListLemmas.{form_at, pair_is, count-nil, count-pair}
use Rattle.t_rows.proofs.lists.count_of.Goals as goal

pub returns-in-Nil : goal.returns-in-Nil
returns-in-Nil c names ds h = count-nil names c.args.forms.now c.args.items _ ds (form_at c.in-Some.ensures c.in-Nil.is) h

pub returns-in-Some-get : goal.returns-in-Some-get
returns-in-Some-get c names ds h =
    count-pair names c.args.forms.now c.args.items _ _ _ _ ds (form_at c.in-Some.ensures (pair_is c.in-Pair.is (sym c.get-in-Pair.ensures ∙ c.in-Some-get.is))) h
