use Rattle.std.proofs.Common.{◌≡◌, ◌∷◌, sym, ap, ◌∙◌, codes}
use Rattle.t_forms.specs.declared.arena.New.TheVariants as new
use Rattle.t_forms.specs.Data.{listed, a_variable, span_of}
use Rattle.t_rows.specs.Rows.{word_, stands_for, test_answer}
use Rattle.choice_rows.proofs.OrLemmas.{or_stands}
use Rattle.choice_rows.proofs.or_forms.or_node.Goals as goal

pub returns-in_ok-row-in-Some-clause-next : goal.returns-in_ok-row-in-Some-clause-next
returns-in_ok-row-in-Some-clause-next c names vars around d h =
    let o = c.in-Some.ensures.are names d h in
    let s = c.span_of-span.result in
    let at : s ≡ span_of d = c.span_of-span.ensures names d h in
    record {
      form = test_answer s o.first (a_variable s new.Answer) (listed s (word_ s (codes "or") ∷ o.second ∷ o.others));
      stands = or_stands around d o.operator o.first o.second o.others o.items o.word
          ∙ ap (λ t. stands_for (test_answer t o.first (a_variable t new.Answer) (listed t (word_ t (codes "or") ∷ o.second ∷ o.others)))) (sym at);
      span = at;
      is = c.in_ok-row-in-Some.ensures.row names vars o.first (o.second ∷ o.others) o.held o.behind;
    }
