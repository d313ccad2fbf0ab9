use Rattle.t_forms.specs.Data.{listed}
use Rattle.t_rows.proofs.Growth.{extends_trans, items_grow}
use Rattle.t_rows.proofs.TemplateLemmas.{opened_list}
use Rattle.t_rows.proofs.templates.open.Goals as goal

pub returns-in_ok-lists-in-Some-clause-put : goal.returns-in_ok-lists-in-Some-clause-put
returns-in_ok-lists-in-Some-clause-put c names st open_ =
    opened_list names c.args.forms.now c.cons.new.forms c.args.lists.now.items c.in-Some.outer c.in_ok-lists-in-Some.field-0 c.pop.new.self.items c.args.span st
    (extends_trans c.in_ok-head-in-Some.ensures.grown c.in_ok-lists-in-Some.ensures.grown) (rw c.in-Some.ensures.items at open_)
    (λ t u h r. c.in_ok-lists-in-Some.ensures.items names (listed c.args.span t) u (c.in_ok-head-in-Some.ensures.made names t h) (items_grow c.in_ok-head-in-Some.ensures.grown names c.in-Some.outer u r))
