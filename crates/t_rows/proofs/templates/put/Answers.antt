use Rattle.t_rows.proofs.TemplateLemmas.{put_item}
use Rattle.t_rows.proofs.templates.put.Goals as goal

pub returns-clause-put : goal.returns-clause-put
returns-clause-put c names d st h open_ =
    put_item names c.args.forms.now c.cons.new.forms c.args.lists.now.items c.in_ok-lists.field-0 c.args.lists.now.outer.items d st c.in_ok-lists.ensures.grown open_
    (λ ds r. c.in_ok-lists.ensures.items names d ds h r)
