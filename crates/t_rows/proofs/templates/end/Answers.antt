use Rattle.t_rows.proofs.Growth.{extends_same}
use Rattle.t_rows.proofs.TemplateLemmas.{ended_list, rest_items}
use Rattle.t_rows.proofs.templates.end.Goals as goal

pub returns : goal.returns
returns c names cells ds st none h open_ =
    ended_list names cells cells c.args.lists.now.items c.unwrap_or-lists.result c.args.lists.now.outer.items ds st extends_same open_
    (rw c.unwrap_or-lists.ensures (rest_items names cells c.args.nil c.args.rest ds none h))
