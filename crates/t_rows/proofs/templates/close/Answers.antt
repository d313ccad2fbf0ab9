use Rattle.t_rows.proofs.Growth.{extends_same}
use Rattle.t_rows.proofs.TemplateLemmas.{closed_list}
use Rattle.t_rows.proofs.templates.close.Goals as goal

pub returns : goal.returns
returns c names cells st none open_ =
    rw c.in_ok-push.ensures.items (closed_list names cells cells c.args.lists.now.items c.args.nil c.args.lists.now.outer.items st extends_same open_ none)
