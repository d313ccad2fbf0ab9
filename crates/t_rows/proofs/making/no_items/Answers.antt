use Rattle.t_rows.proofs.Growth.{last_at}
use Rattle.t_rows.proofs.making.no_items.Goals as goal

pub returns-clause-made : goal.returns-clause-made
returns-clause-made c names = (c.args.span, last_at c.args.forms.now c.in_ok-key.ensures.cells c.in_ok-key.ensures.place)
