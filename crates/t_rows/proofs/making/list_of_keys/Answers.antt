use Rattle.t_rows.proofs.Growth.{extends_trans}
use Rattle.t_rows.proofs.making.list_of_keys.Goals as goal

pub returns-clause-grown : goal.returns-clause-grown
returns-clause-grown c = extends_trans c.in_ok-items.ensures.grown c.in_ok-list.ensures.grown

pub returns-clause-made : goal.returns-clause-made
returns-clause-made c names ds h = c.in_ok-list.ensures.made names ds (c.in_ok-items.ensures.made names ds h)
