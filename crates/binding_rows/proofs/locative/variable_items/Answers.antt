use Rattle.t_rows.specs.Rows.{part_variables}
use Rattle.t_rows.proofs.Growth.{extends_trans}
use Rattle.binding_rows.proofs.locative.variable_items.Goals as goal

pub returns-clause-grown : goal.returns-clause-grown
returns-clause-grown c = extends_trans c.in_ok-variables.ensures.grown c.in_ok-items.ensures.grown

pub returns-clause-made : goal.returns-clause-made
returns-clause-made c names ds h =
    c.in_ok-items.ensures.made names (part_variables c.args.span c.args.from ds) (rw c.as_slice.ensures.value (c.in_ok-variables.ensures.made names ds h))
