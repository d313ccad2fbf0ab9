use Rattle.t_rows.specs.Rows.{part_bindings}
use Rattle.t_rows.proofs.Growth.{extends_trans}
use Rattle.binding_rows.proofs.locative.bindings_list.Goals as goal

pub returns-clause-grown : goal.returns-clause-grown
returns-clause-grown c = extends_trans c.in_ok-bindings.ensures.grown c.in_ok-list.ensures.grown

pub returns-clause-made : goal.returns-clause-made
returns-clause-made c names ds h =
    c.in_ok-list.ensures.made names (part_bindings c.args.span c.args.from ds) (rw c.as_slice.ensures.value (c.in_ok-bindings.ensures.made names ds h))
