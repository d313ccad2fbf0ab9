use Rattle.std.proofs.Common.{map}
use Rattle.t_rows.specs.Rows.{name_datum}
use Rattle.t_rows.proofs.Growth.{extends_trans, items_grow}
use Rattle.binding_rows.proofs.bindings.iterate_procedure.Goals as goal

pub returns-clause-grown : goal.returns-clause-grown
returns-clause-grown c = extends_trans c.in_ok-params.ensures.grown c.in_ok-procedure.ensures.grown

pub returns-clause-made : goal.returns-clause-made
returns-clause-made c names xs ds z r =
    c.in_ok-procedure.ensures.made names (map (λ x. name_datum x.binds) xs) ds
    (c.in_ok-params.ensures.made names (map (λ x. name_datum x.binds) xs) (rw c.as_slice.ensures.value (c.in_ok-places.ensures names c.args.forms.now xs z)))
    (items_grow c.in_ok-params.ensures.grown names c.args.bs ds r)
