use Rattle.t_forms.specs.Data.{listed}
use Rattle.t_rows.specs.Rows.{part_bindings, part_variables}
use Rattle.t_rows.proofs.Growth.{extends_trans, held_grows, all_held_grow}
use Rattle.binding_rows.proofs.locative.locative_of_form.Goals as goal

pub returns-clause-grown : goal.returns-clause-grown
returns-clause-grown c =
    extends_trans c.in_ok-bindings.ensures.grown (extends_trans c.in_ok-variables.ensures.grown (extends_trans c.in_ok-place.ensures.grown c.in_ok-row.ensures.grown))

pub returns-clause-row : goal.returns-clause-row
returns-clause-row c names vars ds r =
    let s = c.args.span in
    let ks = c.in_ok-keys.ensures names ds r in
    let g1 = c.in_ok-bindings.ensures.grown in
    let g2 = c.in_ok-variables.ensures.grown in
    let g3 = c.in_ok-place.ensures.grown in
    c.in_ok-row.ensures.row names vars (listed s (part_bindings s 0 ds)) (listed s (part_variables s 0 ds))
    (held_grows (extends_trans g2 g3) names c.in_ok-bindings.bindings (listed s (part_bindings s 0 ds))
    (c.in_ok-bindings.ensures.made names ds (rw c.as_slice.ensures.value ks)))
    (c.in_ok-place.ensures.made names (part_variables s 0 ds)
    (rw c.as_slice-3.ensures.value (c.in_ok-variables.ensures.made names ds (rw c.as_slice-2.ensures.value (all_held_grow g1 names c.in_ok-keys.keys.items ds ks)))))
