use Rattle.std.proofs.Common.{◌∷◌}
use Rattle.t_forms.specs.Data.{listed}
use Rattle.t_rows.specs.Rows.{part_bindings, part_variables}
use Rattle.t_rows.proofs.Growth.{extends_trans, held_grows, all_held_grow}
use Rattle.binding_rows.proofs.locative.locative_of_symbol.Goals as goal

pub returns-clause-grown : goal.returns-clause-grown
returns-clause-grown c =
    extends_trans c.in_ok-bindings.ensures.grown (extends_trans c.in_ok-variables.ensures.grown (extends_trans c.in_ok-place.ensures.grown c.in_ok-row.ensures.grown))

pub returns-clause-row : goal.returns-clause-row
returns-clause-row c names vars a es h r =
    let s = c.args.span in
    let ks = c.in_ok-keys.ensures names es r in
    let g1 = c.in_ok-bindings.ensures.grown in
    let g2 = c.in_ok-variables.ensures.grown in
    let g3 = c.in_ok-place.ensures.grown in
    c.in_ok-row.ensures.row names vars (listed s (part_bindings s 1 es)) (listed s (a ∷ part_variables s 1 es))
    (held_grows (extends_trans g2 g3) names c.in_ok-bindings.bindings (listed s (part_bindings s 1 es))
    (c.in_ok-bindings.ensures.made names es (rw c.as_slice.ensures.value ks)))
    (c.in_ok-place.ensures.list names a (part_variables s 1 es) (held_grows (extends_trans g1 g2) names c.args.operator a h)
    (c.in_ok-variables.ensures.made names es (rw c.as_slice-2.ensures.value (all_held_grow g1 names c.in_ok-keys.keys.items es ks))))
