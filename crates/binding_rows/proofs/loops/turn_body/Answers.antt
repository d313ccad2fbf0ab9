use Rattle.std.proofs.Common.{[], ◌∷◌, ◌++◌}
use Rattle.binding_rows.specs.Steps.{turn_call}
use Rattle.t_rows.proofs.Growth.{extends_trans, items_grow}
use Rattle.binding_rows.proofs.loops.turn_body.Goals as goal

pub returns-clause-grown : goal.returns-clause-grown
returns-clause-grown c = extends_trans c.in_ok-call.ensures.grown (extends_trans c.in_ok-items.ensures.grown c.in_ok-block.ensures.grown)

pub returns-clause-made : goal.returns-clause-made
returns-clause-made c names xs ds z r =
    let all_ = ds ++ turn_call c.args.span xs ∷ [] in
    let ks = c.in_ok-keys.ensures names ds (turn_call c.args.span xs) (items_grow c.in_ok-call.ensures.grown names c.args.bs ds r) (c.in_ok-call.ensures.made names xs z) in
    c.in_ok-block.ensures.made names [] (all_ ∷ []) tt (c.in_ok-items.ensures.made names all_ (rw c.as_slice.ensures.value ks), tt)
