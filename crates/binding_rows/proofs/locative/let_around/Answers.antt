use Rattle.std.proofs.Common.{[], ◌∷◌}
use Rattle.t_rows.specs.Rows.{locative_object}
use Rattle.t_rows.proofs.Growth.{held_grows}
use Rattle.binding_rows.proofs.locative.let_around.Goals as goal

pub returns-clause-row : goal.returns-clause-row
returns-clause-row c names vars bs d h k =
    c.rewritten.ensures.row names vars (bs ∷ locative_object c.args.span d ∷ []) []
    (held_grows c.in_ok-object.ensures.grown names c.args.bindings bs h, (c.in_ok-object.ensures.made names d k, tt)) tt
