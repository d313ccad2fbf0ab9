use Rattle.std.proofs.Common.{[], ◌∷◌}
use Rattle.t_rows.specs.Rows.{received}
use Rattle.t_rows.proofs.Growth.{held_grows, items_grow}
use Rattle.choice_rows.proofs.cond.clause_with_receiver.Goals as goal

pub returns-clause-row : goal.returns-clause-row
returns-clause-row c names vars a f cs h k r =
    let g = c.in_ok-call.ensures.grown in
    c.rewritten.ensures.row names vars (a ∷ received c.args.span f ∷ []) (cs ∷ [])
    (held_grows g names c.args.test a h, (c.in_ok-call.ensures.made names f k, tt)) (items_grow g names c.args.others cs r, tt)
