use Rattle.t_rows.proofs.Growth.{held_grows}
use Rattle.choice_rows.proofs.case.case_with.Goals as goal

pub returns-clause-row : goal.returns-clause-row
returns-clause-row c names vars e cs h r =
    c.case_found.ensures.row names vars e cs (held_grows c.in_ok-found.ensures.grown names c.args.chosen e h)
    (c.in_ok-found.ensures.made names cs (rw c.as_slice.ensures.value (c.in_ok-keys.ensures names cs r)))
