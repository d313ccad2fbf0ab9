use Rattle.std.proofs.Common.{◌≡◌, ◌∷◌, refl}
use Rattle.t_rows.specs.Rows.{block}
use Rattle.t_rows.proofs.words.block_row.Goals as goal

pub returns-in-None-clause-row : goal.returns-in-None-clause-row
returns-in-None-clause-row c names vars ds h = rw (c.in-None.ensures names ds h) (c.no_row.ensures.row names vars)

pub returns-in_ok-keys-in-Some-split-clause-row : goal.returns-in_ok-keys-in-Some-split-clause-row
returns-in_ok-keys-in-Some-split-clause-row c names vars ds h =
    let f = c.in-Some.ensures names ds h in
    let n = c.in-Some-split.ensures names f.1 f.4 in
    let e : ds ≡ f.0 ∷ n.0 ∷ n.1 = cc in
    rw e (c.plain_node.ensures.row names vars block (f.0 ∷ n.0 ∷ n.1) refl
    (rw c.as_slice.ensures.value (c.in_ok-keys-in-Some-split.ensures names (f.0 ∷ n.0 ∷ n.1) (rw e at h))))
