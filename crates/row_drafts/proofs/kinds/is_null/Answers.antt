use Rattle.row_drafts.proofs.kinds.is_null.Goals as goal

pub returns : goal.returns
returns c =
    c.in_ok-truth.ensures
