use Rattle.row_drafts.proofs.kinds.is_fixnum.Goals as goal

pub returns : goal.returns
returns c =
    c.in_ok-truth.ensures
