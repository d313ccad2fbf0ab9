use Rattle.word_drafts.proofs.Joining.{then_writes}
use Rattle.row_drafts.proofs.kinds.char_to_ascii.Goals as goal

pub returns : goal.returns
returns c =
    then_writes _ _ c.args.draft.now c.character.new.self c.make.new.self c.in_ok-character.ensures
    (c.in_ok-make.ensures)
