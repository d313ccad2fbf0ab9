use Rattle.word_drafts.proofs.Joining.{then_writes}
use Rattle.row_drafts.proofs.kinds.char_lt.Goals as goal

pub returns : goal.returns
returns c =
    then_writes _ _ c.args.draft.now c.character.new.self c.truth.new.self c.in_ok-character.ensures
    (then_writes _ _ c.character.new.self c.character-2.new.self c.truth.new.self c.in_ok-character-2.ensures
    (c.in_ok-truth.ensures))
