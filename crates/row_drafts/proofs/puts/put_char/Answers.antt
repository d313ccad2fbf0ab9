use Rattle.word_drafts.proofs.Joining.{then_writes}
use Rattle.row_drafts.proofs.puts.put_char.Goals as goal

pub returns : goal.returns
returns c =
    then_writes _ _ c.args.draft.now c.character.new.self c.line.new.self c.in_ok-character.ensures
    (then_writes _ _ c.character.new.self c.put.new.self c.line.new.self c.in_ok-put.ensures
    (c.in_ok-line.ensures.written))
