use Rattle.word_drafts.proofs.Joining.{then_writes}
use Rattle.frame_drafts.proofs.frames.pop_frame.Goals as goal

pub returns : goal.returns
returns c = then_writes _ _ c.args.draft.now c.line.new.self c.line-2.new.self c.in_ok-line.ensures.written c.in_ok-line-2.ensures.written
