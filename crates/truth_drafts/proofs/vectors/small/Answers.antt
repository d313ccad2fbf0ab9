use Rattle.word_drafts.proofs.Joining.{then_writes, beside_apart}
use Rattle.truth_drafts.proofs.vectors.small.Goals as goal

pub returns : goal.returns
returns c =
    then_writes _ _ c.args.draft.now c.make.new.self c.make-3.new.self c.in_ok-make.ensures
    (then_writes _ _ c.make.new.self c.make-2.new.self c.make-3.new.self c.in_ok-make-2.ensures
    (then_writes _ _ c.make-2.new.self c.take.new.self c.make-3.new.self
    (beside_apart _ _ c.in_ok-full.full c.make-2.new.self c.no_heap.new.self c.take.new.self c.in_ok-full.ensures c.in_ok-take.ensures)
    (then_writes _ _ c.take.new.self c.line.new.self c.make-3.new.self c.in_ok-line.ensures.written
    (then_writes _ _ c.line.new.self c.line-2.new.self c.make-3.new.self c.in_ok-line-2.ensures.written c.in_ok-make-3.ensures))))
