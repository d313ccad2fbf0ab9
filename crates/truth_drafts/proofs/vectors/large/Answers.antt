use Rattle.word_drafts.proofs.Joining.{fork_apart}
use Rattle.truth_drafts.proofs.vectors.large.Goals as goal

pub returns : goal.returns
returns c =
    fork_apart _ _ _ _ _ c.in_ok-last.last c.in_ok-others.others c.in_ok-place.place c.args.draft.now c.no_heap.new.self c.no_heap-2.new.self c.test_apart.new.self c.in_ok-last.ensures c.in_ok-others.ensures c.in_ok-place.ensures
