use Rattle.word_drafts.proofs.Joining.{then_writes, beside_apart}
use Rattle.truth_drafts.proofs.vectors.make_vector.Goals as goal

pub returns : goal.returns
returns c =
    then_writes _ _ c.args.draft.now c.fixnum.new.self c.small.new.draft c.in_ok-fixnum.ensures
    (then_writes _ _ c.fixnum.new.self c.natural.new.draft c.small.new.draft c.in_ok-natural.ensures
    (then_writes _ _ c.natural.new.draft c.check.new.self c.small.new.draft
    (beside_apart _ _ c.in_ok-exit.exit c.natural.new.draft c.large.new.draft c.check.new.self c.in_ok-exit.ensures c.in_ok-check.ensures) c.in_ok-small.ensures))
