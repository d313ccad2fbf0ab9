use Rattle.std.proofs.Common.{subst}
use Rattle.frame_ir.specs.Groups.{makings}
use Rattle.frame_heap.specs.Codes.{addresses, group_words, records, take_words}
use Rattle.word_drafts.specs.Drafts.{Writes}
use Rattle.word_drafts.proofs.Joining.{then_writes}
use Rattle.heap_drafts.proofs.groups.group.Goals as goal

pub returns-clause-code : goal.returns-clause-code
returns-clause-code c l shared w =
    then_writes (take_words c.args.places.now.free (group_words (makings c.args.group.now)))
    (λ rest. addresses l c.args.places.now.free 0 (makings c.args.group.now) (records l c.args.places.now.free 0 (makings c.args.group.now) rest)) c.args.draft.now c.take_words.new.draft c.records.new.draft
    (subst (λ n. Writes (take_words c.args.places.now.free n) c.args.draft.now c.take_words.new.draft) c.in_ok-words.ensures c.in_ok-take_words.ensures)
    (then_writes (addresses l c.args.places.now.free 0 (makings c.args.group.now)) (records l c.args.places.now.free 0 (makings c.args.group.now)) c.take_words.new.draft c.addresses.new.draft c.records.new.draft
    (c.in_ok-addresses.ensures.code l shared w) (c.in_ok-records.ensures.code l shared w))
