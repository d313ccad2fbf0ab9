use Rattle.std.proofs.Common.{rules, ◌≡◌, ◌+◌, length, subst}
use Rattle.frame_heap.specs.Codes.{record_code, words_at}
use Rattle.word_drafts.specs.Drafts.{Writes}
use Rattle.heap_drafts.proofs.Grouping.{writes_making}
use Rattle.heap_drafts.proofs.groups.one_record.Goals as goal

pub returns-in_ok-record-in-Closure-clause-code : goal.returns-in_ok-record-in-Closure-clause-code
returns-in_ok-record-in-Closure-clause-code c l shared w =
    let kept : c.as_slice.result.now ≡ c.in-Closure.kept = search rules in
    let held : c.as_slice-in-Closure.result.now ≡ c.in-Closure.kept = search rules in
    let adds : c.in_ok-next-in-Closure.next ≡ c.args.place + words_at c.in-Closure.at (length c.in-Closure.kept) =
    subst (λ xs. c.in_ok-next-in-Closure.next ≡ c.args.place + words_at c.in-Closure.at (length xs)) kept c.in_ok-next-in-Closure.ensures in
    writes_making (λ m. record_code l c.args.places.now.free c.args.place m.code m.kept m.at) c.args.op.now c.in-Closure.to c.in-Closure.code c.in-Closure.kept c.in-Closure.at c.args.place c.in_ok-next-in-Closure.next c.args.draft.now
    c.record.new.draft c.in-Closure.is adds
    (subst (λ xs. Writes (record_code l c.args.places.now.free c.args.place c.in-Closure.code xs c.in-Closure.at) c.args.draft.now c.record.new.draft) held (c.in_ok-record-in-Closure.ensures.code l shared w))
