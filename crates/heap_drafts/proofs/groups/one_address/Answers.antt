use Rattle.std.proofs.Common.{rules, ◌≡◌, ◌+◌, length, subst}
use Rattle.frame_heap.specs.Codes.{address_code, words_at}
use Rattle.heap_drafts.proofs.Grouping.{writes_making}
use Rattle.heap_drafts.proofs.groups.one_address.Goals as goal

pub returns-in_ok-address-in-Closure-clause-code : goal.returns-in_ok-address-in-Closure-clause-code
returns-in_ok-address-in-Closure-clause-code c l shared w =
    let kept : c.as_slice.result.now ≡ c.in-Closure.kept = search rules in
    let adds : c.in_ok-next-in-Closure.next ≡ c.args.place + words_at c.in-Closure.at (length c.in-Closure.kept) =
    subst (λ xs. c.in_ok-next-in-Closure.next ≡ c.args.place + words_at c.in-Closure.at (length xs)) kept c.in_ok-next-in-Closure.ensures in
    writes_making (λ m. address_code l c.args.places.now.free c.args.place m.to m.code m.at) c.args.op.now c.in-Closure.to c.in-Closure.code c.in-Closure.kept c.in-Closure.at c.args.place c.in_ok-next-in-Closure.next c.args.draft.now
    c.address.new.draft c.in-Closure.is adds (c.in_ok-address-in-Closure.ensures.code l shared w)
