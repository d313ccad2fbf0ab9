use Rattle.std.proofs.Common.{rules, ◌≡◌, ◌+◌, length, subst}
use Rattle.frame_heap.specs.Codes.{words_at}
use Rattle.heap_drafts.proofs.Grouping.{advances}
use Rattle.heap_drafts.proofs.groups.with_words.Goals as goal

pub returns-in_ok-next-in-Closure : goal.returns-in_ok-next-in-Closure
returns-in_ok-next-in-Closure c =
    let kept : c.as_slice.result.now ≡ c.in-Closure.kept = search rules in
    advances c.args.op.now c.in-Closure.to c.in-Closure.code c.in-Closure.kept c.in-Closure.at c.args.place c.in_ok-next-in-Closure.next c.in-Closure.is
    (subst (λ xs. c.in_ok-next-in-Closure.next ≡ c.args.place + words_at c.in-Closure.at (length xs)) kept c.in_ok-next-in-Closure.ensures)
