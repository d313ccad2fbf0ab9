use Rattle.std.proofs.Common.{◌<◌, ◌≤◌, length, arith}
use Rattle.heap_drafts.proofs.Grouping.{words_next, words_end}
use Rattle.heap_drafts.proofs.groups.group_words.Goals as goal

pub loop-op-preserved : goal.loop-op-preserved
loop-op-preserved c =
    let lt : c.loop-op.op-index < length c.args.group.now = omega arith in
    words_next c.args.group.now c.loop-op.op-index c.loop-op.words c.in_ok-next.next _ c.op-item.result c.op-item.is lt c.in_ok-next.ensures c.loop-op.invariant

pub returns : goal.returns
returns c =
    let le : length c.args.group.now ≤ c.loop-op.op-index = omega arith in
    words_end c.args.group.now c.loop-op.op-index c.loop-op.words _ le c.loop-op.invariant
