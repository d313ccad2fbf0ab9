use Rattle.std.proofs.Common.{rules, ◌≡◌, ◌<◌, length, true, false, subst, arith}
use Rattle.heap_drafts.specs.Slots.{change_of, Counts}
use Rattle.heap_drafts.proofs.Counting.{goes_on, is_shut}
use Rattle.heap_drafts.proofs.slots.slots_of.Goals as goal

pub returns-then-not-count : goal.returns-then-not-count
returns-then-not-count c =
    let lt : c.loop-op.op-index < length c.args.ops.now = omega arith in
    let shut : c.in_ok-count.count.open ≡ false = search rules in
    let change : c.change_of.result ≡ change_of c.op-item.result = search rules in
    is_shut c.args.ops.now c.loop-op.op-index c.loop-op.above c.loop-op.slots _ c.op-item.result c.in_ok-count.count c.op-item.is lt
    (subst (λ x. Counts x c.loop-op.above c.loop-op.slots c.in_ok-count.count) change c.in_ok-count.ensures) shut c.loop-op.invariant

pub loop-op-preserved : goal.loop-op-preserved
loop-op-preserved c =
    let lt : c.loop-op.op-index < length c.args.ops.now = omega arith in
    let stays : c.in_ok-count.count.open ≡ true = search rules in
    let change : c.change_of.result ≡ change_of c.op-item.result = search rules in
    goes_on c.args.ops.now c.loop-op.op-index c.loop-op.above c.loop-op.slots _ c.op-item.result c.in_ok-count.count c.op-item.is lt
    (subst (λ x. Counts x c.loop-op.above c.loop-op.slots c.in_ok-count.count) change c.in_ok-count.ensures) stays c.loop-op.invariant
