use Rattle.std.proofs.Common.{◌<◌, ◌≤◌, length, refl, arith}
use Rattle.frame_ir.specs.Groups.{makings}
use Rattle.frame_heap.specs.Codes.{records, record_code}
use Rattle.heap_drafts.proofs.Grouping.{lacks_next, lacks_end}
use Rattle.heap_drafts.proofs.groups.records.Goals as goal

pub loop-op-preserved : goal.loop-op-preserved
loop-op-preserved c =
    let lt : c.loop-op.op-index < length c.args.group.now = omega arith in (
      c.in_ok-next.ensures.proper,
      λ l shared w.
          lacks_next (records l c.args.places.now.free) (λ p m. record_code l c.args.places.now.free p m.code m.kept m.at) (λ p rest. refl) (λ p m ms rest. refl)
          (records l c.args.places.now.free 0 (makings c.args.group.now)) c.args.group.now c.loop-op.op-index c.loop-op.place c.in_ok-next.next c.op-item.result c.args.draft.now c.loop-op.draft c.one_record.new.draft c.op-item.is lt
          (c.loop-op.invariant.1 l shared w) (c.in_ok-next.ensures.code l shared w),
    )

pub returns-clause-code : goal.returns-clause-code
returns-clause-code c l shared w =
    let le : length c.args.group.now ≤ c.loop-op.op-index = omega arith in
    lacks_end (records l c.args.places.now.free) (λ p m. record_code l c.args.places.now.free p m.code m.kept m.at) (λ p rest. refl) (λ p m ms rest. refl)
    (records l c.args.places.now.free 0 (makings c.args.group.now)) c.args.group.now c.loop-op.op-index c.loop-op.place c.args.draft.now c.loop-op.draft le (c.loop-op.invariant.1 l shared w)
