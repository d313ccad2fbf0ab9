use Rattle.std.proofs.Common.{◌<◌, arith}
use Rattle.t_reader.specs.Unit.{Holds}
use Rattle.t_objects.proofs.PartLemmas.{tail_below}
use Rattle.t_objects.proofs.operations.is_list.Goals as goal

pub returns-then-tail-at : goal.returns-then-tail-at
returns-then-tail-at c t held =
    let r = c.items.invariant t held in
    let found : Holds c.args.unit.now.names c.as_slice.result.now c.items.at r.0 = rw c.as_slice.ensures.value r.1 in
    let below : c.in-Some.tail < c.items.at = tail_below _ _ _ r.0 _ _ (c.in-Some.ensures c.args.unit.now.names r.0 found) in
    absurd (omega arith)
