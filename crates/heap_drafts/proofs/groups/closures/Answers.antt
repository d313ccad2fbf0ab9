use Rattle.std.proofs.Common.{rules, ◌≡◌, ◌<◌, true, false, length, arith}
use Rattle.heap_drafts.specs.Groups.{is_closure}
use Rattle.heap_drafts.proofs.Grouping.{groups_next, groups_end, groups_all}
use Rattle.heap_drafts.proofs.groups.closures.Goals as goal

pub returns-then-not-is_closure : goal.returns-then-not-is_closure
returns-then-not-is_closure c =
    let lt : c.loop-place.place < length c.args.ops.now = omega arith in
    let other : is_closure c.index-ops-place.result ≡ false = search rules in
    groups_end c.args.ops.now c.loop-place.place c.index-ops-place.result c.index-ops-place.is lt other c.loop-place.invariant

pub loop-place-preserved : goal.loop-place-preserved
loop-place-preserved c =
    let lt : c.loop-place.place < length c.args.ops.now = omega arith in
    let one : is_closure c.index-ops-place.result ≡ true = search rules in
    groups_next c.args.ops.now c.loop-place.place c.index-ops-place.result c.index-ops-place.is lt one c.loop-place.invariant

pub returns : goal.returns
returns c =
    let all : c.loop-place.place ≡ length c.args.ops.now = omega arith in
    groups_all c.args.ops.now c.loop-place.place all c.loop-place.invariant
