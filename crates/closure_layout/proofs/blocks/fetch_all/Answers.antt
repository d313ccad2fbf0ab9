use Rattle.std.proofs.Common.{ap, ◌∙◌, rules}
use Rattle.closure_layout.specs.Blocks.{get_of}
use Rattle.closure_layout.proofs.Fetching.{fetched_none, fetched_more}
use Rattle.closure_layout.proofs.blocks.fetch_all.Goals as goal

pub loop-place-init : goal.loop-place-init
loop-place-init c = fetched_none c.args.work.now c.args.scope.now c.args.ops.now.items c.args.needs.now c.args.from c.requires

pub loop-place-preserved : goal.loop-place-preserved
loop-place-preserved c = fetched_more c.args.work.now c.loop-place.work c.variable.new.self c.args.scope.now c.loop-place.scope c.hold.new.self c.args.ops.now.items c.loop-place.ops.items c.push.new.self.items c.args.needs.now c.loop-place.place c.args.from _ c.in_ok-to.to c.fetch.result
    c.loop-place.invariant c.loop-place-test.true c.variable.ensures.requests c.variable.ensures.templates c.in_ok-to.ensures.next c.in_ok-to.ensures.variable (c.fetch.ensures ∙ ap (get_of c.args.from c.in_ok-to.to) (search rules)) c.in_ok-push.ensures.items c.in_ok-hold.ensures
