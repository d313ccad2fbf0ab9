use Rattle.std.proofs.Common.{◌∙◌, sym, subst, ◌≤◌, ◌≡◌, Some, slice_get}
use Rattle.closure_layout.proofs.Walking.{item_there}
use Rattle.closure_layout.proofs.Finishing.{blocks_none, blocks_more, blocks_see, blocks_all}
use Rattle.closure_layout.proofs.layouts.lay_blocks.Goals as goal

pub loop-place-init : goal.loop-place-init
loop-place-init c = blocks_none c.args.cps.now c.args.tables.now c.args.work.now c.new-blocks.result.items c.new-blocks.ensures.items

pub lay_block-requires-clause-sees : goal.lay_block-requires-clause-sees
lay_block-requires-clause-sees c = blocks_see c.args.cps.now c.args.tables.now c.args.work.now c.loop-place.work c.loop-place.blocks.items c.loop-place.place c.in_ok-request.request c.loop-place.invariant c.requires.sees
    (subst (λ r. slice_get c.loop-place.work.requests.items c.loop-place.place ≡ Some r) (sym c.in_ok-request.ensures) (item_there c.loop-place.work.requests.items c.deref.result.now c.loop-place.place c.in-Some.asked.now c.deref.ensures.value c.in-Some.ensures.lookup.3.0 c.in-Some.ensures.lookup.1))

pub loop-place-preserved : goal.loop-place-preserved
loop-place-preserved c = blocks_more c.args.cps.now c.args.tables.now c.args.work.now c.loop-place.work c.lay_block.new.work c.loop-place.blocks.items c.push.new.self.items c.loop-place.place c.in_ok-request.request c.in_ok-block.block c.loop-place.invariant
    (subst (λ r. slice_get c.loop-place.work.requests.items c.loop-place.place ≡ Some r) (sym c.in_ok-request.ensures) (item_there c.loop-place.work.requests.items c.deref.result.now c.loop-place.place c.in-Some.asked.now c.deref.ensures.value c.in-Some.ensures.lookup.3.0 c.in-Some.ensures.lookup.1))
    c.in_ok-block.ensures c.in_ok-push.ensures.items

pub returns-then-place-len : goal.returns-then-place-len
returns-then-place-len c = blocks_all c.args.cps.now c.args.tables.now c.args.work.now c.loop-place.work c.loop-place.blocks.items c.loop-place.place c.loop-place.invariant (subst (λ n. n ≤ c.loop-place.place) (c.len.ensures ∙ c.loop-place.work.requests.ok.0) c.if-place-len.true)
