use Rattle.std.proofs.Common.{◌≡◌, ◌<◌, length, subst, take, arith}
use Rattle.std.proofs.Math.Seq.{take-length}
use Rattle.lap_emit.specs.Written.{AddsBlock, AddsBlocks}
use Rattle.lap_emit.proofs.MarkLemmas.{got}
use Rattle.lap_emit.proofs.Writing.{blocks_step}
use Rattle.lap_emit.proofs.program.push_blocks.Goals as goal

pub each-preserved : goal.each-preserved
each-preserved c =
    let lt : c.each.n < length c.args.placed.now.words.blocks.items = omega (arith, c.args.placed.now.words.blocks.ok.0) in
    blocks_step c.args.placed.now c.each.n c.args.items.now.items c.each.items.items c.push_block.new.items.items c.index.result.now c.index.ensures lt c.each.invariant
    (subst (λ b. AddsBlock c.args.placed.now b c.index.result.now c.each.items.items c.push_block.new.items.items) c.in_ok-b.ensures c.in_ok-push_block.ensures)

pub push_block-requires-clause-leaves : goal.push_block-requires-clause-leaves
push_block-requires-clause-leaves c =
    let lt : c.each.n < length c.args.placed.now.words.blocks.items = omega (arith, c.args.placed.now.words.blocks.ok.0) in
    c.requires.moves.leaves c.each.n c.index.result.now (got c.args.placed.now.words.blocks.items c.each.n c.index.result.now c.index.ensures lt)

pub returns : goal.returns
returns c =
    let all : c.each.n ≡ length c.args.placed.now.words.blocks.items = omega (arith, c.args.placed.now.words.blocks.ok.0) in
    let whole : take c.each.n c.args.placed.now.words.blocks.items ≡ c.args.placed.now.words.blocks.items = rw all (take-length c.args.placed.now.words.blocks.items) in
    subst (λ bs. AddsBlocks c.args.placed.now bs c.args.items.now.items c.each.items.items) whole c.each.invariant
