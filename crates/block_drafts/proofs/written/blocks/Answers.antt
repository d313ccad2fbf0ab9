use Rattle.std.proofs.Common.{rules, ◌≡◌, ◌+◌, length, subst, arith}
use Rattle.block_drafts.specs.Fitting.{WritesBlocks}
use Rattle.block_drafts.proofs.Writing.{blocks_more}
use Rattle.block_drafts.proofs.written.blocks.Goals as goal

pub loop-b-preserved : goal.loop-b-preserved
loop-b-preserved c =
    let next : c.in-Some.next ≡ c.loop-b.number + 1 = search rules in (
      c.in_ok-block.ensures.proper,
      omega (arith, next, c.loop-b.invariant.1),
      λ h shared w.
          blocks_more h shared c.args.blocks.now c.loop-b.b-index c.loop-b.number c.b-item.result c.args.draft.now c.loop-b.draft c.block.new.draft c.loop-b.invariant.1 c.b-item.is
          (c.loop-b.invariant.2 h shared w) (c.in_ok-block.ensures.code h shared w),
    )

pub returns-clause-code : goal.returns-clause-code
returns-clause-code c h shared w =
    let all : c.loop-b.b-index ≡ length c.args.blocks.now = omega arith in
    subst (λ n. WritesBlocks h shared n c.args.blocks.now c.args.draft.now c.loop-b.draft) all (c.loop-b.invariant.2 h shared w)
