use Rattle.std.proofs.Common.{rules, ◌<◌, length, arith}
use Rattle.word_ir.specs.declared.operands.Operand.TheVariants as operand
use Rattle.operand_drafts.proofs.Mapping.{map_step}
use Rattle.frame_drafts.proofs.frames.push_vars.Goals as goal

pub loop-v-preserved : goal.loop-v-preserved
loop-v-preserved c =
    let lt : c.loop-v.v-index < length c.args.vars.now = omega arith in
    map_step operand.Var c.args.xs.now.items _ _ c.args.vars.now c.loop-v.v-index _ (search rules) lt c.loop-v.invariant c.in_ok-push.ensures.items
