use Rattle.std.proofs.Common.{◌≡◌, ◌++◌, take, map}
use Rattle.word_ir.specs.declared.operands.Operand.TheVariants as operand
use Rattle.frame_drafts.proofs.frames.push_vars.Given as goal

abbrev pub invariant-loop-v : goal.invariant-loop-v
invariant-loop-v l = l.xs.items ≡ l.initial.xs.items ++ map operand.Var (take l.v-index l.vars)
