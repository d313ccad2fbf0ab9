use Rattle.std.proofs.Common.{pos, subst}
use Rattle.word_ir.specs.declared.words.WordOp.TheVariants as op
use Rattle.word_trees.specs.Trees.{Do}
use Rattle.word_drafts.specs.Drafts.{Writes}
use Rattle.word_drafts.proofs.Joining.{then_writes, beside_apart}
use Rattle.frame_drafts.proofs.reads.global_get.Goals as goal

pub returns : goal.returns
returns c =
    then_writes _ _ c.args.draft.now c.line.new.self c.check_not.new.self
    (subst (λ x. Writes (Do (op.Load c.args.to x (pos 0))) c.args.draft.now c.line.new.self) c.in_ok-base.ensures c.in_ok-line.ensures.written)
    (beside_apart _ _ c.in_ok-exit.exit c.line.new.self c.fault.new.self c.check_not.new.self c.in_ok-exit.ensures c.in_ok-check_not.ensures)
