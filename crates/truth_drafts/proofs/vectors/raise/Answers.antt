use Rattle.std.proofs.Common.{rules, ◌≡◌, [], ◌∷◌, subst}
use Rattle.word_ir.specs.declared.operands.Operand.TheVariants as operand
use Rattle.word_ir.specs.declared.words.WordOp.TheVariants as op
use Rattle.word_trees.specs.Trees.{Do}
use Rattle.word_drafts.specs.Drafts.{Writes}
use Rattle.truth_drafts.proofs.vectors.raise.Goals as goal

pub returns : goal.returns
returns c =
    let is : c.push-2.new.self.items ≡ operand.Word 15 ∷ c.args.a ∷ [] = search rules in
    subst (λ xs. Writes (Do (op.Service 3 xs)) c.args.draft.now c.line.new.self) is (search rules)
