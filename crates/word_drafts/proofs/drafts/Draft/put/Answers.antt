use Rattle.std.proofs.Common.{rules, ◌≡◌, [], ◌∷◌, subst}
use Rattle.word_ir.specs.declared.words.WordOp.TheVariants as op
use Rattle.word_trees.specs.Trees.{Do}
use Rattle.word_drafts.specs.Drafts.{Writes}
use Rattle.word_drafts.proofs.drafts.Draft.put.Goals as goal

pub returns : goal.returns
returns c =
    let is : c.push.new.self.items ≡ c.args.a ∷ [] = search rules in
    subst (λ xs. Writes (Do (op.Service c.args.number xs)) c.args.self.now c.line.new.self) is (search rules)
