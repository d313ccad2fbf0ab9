use Rattle.std.proofs.Common.{rules, ◌≡◌, [], ◌∷◌, subst}
use Rattle.word_ir.specs.declared.words.WordEnd.TheVariants as last
use Rattle.word_trees.specs.Trees.{Close}
use Rattle.select_rows.specs.Macros.{of_var}
use Rattle.word_drafts.specs.Drafts.{Closes}
use Rattle.word_drafts.proofs.Joining.{then_closes}
use Rattle.frame_drafts.proofs.ends.give_back.Goals as goal

pub returns : goal.returns
returns c =
    let is : c.push.new.self.items ≡ c.args.x ∷ [] = search rules in
    then_closes _ _ c.args.draft.now c.line.new.self c.close.new.self c.in_ok-line.ensures.written
    (subst (λ xs. Closes (Close (last.Enter (of_var c.args.t) xs)) c.line.new.self c.close.new.self) is (search rules))
