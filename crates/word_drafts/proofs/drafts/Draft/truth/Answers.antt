use Rattle.std.proofs.Common.{rules, ◌≡◌, ◌+◌, length, subst}
use Rattle.word_trees.specs.Trees.{Do}
use Rattle.word_drafts.specs.Drafts.{Writes, Ends}
use Rattle.word_drafts.proofs.Joining.{truth_writes}
use Rattle.word_drafts.proofs.drafts.Draft.truth.Goals as goal

pub returns : goal.returns
returns c =
    let at : c.in-Ok.first ≡ length c.line.new.self.blocks.items = search rules in
    let next : c.in-Some.second ≡ c.in-Ok.first + 1 = search rules in
    truth_writes c.args.self.now c.line.new.self c.split.new.self c.line-2.new.self c.split-2.new.self c.line-3.new.self c.args.how c.args.a c.args.b c.args.to c.in-Ok.first c.in-Some.second c.requires
    (subst (λ o. Writes (Do o) c.args.self.now c.line.new.self) c.passed.ensures c.in_ok-line.ensures.written)
    (subst (λ x. Ends x c.line.new.self c.split.new.self) c.test_end.ensures c.in_ok-split.ensures)
    (subst (λ o. Writes (Do o) c.split.new.self c.line-2.new.self) c.passed-2.ensures c.in_ok-line-2.ensures.written)
    c.in_ok-line-2.ensures.blocks
    (subst (λ x. Ends x c.line-2.new.self c.split-2.new.self) c.test_end-2.ensures c.in_ok-split-2.ensures)
    c.in_ok-line-3.ensures.written at next
