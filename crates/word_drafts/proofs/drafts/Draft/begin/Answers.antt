use Rattle.std.proofs.Common.{rules, refl}
use Rattle.word_drafts.proofs.Writing.{begins_block}
use Rattle.word_drafts.proofs.drafts.Draft.begin.Goals as goal

pub returns : goal.returns
returns c = begins_block _ _ _ _ c.requires refl (search rules) (search rules) (search rules) refl refl refl refl refl refl
