use Rattle.std.proofs.Common.{OnOk, [], ◌∷◌, sym, subst}
use Rattle.select_rows.specs.Codes.{code_of}
use Rattle.prim_holds.specs.Operands.{code_at}
use Rattle.word_drafts.specs.Drafts.{Writes}
use Rattle.prim_drafts.proofs.rows.tell.Goals as goal

pub returns-in-IsList : goal.returns-in-IsList
returns-in-IsList c =
    subst (λ p. OnOk c.is_list.result (Writes (code_at (code_of p) (c.args.a ∷ []) c.args.t c.args.to) c.args.draft.now c.is_list.new.draft)) (sym c.in-IsList.is) c.is_list.ensures
