use Rattle.std.proofs.Common.{[], ◌∷◌, get_or, pos}
use Rattle.t_prim.specs.declared.atoms.Atom.TheVariants.{Fix}
use Rattle.t_prim.proofs.FoldLemmas.{fold_at, one_item, two_items}
use Rattle.t_prim.proofs.folding.fold.Goals as goal

pub returns-in-len1 : goal.returns-in-len1
returns-in-len1 c =
    let xs = c.args.args.now in
    fold_at c.args.p (get_or xs 0 (Fix (pos 0)) ∷ []) xs c.fold_one.result (one_item xs (Fix (pos 0)) c.in-len1.len_at_least c.in-len1.len_below) c.fold_one.ensures

pub returns-in-len2 : goal.returns-in-len2
returns-in-len2 c =
    let xs = c.args.args.now in
    fold_at c.args.p (get_or xs 0 (Fix (pos 0)) ∷ get_or xs 1 (Fix (pos 0)) ∷ []) xs c.fold_two.result (two_items xs (Fix (pos 0)) c.in-len2.len_at_least c.in-len2.len_below) c.fold_two.ensures
