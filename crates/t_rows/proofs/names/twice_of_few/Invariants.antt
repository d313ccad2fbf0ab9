use Rattle.std.proofs.Common.{ℕ, List, take}
use Rattle.t_rows.proofs.TwiceLemmas.{AreTwice}
use Rattle.t_rows.proofs.names.twice_of_few.Given as goal

abbrev pub invariant-binders : goal.invariant-binders
invariant-binders l = (texts : List (List ℕ)) → AreTwice texts (take l.i l.binders) l.refusals.items
