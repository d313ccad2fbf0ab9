use Rattle.std.proofs.Common.{ℕ, List, take}
use Rattle.choice_rows.proofs.CaseLemmas.{KeysSoFar}
use Rattle.choice_rows.proofs.case.are_keys.Given as goal

abbrev pub invariant-keys : goal.invariant-keys
invariant-keys l = (names : List (List ℕ)) → KeysSoFar names l.forms (take l.key-index l.keys)
