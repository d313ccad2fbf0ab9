use Rattle.std.specs.Prelude.{All}
use Rattle.std.proofs.Common.{◌≤◌, take}
use Rattle.cps_known.specs.Binders.{value_binders, AreBelow}
use Rattle.cps_known.proofs.binders.above_terms.Given as goal

abbrev pub invariant-loop-term : goal.invariant-loop-term
invariant-loop-term l = record { more : l.fn.count ≤ l.most; below : All (λ t. AreBelow l.most (value_binders t)) (take l.term-index l.terms) }
