use Rattle.std.specs.Prelude.{All}
use Rattle.std.proofs.Common.{◌<◌, take}
use Rattle.cps_known.specs.Binders.{value_binders, AreBelow}
use Rattle.cps_known.proofs.binders.variable_count.Given as goal

abbrev pub invariant-loop-lam : goal.invariant-loop-lam
invariant-loop-lam l = record { terms : All (λ t. AreBelow l.most (value_binders t)) l.cps.terms.items; below : All (λ lam. All (λ x. x.0 < l.most) lam.params) (take l.lam-index l.lam-items) }
