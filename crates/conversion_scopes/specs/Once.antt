-- Nothing is reached twice.
use Rattle.std.specs.Prelude.{◌≢◌, AllPairs}
use Rattle.cps_ir.specs.declared.terms.Cps.{Cps}
use Rattle.cps_ir.specs.Parts.{walked, binders}
use Rattle.cps_order.specs.Order.{IsOrdered}
use Rattle.conversion_laws.specs.Owed.{IsOwed}

-- no term that is reached is named twice
abbrev pub TermsAreOnce : Type 0
TermsAreOnce = (cps : Cps) → IsOrdered cps → AllPairs (λ t u. t ≢ u) (walked cps)

-- no variable is bound twice in what is reached
abbrev pub VariablesAreOnce : Type 0
VariablesAreOnce = (cps : Cps) → IsOwed cps → AllPairs (λ x y. x ≢ y) (binders cps)
