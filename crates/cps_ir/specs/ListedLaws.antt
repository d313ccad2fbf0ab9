-- What is reached is a part of what is listed.
use Rattle.std.specs.Prelude.{ℕ, ◌≤◌, sum_by}
use Rattle.cps_ir.specs.declared.terms.Lam.{Lam}
use Rattle.cps_ir.specs.declared.terms.Term.{Term}
use Rattle.cps_ir.specs.declared.terms.Cps.{Cps}
use Rattle.cps_ir.specs.Parts.{reached_terms, reached_lams}
use Rattle.cps_ir.specs.Whole.{IsFormed}

-- The terms that are reached weigh no more than all that are listed, by any weight, since none is reached twice. So do the procedures.
abbrev pub ReachedTermsAreListed : Type 0
ReachedTermsAreListed = (cps : Cps) (weight : Term → ℕ) → IsFormed cps → sum_by weight (reached_terms cps) ≤ sum_by weight cps.terms.items

abbrev pub ReachedLamsAreListed : Type 0
ReachedLamsAreListed = (cps : Cps) (weight : Lam → ℕ) → IsFormed cps → sum_by weight (reached_lams cps) ≤ sum_by weight cps.lams.items
