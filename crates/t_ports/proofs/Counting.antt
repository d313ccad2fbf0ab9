-- A count that is told by the answer of a call has its cause.
use Rattle.std.proofs.Common.{◌≡◌, ap, ◌∙◌, ℕ, ◌≤◌, ◌<◌, ◌==◌, if◌then◌else◌, Result, Ok, Err, subst, sym, arith}
use Rattle.std.proofs.lemmas.Bool.{ne_eqb}
use Rattle.t_ports.specs.Causes.{HasCause, Rose}
use Rattle.t_ports.specs.Counts.{next_fault, faults_after_put}
use Rattle.t_ports.specs.declared.ports.Failed.{Failed}

pub has_cause : (n now : ℕ) (result : Result (Unit {0}) Failed) → n ≤ now → now ≡ faults_after_put n result → HasCause n now result
has_cause n now (Ok done) later counted = record { later = later; failed = tt; kept = counted }
has_cause n now (Err failed) later counted = record {
  later = later;
  failed = subst (λ k. Rose n k) (sym counted) (omega arith);
  kept = tt;
}

-- a write that took something is no fault
pub stands : (n now count : ℕ) → now ≡ (if count == 0 then next_fault n else n) → 0 < count → now ≡ n
stands n now count counted some =
    counted ∙ ap (λ none. if none then next_fault n else n) (ne_eqb count 0 (λ none. absurd (omega (arith, none, some))))
