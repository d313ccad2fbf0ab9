use Rattle.std.proofs.Common.{◌≡◌, ℕ, ◌≤◌, List, length, drop, Some}
use Rattle.t_forms.specs.Data.{Datum}
use Rattle.t_forms.specs.Held.{Held}
use Rattle.choice_rows.specs.Cases.{no_more}
use Rattle.t_rows.specs.Lists.{Grows, AreHeld}
use Rattle.t_rows.specs.Rows.{case_clauses}
use Rattle.choice_rows.proofs.case.case_clauses.Given as goal

abbrev pub invariant-clauses : goal.invariant-clauses
invariant-clauses l = record {
  within : l.at ≤ length l.clauses;
  grown : Grows l.fn.forms l.forms;
  others : (names : List (List ℕ)) (cs : List Datum) → AreHeld names l.fn.forms l.clauses cs
      → (r : Datum) × (case_clauses l.span (drop l.at cs) ≡ Some r) × Held names l.forms l.others r × (l.last ≡ no_more (drop l.at cs));
}

abbrev pub decreases-clauses : goal.decreases-clauses
decreases-clauses l = l.at
