use Rattle.std.proofs.Common.{ℕ, ◌≤◌, List, length, drop}
use Rattle.t_forms.specs.Data.{Datum}
use Rattle.t_forms.specs.Held.{Held}
use Rattle.t_rows.specs.Lists.{Grows, AreHeld}
use Rattle.t_rows.specs.Rows.{key_test}
use Rattle.choice_rows.proofs.case.key_test.Given as goal

abbrev pub invariant-keys : goal.invariant-keys
invariant-keys l = record {
  within : l.at ≤ length l.keys;
  grown : Grows l.fn.forms l.forms;
  test : (names : List (List ℕ)) (ks : List Datum) → AreHeld names l.fn.forms l.keys ks → Held names l.forms l.test (key_test l.span (drop l.at ks));
}

abbrev pub decreases-keys : goal.decreases-keys
decreases-keys l = l.at
