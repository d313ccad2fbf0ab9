use Rattle.std.proofs.Common.{ℕ, ◌≤◌, List, length, drop}
use Rattle.t_forms.specs.Data.{Datum}
use Rattle.t_rows.specs.Lists.{Grows, AreHeld, AreItems}
use Rattle.t_rows.proofs.making.items_of_keys.Given as goal

abbrev pub invariant-keys : goal.invariant-keys
invariant-keys l = record {
  within : l.at ≤ length l.keys;
  grown : Grows l.fn.forms l.forms;
  items : (names : List (List ℕ)) (ds : List Datum) → AreHeld names l.fn.forms l.keys ds → AreItems names l.forms l.items (drop l.at ds);
}

abbrev pub decreases-keys : goal.decreases-keys
decreases-keys l = l.at
