use Rattle.std.proofs.Common.{◌≡◌, ℕ, List, ◌++◌}
use Rattle.t_forms.specs.Data.{Datum}
use Rattle.t_rows.specs.Lists.{AreHeld, AreItems}
use Rattle.t_rows.proofs.lists.keys_of.Given as goal

abbrev pub invariant-items : goal.invariant-items
invariant-items l =
    (names : List (List ℕ)) (ds : List Datum) → AreItems names l.forms l.fn.items ds
    → (before : List Datum) × (after : List Datum) × (ds ≡ before ++ after) × AreHeld names l.forms l.keys.items before × AreItems names l.forms l.at after

abbrev pub decreases-items : goal.decreases-items
decreases-items l = l.at
