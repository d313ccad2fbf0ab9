use Rattle.std.proofs.Common.{ℕ, ◌≤◌, List, [], length, drop}
use Rattle.t_forms.specs.Data.{Datum}
use Rattle.t_rows.specs.Lists.{Grows, AreHeld, AreItems, AreLists, AreOpen}
use Rattle.t_rows.specs.Templates.{lists_from}
use Rattle.t_rows.proofs.templates.written.Given as goal

abbrev pub invariant-pieces : goal.invariant-pieces
invariant-pieces l = record {
  within : l.at ≤ length l.template;
  grown : Grows l.fn.forms l.forms;
  nil : (names : List (List ℕ)) → AreItems names l.forms l.nil [];
  lists : (names : List (List ℕ)) (ds : List Datum) (dss : List (List Datum)) → AreHeld names l.fn.forms l.given ds → AreLists names l.fn.forms l.rests dss
      → AreOpen names l.forms l.lists.items l.lists.outer.items (lists_from l.span ds dss (drop l.at l.template));
}

abbrev pub decreases-pieces : goal.decreases-pieces
decreases-pieces l = l.at
