use Rattle.std.proofs.Common.{ℕ, List, take}
use Rattle.t_forms.specs.Data.{Datum}
use Rattle.t_rows.specs.Lists.{Grows, AreHeld}
use Rattle.binding_rows.specs.Procedures.{IsProcedure, labels_item_of}
use Rattle.t_rows.proofs.AllLemmas.{AllSoFar}
use Rattle.binding_rows.proofs.labels.all_items.Given as goal

abbrev pub invariant-keys : goal.invariant-keys
invariant-keys l = record {
  grown : Grows l.fn.forms l.forms;
  found : (names : List (List ℕ)) (ds : List Datum) → AreHeld names l.fn.forms (take l.key-index l.keys) ds
      → AllSoFar (IsProcedure names l.forms) (labels_item_of l.span) l.procedures.items ds;
}
