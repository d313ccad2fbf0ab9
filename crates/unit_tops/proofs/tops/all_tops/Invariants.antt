use Rattle.std.proofs.Common.{ℕ, List, map, take}
use Rattle.t_forms.specs.Data.{Datum}
use Rattle.t_forms.specs.Held.{AllHeld, Extends}
use Rattle.unit_tops.specs.Tops.{AreTops}
use Rattle.expansion.specs.Units.{top_of}
use Rattle.unit_tops.proofs.tops.all_tops.Given as goal

abbrev pub invariant-keys : goal.invariant-keys
invariant-keys l = record {
  grown : Extends l.initial.forms l.forms;
  tops : (names : List (List ℕ)) (ds : List Datum) → AllHeld names l.initial.forms l.keys ds → AreTops names l.forms l.tops.items (map top_of (take l.key-index ds));
}
