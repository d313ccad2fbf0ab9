use Rattle.std.proofs.Common.{ℕ, List, map, take}
use Rattle.std.specs.List.{AllZip}
use Rattle.t_forms.specs.Data.{Datum}
use Rattle.t_rows.specs.Given.{IsPart}
use Rattle.t_rows.specs.Lists.{AreHeld}
use Rattle.t_rows.specs.Rows.{plain}
use Rattle.t_rows.proofs.nodes.plain_parts.Given as goal

abbrev pub invariant-parts : goal.invariant-parts
invariant-parts l =
    (names : List (List ℕ)) (ds : List Datum) → AreHeld names l.forms (take l.form-index l.keys) ds → AllZip (IsPart names l.forms) l.parts.items (map plain ds)
