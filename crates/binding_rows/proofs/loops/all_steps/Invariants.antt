use Rattle.std.proofs.Common.{ℕ, List, take}
use Rattle.t_forms.specs.Data.{Datum}
use Rattle.t_rows.specs.Lists.{AreHeld}
use Rattle.binding_rows.specs.Steps.{IsStep, step_of}
use Rattle.t_rows.proofs.AllLemmas.{AllSoFar}
use Rattle.binding_rows.proofs.loops.all_steps.Given as goal

abbrev pub invariant-keys : goal.invariant-keys
invariant-keys l =
    (names : List (List ℕ)) (ds : List Datum) → AreHeld names l.forms (take l.key-index l.keys) ds → AllSoFar (IsStep names l.forms) step_of l.steps.items ds
