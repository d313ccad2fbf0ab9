use Rattle.std.proofs.Common.{ℕ, List, take}
use Rattle.t_forms.specs.Data.{Datum, binder_of}
use Rattle.t_rows.specs.Lists.{AreHeld}
use Rattle.t_rows.specs.Bindings.{IsBinder}
use Rattle.t_rows.proofs.AllLemmas.{AllSoFar}
use Rattle.t_rows.proofs.names.binders_of.Given as goal

abbrev pub invariant-keys : goal.invariant-keys
invariant-keys l =
    (names : List (List ℕ)) (ds : List Datum) → AreHeld names l.forms (take l.key-index l.keys) ds → AllSoFar (IsBinder names) binder_of l.binders.items ds
