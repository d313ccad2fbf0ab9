use Rattle.std.proofs.Common.{ℕ, List, take}
use Rattle.t_forms.specs.Data.{Datum}
use Rattle.t_rows.specs.Lists.{Grows, AreHeld}
use Rattle.form_rows.specs.Methods.{IsMethod, method_of}
use Rattle.t_rows.proofs.AllLemmas.{AllSoFar}
use Rattle.form_rows.proofs.object.all_methods.Given as goal

abbrev pub invariant-keys : goal.invariant-keys
invariant-keys l = record {
  grown : Grows l.fn.forms l.forms;
  found : (names : List (List ℕ)) (ds : List Datum) → AreHeld names l.fn.forms (take l.key-index l.keys) ds
      → AllSoFar (IsMethod names l.forms) (method_of l.span) l.methods.items ds;
}
