use Rattle.std.proofs.Common.{ℕ, List, take}
use Rattle.t_rows.specs.Lists.{Grows}
use Rattle.t_rows.specs.Rows.{part_variables}
use Rattle.binding_rows.proofs.LocativeLemmas.{PartsSoFar}
use Rattle.binding_rows.proofs.locative.part_variables.Given as goal

abbrev pub invariant-keys : goal.invariant-keys
invariant-keys l = record {
  grown : Grows l.fn.forms l.forms;
  made : (names : List (List ℕ)) → PartsSoFar names l.fn.forms l.forms (part_variables l.span) l.from l.number (take l.index l.keys) l.variables.items;
}
