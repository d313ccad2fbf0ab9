use Rattle.std.proofs.Common.{ℕ, List, take}
use Rattle.t_rows.specs.Lists.{Grows}
use Rattle.t_rows.specs.Rows.{part_bindings}
use Rattle.binding_rows.proofs.LocativeLemmas.{PartsSoFar}
use Rattle.binding_rows.proofs.locative.part_bindings.Given as goal

abbrev pub invariant-keys : goal.invariant-keys
invariant-keys l = record {
  grown : Grows l.fn.forms l.forms;
  made : (names : List (List ℕ)) → PartsSoFar names l.fn.forms l.forms (part_bindings l.span) l.from l.number (take l.key-index l.keys) l.bindings.items;
}
