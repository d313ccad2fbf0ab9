use Rattle.std.proofs.Common.{take}
use Rattle.layout_relation.specs.Laid.{numbers, AreHeld}
use Rattle.layout_tables.proofs.scopes.find_all.Given as goal

abbrev pub invariant-loop-var : goal.invariant-loop-var
invariant-loop-var l = AreHeld l.scope (numbers (take l.var-index l.vars)) l.ats.items
