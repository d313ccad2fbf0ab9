use Rattle.std.proofs.Common.{◌≡◌, ◌++◌, map, take, drop}
use Rattle.cps_walk.specs.Marked.{is_marked}
use Rattle.assign_convert.specs.AssignedCells.{celled}
use Rattle.assign_convert.proofs.conversion.convert.Given as goal

abbrev pub invariant-loop-term : goal.invariant-loop-term
invariant-loop-term l = l.term-items ≡ map (celled (is_marked l.marks)) (take l.term-index l.fn.terms) ++ drop l.term-index l.fn.terms
