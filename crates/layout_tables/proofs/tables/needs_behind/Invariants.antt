use Rattle.std.proofs.Common.{◌≡◌, ◌==◌, take}
use Rattle.std.specs.Prelude.{not, filter}
use Rattle.layout_relation.specs.Laid.{numbers}
use Rattle.layout_tables.proofs.tables.needs_behind.Given as goal

abbrev pub invariant-loop-var : goal.invariant-loop-var
invariant-loop-var l = numbers l.behind.items ≡ filter (λ x. not (x == l.param.0)) (numbers (take l.var-index l.var-items))
