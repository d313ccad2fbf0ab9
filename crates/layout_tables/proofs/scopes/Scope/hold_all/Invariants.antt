use Rattle.std.proofs.Common.{◌≡◌, ◌-◌, ◌++◌, drop}
use Rattle.layout_relation.specs.Contexts.{paired}
use Rattle.layout_relation.specs.Laid.{numbers}
use Rattle.layout_tables.proofs.scopes.Scope.hold_all.Given as goal

abbrev pub invariant-loop-behind : goal.invariant-loop-behind
invariant-loop-behind l = l.self ≡ paired (numbers (drop (l.count - l.behind) l.vars)) (drop (l.count - l.behind) l.ats) ++ l.fn.self
