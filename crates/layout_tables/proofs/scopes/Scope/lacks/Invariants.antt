use Rattle.std.proofs.Common.{◌≡◌, ◌==◌, false, take}
use Rattle.std.specs.List.{AllByRecursion}
use Rattle.layout_tables.proofs.scopes.Scope.lacks.Given as goal

abbrev pub invariant-loop-held : goal.invariant-loop-held
invariant-loop-held l = AllByRecursion (λ h. (h.var.0 == l.var.0) ≡ false) (take l.held-index l.held-items)
