use Rattle.std.proofs.Common.{◌≡◌, false, take}
use Rattle.std.specs.List.{AllByRecursion}
use Rattle.cps_ir.specs.Reaches.{is_in}
use Rattle.layout_tables.specs.Sketches.{needs_behind}
use Rattle.layout_tables.proofs.sites.Site.is_unneeded.Given as goal

abbrev pub invariant-loop-join : goal.invariant-loop-join
invariant-loop-join l = AllByRecursion (λ j. is_in (needs_behind l.tables j.param j.body) l.var.0 ≡ false) (take l.join-index l.join-items)
