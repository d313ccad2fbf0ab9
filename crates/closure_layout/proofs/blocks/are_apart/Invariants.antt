use Rattle.std.proofs.Common.{take}
use Rattle.closure_layout.specs.Blocks.{AreApart}
use Rattle.closure_layout.proofs.blocks.are_apart.Given as goal

abbrev pub invariant-loop-param : goal.invariant-loop-param
invariant-loop-param l = AreApart l.tables (take l.param-index l.params) l.needs
