use Rattle.std.proofs.Common.{arith}
use Rattle.layout_tables.proofs.Basics.{pairs_begin}
use Rattle.layout_tables.proofs.scopes.Scope.hold_all.Goals as goal

pub loop-behind-init : goal.loop-behind-init
loop-behind-init c = pairs_begin c.args.vars.now c.args.ats.now c.min-count.result _ c.args.self.now c.min-count.ensures (omega arith)
