use Rattle.std.proofs.Common.{sym}
use Rattle.layout_tables.proofs.Basics.{is_in_at}
use Rattle.layout_tables.proofs.scopes.names.Goals as goal

pub returns-then-other-var : goal.returns-then-other-var
returns-then-other-var c = sym (is_in_at c.args.vars.now c.loop-other.other-index c.args.var.0 _ c.loop-other-test.true c.if-other-var.true)
