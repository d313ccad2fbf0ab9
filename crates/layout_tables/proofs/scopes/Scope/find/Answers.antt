use Rattle.layout_tables.proofs.Basics.{held_here}
use Rattle.layout_tables.proofs.scopes.Scope.find.Goals as goal

pub returns-then-held-var : goal.returns-then-held-var
returns-then-held-var c = held_here c.self.inside.items.items c.deref-held-items.result.now c.args.self.now c.loop-held.held-index _ c.args.var.0 c.deref-held-items.ensures.value c.self.view_is c.loop-held-test.true c.if-held-var.true
