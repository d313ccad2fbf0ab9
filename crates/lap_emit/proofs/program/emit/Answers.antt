use Rattle.lap_emit.proofs.Shapes.{assembles, within}
use Rattle.lap_emit.proofs.program.emit.Goals as goal

pub returns-clause-assembles : goal.returns-clause-assembles
returns-clause-assembles c = assembles c.args.placed.now c.emit_items.result c.requires c.emit_items.ensures

pub returns-clause-bytes : goal.returns-clause-bytes
returns-clause-bytes c = within c.args.placed.now c.emit_items.result c.emit_items.ensures
