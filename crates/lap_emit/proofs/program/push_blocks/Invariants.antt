use Rattle.std.proofs.Common.{take}
use Rattle.lap_emit.specs.Written.{AddsBlocks}
use Rattle.lap_emit.proofs.program.push_blocks.Given as goal

abbrev pub invariant-each : goal.invariant-each
invariant-each l = AddsBlocks l.placed (take l.n l.placed.words.blocks.items) l.initial.items.items l.items.items
