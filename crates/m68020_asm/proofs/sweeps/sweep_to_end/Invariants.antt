use Rattle.std.proofs.Common.{◌≡◌}
use Rattle.m68020_asm.specs.Items.{address}
use Rattle.m68020_asm.specs.Widths.{chosen}
use Rattle.m68020_asm.proofs.Directions.{IsToEnd}
use Rattle.m68020_asm.proofs.sweeps.sweep_to_end.Given as goal

abbrev pub invariant-loop-k : goal.invariant-loop-k
invariant-loop-k l = (l.at ≡ address l.items (chosen l.widths) l.k) × IsToEnd l.items l.initial.widths l.widths l.sizes l.labels l.k l.changed
