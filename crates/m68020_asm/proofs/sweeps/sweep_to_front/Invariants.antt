use Rattle.std.proofs.Common.{◌≡◌, ◌+◌, ◌^◌, ◌≤◌, length}
use Rattle.m68020_asm.specs.Items.{address}
use Rattle.m68020_asm.specs.Widths.{chosen}
use Rattle.m68020_asm.proofs.Directions.{IsToFront}
use Rattle.m68020_asm.proofs.sweeps.sweep_to_front.Given as goal

abbrev pub invariant-loop-k : goal.invariant-loop-k
invariant-loop-k l =
    (l.k ≤ length l.items) × (l.at + address l.items (chosen l.widths) (length l.items) ≡ address l.items (chosen l.widths) l.k + 2 ^ 29) × IsToFront l.items l.initial.widths l.widths l.sizes l.labels l.k l.changed

abbrev pub decreases-loop-k : goal.decreases-loop-k
decreases-loop-k l = l.k
