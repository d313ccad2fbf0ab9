use Rattle.std.proofs.Common.{◌+◌, ◌-◌, ◌^◌, length}
use Rattle.m68020_asm.specs.Items.{address, code_start}
use Rattle.m68020_asm.specs.Widths.{chosen}
use Rattle.m68020_asm.proofs.Rounds.{IsRound}
use Rattle.m68020_asm.proofs.assembler.settle.Given as goal

abbrev pub invariant-loop : goal.invariant-loop
invariant-loop l = IsRound l.items l.widths l.sizes l.labels

abbrev pub decreases-loop : goal.decreases-loop
decreases-loop l = code_start + 2 ^ 28 - address l.items (chosen l.widths) (length l.items)
