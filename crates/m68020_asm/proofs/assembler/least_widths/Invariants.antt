use Rattle.std.proofs.Common.{◌≡◌, ℕ, length}
use Rattle.m68020_code.specs.declared.instr.Width.TheVariants.{Byte}
use Rattle.m68020_asm.specs.Widths.{chosen}
use Rattle.m68020_asm.proofs.assembler.least_widths.Given as goal

abbrev pub invariant-loop : goal.invariant-loop
invariant-loop l = (length l.widths.items ≡ l.counter) × ((k : ℕ) → chosen l.widths.items k ≡ Byte)
