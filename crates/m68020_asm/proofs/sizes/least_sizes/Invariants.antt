use Rattle.std.proofs.Common.{◌≡◌, map, take}
use Rattle.m68020_code.specs.declared.instr.Width.TheVariants.{Byte}
use Rattle.m68020_asm.specs.Items.{size_of}
use Rattle.m68020_asm.proofs.sizes.least_sizes.Given as goal

abbrev pub invariant-loop-item : goal.invariant-loop-item
invariant-loop-item l = l.sizes.items ≡ map (λ i. size_of i Byte) (take l.item-index l.items)
