use Rattle.std.proofs.Common.{◌≡◌, max, drop}
use Rattle.m68020_asm.specs.Items.{label_count}
use Rattle.m68020_asm.proofs.labels.label_count.Given as goal

abbrev pub invariant-loop-item : goal.invariant-loop-item
invariant-loop-item l = max l.count (label_count (drop l.item-index l.items)) ≡ label_count l.items
