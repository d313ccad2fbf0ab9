use Rattle.std.proofs.Common.{◌≡◌, ◌<◌, ℕ, slice_get, Some}
use Rattle.m68020_asm.specs.Items.{address, IsLabelAt}
use Rattle.m68020_asm.specs.Widths.{chosen}
use Rattle.m68020_asm.proofs.labels.place_labels.Given as goal

abbrev pub invariant-loop-k : goal.invariant-loop-k
invariant-loop-k l =
    (l.at ≡ address l.items (chosen l.widths) l.k) × ((n j : ℕ) → j < l.k → IsLabelAt l.items n j → slice_get l.labels n ≡ Some (address l.items (chosen l.widths) j))
