-- What a sweep over the items does at each, and what it finds.
use Rattle.std.specs.Prelude.{◌≡◌, ℕ, ◌<◌, Bool, false, not, ◌&&◌, ◌==◌, IsTrue, List, length, slice_get, slice_index, set, Some}
use Rattle.m68020_code.specs.declared.instr.Cond.{Cond}
use Rattle.m68020_code.specs.declared.instr.Width.{Width}
use Rattle.m68020_code.specs.Table.{width_holds}
use Rattle.m68020_asm.specs.declared.item.Item.{Item}
use Rattle.m68020_asm.specs.declared.item.Item.TheVariants.{Plain, Label, Branch, CodeAddr}
use Rattle.m68020_asm.specs.Items.{size_of, address, IsLabelAt}
use Rattle.m68020_asm.specs.Widths.{displacement, chosen}

-- A width for each item, and the size that each has with it.
pub record IsSized (items : List Item) (widths : List Width) (sizes : List ℕ) : Type 0 where
  pub wide : length widths ≡ length items
  pub counted : length sizes ≡ length items
  pub each : (k : ℕ) (i : Item) → slice_get items k ≡ Some i → slice_index sizes k ≡ size_of i (chosen widths k)

-- A label that the sweep has not passed is listed with 0. A branch to another one is widened, if its width doesn't reach.
abbrev pub must_widen : Item → Width → ℕ → List ℕ → Bool
must_widen (Plain i) width at labels = false
must_widen (Label n) width at labels = false
must_widen (Branch cond n) width at labels = not (slice_index labels n == 0) && not (width_holds width (displacement at (slice_index labels n)))
must_widen (CodeAddr reg n) width at labels = false

abbrev pub labels_after : Item → ℕ → List ℕ → List ℕ
labels_after (Plain i) at labels = labels
labels_after (Label n) at labels = set labels n at
labels_after (Branch cond n) at labels = labels
labels_after (CodeAddr reg n) at labels = labels

abbrev pub Reaches : List Item → (ℕ → Width) → ℕ → ℕ → Type 0
Reaches items widths k j = IsTrue (width_holds (widths k) (displacement (address items widths k) (address items widths j)))

-- each branch to a label before it reaches it
abbrev pub FitsBack : List Item → (ℕ → Width) → Type 0
FitsBack items widths =
    (k j n : ℕ) (cond : Cond) → slice_get items k ≡ Some (Branch cond n) → IsLabelAt items n j → j < k → Reaches items widths k j

-- each branch to a label behind it reaches it
abbrev pub FitsAhead : List Item → (ℕ → Width) → Type 0
FitsAhead items widths =
    (k j n : ℕ) (cond : Cond) → slice_get items k ≡ Some (Branch cond n) → IsLabelAt items n j → k < j → Reaches items widths k j
