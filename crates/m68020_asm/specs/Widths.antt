-- Choices of widths that fit, and the order on them.
use Rattle.std.specs.Prelude.{◌≡◌, ℕ, ◌+◌, ◌≤◌, IsTrue, List, slice_get, slice_index_or, Some, ℤ, pos, ◌-ℤ◌}
use Rattle.m68020_code.specs.declared.instr.Cond.{Cond}
use Rattle.m68020_code.specs.declared.instr.Width.{Width}
use Rattle.m68020_code.specs.declared.instr.Width.TheVariants.{Byte, Word, Long}
use Rattle.m68020_code.specs.Table.{width_holds}
use Rattle.m68020_asm.specs.declared.item.Item.{Item}
use Rattle.m68020_asm.specs.declared.item.Item.TheVariants.{Branch}
use Rattle.m68020_asm.specs.Items.{branch_size, address, IsLabelAt}

-- a displacement counts from the branch's address plus 2
abbrev pub displacement : ℕ → ℕ → ℤ
displacement from to = pos to -ℤ pos (from + 2)

-- each branch reaches its label with its width
abbrev pub Fits : List Item → (ℕ → Width) → Type 0
Fits items widths =
    (k j n : ℕ) (cond : Cond) → slice_get items k ≡ Some (Branch cond n) → IsLabelAt items n j
    → IsTrue (width_holds (widths k) (displacement (address items widths k) (address items widths j)))

-- nowhere wider
abbrev pub AtMost : (ℕ → Width) → (ℕ → Width) → Type 0
AtMost some other = (k : ℕ) → branch_size (some k) ≤ branch_size (other k)

-- the choice that a list of widths makes
abbrev pub chosen : List Width → ℕ → Width
chosen widths k = slice_index_or widths k Byte

-- each label's address is listed at its number
abbrev pub HasLabels : List Item → (ℕ → Width) → List ℕ → Type 0
HasLabels items widths labels = (n k : ℕ) → IsLabelAt items n k → slice_get labels n ≡ Some (address items widths k)

abbrev pub next_width : Width → Width
next_width Byte = Word
next_width Word = Long
next_width Long = Long
