-- Laws of the items' shapes.
use Rattle.std.specs.Prelude.{◌+◌, ◌≤◌, ◌^◌, List, length}
use Rattle.word_ir.specs.declared.placed.Placed.{Placed}
use Rattle.word_ir.specs.WholePlaced.{IsWholePlaced}
use Rattle.m68020_code.specs.declared.instr.Width.TheVariants.{Long}
use Rattle.m68020_asm.specs.declared.item.Item.{Item}
use Rattle.m68020_asm.specs.Items.{address, code_start, CanAssemble}
use Rattle.lap_items.specs.Program.{IsEmitted}
use Rattle.lap_shapes.specs.Sizes.{most_bytes}

-- The items of a whole program can be assembled where they are short enough, counted with the widest branches.
abbrev pub CanBeAssembled : Type 0
CanBeAssembled =
    (placed : Placed) (items : List Item) → IsWholePlaced placed → IsEmitted placed items → address items (λ _. Long) (length items) ≤ code_start + 2 ^ 28 → CanAssemble items

-- They have no more bytes than the table says.
abbrev pub BytesWithin : Type 0
BytesWithin = (placed : Placed) (items : List Item) → IsEmitted placed items → address items (λ _. Long) (length items) ≤ code_start + most_bytes placed.words
