-- Which lists of items the tests assemble.
use Rattle.std.specs.Prelude.{◌≡◌, ℕ, suc, ◌<◌, List, [], ◌∷◌}
use Rattle.m68020_code.specs.declared.instr.Instr.TheVariants.{Nop}
use Rattle.m68020_asm.specs.declared.item.Item.{Item}
use Rattle.m68020_asm.specs.declared.item.Item.TheVariants.{Plain, Label, Branch, CodeAddr}

-- Instructions that do nothing, labels numbered in order up to a count, and what names these.
abbrev pub IsListed : ℕ → ℕ → List Item → Type 0
IsListed next count [] = next ≡ count
IsListed next count (Plain i ∷ items) = (i ≡ Nop) × IsListed next count items
IsListed next count (Label n ∷ items) = (n ≡ next) × IsListed (suc next) count items
IsListed next count (Branch cond n ∷ items) = (n < count) × IsListed next count items
IsListed next count (CodeAddr reg n ∷ items) = (n < count) × (reg < 8) × IsListed next count items
