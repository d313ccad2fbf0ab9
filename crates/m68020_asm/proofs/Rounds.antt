-- Rounds of widening, up to the least choice that fits.
use Rattle.std.proofs.Common.{◌≡◌, ℕ, ◌+◌, ◌-◌, ◌^◌, ◌<◌, List, length, arith}
use Rattle.m68020_code.specs.declared.instr.Width.{Width}
use Rattle.m68020_asm.specs.declared.item.Item.{Item}
use Rattle.m68020_asm.specs.Items.{address, code_start, label_count, CanAssemble}
use Rattle.m68020_asm.specs.Widths.{Fits, AtMost, chosen}
use Rattle.m68020_asm.specs.Sweep.{IsSized}
use Rattle.m68020_asm.specs.Assembled.{code_before, IsAssembled, IsSettled}
use Rattle.m68020_asm.proofs.Emitted.{code_placed}
use Rattle.m68020_asm.proofs.LabelPlaces.{address_bound}

-- what holds at the start of a round
pub record IsRound (items : List Item) (widths : List Width) (sizes labels : List ℕ) : Type 0 where
  pub sized : IsSized items widths sizes
  pub counted : length labels ≡ label_count items
  pub least : (other : ℕ → Width) → Fits items other → AtMost (chosen widths) other

-- each round makes the code longer
pub round_smaller : (items : List Item) (old new : List Width) → CanAssemble items → address items (chosen old) (length items) < address items (chosen new) (length items) → code_start + 2 ^ 28 - address items (chosen new) (length items) < code_start + 2 ^ 28 - address items (chosen old) (length items)
round_smaller items old new can longer =
    let bound = address_bound items (chosen new) (length items) can (omega arith) in
    omega arith

pub all_done : (items : List Item) (widths : List Width) (labels bytes : List ℕ) → IsSettled items widths labels → bytes ≡ code_before items (chosen widths) labels (length items) → IsAssembled items bytes labels
all_done items widths labels bytes h spelled = record {
  widths = chosen widths;
  fits = h.fits;
  least = h.least;
  labelled = h.placed;
  counted = h.counted;
  spelled = spelled;
  placed = λ k le. code_placed items (chosen widths) labels k;
}
