-- Widths that grow where a branch doesn't reach its label.
use Rattle.std.proofs.Common.{◌≡◌, ◌≢◌, ℕ, ◌<◌, ◌⊎◌, Bool, true, false, List, length, slice_get, set, Some, refl, sym, ap, ◌∙◌, arith, inl, inr}
use Rattle.std.proofs.lemmas.Bool.{cases_lt}
use Rattle.std.proofs.lemmas.List.{length-set, get_or-set_same, get_or-set_other}
use Rattle.std.proofs.lemmas.Option.{slice_get_within}
use Rattle.m68020_code.specs.declared.instr.Cond.{Cond}
use Rattle.m68020_code.specs.declared.instr.Width.{Width}
use Rattle.m68020_code.specs.declared.instr.Width.TheVariants.{Byte}
use Rattle.m68020_code.specs.Table.{width_holds}
use Rattle.m68020_asm.specs.declared.item.Item.{Item}
use Rattle.m68020_asm.specs.declared.item.Item.TheVariants.{Label, Branch}
use Rattle.m68020_asm.specs.Items.{branch_size, size_of, address, IsLabelAt, CanAssemble}
use Rattle.m68020_asm.specs.Widths.{displacement, Fits, AtMost, chosen, next_width}
use Rattle.m68020_asm.specs.Sweep.{IsSized}
use Rattle.m68020_asm.proofs.Addresses.{address_le, address_grown}
use Rattle.m68020_asm.proofs.LabelPlaces.{address_bound}
use Rattle.m68020_asm.proofs.Least.{next_stays_below, next_longer}

pub either : (j k : ℕ) → (j ≡ k) ⊎ (j ≢ k)
either j k =
    elim (cases_lt j k) [
      | inl lt ↦ inr (λ e. absurd (omega arith))
      | inr ge ↦ elim (cases_lt k j) [
        | inl lt ↦ inr (λ e. absurd (omega arith))
        | inr le ↦ inl (omega arith)
      ]
    ]

-- from the old widths to the new ones, whose sizes these are
pub record IsGrowing (items : List Item) (old new : List Width) (sizes : List ℕ) (changed : Bool) : Type 0 where
  pub sized : IsSized items new sizes
  pub most : AtMost (chosen old) (chosen new)
  pub least : (other : ℕ → Width) → Fits items other → AtMost (chosen old) other → AtMost (chosen new) other
  pub same : changed ≡ false → new ≡ old
  pub longer : changed ≡ true → address items (chosen old) (length items) < address items (chosen new) (length items)

pub not_grown : (items : List Item) (old : List Width) (sizes : List ℕ) → IsSized items old sizes → IsGrowing items old old sizes false
not_grown items old sizes sized = record { sized = sized; most = λ k. omega arith; least = λ other fits most. most; same = λ e. refl; longer = λ e. absurd cc }

-- what is chosen where one width was written
pub chosen_here : (ws : List Width) (k : ℕ) (w : Width) → k < length ws → chosen (set ws k w) k ≡ w
chosen_here ws k w lt = get_or-set_same ws k w Byte lt

pub chosen_other : (ws : List Width) (k j : ℕ) (w : Width) → j ≢ k → chosen (set ws k w) j ≡ chosen ws j
chosen_other ws k j w ne = get_or-set_other ws k j w Byte ne

branch_of : (i : Item) (c : Cond) (n : ℕ) → Some i ≡ Some (Branch c n) → (w : Width) → size_of i w ≡ branch_size w
branch_of i c n e w = let same : i ≡ Branch c n = cc in rw same refl

-- a branch that doesn't reach its label gets the next width
pub grows : (items : List Item) (old new : List Width) (sizes : List ℕ) (changed : Bool) (k j n : ℕ) (c : Cond) → CanAssemble items → IsGrowing items old new sizes changed → slice_get items k ≡ Some (Branch c n) → IsLabelAt items n j
    → width_holds (chosen new k) (displacement (address items (chosen new) k) (address items (chosen new) j)) ≡ false
    → IsGrowing items old (set new k (next_width (chosen new k))) (set sizes k (branch_size (next_width (chosen new k)))) true
grows items old new sizes changed k j n c can h branch label short =
    let ws : ℕ → Width = chosen new in
    let next : Width = next_width (ws k) in
    let after : List Width = set new k next in
    let within = slice_get_within items k (Branch c n) branch in
    let here = chosen_here new k next (omega (arith, h.sized.wide)) in
    let from = address_bound items ws k can (omega arith) in
    let to = address_bound items ws j can (omega (arith, slice_get_within items j (Label n) label)) in
    let longer : branch_size (ws k) < branch_size next = next_longer items ws k j n c from to branch short in
    let step : AtMost ws (chosen after) = λ m. elim (either m k) [
      | inl e ↦ rw (e, here) (omega arith)
      | inr ne ↦ rw (chosen_other new k m next ne) (omega arith)
    ] in
    record {
      sized = record {
        wide = length-set new k next ∙ h.sized.wide;
        counted = length-set sizes k (branch_size next) ∙ h.sized.counted;
        each = λ m i there. elim (either m k) [
          | inl e ↦ rw (e, here) (get_or-set_same sizes k (branch_size next) 0 (omega (arith, h.sized.counted)) ∙ sym (branch_of i c n (sym there ∙ ap (slice_get items) e ∙ branch) next))
          | inr ne ↦ get_or-set_other sizes k m (branch_size next) 0 ne ∙ h.sized.each m i there ∙ ap (size_of i) (sym (chosen_other new k m next ne))
        ];
      };
      most = λ m. omega (arith, h.most m, step m);
      least = λ other fits most m. elim (either m k) [
        | inl e ↦ rw (e, here) (next_stays_below items ws other (h.least other fits most) fits k j n c branch label short)
        | inr ne ↦ rw (chosen_other new k m next ne) (h.least other fits most m)
      ];
      same = λ e. absurd cc;
      longer = λ e. omega (arith, address_le items (chosen old) ws (length items) (λ m lt. h.most m), address_grown items ws (chosen after) k (Branch c n) branch step (rw here longer));
    }
