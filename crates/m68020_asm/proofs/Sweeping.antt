-- One item of a sweep, in either direction.
use Rattle.std.proofs.Common.{◌≡◌, ℕ, ◌+◌, Bool, true, false, cond, List, slice_get, slice_index, set, Some, refl, sym, ap, subst, ◌∙◌, inl, inr}
use Rattle.std.specs.Prelude.{◌||◌}
use Rattle.std.proofs.lemmas.List.{set-get_or}
use Rattle.m68020_code.specs.declared.instr.Cond.{Cond}
use Rattle.m68020_code.specs.declared.instr.Width.{Width}
use Rattle.m68020_code.specs.declared.instr.Width.TheVariants.{Byte}
use Rattle.m68020_asm.specs.declared.item.Item.{Item}
use Rattle.m68020_asm.specs.declared.item.Item.TheVariants.{Plain, Label, Branch, CodeAddr}
use Rattle.m68020_asm.specs.Items.{branch_size, address, IsLabelAt, CanAssemble}
use Rattle.m68020_asm.specs.Widths.{chosen, next_width}
use Rattle.m68020_asm.specs.Sweep.{Reaches, must_widen, labels_after}
use Rattle.m68020_asm.proofs.Growing.{either, IsGrowing, grows, chosen_other}
use Rattle.m68020_asm.proofs.Passed.{Knows, GoesOver, is_short, is_reached, knows_label, knows_other}

-- a sweep that has seen some places
pub record IsSweeping (items : List Item) (old new : List Width) (sizes labels : List ℕ) (changed : Bool) (Seen Unseen : ℕ → Type 0) (Earlier : ℕ → ℕ → Type 0) (up : ℕ) (down : (ℕ → Width) → ℕ) : Type 0 where
  pub growing : IsGrowing items old new sizes changed
  pub knows : Knows items (chosen new) labels Seen Unseen up (down (chosen new))
  -- if nothing changed, branches at seen places reach the labels that were passed before them
  pub fits : changed ≡ false → (m j n : ℕ) (c : Cond) → slice_get items m ≡ Some (Branch c n) → IsLabelAt items n j → Seen m → Earlier j m → Reaches items (chosen new) m j

abbrev pub next_widths : Bool → List Width → ℕ → List Width
next_widths must widths k = set widths k (cond must (next_width (chosen widths k)) (chosen widths k))

abbrev pub next_sizes : Bool → List Width → List ℕ → ℕ → List ℕ
next_sizes must widths sizes k = set sizes k (cond must (branch_size (next_width (chosen widths k))) (slice_index sizes k))

module _ (items : List Item) (old new : List Width) (sizes labels : List ℕ) (changed : Bool) (Seen Unseen Seen' Unseen' : ℕ → Type 0) (Earlier : ℕ → ℕ → Type 0) (up : ℕ) (down : (ℕ → Width) → ℕ) (k at : ℕ) (can : CanAssemble items) (over : GoesOver items k Seen Unseen Seen' Unseen' Earlier up down) (h : IsSweeping items old new sizes labels changed Seen Unseen Earlier up down) (at-is : at + down (chosen new) ≡ address items (chosen new) k + up) where
  widened : (i : Item) → slice_get items k ≡ Some i → must_widen i (chosen new k) at labels ≡ true → IsSweeping items old (next_widths true new k) (next_sizes true new sizes k) (labels_after i at labels) true Seen' Unseen' Earlier up down
  widened (Plain i) here must = absurd cc
  widened (Label n) here must = absurd cc
  widened (CodeAddr reg n) here must = absurd cc
  widened (Branch c n) here must =
      let place = can.each n (can.branches k n c here) in
      let short = is_short items (chosen new) labels Seen Unseen up (down (chosen new)) k place.0 n at c h.knows (over.seen_or place.0) at-is place.1 must in
      record {
        growing = grows items old new sizes changed k place.0 n c can h.growing here place.1 short;
        knows = knows_other items (chosen new) (chosen (next_widths true new k)) labels Seen Unseen Seen' Unseen' Earlier up down k (Branch c n) over h.knows here (λ m e. absurd cc) (λ j ne. sym (chosen_other new k j (next_width (chosen new k)) ne));
        fits = λ e. absurd cc;
      }

  knows_kept : (i : Item) → slice_get items k ≡ Some i → Knows items (chosen new) (labels_after i at labels) Seen' Unseen' up (down (chosen new))
  knows_kept (Plain i) here = knows_other items (chosen new) (chosen new) labels Seen Unseen Seen' Unseen' Earlier up down k (Plain i) over h.knows here (λ m e. absurd cc) (λ j ne. refl)
  knows_kept (Label n) here = knows_label items (chosen new) labels Seen Unseen Seen' Unseen' Earlier up down k n at can over h.knows at-is here
  knows_kept (CodeAddr reg n) here = knows_other items (chosen new) (chosen new) labels Seen Unseen Seen' Unseen' Earlier up down k (CodeAddr reg n) over h.knows here (λ m e. absurd cc) (λ j ne. refl)
  knows_kept (Branch c n) here = knows_other items (chosen new) (chosen new) labels Seen Unseen Seen' Unseen' Earlier up down k (Branch c n) over h.knows here (λ m e. absurd cc) (λ j ne. refl)

  kept : (i : Item) → slice_get items k ≡ Some i → must_widen i (chosen new k) at labels ≡ false → IsSweeping items old new sizes (labels_after i at labels) changed Seen' Unseen' Earlier up down
  kept i here must = record {
    growing = h.growing;
    knows = knows_kept i here;
    fits = λ e m j n c branch label seen earlier. elim (either m k) [
      | inl at_k ↦
          let this : Some i ≡ Some (Branch c n) = sym here ∙ ap (slice_get items) (sym at_k) ∙ branch in
          let is : i ≡ Branch c n = cc in
          let must_not : must_widen (Branch c n) (chosen new k) at labels ≡ false = subst (λ (x : Item). must_widen x (chosen new k) at labels ≡ false) is must in
          let before : Earlier j k = subst (Earlier j) at_k earlier in
          rw at_k (is_reached items (chosen new) labels Seen Unseen up (down (chosen new)) k j n at c h.knows (over.below (chosen new)) (over.earlier j before) at-is label must_not)
      | inr ne ↦ h.fits e m j n c branch label (over.seen_now m seen ne) earlier
    ];
  }

  pub goes_over : (i : Item) (must : Bool) → slice_get items k ≡ Some i → must_widen i (chosen new k) at labels ≡ must
      → IsSweeping items old (next_widths must new k) (next_sizes must new sizes k) (labels_after i at labels) (must || changed) Seen' Unseen' Earlier up down
  goes_over i true here must = widened i here must
  goes_over i false here must = rw (set-get_or new k Byte, set-get_or sizes k 0) (kept i here must)
