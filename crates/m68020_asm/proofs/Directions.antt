-- A sweep from the front to the end, and one from the end to the front.
use Rattle.std.proofs.Common.{◌≡◌, ◌≢◌, ℕ, ◌+◌, ◌-◌, ◌^◌, ◌<◌, ◌≤◌, ◌⊎◌, Bool, false, List, length, slice_get, slice_index, replicate, Some, sym, ap, ◌∙◌, arith, inl, inr}
use Rattle.std.specs.Prelude.{◌||◌}
use Rattle.std.proofs.lemmas.Bool.{cases_lt}
use Rattle.std.proofs.lemmas.Option.{slice_get_within}
use Rattle.std.proofs.lemmas.List.{get_or-replicate, get_or_past, length-replicate}
use Rattle.m68020_code.specs.declared.instr.Width.{Width}
use Rattle.m68020_asm.specs.declared.item.Item.{Item}
use Rattle.m68020_asm.specs.declared.item.Item.TheVariants.{Label}
use Rattle.m68020_asm.specs.Items.{size_of, address, label_count, CanAssemble}
use Rattle.m68020_asm.specs.Widths.{chosen}
use Rattle.m68020_asm.specs.Sweep.{IsSized, must_widen, labels_after}
use Rattle.m68020_asm.proofs.Addresses.{address_same, address_shift, address_next_of, address_low}
use Rattle.m68020_asm.proofs.LabelPlaces.{address_bound}
use Rattle.m68020_asm.proofs.Growing.{not_grown, chosen_other}
use Rattle.m68020_asm.proofs.Passed.{Knows, GoesOver}
use Rattle.m68020_asm.proofs.Sweeping.{IsSweeping, next_widths, next_sizes, goes_over}

zeros : (n i : ℕ) → slice_index (replicate n 0) i ≡ 0
zeros n i =
    elim (cases_lt i n) [
      | inl lt ↦ get_or-replicate n i 0 0 lt
      | inr ge ↦ get_or_past (replicate n 0) i 0 (omega (arith, length-replicate {A = ℕ} n 0))
    ]

-- no label is passed yet
none_known : (items : List Item) (ws : ℕ → Width) (labels : List ℕ) (Seen Unseen : ℕ → Type 0) (up down : ℕ) → labels ≡ replicate (label_count items) 0 → ((n j : ℕ) → slice_get items j ≡ Some (Label n) → Seen j → ⊥) → Knows items ws labels Seen Unseen up down
none_known items ws labels Seen Unseen up down zero unseen = record {
  counted = rw zero (length-replicate {A = ℕ} (label_count items) 0);
  known = λ n j seen there. absurd (unseen n j there seen);
  unknown = λ n j un there. rw zero (zeros (label_count items) n);
}

below_next : (j k : ℕ) → j < k + 1 → j ≢ k → j < k
below_next j k lt ne =
    elim (cases_lt j k) [
      | inl less ↦ less
      | inr ge ↦ absurd (ne (omega arith))
    ]

above_last : (j k : ℕ) → k - 1 ≤ j → j ≢ k - 1 → k ≤ j
above_last j k le ne =
    elim (cases_lt j k) [
      | inl less ↦ absurd (ne (omega arith))
      | inr ge ↦ ge
    ]

-- ---- to the end

-- the places before k are seen
abbrev pub IsToEnd : List Item → List Width → List Width → List ℕ → List ℕ → ℕ → Bool → Type 0
IsToEnd items old new sizes labels k changed = IsSweeping items old new sizes labels changed (λ j. j < k) (λ j. k ≤ j) (λ j m. j < m) 0 (λ ws. 0)

pub at_front : (items : List Item) (old : List Width) (sizes labels : List ℕ) → IsSized items old sizes → labels ≡ replicate (label_count items) 0 → IsToEnd items old old sizes labels 0 false
at_front items old sizes labels sized zero = record {
  growing = not_grown items old sizes sized;
  knows = none_known items (chosen old) labels (λ j. j < 0) (λ j. 0 ≤ j) 0 0 zero (λ n j there lt. omega arith);
  fits = λ e m j n c branch label lt. absurd (omega arith);
}

over_to_end : (items : List Item) (k : ℕ) → GoesOver items k (λ j. j < k) (λ j. k ≤ j) (λ j. j < k + 1) (λ j. k + 1 ≤ j) (λ j m. j < m) 0 (λ ws. 0)
over_to_end items k = record {
  seen_or = λ j. cases_lt j k;
  seen_now = λ j lt ne. below_next j k lt ne;
  still_unseen = λ j le. omega arith;
  passed = λ le. omega arith;
  earlier = λ j lt. lt;
  shift = λ ws vs same j le lt. omega (arith, address_same items ws vs j (λ i below. same i (λ e. omega arith)));
  below = λ ws. omega arith;
}

module _ (items : List Item) (old new : List Width) (sizes labels : List ℕ) (changed : Bool) (k at : ℕ) (can : CanAssemble items) (i : Item) (here : slice_get items k ≡ Some i) (h : IsToEnd items old new sizes labels k changed) (at-is : at ≡ address items (chosen new) k) where
  pub to_end : (must : Bool) → must_widen i (chosen new k) at labels ≡ must → IsToEnd items old (next_widths must new k) (next_sizes must new sizes k) (labels_after i at labels) (k + 1) (must || changed)
  to_end must is = goes_over items old new sizes labels changed (λ j. j < k) (λ j. k ≤ j) (λ j. j < k + 1) (λ j. k + 1 ≤ j) (λ j m. j < m) 0 (λ ws. 0) k at can (over_to_end items k) h (omega arith) i must here is

  pub at_next : (must : Bool) → must_widen i (chosen new k) at labels ≡ must → at + slice_index (next_sizes must new sizes k) k ≡ address items (chosen (next_widths must new k)) (k + 1)
  at_next must is =
      let ws : ℕ → Width = chosen (next_widths must new k) in
      let before : address items ws k ≡ address items (chosen new) k = address_same items ws (chosen new) k (λ j lt. chosen_other new k j _ (λ e. omega arith)) in
      omega (arith, before, address_next_of items ws k i here, (to_end must is).growing.sized.each k i here)

-- ---- to the front

-- the places from k on are seen
abbrev pub IsToFront : List Item → List Width → List Width → List ℕ → List ℕ → ℕ → Bool → Type 0
IsToFront items old new sizes labels k changed = IsSweeping items old new sizes labels changed (λ j. k ≤ j) (λ j. j < k) (λ j m. m < j) (2 ^ 29) (λ ws. address items ws (length items))

pub at_end : (items : List Item) (old : List Width) (sizes labels : List ℕ) → IsSized items old sizes → labels ≡ replicate (label_count items) 0 → IsToFront items old old sizes labels (length items) false
at_end items old sizes labels sized zero = record {
  growing = not_grown items old sizes sized;
  knows = none_known items (chosen old) labels (λ j. length items ≤ j) (λ j. j < length items) (2 ^ 29) (address items (chosen old) (length items)) zero (λ n j there le. omega (arith, slice_get_within items j (Label n) there));
  fits = λ e m j n c branch label le. absurd (omega (arith, slice_get_within items m _ branch));
}

over_to_front : (items : List Item) (k : ℕ) → CanAssemble items → 0 < k → GoesOver items (k - 1) (λ j. k ≤ j) (λ j. j < k) (λ j. k - 1 ≤ j) (λ j. j < k - 1) (λ j m. m < j) (2 ^ 29) (λ ws. address items ws (length items))
over_to_front items k can some = record {
  seen_or = λ j. elim (cases_lt j k) [ inl lt ↦ inr lt | inr ge ↦ inl ge ];
  seen_now = λ j le ne. above_last j k le ne;
  still_unseen = λ j lt. omega arith;
  passed = λ lt. omega arith;
  earlier = λ j lt. omega arith;
  shift = λ ws vs same j le ge. omega (arith, address_shift items ws vs j (length items) le (λ i from. same i (λ e. omega arith)));
  below = λ ws. omega (arith, address_bound items ws (length items) can (omega arith));
}

module _ (items : List Item) (old new : List Width) (sizes labels : List ℕ) (changed : Bool) (k at from : ℕ) (can : CanAssemble items) (some : 0 < k) (i : Item) (here : slice_get items (k - 1) ≡ Some i) (h : IsToFront items old new sizes labels k changed) (at-is : at + address items (chosen new) (length items) ≡ address items (chosen new) k + 2 ^ 29) (from_is : from ≡ at - slice_index sizes (k - 1)) where
  size_before : (ws : ℕ → Width) (size : ℕ) → size ≡ size_of i (ws (k - 1)) → address items ws k ≡ address items ws (k - 1) + size
  size_before ws size is =
      let e : k - 1 + 1 ≡ k = omega arith in
      ap (address items ws) (sym e) ∙ address_next_of items ws (k - 1) i here ∙ ap (λ n. address items ws (k - 1) + n) (sym is)

  pub from_moved : from + address items (chosen new) (length items) ≡ address items (chosen new) (k - 1) + 2 ^ 29
  from_moved =
      let most = address_bound items (chosen new) (length items) can (omega arith) in
      let size = size_before (chosen new) (slice_index sizes (k - 1)) (h.growing.sized.each (k - 1) i here) in
      omega (arith, size, at-is, most, address_low items (chosen new) (k - 1), from_is)

  pub to_front : (must : Bool) → must_widen i (chosen new (k - 1)) from labels ≡ must → IsToFront items old (next_widths must new (k - 1)) (next_sizes must new sizes (k - 1)) (labels_after i from labels) (k - 1) (must || changed)
  to_front must is = goes_over items old new sizes labels changed (λ j. k ≤ j) (λ j. j < k) (λ j. k - 1 ≤ j) (λ j. j < k - 1) (λ j m. m < j) (2 ^ 29) (λ ws. address items ws (length items)) (k - 1) from can (over_to_front items k can some) h from_moved i must here is

  pub at_last : (must : Bool) → must_widen i (chosen new (k - 1)) from labels ≡ must → slice_index (next_sizes must new sizes (k - 1)) (k - 1) ≤ at
      → (at - slice_index (next_sizes must new sizes (k - 1)) (k - 1)) + address items (chosen (next_widths must new (k - 1))) (length items) ≡ address items (chosen (next_widths must new (k - 1))) (k - 1) + 2 ^ 29
  at_last must is small =
      let ws : ℕ → Width = chosen (next_widths must new (k - 1)) in
      let same : (j : ℕ) → k ≤ j → chosen new j ≡ ws j = λ j le. sym (chosen_other new (k - 1) j _ (λ e. omega arith)) in
      let within : k ≤ length items = omega (arith, slice_get_within items (k - 1) i here) in
      let behind = address_shift items (chosen new) ws k (length items) within same in
      let size = size_before ws (slice_index (next_sizes must new sizes (k - 1)) (k - 1)) ((to_front must is).growing.sized.each (k - 1) i here) in
      omega (arith, at-is, behind, size)

-- counting down, no address gets small
pub at_large : (items : List Item) (ws : ℕ → Width) (k at : ℕ) → CanAssemble items → at + address items ws (length items) ≡ address items ws k + 2 ^ 29 → 2 ^ 28 ≤ at
at_large items ws k at can at-is = omega (arith, at-is, address_bound items ws (length items) can (omega arith), address_low items ws k)

-- ---- what a visit needs

-- a listed label is an address, or 0
pub label_small : (items : List Item) (ws : ℕ → Width) (labels : List ℕ) (Seen Unseen : ℕ → Type 0) (up down n : ℕ) → CanAssemble items → Knows items ws labels Seen Unseen up down → ((j : ℕ) → Seen j ⊎ Unseen j) → ((j : ℕ) → j ≤ length items → address items ws j + up ≤ down + 2 ^ 29) → n < label_count items → slice_index labels n < 2 ^ 30
label_small items ws labels Seen Unseen up down n can h either most lt =
    let at = can.each n lt in
    elim (either at.0) [
      | inl seen ↦ omega (arith, h.known n at.0 seen at.1, most at.0 (omega (arith, slice_get_within items at.0 (Label n) at.1)))
      | inr unseen ↦ omega (arith, h.unknown n at.0 unseen at.1)
    ]
