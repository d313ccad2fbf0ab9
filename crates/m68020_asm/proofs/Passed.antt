-- The labels that a sweep has passed, in either direction.
use Rattle.std.proofs.Common.{◌≡◌, ◌≢◌, ℕ, ◌+◌, ◌<◌, ◌≤◌, ◌⊎◌, Bool, true, false, not, eqb, List, length, slice_get, slice_index, set, Some, refl, sym, ap, subst, ◌∙◌, arith, inl, inr}
use Rattle.std.proofs.lemmas.Int.{ints}
use Rattle.std.proofs.lemmas.Bool.{and_parts, ne_eqb}
use Rattle.std.proofs.lemmas.List.{length-set, get_or-set_same, get_or-set_other}
use Rattle.std.proofs.lemmas.Option.{slice_get_within}
use Rattle.m68020_code.specs.declared.instr.Cond.{Cond}
use Rattle.m68020_code.specs.declared.instr.Width.{Width}
use Rattle.m68020_code.specs.Table.{width_holds}
use Rattle.m68020_asm.specs.declared.item.Item.{Item}
use Rattle.m68020_asm.specs.declared.item.Item.TheVariants.{Label, Branch}
use Rattle.m68020_asm.specs.Items.{address, label_count, IsLabelAt, CanAssemble}
use Rattle.m68020_asm.specs.Widths.{displacement}
use Rattle.m68020_asm.specs.Sweep.{must_widen}
use Rattle.m68020_asm.proofs.Addresses.{address_low}
use Rattle.m68020_asm.proofs.LabelPlaces.{label_within, same_label}
use Rattle.m68020_asm.proofs.Growing.{either}

-- Labels at seen places are listed with their addresses, moved by up and back by down; others with 0.
pub record Knows (items : List Item) (ws : ℕ → Width) (labels : List ℕ) (Seen Unseen : ℕ → Type 0) (up down : ℕ) : Type 0 where
  pub counted : length labels ≡ label_count items
  pub known : (n j : ℕ) → Seen j → IsLabelAt items n j → slice_index labels n + down ≡ address items ws j + up
  pub unknown : (n j : ℕ) → Unseen j → IsLabelAt items n j → slice_index labels n ≡ 0

moved_way : (x y a b up down : ℕ) → x + down ≡ a + up → y + down ≡ b + up → displacement x y ≡ displacement a b
moved_way x y a b up down e f = omega (arith, ints)

un_not_true : (b : Bool) → not b ≡ true → b ≡ false
un_not_true true e = absurd cc
un_not_true false e = refl

un_not_false : (b : Bool) → not b ≡ false → b ≡ true
un_not_false true e = refl
un_not_false false e = absurd cc

-- a branch that is widened has passed its label, and doesn't reach it
pub is_short : (items : List Item) (ws : ℕ → Width) (labels : List ℕ) (Seen Unseen : ℕ → Type 0) (up down k j n at : ℕ) (c : Cond) → Knows items ws labels Seen Unseen up down → Seen j ⊎ Unseen j → at + down ≡ address items ws k + up → IsLabelAt items n j
    → must_widen (Branch c n) (ws k) at labels ≡ true → width_holds (ws k) (displacement (address items ws k) (address items ws j)) ≡ false
is_short items ws labels Seen Unseen up down k j n at c h (inl seen) at-is label must =
    let parts = and_parts (not (eqb (slice_index labels n) 0)) (not (width_holds (ws k) (displacement at (slice_index labels n)))) must in
    rw (← moved_way at (slice_index labels n) (address items ws k) (address items ws j) up down at-is (h.known n j seen label)) (un_not_true (width_holds (ws k) (displacement at (slice_index labels n))) parts.1)
is_short items ws labels Seen Unseen up down k j n at c h (inr unseen) at-is label must =
    let zero : slice_index labels n ≡ 0 = h.unknown n j unseen label in
    let never : must_widen (Branch c n) (ws k) at labels ≡ false = rw zero refl in
    absurd (differ (sym must ∙ never))
  where
    differ : true ≡ false → ⊥
    differ e = cc

-- a branch that isn't widened reaches a label that was passed
pub is_reached : (items : List Item) (ws : ℕ → Width) (labels : List ℕ) (Seen Unseen : ℕ → Type 0) (up down k j n at : ℕ) (c : Cond) → Knows items ws labels Seen Unseen up down → down ≤ up → Seen j → at + down ≡ address items ws k + up → IsLabelAt items n j
    → must_widen (Branch c n) (ws k) at labels ≡ false → width_holds (ws k) (displacement (address items ws k) (address items ws j)) ≡ true
is_reached items ws labels Seen Unseen up down k j n at c h le seen at-is label must =
    let there = h.known n j seen label in
    let some : eqb (slice_index labels n) 0 ≡ false = ne_eqb (slice_index labels n) 0 (λ e. absurd (omega (arith, there, address_low items ws j))) in
    let kept : not (width_holds (ws k) (displacement at (slice_index labels n))) ≡ false = rw some at must in
    rw (← moved_way at (slice_index labels n) (address items ws k) (address items ws j) up down at-is there) (un_not_false (width_holds (ws k) (displacement at (slice_index labels n))) kept)

-- How a sweep goes on over the item at a place: what it has seen by then, and what else it has seen behind it.
pub record GoesOver (items : List Item) (k : ℕ) (Seen Unseen Seen' Unseen' : ℕ → Type 0) (Earlier : ℕ → ℕ → Type 0) (up : ℕ) (down : (ℕ → Width) → ℕ) : Type 0 where
  pub seen_or : (j : ℕ) → Seen j ⊎ Unseen j
  pub seen_now : (j : ℕ) → Seen' j → j ≢ k → Seen j
  pub still_unseen : (j : ℕ) → Unseen' j → Unseen j
  pub passed : Unseen' k → ⊥
  pub earlier : (j : ℕ) → Earlier j k → Seen j
  pub shift : (ws vs : ℕ → Width) → ((j : ℕ) → j ≢ k → ws j ≡ vs j) → (j : ℕ) → j ≤ length items → Seen j → address items vs j + down ws ≡ address items ws j + down vs
  pub below : (ws : ℕ → Width) → down ws ≤ up

-- a label is listed
pub knows_label : (items : List Item) (ws : ℕ → Width) (labels : List ℕ) (Seen Unseen Seen' Unseen' : ℕ → Type 0) (Earlier : ℕ → ℕ → Type 0) (up : ℕ) (down : (ℕ → Width) → ℕ) (k n at : ℕ) → CanAssemble items → GoesOver items k Seen Unseen Seen' Unseen' Earlier up down
    → Knows items ws labels Seen Unseen up (down ws) → at + down ws ≡ address items ws k + up → IsLabelAt items n k → Knows items ws (set labels n at) Seen' Unseen' up (down ws)
knows_label items ws labels Seen Unseen Seen' Unseen' Earlier up down k n at can over h at-is here =
    let within : n < length labels = omega (arith, label_within items n k here, h.counted) in
    let other : (m j : ℕ) → j ≢ k → IsLabelAt items m j → m ≢ n = λ m j ne there e. ne (can.once n j k (subst (λ (x : ℕ). IsLabelAt items x j) e there) here) in
    record {
      counted = length-set labels n at ∙ h.counted;
      known = λ m j seen there. elim (either j k) [
        | inl e ↦
            let same : m ≡ n = same_label m n (slice_get items k) (subst (λ (x : ℕ). IsLabelAt items m x) e there) here in
            rw (e, same, get_or-set_same labels n at 0 within) at-is
        | inr ne ↦ rw (get_or-set_other labels n m at 0 (other m j ne there)) (h.known m j (over.seen_now j seen ne) there)
      ];
      unknown = λ m j unseen there.
          let ne : j ≢ k = λ e. over.passed (subst Unseen' e unseen) in
          get_or-set_other labels n m at 0 (other m j ne there) ∙ h.unknown m j (over.still_unseen j unseen) there;
    }

-- another item changes no more than its own width
pub knows_other : (items : List Item) (ws vs : ℕ → Width) (labels : List ℕ) (Seen Unseen Seen' Unseen' : ℕ → Type 0) (Earlier : ℕ → ℕ → Type 0) (up : ℕ) (down : (ℕ → Width) → ℕ) (k : ℕ) (i : Item) → GoesOver items k Seen Unseen Seen' Unseen' Earlier up down
    → Knows items ws labels Seen Unseen up (down ws) → slice_get items k ≡ Some i → ((n : ℕ) → i ≡ Label n → ⊥) → ((j : ℕ) → j ≢ k → ws j ≡ vs j) → Knows items vs labels Seen' Unseen' up (down vs)
knows_other items ws vs labels Seen Unseen Seen' Unseen' Earlier up down k i over h here other same =
    record {
      counted = h.counted;
      known = λ n j seen there.
          let ne : j ≢ k = λ e. other n (some_is i (Label n) (sym here ∙ ap (slice_get items) (sym e) ∙ there)) in
          let before : Seen j = over.seen_now j seen ne in
          let within = slice_get_within items j (Label n) there in
          omega (arith, h.known n j before there, over.shift ws vs same j (omega arith) before);
      unknown = λ n j unseen there. h.unknown n j (over.still_unseen j unseen) there;
    }
  where
    some_is : (x y : Item) → Some x ≡ Some y → x ≡ y
    some_is x y e = cc
