-- Addresses under one choice of widths and under another.
use Rattle.std.proofs.Common.{◌≡◌, ℕ, zero, suc, ◌+◌, ◌<◌, ◌≤◌, List, length, slice_get, Option, Some, None, refl, ap, subst, ◌∙◌, arith, add-one, inl, inr}
use Rattle.std.proofs.lemmas.Bool.{cases_lt}
use Rattle.std.proofs.lemmas.Option.{slice_get_within}
use Rattle.m68020_code.specs.declared.instr.Width.{Width}
use Rattle.m68020_code.specs.declared.instr.Width.TheVariants.{Byte, Word, Long}
use Rattle.m68020_asm.specs.declared.item.Item.{Item}
use Rattle.m68020_asm.specs.declared.item.Item.TheVariants.{Plain, Label, Branch, CodeAddr}
use Rattle.m68020_asm.specs.Items.{branch_size, size_of, size_of_any, size_at, code_start, address}
use Rattle.m68020_asm.specs.Widths.{AtMost}

pub branch_size_least : (w : Width) → 2 ≤ branch_size w
branch_size_least Byte = omega arith
branch_size_least Word = omega arith
branch_size_least Long = omega arith

pub branch_size_most : (w : Width) → branch_size w ≤ branch_size Long
branch_size_most Byte = omega arith
branch_size_most Word = omega arith
branch_size_most Long = omega arith

size_of_le : (i : Option Item) (w v : Width) → branch_size w ≤ branch_size v → size_of_any i w ≤ size_of_any i v
size_of_le None w v h = omega arith
size_of_le (Some (Plain i)) w v h = omega arith
size_of_le (Some (Label n)) w v h = omega arith
size_of_le (Some (Branch cond n)) w v h = h
size_of_le (Some (CodeAddr reg n)) w v h = omega arith

-- what has no bytes has none with another width
size_of_none : (i : Option Item) (w v : Width) → size_of_any i w ≡ 0 → size_of_any i v ≡ 0
size_of_none None w v h = refl
size_of_none (Some (Plain i)) w v h = h
size_of_none (Some (Label n)) w v h = refl
size_of_none (Some (Branch cond n)) w v h = absurd (omega (arith, branch_size_least w))
size_of_none (Some (CodeAddr reg n)) w v h = absurd (omega arith)

pub address_next : (items : List Item) (ws : ℕ → Width) (k : ℕ) → address items ws (k + 1) ≡ address items ws k + size_at items ws k
unfolding address
address_next items ws k = ap (address items ws) (add-one k)

pub address_next_of : (items : List Item) (ws : ℕ → Width) (k : ℕ) (i : Item) → slice_get items k ≡ Some i → address items ws (k + 1) ≡ address items ws k + size_of i (ws k)
address_next_of items ws k i e = address_next items ws k ∙ ap (λ (o : Option Item). address items ws k + size_of_any o (ws k)) e

pub address_first : (items : List Item) (ws : ℕ → Width) → address items ws 0 ≡ code_start
unfolding address
address_first items ws = refl

-- an address depends on the widths before it
pub address_same : (items : List Item) (ws vs : ℕ → Width) (k : ℕ) → ((j : ℕ) → j < k → ws j ≡ vs j) → address items ws k ≡ address items vs k
unfolding address
address_same items ws vs zero h = refl
address_same items ws vs (suc k) h =
    rw (address_same items ws vs k (λ j lt. h j (omega arith)), h k (omega arith)) refl

-- from one place to a later one there are at least as many bytes with wider branches, and none where there were none
pub record IsWider (items : List Item) (ws vs : ℕ → Width) (from to : ℕ) : Type 0 where
  pub up : address items ws from ≤ address items ws to
  pub more : address items ws to + address items vs from ≤ address items vs to + address items ws from
  pub none : address items ws to ≡ address items ws from → address items vs to ≡ address items vs from

wider_none : (items : List Item) (ws vs : ℕ → Width) (k : ℕ) → IsWider items ws vs k k
wider_none items ws vs k = record { up = omega arith; more = omega arith; none = λ e. refl }

wider_one : (items : List Item) (ws vs : ℕ → Width) (from to : ℕ) → branch_size (ws to) ≤ branch_size (vs to) → IsWider items ws vs from to → IsWider items ws vs from (suc to)
unfolding address
wider_one items ws vs from to le h =
    let size = size_of_le (slice_get items to) (ws to) (vs to) le in
    let nothing = size_of_none (slice_get items to) (ws to) (vs to) in
    record {
      up = omega (arith, h.up);
      more = omega (arith, h.more, size);
      none = λ e. omega (arith, h.none (omega (arith, h.up, e)), nothing (omega (arith, h.up, e)));
    }

pub wider : (items : List Item) (ws vs : ℕ → Width) → AtMost ws vs → (from to : ℕ) → from ≤ to → IsWider items ws vs from to
wider items ws vs most from zero le =
    let e : 0 ≡ from = omega arith in
    subst (λ (f : ℕ). IsWider items ws vs f 0) e (wider_none items ws vs 0)
wider items ws vs most from (suc to) le =
    elim (cases_lt from (suc to)) [
      | inl lt ↦ wider_one items ws vs from to (most to) (wider items ws vs most from to (omega arith))
      | inr ge ↦ let e : suc to ≡ from = omega arith in subst (λ (f : ℕ). IsWider items ws vs f (suc to)) e (wider_none items ws vs (suc to))
    ]

pub address_le : (items : List Item) (ws vs : ℕ → Width) (k : ℕ) → ((j : ℕ) → j < k → branch_size (ws j) ≤ branch_size (vs j)) → address items ws k ≤ address items vs k
unfolding address
address_le items ws vs zero h = omega arith
address_le items ws vs (suc k) h =
    omega (arith, address_le items ws vs k (λ j lt. h j (omega arith)), size_of_le (slice_get items k) (ws k) (vs k) (h k (omega arith)))

-- where one item got longer and none shorter, so did the whole
pub address_grown : (items : List Item) (ws vs : ℕ → Width) (k : ℕ) (i : Item) → slice_get items k ≡ Some i → AtMost ws vs → size_of i (ws k) < size_of i (vs k) → address items ws (length items) < address items vs (length items)
address_grown items ws vs k i there most longer =
    let behind = wider items ws vs most (k + 1) (length items) (omega (arith, slice_get_within items k i there)) in
    let before = address_le items ws vs k (λ j lt. most j) in
    omega (arith, behind.more, before, address_next_of items ws k i there, address_next_of items vs k i there)

-- the way between two places depends on the widths between them
pub address_shift : (items : List Item) (ws vs : ℕ → Width) (from to : ℕ) → from ≤ to → ((j : ℕ) → from ≤ j → ws j ≡ vs j) → address items vs to + address items ws from ≡ address items ws to + address items vs from
unfolding address
address_shift items ws vs from zero le same =
    let e : from ≡ 0 = omega arith in
    rw e (omega arith)
address_shift items ws vs from (suc to) le same =
    elim (cases_lt to from) [
      | inl lt ↦ let e : from ≡ suc to = omega arith in rw e (omega arith)
      | inr ge ↦ omega (arith, address_shift items ws vs from to ge same, ap (size_of_any (slice_get items to)) (same to ge))
    ]

pub address_low : (items : List Item) (ws : ℕ → Width) (k : ℕ) → code_start ≤ address items ws k
address_low items ws k = omega (arith, (wider items ws ws (λ j. omega arith) 0 k (omega arith)).up, address_first items ws)
