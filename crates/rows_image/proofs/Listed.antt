-- A listed list can be assembled.
use Rattle.std.proofs.Common.{◌≡◌, ℕ, zero, suc, ◌+◌, ◌*◌, ◌^◌, ◌<◌, ◌≤◌, max, List, [], ◌∷◌, length, slice_get, Option, Some, None, refl, ap, subst, arith, inl, inr}
use Rattle.std.proofs.lemmas.Bool.{cases_lt}
use Rattle.m68020_code.specs.declared.instr.Width.TheVariants.{Long}
use Rattle.m68020_code.proofs.Lengths.{spelling_words}
use Rattle.m68020_asm.specs.declared.item.Item.{Item}
use Rattle.m68020_asm.specs.declared.item.Item.TheVariants.{Plain, Label, Branch, CodeAddr}
use Rattle.m68020_asm.specs.Items.{size_of_any, code_start, address, IsItem, label_count, IsLabelAt, CanAssemble}
use Rattle.rows_image.specs.Lists.{IsListed}

-- the items behind the first
rest_listed : (next count : ℕ) (i : Item) (items : List Item) → IsListed next count (i ∷ items) → (later : ℕ) × (next ≤ later) × IsListed later count items
rest_listed next count (Plain i) items h = (next, omega arith, h.1)
rest_listed next count (Label n) items h = (suc next, omega arith, h.1)
rest_listed next count (Branch c n) items h = (next, omega arith, h.1)
rest_listed next count (CodeAddr reg n) items h = (next, omega arith, h.2)

label_is : (m n : ℕ) (items : List Item) → IsLabelAt (Label m ∷ items) n 0 → m ≡ n
label_is m n items here = cc

from_next : (next count : ℕ) (items : List Item) (n k : ℕ) → IsListed next count items → IsLabelAt items n k → next ≤ n
from_next next count [] n k h here = absurd cc
from_next next count (i ∷ items) n (suc k) h here = let r = rest_listed next count i items h in omega (arith, r.1, from_next r.0 count items n k r.2 here)
from_next next count (Plain i ∷ items) n zero h here = absurd cc
from_next next count (Branch c m ∷ items) n zero h here = absurd cc
from_next next count (CodeAddr reg m ∷ items) n zero h here = absurd cc
from_next next count (Label m ∷ items) n zero h here = omega (arith, h.0, label_is m n items here)

-- behind a label only later ones stand
not_again : (next count : ℕ) (i : Item) (items : List Item) (n j : ℕ) → IsListed next count (i ∷ items) → IsLabelAt (i ∷ items) n 0 → IsLabelAt items n j → ⊥
not_again next count (Plain i) items n j h here there = absurd cc
not_again next count (Branch c m) items n j h here there = absurd cc
not_again next count (CodeAddr reg m) items n j h here there = absurd cc
not_again next count (Label m) items n j h here there = omega (arith, from_next (suc next) count items n j h.1 there, h.0, label_is m n items here)

once_listed : (next count : ℕ) (items : List Item) (n k j : ℕ) → IsListed next count items → IsLabelAt items n k → IsLabelAt items n j → k ≡ j
once_listed next count [] n k j h here there = absurd cc
once_listed next count (i ∷ items) n zero zero h here there = refl
once_listed next count (i ∷ items) n zero (suc j) h here there = absurd (not_again next count i items n j h here there)
once_listed next count (i ∷ items) n (suc k) zero h here there = absurd (not_again next count i items n k h there here)
once_listed next count (i ∷ items) n (suc k) (suc j) h here there = let r = rest_listed next count i items h in ap suc (once_listed r.0 count items n k j r.2 here there)

counted : (next count : ℕ) (items : List Item) → IsListed next count items → max next (label_count items) ≡ count
counted next count [] h = omega (arith, h)
counted next count (Plain i ∷ items) h = counted next count items h.1
counted next count (Branch c n ∷ items) h = counted next count items h.1
counted next count (CodeAddr reg n ∷ items) h = counted next count items h.2
counted next count (Label n ∷ items) h = omega (arith, h.0, counted (suc next) count items h.1)

each_listed : (next count : ℕ) (items : List Item) (n : ℕ) → IsListed next count items → next ≤ n → n < count → (k : ℕ) × IsLabelAt items n k
each_listed next count [] n h low high = absurd (omega (arith, h))
each_listed next count (Plain i ∷ items) n h low high = let at = each_listed next count items n h.1 low high in (suc at.0, at.1)
each_listed next count (Branch c m ∷ items) n h low high = let at = each_listed next count items n h.1 low high in (suc at.0, at.1)
each_listed next count (CodeAddr reg m ∷ items) n h low high = let at = each_listed next count items n h.2 low high in (suc at.0, at.1)
each_listed next count (Label m ∷ items) n h low high =
    elim (cases_lt next n) [
      | inl lt ↦ let at = each_listed (suc next) count items n h.1 (omega arith) high in (suc at.0, at.1)
      | inr ge ↦ let e : m ≡ n = omega (arith, h.0) in (0, subst (λ (x : ℕ). IsLabelAt (Label m ∷ items) x 0) e refl)
    ]

-- what an item names is below the count, and it is an item
abbrev IsGood : ℕ → Item → Type 0
IsGood count (Plain i) = IsItem (Plain i)
IsGood count (Label n) = Unit {0}
IsGood count (Branch c n) = n < count
IsGood count (CodeAddr reg n) = (n < count) × (reg < 8)

first_good : (next count : ℕ) (i : Item) (items : List Item) → IsListed next count (i ∷ items) → IsGood count i
first_good next count (Plain i) items h = rw h.0 (refl, refl)
first_good next count (Label n) items h = tt
first_good next count (Branch c n) items h = h.0
first_good next count (CodeAddr reg n) items h = (h.0, h.1)

good : (next count : ℕ) (items : List Item) (k : ℕ) (i : Item) → IsListed next count items → slice_get items k ≡ Some i → IsGood count i
good next count [] k i h there = absurd cc
good next count (j ∷ items) zero i h there = let e : j ≡ i = cc in subst (IsGood count) e (first_good next count j items h)
good next count (j ∷ items) (suc k) i h there = let r = rest_listed next count j items h in good r.0 count items k i r.2 there

good_item : (count : ℕ) (i : Item) → IsGood count i → IsItem i
good_item count (Plain i) h = h
good_item count (Label n) h = tt
good_item count (Branch c n) h = tt
good_item count (CodeAddr reg n) h = h.1

size_small : (o : Option Item) → size_of_any o Long ≤ 10
size_small None = omega arith
size_small (Some (Plain i)) = let w = spelling_words i in omega (arith, w.length, w.small)
size_small (Some (Label n)) = omega arith
size_small (Some (Branch c n)) = omega arith
size_small (Some (CodeAddr reg n)) = omega arith

address_small : (items : List Item) (k : ℕ) → address items (λ j. Long) k ≤ code_start + 10 * k
unfolding address
address_small items zero = omega arith
address_small items (suc k) = omega (arith, address_small items k, size_small (slice_get items k))

pub can_assemble : (count : ℕ) (items : List Item) → IsListed 0 count items → length items ≤ 2 ^ 20 → CanAssemble items
can_assemble count items h few =
    let all : label_count items ≡ count = omega (arith, counted 0 count items h) in
    record {
      once = λ n k j here there. once_listed 0 count items n k j h here there;
      each = λ n lt. each_listed 0 count items n h (omega arith) (omega arith);
      branches = λ k n c there. omega (arith, good 0 count items k (Branch c n) h there);
      addresses = λ k n reg there. omega (arith, (good 0 count items k (CodeAddr reg n) h there).0);
      rows = λ k i there. good_item count i (good 0 count items k i h there);
      short = omega (arith, address_small items (length items));
    }
