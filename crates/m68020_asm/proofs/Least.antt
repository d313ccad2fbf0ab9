-- Widening stays below every choice that fits.
use Rattle.std.proofs.Common.{◌≡◌, ℕ, zero, suc, ◌+◌, ◌-◌, ◌^◌, ◌≤◌, ◌<◌, ◌⊎◌, true, false, true≢false, List, slice_get, Some, refl, sym, ap, ◌∙◌, arith, inl, inr}
use Rattle.std.specs.Prelude.{pos, negsuc}
use Rattle.std.proofs.lemmas.Int.{ints}
use Rattle.std.proofs.lemmas.Bool.{cases_lt, lt-ltb, ltb-true}
use Rattle.m68020_code.specs.declared.instr.Cond.{Cond}
use Rattle.m68020_code.specs.declared.instr.Width.{Width}
use Rattle.m68020_code.specs.declared.instr.Width.TheVariants.{Byte, Word, Long}
use Rattle.m68020_code.specs.Table.{width_holds, fits}
use Rattle.m68020_asm.specs.declared.item.Item.{Item}
use Rattle.m68020_asm.specs.declared.item.Item.TheVariants.{Branch}
use Rattle.m68020_asm.specs.Items.{branch_size, code_start, address, IsLabelAt}
use Rattle.m68020_asm.specs.Widths.{displacement, Fits, AtMost, next_width}
use Rattle.m68020_asm.proofs.Addresses.{wider, branch_size_least, address_next_of}

-- ---- displacements as numbers

-- forward by d bytes, counted from the address plus 2
pub forward_is : (from to d : ℕ) → from + 2 + d ≡ to → displacement from to ≡ pos d
forward_is from to d e = omega (arith, ints)

-- back by b bytes, counted from the address
pub back_is : (from to b : ℕ) → to + b ≡ from → displacement from to ≡ negsuc (suc b)
back_is from to b e = omega (arith, ints)

-- a width holds a shorter way too, if it is none only where the longer one is
forward_holds : (w : Width) (d c : ℕ) → d ≤ c → (d ≡ 0 → c ≡ 0) → width_holds w (pos c) ≡ true → width_holds w (pos d) ≡ true
forward_holds Byte zero c le none h = rw (none refl) at h
forward_holds Byte (suc d) zero le none h = absurd (omega arith)
forward_holds Byte (suc d) (suc c) le none h = lt-ltb d 127 (omega (arith, ltb-true c 127 h))
forward_holds Word d c le none h = lt-ltb d 32768 (omega (arith, ltb-true c 32768 h))
forward_holds Long d c le none h = lt-ltb d (2 ^ 31) (omega (arith, ltb-true c (2 ^ 31) h))

back_holds : (w : Width) (d c : ℕ) → d ≤ c → width_holds w (negsuc (suc c)) ≡ true → width_holds w (negsuc (suc d)) ≡ true
back_holds Byte d c le h = lt-ltb d 127 (omega (arith, ltb-true c 127 h))
back_holds Word d c le h = lt-ltb (suc d) 32768 (omega (arith, ltb-true (suc c) 32768 h))
back_holds Long d c le h = lt-ltb (suc d) (2 ^ 31) (omega (arith, ltb-true (suc c) (2 ^ 31) h))

-- the longest width holds every way within the code
long_holds : (from to : ℕ) → from ≤ code_start + 2 ^ 28 → to ≤ code_start + 2 ^ 28 → (from + 2 ≤ to) ⊎ (to ≤ from) → width_holds Long (displacement from to) ≡ true
long_holds from to f t (inl ahead) = rw (forward_is from to (to - (from + 2)) (omega arith)) (lt-ltb (to - (from + 2)) (2 ^ 31) (omega arith))
long_holds from to f t (inr behind) = rw (back_is from to (from - to) (omega arith)) (lt-ltb (suc (from - to)) (2 ^ 31) (omega arith))

-- ---- one branch

-- where a branch of this width reaches its label under wider widths elsewhere, it does so under narrower ones
module _ (items : List Item) (ws vs : ℕ → Width) (most : AtMost ws vs) (k j n : ℕ) (cond : Cond) (branch : slice_get items k ≡ Some (Branch cond n)) (label : IsLabelAt items n j) where
  reaches_ahead : ws k ≡ vs k → k + 1 ≤ j → width_holds (vs k) (displacement (address items vs k) (address items vs j)) ≡ true → width_holds (ws k) (displacement (address items ws k) (address items ws j)) ≡ true
  reaches_ahead same ahead h =
      let r = wider items ws vs most (k + 1) j ahead in
      let s = wider items vs vs (λ i. omega arith) (k + 1) j ahead in
      let mine : address items ws (k + 1) ≡ address items ws k + branch_size (ws k) = address_next_of items ws k (Branch cond n) branch in
      let theirs : address items vs (k + 1) ≡ address items vs k + branch_size (vs k) = address_next_of items vs k (Branch cond n) branch in
      let size : branch_size (ws k) ≡ branch_size (vs k) = ap branch_size same in
      let two = branch_size_least (ws k) in
      let d : ℕ = address items ws j - (address items ws k + 2) in
      let c : ℕ = address items vs j - (address items vs k + 2) in
      let mine_is : displacement (address items ws k) (address items ws j) ≡ pos d = forward_is (address items ws k) (address items ws j) d (omega (arith, r.up, mine, two)) in
      let theirs_is : displacement (address items vs k) (address items vs j) ≡ pos c = forward_is (address items vs k) (address items vs j) c (omega (arith, s.up, theirs, two, size)) in
      let shorter : d ≤ c = omega (arith, r.more, r.up, s.up, mine, theirs, size, two) in
      let none : d ≡ 0 → c ≡ 0 = λ e. omega (arith, r.none (omega (arith, r.up, mine, two, e)), theirs, size, mine, r.up, two, e) in
      rw (mine_is, same) (forward_holds (vs k) d c shorter none (rw theirs_is at h))

  reaches_back : ws k ≡ vs k → j ≤ k → width_holds (vs k) (displacement (address items vs k) (address items vs j)) ≡ true → width_holds (ws k) (displacement (address items ws k) (address items ws j)) ≡ true
  reaches_back same behind h =
      let r = wider items ws vs most j k behind in
      let s = wider items vs vs (λ i. omega arith) j k behind in
      let d : ℕ = address items ws k - address items ws j in
      let c : ℕ = address items vs k - address items vs j in
      let mine_is : displacement (address items ws k) (address items ws j) ≡ negsuc (suc d) = back_is (address items ws k) (address items ws j) d (omega (arith, r.up)) in
      let theirs_is : displacement (address items vs k) (address items vs j) ≡ negsuc (suc c) = back_is (address items vs k) (address items vs j) c (omega (arith, s.up)) in
      let shorter : d ≤ c = omega (arith, r.more, r.up, s.up) in
      rw (mine_is, same) (back_holds (vs k) d c shorter (rw theirs_is at h))

  pub reaches : ws k ≡ vs k → width_holds (vs k) (displacement (address items vs k) (address items vs j)) ≡ true → width_holds (ws k) (displacement (address items ws k) (address items ws j)) ≡ true
  reaches same h =
      elim (cases_lt k j) [
        | inl lt ↦ reaches_ahead same (omega arith) h
        | inr ge ↦ reaches_back same ge h
      ]

-- a branch of a smaller size has at most the next width
next_below : (w v : Width) → branch_size w ≤ branch_size v → (w ≡ v → ⊥) → branch_size (next_width w) ≤ branch_size v
next_below Byte Byte le ne = absurd (ne refl)
next_below Byte Word le ne = omega arith
next_below Byte Long le ne = omega arith
next_below Word Byte le ne = absurd (omega arith)
next_below Word Word le ne = absurd (ne refl)
next_below Word Long le ne = omega arith
next_below Long v le ne = le

-- the next width of a branch that doesn't reach its label stays below a choice that fits
pub next_stays_below : (items : List Item) (ws vs : ℕ → Width) → AtMost ws vs → Fits items vs → (k j n : ℕ) (c : Cond) → slice_get items k ≡ Some (Branch c n) → IsLabelAt items n j
    → width_holds (ws k) (displacement (address items ws k) (address items ws j)) ≡ false → branch_size (next_width (ws k)) ≤ branch_size (vs k)
next_stays_below items ws vs most fits k j n c branch label short =
    next_below (ws k) (vs k) (most k) (λ same. differ (sym short ∙ reaches items ws vs most k j n c branch label same (fits k j n c branch label)))
  where
    differ : false ≡ true → ⊥
    differ h = cc

-- a branch and its label don't overlap
apart : (items : List Item) (ws : ℕ → Width) (k j n : ℕ) (c : Cond) → slice_get items k ≡ Some (Branch c n) → (address items ws k + 2 ≤ address items ws j) ⊎ (address items ws j ≤ address items ws k)
apart items ws k j n c there =
    elim (cases_lt k j) [
      | inl lt ↦ inl (omega (arith, address_next_of items ws k (Branch c n) there, branch_size_least (ws k), (wider items ws ws (λ i. omega arith) (k + 1) j (omega arith)).up))
      | inr ge ↦ inr (wider items ws ws (λ i. omega arith) j k ge).up
    ]

-- what doesn't reach gets longer
pub next_longer : (items : List Item) (ws : ℕ → Width) (k j n : ℕ) (c : Cond) → address items ws k ≤ code_start + 2 ^ 28 → address items ws j ≤ code_start + 2 ^ 28 → slice_get items k ≡ Some (Branch c n)
    → width_holds (ws k) (displacement (address items ws k) (address items ws j)) ≡ false → branch_size (ws k) < branch_size (next_width (ws k))
next_longer items ws k j n c from to branch short = by (ws k) short
  where
    by : (w : Width) → width_holds w (displacement (address items ws k) (address items ws j)) ≡ false → branch_size w < branch_size (next_width w)
    by Byte e = omega arith
    by Word e = omega arith
    by Long e =
        let holds = long_holds (address items ws k) (address items ws j) from to (apart items ws k j n c branch) in
        absurd (true≢false (sym holds ∙ e))
