-- How often numbers stand in a list.
use Rattle.std.specs.Prelude.{◌≡◌, ℕ, ◌<◌, ◌≤◌, ◌==◌, List, map, count_by}
use Rattle.t_base.specs.declared.basics.Var.{Var}

unfoldable pub times : ℕ → List ℕ → ℕ
times k xs = count_by (λ x. x == k) xs

-- each number of the range stands once at most, and no other
pub record Once (low high : ℕ) (ks : List ℕ) : Type 0 where
  pub below : (k : ℕ) → k < low → times k ks ≡ 0
  pub above : (k : ℕ) → high ≤ k → times k ks ≡ 0
  pub once : (k : ℕ) → times k ks ≤ 1

-- each number below a count stands once, and no other
pub record EachOnce (count : ℕ) (ks : List ℕ) : Type 0 where
  pub within : (k : ℕ) → k < count → times k ks ≡ 1
  pub above : (k : ℕ) → count ≤ k → times k ks ≡ 0

abbrev pub numbers : List Var → List ℕ
numbers vars = map (λ v. v.0) vars
