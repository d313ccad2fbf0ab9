-- The sizes of quoted pairs and of a unit's largest form.
use Rattle.std.specs.Prelude.{◌≡◌, ℕ, ◌+◌, ◌<◌, ◌≤◌, ◌^◌, List, length, slice_get, sum_by, All, Option, Some}
use Rattle.t_base.specs.declared.shared_parts.Const.{Const}
use Rattle.t_base.specs.declared.shared_parts.Const.TheVariants as Constant
use Rattle.t_prim.specs.SharedParts.{HasLowerParts}
use Rattle.t_core.specs.declared.forms.Form.{Form}
use Rattle.t_core.specs.Counts.{Pairs, datum_nodes, form_count}
use Rattle.t_core.specs.Limits.{greatest}

-- the sizes of so many pairs, the first ones
pub record AreSizes (sizes : List ℕ) (count : ℕ) (pairs : Pairs) : Type 0 where
  pub room : length sizes ≡ count
  pub tells : (k : ℕ) → k < count → slice_get sizes k ≡ Some (datum_nodes pairs (Constant.Pair k))
  pub few : All (λ n. n ≤ 2 ^ 31) sizes

-- the size of a datum, by those of pairs
abbrev pub size_in : List ℕ → Const → Option ℕ
size_in sizes (Constant.Pair k) = slice_get sizes k
size_in sizes (Constant.Fix x) = Some 1
size_in sizes (Constant.Char c) = Some 1
size_in sizes Constant.Nil = Some 1
size_in sizes Constant.True = Some 1
size_in sizes (Constant.Sym n) = Some 1
size_in sizes (Constant.Str k) = Some 1

-- one for a pair, and the sizes of its parts
pub record IsPairSize (sizes : List ℕ) (head tail : Const) (n : ℕ) : Type 0 where
  pub first : ℕ
  pub second : ℕ
  pub head_is : size_in sizes head ≡ Some first
  pub tail_is : size_in sizes tail ≡ Some second
  pub size_is : n ≡ 1 + first + second
  pub few : n ≤ 2 ^ 31

-- the sizes of all pairs, whose parts stand below them
pub record KnowsSizes (sizes : List ℕ) (pairs : Pairs) : Type 0 where
  pub lower : HasLowerParts pairs
  pub sizes_are : AreSizes sizes (length pairs) pairs

-- the greatest count of a form; all counts together are few
pub record IsLargest (pairs : Pairs) (forms : List Form) (most : ℕ) : Type 0 where
  pub largest_is : most ≡ greatest (form_count pairs) forms
  pub few : sum_by (λ form. form_count pairs form + 8) forms ≤ 2 ^ 31
