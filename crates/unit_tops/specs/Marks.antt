-- Marks on the names that were defined so far.
use Rattle.std.specs.Prelude.{◌≡◌, ℕ, Bool, List, slice_get, Some}
use Rattle.std.specs.List.{list_any}
use Rattle.t_forms.specs.Data.{Name, written, is_same_name}

-- the marks say which of the names stand in a list
pub record Marks (names : List (List ℕ)) (marks : List Bool) (defined : List Name) : Type 0 where
  pub says : (k : ℕ) (text : List ℕ) → slice_get names k ≡ Some text → slice_get marks k ≡ Some (list_any (is_same_name (written text)) defined)
