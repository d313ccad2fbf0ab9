-- The addresses of blocks whose code is taken.
use Rattle.std.specs.Prelude.{◌≡◌, ◌≢◌, ℕ, IsTrue, slice_index}
use Rattle.word_ir.specs.State.{Setting}
use Rattle.lap_items.specs.Ends.{is_taken}
use Rattle.lap_paths.specs.Paths.{Assembly}

-- no two of them are the same, and none is 0
pub record HasCodes (a : Assembly) (m : Setting) : Type 0 where
  pub apart : (b c : ℕ) → IsTrue (is_taken m.words b) → IsTrue (is_taken m.words c) → slice_index a.labels b ≡ slice_index a.labels c → b ≡ c
  pub somewhere : (b : ℕ) → IsTrue (is_taken m.words b) → slice_index a.labels b ≢ 0
