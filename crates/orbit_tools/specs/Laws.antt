-- Laws of the listing.
use Rattle.std.specs.Prelude.{◌≡◌, ℕ, ◌+◌, List, ◌++◌, length, IsTrue}
use Rattle.m68020_code.specs.declared.instr.Instr.{Instr}
use Rattle.m68020_code.specs.Table.{is_row, spelling}
use Rattle.orbit_tools.specs.Text.{instruction}
use Rattle.orbit_tools.specs.Listing.{line, lines}

-- Bytes that begin with a row's are listed as that row, and then what follows it.
abbrev pub EachRowIsListed : Type 0
EachRowIsListed = (at : ℕ) (i : Instr) (rest : List ℕ) → IsTrue (is_row i)
    → lines at 0 (spelling i ++ rest) ≡ line at (spelling i) (instruction at i) ++ lines (at + length (spelling i)) 0 rest
