-- Laws of the table.
use Rattle.std.specs.Prelude.{◌≡◌, ℕ, ◌*◌, ◌≤◌, List, [], ◌++◌, length, IsTrue}
use Rattle.m68020_code.specs.declared.instr.Instr.{Instr}
use Rattle.m68020_code.specs.Table.{is_row, spelling}

-- Where one instruction's bytes begin with another's, they are the same instruction, and no byte is left.
abbrev pub NoProperPrefix : Type 0
NoProperPrefix = (i j : Instr) (more : List ℕ) → IsTrue (is_row i) → IsTrue (is_row j) → spelling j ≡ spelling i ++ more → (i ≡ j) × (more ≡ [])

-- An instruction has one to five words.
abbrev pub OneToFiveWords : Type 0
OneToFiveWords = (i : Instr) → (words : ℕ) × (length (spelling i) ≡ 2 * words) × (1 ≤ words) × (words ≤ 5)
