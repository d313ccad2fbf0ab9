-- The listing of code: a line for each instruction, and for each word at which none stands.
use Rattle.std.specs.Prelude.{ℕ, zero, suc, ◌+◌, ◌-◌, List, [], ◌∷◌, ◌++◌, take, codes, Option, Some, None}
use Rattle.image_file.specs.Grammar.{code_start}
use Rattle.m68020_code.specs.declared.instr.Instr.{Instr}
use Rattle.m68020_code.specs.Reading.{decode_of}
use Rattle.orbit_tools.specs.Text.{hex, address, instruction}

-- words, with a blank behind each
abbrev pub words : List ℕ → List ℕ
words (a ∷ b ∷ bytes) = hex (a ∷ b ∷ []) ++ (codes " " ++ words bytes)
words _ = []

-- an address, two blanks, words with one blank between, and two blanks
abbrev pub front : ℕ → List ℕ → List ℕ
front at bytes = address at ++ (codes "  " ++ (words bytes ++ codes " "))

-- the same with a text behind it
abbrev pub line : ℕ → List ℕ → List ℕ → List ℕ
line at bytes text = front at bytes ++ (text ++ codes "\n")

-- so many bytes stand in one line: those of the instruction, or one word
abbrev pub size_read : Option (Instr × ℕ) → ℕ
size_read (Some (i, size)) = size
size_read None = 2

-- the text of the instruction, or of the first word
abbrev pub text_read : ℕ → List ℕ → Option (Instr × ℕ) → List ℕ
text_read at bytes (Some (i, size)) = instruction at i
text_read at bytes None = codes ".WORD " ++ hex (take 2 bytes)

abbrev pub size_at : List ℕ → ℕ
size_at bytes = size_read (decode_of bytes)

-- the line of what stands at the front of the bytes, which stand at the address
abbrev pub first_line : ℕ → List ℕ → List ℕ
first_line at bytes = line at (take (size_at bytes) bytes) (text_read at bytes (decode_of bytes))

-- The lines of the bytes from the address on, of which so many stand in the line before.
unfoldable pub lines : ℕ → ℕ → List ℕ → List ℕ
lines at before [] = []
lines at (suc before) (b ∷ bytes) = lines (at + 1) before bytes
lines at zero (b ∷ bytes) = first_line at (b ∷ bytes) ++ lines (at + 1) (size_at (b ∷ bytes) - 1) bytes

-- Code starts at its address in the machine.
abbrev pub listing_of : List ℕ → List ℕ
listing_of code = lines code_start 0 code
