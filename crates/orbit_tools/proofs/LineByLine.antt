-- A listing, line by line.
use Rattle.std.proofs.Common.{◌≡◌, ℕ, zero, suc, true, ◌+◌, ◌-◌, ◌≤◌, List, [], ◌∷◌, ◌++◌, length, drop, refl, sym, ap, ◌∙◌, append_assoc, arith}
use Rattle.std.proofs.lemmas.List.{append-nil, length-append, take_at, drop_at}
use Rattle.m68020_code.specs.declared.instr.Instr.{Instr}
use Rattle.m68020_code.specs.Table.{is_row, spelling}
use Rattle.m68020_code.proofs.Lengths.{spelling_words}
use Rattle.m68020_code.proofs.Spellings.{decode_of_spelling}
use Rattle.orbit_tools.specs.Text.{instruction}
use Rattle.orbit_tools.specs.Listing.{line, size_at, first_line, lines}

-- the bytes of the line before have no lines of their own
pub lines-before : (at before : ℕ) (bytes : List ℕ) → lines at before bytes ≡ lines (at + before) 0 (drop before bytes)
unfolding lines
lines-before at zero bytes = ap (λ n. lines n 0 bytes) (omega arith)
lines-before at (suc before) [] = refl
lines-before at (suc before) (b ∷ bytes) = lines-before (at + 1) before bytes ∙ ap (λ n. lines n 0 (drop before bytes)) (omega arith)

pub lines-none : (at : ℕ) (bytes : List ℕ) → length bytes ≡ 0 → lines at 0 bytes ≡ []
unfolding lines
lines-none at [] e = refl
lines-none at (b ∷ bytes) e = absurd (omega (arith, e))

-- where bytes remain, the first line and those of what follows
pub lines-first : (at size : ℕ) (bytes : List ℕ) → 1 ≤ length bytes → size_at bytes ≡ size → 1 ≤ size → lines at 0 bytes ≡ first_line at bytes ++ lines (at + size) 0 (drop size bytes)
unfolding lines
lines-first at size [] some e positive = absurd (omega (arith, some))
lines-first at zero (b ∷ bytes) some e positive = absurd (omega (arith, positive))
lines-first at (suc size) (b ∷ bytes) some e positive =
    let same : size_at (b ∷ bytes) - 1 ≡ size = omega (arith, e) in
    ap (λ rest. first_line at (b ∷ bytes) ++ rest)
    (ap (λ n. lines (at + 1) n bytes) same ∙ lines-before (at + 1) size bytes ∙ ap (λ n. lines n 0 (drop size bytes)) (omega arith))

-- a line behind what stands there takes one from what remains
pub lines-next : (before after whole : List ℕ) (at size : ℕ) (bytes rest : List ℕ)
    → before ++ lines at 0 bytes ≡ whole → after ≡ before ++ first_line at bytes → rest ≡ drop size bytes
    → 1 ≤ length bytes → size_at bytes ≡ size → 1 ≤ size → after ++ lines (at + size) 0 rest ≡ whole
lines-next before after whole at size bytes rest is_whole is_after is_rest some e positive =
    ap (λ t. t ++ lines (at + size) 0 rest) is_after ∙ append_assoc before (first_line at bytes) (lines (at + size) 0 rest)
    ∙ ap (λ t. before ++ (first_line at bytes ++ lines (at + size) 0 t)) is_rest ∙ ap (λ t. before ++ t) (sym (lines-first at size bytes some e positive)) ∙ is_whole

pub lines-end : (before whole : List ℕ) (at : ℕ) (bytes : List ℕ) → before ++ lines at 0 bytes ≡ whole → length bytes ≡ 0 → before ≡ whole
lines-end before whole at bytes e none = sym (append-nil before) ∙ ap (λ t. before ++ t) (sym (lines-none at bytes none)) ∙ e

line_of_row : (at : ℕ) (i : Instr) (rest : List ℕ) → is_row i ≡ true → first_line at (spelling i ++ rest) ≡ line at (spelling i) (instruction at i)
line_of_row at i rest row = rw (decode_of_spelling i rest row, take_at (spelling i) rest (length (spelling i)) refl) refl

size_of_row : (i : Instr) (rest : List ℕ) → is_row i ≡ true → size_at (spelling i ++ rest) ≡ length (spelling i)
size_of_row i rest row = rw (decode_of_spelling i rest row) refl

pub row-is-listed : (at : ℕ) (i : Instr) (rest : List ℕ) → is_row i ≡ true
    → lines at 0 (spelling i ++ rest) ≡ line at (spelling i) (instruction at i) ++ lines (at + length (spelling i)) 0 rest
row-is-listed at i rest row =
    let words = spelling_words i in
    let some : 1 ≤ length (spelling i) = omega (arith, words.length, words.some) in
    let all : 1 ≤ length (spelling i ++ rest) = omega (arith, length-append (spelling i) rest, some) in
    lines-first at (length (spelling i)) (spelling i ++ rest) all (size_of_row i rest row) some
    ∙ ap (λ t. t ++ lines (at + length (spelling i)) 0 (drop (length (spelling i)) (spelling i ++ rest))) (line_of_row at i rest row)
    ∙ ap (λ t. line at (spelling i) (instruction at i) ++ lines (at + length (spelling i)) 0 t) (drop_at (spelling i) rest (length (spelling i)) refl)
