-- Laws of spellings, for proofs above.
use Rattle.std.proofs.Common.{◌≡◌, ℕ, ◌-◌, true, List, [], ◌++◌, length, Some, refl, sym, ap, ◌∙◌, arith}
use Rattle.std.proofs.lemmas.List.{length-append, append-nil}
use Rattle.std.proofs.lemmas.Option.{some_pair_parts}
use Rattle.m68020_code.specs.declared.instr.Instr.{Instr}
use Rattle.m68020_code.specs.Table.{is_row, spelling}
use Rattle.m68020_code.specs.Reading.{instr_at, decode_of}
use Rattle.m68020_code.proofs.Again.{again}

-- a row is read from its own bytes, whatever follows them
pub decode_of_spelling : (i : Instr) (rest : List ℕ) → is_row i ≡ true → decode_of (spelling i ++ rest) ≡ Some (i, length (spelling i))
decode_of_spelling i rest row =
    let len : length (spelling i ++ rest) - length rest ≡ length (spelling i) = omega (arith, length-append (spelling i) rest) in
    rw (again i rest row, len) refl

-- two rows whose bytes begin one text are the same row, with the same bytes behind it
pub same_front : (i j : Instr) (rest after : List ℕ) → is_row i ≡ true → is_row j ≡ true → spelling i ++ rest ≡ spelling j ++ after → (i ≡ j) × (rest ≡ after)
same_front i j rest after row_i row_j e =
    some_pair_parts i j rest after (sym (again i rest row_i) ∙ ap instr_at e ∙ again j after row_j)

-- a row whose bytes begin with another's is that row
pub no_proper_prefix : (i j : Instr) (more : List ℕ) → is_row i ≡ true → is_row j ≡ true → spelling j ≡ spelling i ++ more → (i ≡ j) × (more ≡ [])
no_proper_prefix i j more row_i row_j e = same_front i j more [] row_i row_j (sym e ∙ sym (append-nil (spelling j)))
