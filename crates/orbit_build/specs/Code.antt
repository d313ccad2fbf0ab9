-- The code of a unit of terms. A term leaves the word of its value in D0; a sum keeps that of its first operand in a static word.
use Rattle.std.specs.Prelude.{ℕ, ◌+◌, ◌*◌, List, [], ◌∷◌, ◌++◌, replicate, ℤ, pos, negsuc}
use Rattle.std.specs.List.{flat_map}
use Rattle.std.specs.Int.{w32, cast_unsigned}
use Rattle.m68020_code.specs.declared.instr.Ea.TheVariants.{D, Abs, Imm}
use Rattle.m68020_code.specs.declared.instr.Cond.TheVariants.{Vc}
use Rattle.m68020_code.specs.declared.instr.Width.TheVariants.{Byte}
use Rattle.m68020_code.specs.declared.instr.Instr.{Instr}
use Rattle.m68020_code.specs.declared.instr.Instr.TheVariants.{MoveL, Moveq, AddL, Bcc, Trap}
use Rattle.m68020_code.specs.Table.{spelling}
use Rattle.m68020_step.specs.declared.storage.TheConstants.{CODE_START, STATICS_START}
use Rattle.image_file.specs.Grammar.{Parts}
use Rattle.orbit_build.specs.Sums.{Term, Literal, Sum, most_open}

-- the word of a fixnum is four times it
abbrev pub word : ℤ → ℕ
word (pos n) = 4 * n
word (negsuc n) = cast_unsigned w32 (negsuc (4 * n + 3))

-- that of the empty list
abbrev pub empty_list : ℕ
empty_list = 5

-- the address of the static word in which the sum under so many others keeps its first operand
abbrev pub slot : ℕ → ℕ
slot depth = STATICS_START + 4 * depth

abbrev pub load : ℕ → Instr
load value = MoveL (Imm value) (D 0)

abbrev pub save : ℕ → Instr
save depth = MoveL (D 0) (Abs (slot depth))

-- the sum of the word kept and D0, or fault 7 where it overflows
abbrev pub add_saved : ℕ → List Instr
add_saved depth = MoveL (Abs (slot depth)) (D 1) ∷ AddL (D 1) 0 ∷ Bcc Vc Byte (pos 4) ∷ Moveq (pos 7) 0 ∷ Trap 3 ∷ []

abbrev pub bytes_of : List Instr → List ℕ
bytes_of code = flat_map spelling code

-- The bytes of a term under so many sums whose second operand it is part of.
abbrev pub term_code : ℕ → Term → List ℕ
term_code depth (Literal v) = spelling (load (word v))
term_code depth (Sum a b) = term_code depth a ++ (spelling (save depth) ++ (term_code (depth + 1) b ++ bytes_of (add_saved depth)))

abbrev pub terms_code : List Term → List ℕ
terms_code [] = []
terms_code (t ∷ ts) = term_code 0 t ++ terms_code ts

-- the empty list, then each term, then the end with what is in D0
abbrev pub unit_code : List Term → List ℕ
unit_code terms = spelling (load empty_list) ++ (terms_code terms ++ spelling (Trap 0))

-- one static word for each sum that may be open
abbrev pub statics_bytes : ℕ
statics_bytes = 4 * most_open

abbrev pub image_of : List Term → Parts
image_of terms = record { code = unit_code terms; statics = replicate statics_bytes 0; entry = CODE_START; names = [] }
