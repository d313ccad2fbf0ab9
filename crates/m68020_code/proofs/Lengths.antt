-- How many bytes an instruction has.
use Rattle.std.proofs.Common.{◌≡◌, ℕ, ◌+◌, ◌*◌, ◌≤◌, List, ◌∷◌, ◌++◌, length, refl, arith}
use Rattle.std.proofs.lemmas.List.{length-append}
use Rattle.std.specs.Prelude.{ℤ}
use Rattle.m68020_code.specs.declared.instr.Ea.{Ea}
use Rattle.m68020_code.specs.declared.instr.Ea.TheVariants.{D, A, Ind, Post, Pre, Disp, Abs, Imm}
use Rattle.m68020_code.specs.declared.instr.Ea.TheVariants as ea
use Rattle.m68020_code.specs.declared.instr.Width.{Width}
use Rattle.m68020_code.specs.declared.instr.Width.TheVariants.{Byte, Word, Long}
use Rattle.m68020_code.specs.declared.instr.Instr.{Instr}
use Rattle.m68020_code.specs.declared.instr.Instr.TheVariants.{MoveL, MoveB, MoveaL, Moveq, Lea, Jmp, Trap, Nop, Illegal, AddL, SubL, AndL, OrL, CmpL, AddaL, SubaL, CmpaL, AddqL, SubqL, TstL, ClrL, AddiL, AndiL, CmpiL, ExgD, ExgA, ExgDA, AslL, AsrL, MulsL, DivslL, Bcc}
use Rattle.m68020_code.specs.Table.{four, extension, byte_extension, width_bytes, spelling}

-- so many words
pub record IsWords (bytes : List ℕ) (least most : ℕ) : Type 0 where
  pub count : ℕ
  pub length : length bytes ≡ 2 * count
  pub small : count ≤ most
  pub some : least ≤ count

extension_words : (e : Ea) → IsWords (extension e) 0 2
extension_words (D r) = record { count = 0; length = refl; small = omega arith; some = omega arith }
extension_words (A r) = record { count = 0; length = refl; small = omega arith; some = omega arith }
extension_words (Ind r) = record { count = 0; length = refl; small = omega arith; some = omega arith }
extension_words (Post r) = record { count = 0; length = refl; small = omega arith; some = omega arith }
extension_words (Pre r) = record { count = 0; length = refl; small = omega arith; some = omega arith }
extension_words (Disp r disp) = record { count = 1; length = refl; small = omega arith; some = omega arith }
extension_words (ea.Index base x disp) = record { count = 1; length = refl; small = omega arith; some = omega arith }
extension_words (Abs at) = record { count = 2; length = refl; small = omega arith; some = omega arith }
extension_words (Imm v) = record { count = 2; length = refl; small = omega arith; some = omega arith }

byte_extension_words : (e : Ea) → IsWords (byte_extension e) 0 2
byte_extension_words (D r) = record { count = 0; length = refl; small = omega arith; some = omega arith }
byte_extension_words (A r) = record { count = 0; length = refl; small = omega arith; some = omega arith }
byte_extension_words (Ind r) = record { count = 0; length = refl; small = omega arith; some = omega arith }
byte_extension_words (Post r) = record { count = 0; length = refl; small = omega arith; some = omega arith }
byte_extension_words (Pre r) = record { count = 0; length = refl; small = omega arith; some = omega arith }
byte_extension_words (Disp r disp) = record { count = 1; length = refl; small = omega arith; some = omega arith }
byte_extension_words (ea.Index base x disp) = record { count = 1; length = refl; small = omega arith; some = omega arith }
byte_extension_words (Abs at) = record { count = 2; length = refl; small = omega arith; some = omega arith }
byte_extension_words (Imm v) = record { count = 1; length = refl; small = omega arith; some = omega arith }

-- a word, and an operand's words behind it
operand_words : (a b : ℕ) (e : Ea) → IsWords (a ∷ b ∷ extension e) 1 5
operand_words a b e = let w = extension_words e in record { count = w.count + 1; length = omega (arith, w.length); small = omega (arith, w.small); some = omega arith }

-- two words, and an operand's words behind them
long_operand_words : (a b c d : ℕ) (e : Ea) → IsWords (a ∷ b ∷ c ∷ d ∷ extension e) 1 5
long_operand_words a b c d e = let w = extension_words e in record { count = w.count + 2; length = omega (arith, w.length); small = omega (arith, w.small); some = omega arith }

-- a word, a long word, and an operand's words behind them
immediate_words : (a b v : ℕ) (e : Ea) → IsWords (a ∷ b ∷ (four v ++ extension e)) 1 5
immediate_words a b v e = let w = extension_words e in record { count = w.count + 3; length = omega (arith, w.length); small = omega (arith, w.small); some = omega arith }

two_operands_words : (a b : ℕ) (s : List ℕ) (e : Ea) → IsWords s 0 2 → IsWords (a ∷ b ∷ (s ++ extension e)) 1 5
two_operands_words a b s e v = let w = extension_words e in record { count = v.count + w.count + 1; length = omega (arith, w.length, v.length, length-append s (extension e)); small = omega (arith, w.small, v.small); some = omega arith }

branch_words : (a : ℕ) (width : Width) (disp : ℤ) → IsWords (a ∷ width_bytes width disp) 1 5
branch_words a Byte disp = record { count = 1; length = refl; small = omega arith; some = omega arith }
branch_words a Word disp = record { count = 2; length = refl; small = omega arith; some = omega arith }
branch_words a Long disp = record { count = 3; length = refl; small = omega arith; some = omega arith }

-- one to five words
pub spelling_words : (i : Instr) → IsWords (spelling i) 1 5
spelling_words (MoveL from to) = two_operands_words _ _ (extension from) to (extension_words from)
spelling_words (MoveB from to) = two_operands_words _ _ (byte_extension from) to (byte_extension_words from)
spelling_words (MoveaL from to) = operand_words _ _ from
spelling_words (Moveq value to) = record { count = 1; length = refl; small = omega arith; some = omega arith }
spelling_words (Lea from to) = operand_words _ _ from
spelling_words (Jmp to) = operand_words _ _ to
spelling_words (Trap v) = record { count = 1; length = refl; small = omega arith; some = omega arith }
spelling_words Nop = record { count = 1; length = refl; small = omega arith; some = omega arith }
spelling_words Illegal = record { count = 1; length = refl; small = omega arith; some = omega arith }
spelling_words (AddL from to) = operand_words _ _ from
spelling_words (SubL from to) = operand_words _ _ from
spelling_words (AndL from to) = operand_words _ _ from
spelling_words (OrL from to) = operand_words _ _ from
spelling_words (CmpL from to) = operand_words _ _ from
spelling_words (AddaL from to) = operand_words _ _ from
spelling_words (SubaL from to) = operand_words _ _ from
spelling_words (CmpaL from to) = operand_words _ _ from
spelling_words (AddqL count to) = operand_words _ _ to
spelling_words (SubqL count to) = operand_words _ _ to
spelling_words (TstL to) = operand_words _ _ to
spelling_words (ClrL to) = operand_words _ _ to
spelling_words (AddiL value to) = immediate_words _ _ value to
spelling_words (AndiL value to) = immediate_words _ _ value to
spelling_words (CmpiL value to) = immediate_words _ _ value to
spelling_words (ExgD x y) = record { count = 1; length = refl; small = omega arith; some = omega arith }
spelling_words (ExgA x y) = record { count = 1; length = refl; small = omega arith; some = omega arith }
spelling_words (ExgDA d a) = record { count = 1; length = refl; small = omega arith; some = omega arith }
spelling_words (AslL count to) = record { count = 1; length = refl; small = omega arith; some = omega arith }
spelling_words (AsrL count to) = record { count = 1; length = refl; small = omega arith; some = omega arith }
spelling_words (MulsL from to) = long_operand_words _ _ _ _ from
spelling_words (DivslL from quotient remainder) = long_operand_words _ _ _ _ from
spelling_words (Bcc cond width disp) = branch_words _ width disp
