-- The text of an instruction: its mnemonic and its operands, source first.
use Rattle.std.specs.Prelude.{ℕ, zero, suc, ◌+◌, ◌/◌, ◌%◌, ◌^◌, Bool, true, false, nat_lt, if◌then◌else◌, List, [], ◌∷◌, ◌++◌, ℤ, pos, codes}
use Rattle.std.specs.List.{flat_map}
use Rattle.std.specs.Fmt.{signed_decimal}
use Rattle.std.specs.Int.{w8, w32, cast_signed, cast_unsigned}
use Rattle.m68020_code.specs.declared.instr.Index.{Index}
use Rattle.m68020_code.specs.declared.instr.Ea.{Ea}
use Rattle.m68020_code.specs.declared.instr.Ea.TheVariants.{D, A, Ind, Post, Pre, Disp, Abs, Imm}
use Rattle.m68020_code.specs.declared.instr.Ea.TheVariants as ea
use Rattle.m68020_code.specs.declared.instr.Cond.{Cond}
use Rattle.m68020_code.specs.declared.instr.Cond.TheVariants.{Bra, Hi, Ls, Cc, Cs, Ne, Eq, Vc, Vs, Pl, Mi, Ge, Lt, Gt, Le}
use Rattle.m68020_code.specs.declared.instr.Width.{Width}
use Rattle.m68020_code.specs.declared.instr.Width.TheVariants.{Byte, Word, Long}
use Rattle.m68020_code.specs.declared.instr.Instr.{Instr}
use Rattle.m68020_code.specs.declared.instr.Instr.TheVariants.{MoveL, MoveB, MoveaL, Moveq, Lea, Jmp, Trap, Nop, Illegal, AddL, SubL, AndL, OrL, CmpL, AddaL, SubaL, CmpaL, AddqL, SubqL, TstL, ClrL, AddiL, AndiL, CmpiL, ExgD, ExgA, ExgDA, AslL, AsrL, MulsL, DivslL, Bcc}
use Rattle.m68020_code.specs.Table.{four}

-- ---- digits

-- a digit of base 16, in upper case
abbrev pub hex_digit : ℕ → ℕ
hex_digit d = if nat_lt d 10 then 48 + d else 55 + d

abbrev pub hex_byte : ℕ → List ℕ
hex_byte b = hex_digit (b / 16) ∷ hex_digit (b % 16) ∷ []

-- two digits a byte
abbrev pub hex : List ℕ → List ℕ
hex bytes = flat_map hex_byte bytes

-- the eight digits of an address
unfoldable pub address : ℕ → List ℕ
address at = hex (four at)

-- ---- operands

-- a register of data or of addresses, by its number
abbrev pub data_register : ℕ → List ℕ
data_register r = codes "D" ++ (48 + r) ∷ []

abbrev pub address_register : ℕ → List ℕ
address_register r = codes "A" ++ (48 + r) ∷ []

abbrev pub indirect : ℕ → List ℕ
indirect r = codes "(" ++ (address_register r ++ codes ")")

-- the register of an index
abbrev pub index_register : Bool → ℕ → List ℕ
index_register true r = address_register r
index_register false r = data_register r

-- its size and the factor 1, 2, 4 or 8 by which it is multiplied
abbrev pub index_size : Bool → List ℕ
index_size true = codes ".L*"
index_size false = codes ".W*"

abbrev pub factor : ℕ → List ℕ
factor zero = codes "1"
factor (suc zero) = codes "2"
factor (suc (suc zero)) = codes "4"
factor (suc (suc (suc n))) = codes "8"

abbrev pub index : Index → List ℕ
index x = index_register x.address x.reg ++ (index_size x.long ++ factor x.scale)

-- a displacement and its base, which an index follows
abbrev pub base_of : ℤ → ℕ → List ℕ
base_of disp base = signed_decimal disp ++ (codes "(" ++ address_register base)

-- immediate data, with its sign
abbrev pub immediate : ℤ → List ℕ
immediate value = codes "#" ++ signed_decimal value

abbrev pub operand : Ea → List ℕ
operand (D r) = data_register r
operand (A r) = address_register r
operand (Ind r) = indirect r
operand (Post r) = indirect r ++ codes "+"
operand (Pre r) = codes "-" ++ indirect r
operand (Disp r disp) = signed_decimal disp ++ indirect r
operand (ea.Index base x disp) = base_of disp base ++ (codes "," ++ (index x ++ codes ")"))
operand (Abs at) = codes "$" ++ (address at ++ codes ".L")
operand (Imm v) = immediate (cast_signed w32 v)

-- the same of a MOVE.B, whose immediate data is a byte
abbrev pub byte_operand : Ea → List ℕ
byte_operand (D r) = operand (D r)
byte_operand (A r) = operand (A r)
byte_operand (Ind r) = operand (Ind r)
byte_operand (Post r) = operand (Post r)
byte_operand (Pre r) = operand (Pre r)
byte_operand (Disp r disp) = operand (Disp r disp)
byte_operand (ea.Index base x disp) = operand (ea.Index base x disp)
byte_operand (Abs at) = operand (Abs at)
byte_operand (Imm v) = immediate (cast_signed w8 v)

-- ---- instructions

abbrev pub branch_name : Cond → List ℕ
branch_name Bra = codes "BRA"
branch_name Hi = codes "BHI"
branch_name Ls = codes "BLS"
branch_name Cc = codes "BCC"
branch_name Cs = codes "BCS"
branch_name Ne = codes "BNE"
branch_name Eq = codes "BEQ"
branch_name Vc = codes "BVC"
branch_name Vs = codes "BVS"
branch_name Pl = codes "BPL"
branch_name Mi = codes "BMI"
branch_name Ge = codes "BGE"
branch_name Lt = codes "BLT"
branch_name Gt = codes "BGT"
branch_name Le = codes "BLE"

abbrev pub width_name : Width → List ℕ
width_name Byte = codes ".B"
width_name Word = codes ".W"
width_name Long = codes ".L"

-- where a branch at this address leads to: its displacement counts from the address plus 2
abbrev pub target : ℕ → ℤ → ℕ
target at disp = (at + 2 + cast_unsigned w32 disp) % 2 ^ 32

-- a mnemonic with one operand, and with two
abbrev pub one : List ℕ → List ℕ → List ℕ
one mnemonic a = mnemonic ++ (codes " " ++ a)

abbrev pub two : List ℕ → List ℕ → List ℕ → List ℕ
two mnemonic a b = mnemonic ++ (codes " " ++ (a ++ (codes "," ++ b)))

-- a line a mnemonic; the address is the instruction's
abbrev pub instruction : ℕ → Instr → List ℕ
instruction at (MoveL from to) = two (codes "MOVE.L") (operand from) (operand to)
instruction at (MoveB from to) = two (codes "MOVE.B") (byte_operand from) (operand to)
instruction at (MoveaL from to) = two (codes "MOVEA.L") (operand from) (operand (A to))
instruction at (Moveq value to) = two (codes "MOVEQ") (immediate value) (operand (D to))
instruction at (Lea from to) = two (codes "LEA") (operand from) (operand (A to))
instruction at (Jmp to) = one (codes "JMP") (operand to)
instruction at (Trap v) = one (codes "TRAP") (immediate (pos v))
instruction at Nop = codes "NOP"
instruction at Illegal = codes "ILLEGAL"
instruction at (AddL from to) = two (codes "ADD.L") (operand from) (operand (D to))
instruction at (SubL from to) = two (codes "SUB.L") (operand from) (operand (D to))
instruction at (AndL from to) = two (codes "AND.L") (operand from) (operand (D to))
instruction at (OrL from to) = two (codes "OR.L") (operand from) (operand (D to))
instruction at (CmpL from to) = two (codes "CMP.L") (operand from) (operand (D to))
instruction at (AddaL from to) = two (codes "ADDA.L") (operand from) (operand (A to))
instruction at (SubaL from to) = two (codes "SUBA.L") (operand from) (operand (A to))
instruction at (CmpaL from to) = two (codes "CMPA.L") (operand from) (operand (A to))
instruction at (AddqL count to) = two (codes "ADDQ.L") (immediate (pos count)) (operand to)
instruction at (SubqL count to) = two (codes "SUBQ.L") (immediate (pos count)) (operand to)
instruction at (TstL to) = one (codes "TST.L") (operand to)
instruction at (ClrL to) = one (codes "CLR.L") (operand to)
instruction at (AddiL value to) = two (codes "ADDI.L") (immediate (cast_signed w32 value)) (operand to)
instruction at (AndiL value to) = two (codes "ANDI.L") (immediate (cast_signed w32 value)) (operand to)
instruction at (CmpiL value to) = two (codes "CMPI.L") (immediate (cast_signed w32 value)) (operand to)
instruction at (ExgD x y) = two (codes "EXG") (operand (D x)) (operand (D y))
instruction at (ExgA x y) = two (codes "EXG") (operand (A x)) (operand (A y))
instruction at (ExgDA d a) = two (codes "EXG") (operand (D d)) (operand (A a))
instruction at (AslL count to) = two (codes "ASL.L") (immediate (pos count)) (operand (D to))
instruction at (AsrL count to) = two (codes "ASR.L") (immediate (pos count)) (operand (D to))
instruction at (MulsL from to) = two (codes "MULS.L") (operand from) (operand (D to))
instruction at (DivslL from quotient remainder) = two (codes "DIVSL.L") (operand from) (operand (D remainder) ++ (codes ":" ++ operand (D quotient)))
instruction at (Bcc cond width disp) = one (branch_name cond ++ width_name width) (codes "$" ++ address (target at disp))
