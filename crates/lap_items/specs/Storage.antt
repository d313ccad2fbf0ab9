-- Words of storage as operands: the address of an operand's word and so many bytes from there. The items that have to run before
-- change A3 and D6 alone. The register that holds the address is its base, so that its stamp is the address's own.
use Rattle.std.specs.Prelude.{ℕ, Bool, if◌then◌else◌, ℤ, pos, ◌+ℤ◌, List, [], ◌∷◌, ◌++◌}
use Rattle.word_ir.specs.declared.operands.Operand.{Operand}
use Rattle.word_ir.specs.declared.operands.Operand.TheVariants as operand
use Rattle.word_ir.specs.declared.placed.Home.{Home}
use Rattle.word_ir.specs.declared.placed.Home.TheVariants as home
use Rattle.word_ir.specs.Storage.{static_at}
use Rattle.m68020_code.specs.declared.instr.Ea.{Ea}
use Rattle.m68020_code.specs.declared.instr.Ea.TheVariants.{D, A, Disp, Abs, Imm}
use Rattle.m68020_code.specs.declared.instr.Ea.TheVariants as ea
use Rattle.m68020_code.specs.declared.instr.Instr.TheVariants.{MoveL, MoveB, MoveaL, Moveq, AddiL}
use Rattle.m68020_code.specs.Table.{fits}
use Rattle.m68020_step.specs.Word.{sum_of, unsigned}
use Rattle.m68020_asm.specs.declared.item.Item.{Item}
use Rattle.m68020_asm.specs.declared.item.Item.TheVariants.{Plain, CodeAddr}
use Rattle.lap_items.specs.Homes.{home_of, at_home, put_into}
use Rattle.lap_items.specs.Operands.{index_d, source_of, load_items}

-- a displacement is near where 16 bits with a sign hold it
abbrev pub is_near : ℤ → Bool
is_near z = fits 32768 z

-- ---- so far from the address in a register

-- a distance that isn't near goes into D6, as a long word
abbrev pub far_items : ℤ → ℕ → List Item
far_items offset long = if is_near offset then [] else Plain (MoveL (Imm long) (D 6)) ∷ []

abbrev pub from_register : ℕ → ℤ → Ea
from_register base offset = if is_near offset then Disp base offset else ea.Index base (index_d 6) (pos 0)

-- the register with the address that a home holds
abbrev pub base_items : Home → List Item
base_items (home.A i) = []
base_items (home.D i) = Plain (MoveaL (D i) 3) ∷ []
base_items (home.Stack n) = Plain (MoveaL (at_home (home.Stack n)) 3) ∷ []
base_items (home.Static place) = Plain (MoveaL (at_home (home.Static place)) 3) ∷ []

abbrev pub base_of : Home → ℕ
base_of (home.A i) = i
base_of (home.D i) = 3
base_of (home.Stack n) = 3
base_of (home.Static place) = 3

-- ---- words

unfoldable pub access_items : List Home → Operand → ℤ → List Item
access_items homes (operand.Word n) offset = []
access_items homes (operand.Static place) offset = []
access_items homes (operand.Slot bytes) offset = far_items (pos bytes +ℤ offset) (sum_of bytes (unsigned offset))
access_items homes (operand.Var v) offset = base_items (home_of homes v) ++ far_items offset (unsigned offset)
access_items homes (operand.Code block) offset = CodeAddr 3 block ∷ far_items offset (unsigned offset)

unfoldable pub access_of : List Home → Operand → ℤ → Ea
access_of homes (operand.Word n) offset = Abs (sum_of n (unsigned offset))
access_of homes (operand.Static place) offset = Abs (sum_of (static_at place) (unsigned offset))
access_of homes (operand.Slot bytes) offset = from_register 7 (pos bytes +ℤ offset)
access_of homes (operand.Var v) offset = from_register (base_of (home_of homes v)) offset
access_of homes (operand.Code block) offset = from_register 3 offset

unfoldable pub read_items : List Home → Operand → ℤ → Home → List Item
read_items homes base offset to = access_items homes base offset ++ put_into (access_of homes base offset) to ∷ []

-- a word that is made in A3 goes to D7 before the address is made
unfoldable pub kept_items : List Home → Operand → List Item
kept_items homes (operand.Code block) = load_items homes (operand.Code block) 7
kept_items homes (operand.Slot bytes) = load_items homes (operand.Slot bytes) 7
kept_items homes (operand.Var v) = []
kept_items homes (operand.Word n) = []
kept_items homes (operand.Static place) = []

unfoldable pub kept_of : List Home → Operand → Ea
kept_of homes (operand.Code block) = D 7
kept_of homes (operand.Slot bytes) = D 7
kept_of homes (operand.Var v) = source_of homes (operand.Var v)
kept_of homes (operand.Word n) = source_of homes (operand.Word n)
kept_of homes (operand.Static place) = source_of homes (operand.Static place)

unfoldable pub write_items : List Home → Operand → ℤ → Operand → List Item
write_items homes base offset from =
    kept_items homes from ++ access_items homes base offset ++ Plain (MoveL (kept_of homes from) (access_of homes base offset)) ∷ []

-- ---- bytes, with the index in D7

-- a distance that doesn't fit 8 bits with a sign is added to the index, as a long word
abbrev pub index_items : ℤ → ℕ → List Item
index_items offset long = if fits 128 offset then [] else Plain (AddiL long (D 7)) ∷ []

abbrev pub short_of : ℤ → ℤ
short_of offset = if fits 128 offset then offset else pos 0

-- the address goes into A3, or is so far from A7
unfoldable pub byte_base_items : List Home → Operand → ℤ → List Item
byte_base_items homes (operand.Slot bytes) offset = index_items (pos bytes +ℤ offset) (sum_of bytes (unsigned offset))
byte_base_items homes (operand.Var v) offset = Plain (MoveaL (source_of homes (operand.Var v)) 3) ∷ index_items offset (unsigned offset)
byte_base_items homes (operand.Word n) offset = Plain (MoveaL (source_of homes (operand.Word n)) 3) ∷ index_items offset (unsigned offset)
byte_base_items homes (operand.Static place) offset = Plain (MoveaL (source_of homes (operand.Static place)) 3) ∷ index_items offset (unsigned offset)
byte_base_items homes (operand.Code block) offset = CodeAddr 3 block ∷ index_items offset (unsigned offset)

unfoldable pub byte_of : Operand → ℤ → Ea
byte_of (operand.Slot bytes) offset = ea.Index 7 (index_d 7) (short_of (pos bytes +ℤ offset))
byte_of (operand.Var v) offset = ea.Index 3 (index_d 7) (short_of offset)
byte_of (operand.Word n) offset = ea.Index 3 (index_d 7) (short_of offset)
byte_of (operand.Static place) offset = ea.Index 3 (index_d 7) (short_of offset)
byte_of (operand.Code block) offset = ea.Index 3 (index_d 7) (short_of offset)

unfoldable pub read_byte_items : List Home → Operand → Operand → ℤ → Home → List Item
read_byte_items homes base index offset to =
    load_items homes index 7 ++ byte_base_items homes base offset
    ++ Plain (Moveq (pos 0) 6) ∷ Plain (MoveB (byte_of base offset) (D 6)) ∷ put_into (D 6) to ∷ []
