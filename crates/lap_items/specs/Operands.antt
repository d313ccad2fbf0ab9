-- Operands: where their words are for an instruction, and the items that have to run before. These change A3 alone.
use Rattle.std.specs.Prelude.{ℕ, nat_lt, true, false, if◌then◌else◌, pos, List, [], ◌∷◌, ◌++◌}
use Rattle.word_ir.specs.declared.operands.Operand.{Operand}
use Rattle.word_ir.specs.declared.operands.Operand.TheVariants as operand
use Rattle.word_ir.specs.declared.placed.Home.{Home}
use Rattle.word_ir.specs.Storage.{static_at}
use Rattle.m68020_code.specs.declared.instr.Index.{Index}
use Rattle.m68020_code.specs.declared.instr.Ea.{Ea}
use Rattle.m68020_code.specs.declared.instr.Ea.TheVariants.{D, A, Ind, Post, Pre, Disp, Abs, Imm}
use Rattle.m68020_code.specs.declared.instr.Ea.TheVariants as ea
use Rattle.m68020_code.specs.declared.instr.Instr.TheVariants.{MoveL, MoveaL, Lea}
use Rattle.m68020_asm.specs.declared.item.Item.{Item}
use Rattle.m68020_asm.specs.declared.item.Item.TheVariants.{Plain, CodeAddr}
use Rattle.lap_items.specs.Homes.{home_of, at_home}

-- all of a register as an index, by the byte
abbrev pub index_d : ℕ → Index
index_d i = record { address = false; reg = i; long = true; scale = 0 }

abbrev pub index_a : ℕ → Index
index_a i = record { address = true; reg = i; long = true; scale = 0 }

-- The address of a byte of the stack goes into A3 by one LEA on A7.
abbrev pub slot_items : ℕ → List Item
slot_items bytes =
    if nat_lt bytes 32768 then Plain (Lea (Disp 7 (pos bytes)) 3) ∷ []
    else Plain (MoveaL (Imm bytes) 3) ∷ Plain (Lea (ea.Index 7 (index_a 3) (pos 0)) 3) ∷ []

abbrev pub source_items : Operand → List Item
source_items (operand.Var v) = []
source_items (operand.Word n) = []
source_items (operand.Static place) = []
source_items (operand.Code block) = CodeAddr 3 block ∷ []
source_items (operand.Slot bytes) = slot_items bytes

abbrev pub source_of : List Home → Operand → Ea
source_of homes (operand.Var v) = at_home (home_of homes v)
source_of homes (operand.Word n) = Imm n
source_of homes (operand.Static place) = Imm (static_at place)
source_of homes (operand.Code block) = A 3
source_of homes (operand.Slot bytes) = A 3

-- into a data register
abbrev pub load_items : List Home → Operand → ℕ → List Item
load_items homes x to = source_items x ++ Plain (MoveL (source_of homes x) (D to)) ∷ []

-- ---- operands of instructions that take no address register: such a one goes to D6 first

abbrev pub settling : Ea → List Item
settling (A i) = Plain (MoveL (A i) (D 6)) ∷ []
settling (D i) = []
settling (Ind i) = []
settling (Post i) = []
settling (Pre i) = []
settling (Disp i disp) = []
settling (ea.Index i x disp) = []
settling (Abs at) = []
settling (Imm n) = []

abbrev pub settled : Ea → Ea
settled (A i) = D 6
settled (D i) = D i
settled (Ind i) = Ind i
settled (Post i) = Post i
settled (Pre i) = Pre i
settled (Disp i disp) = Disp i disp
settled (ea.Index i x disp) = ea.Index i x disp
settled (Abs at) = Abs at
settled (Imm n) = Imm n

abbrev pub settled_items : List Home → Operand → List Item
settled_items homes x = source_items x ++ settling (source_of homes x)
