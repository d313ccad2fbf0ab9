-- Services of the monitor. One that goes on leaves D0 as it was.
use Rattle.std.specs.Prelude.{ℕ, ◌==◌, Bool, false, if◌then◌else◌, pos, List, [], ◌∷◌, ◌++◌}
use Rattle.word_ir.specs.declared.operands.Operand.{Operand}
use Rattle.word_ir.specs.declared.operands.Operand.TheVariants as operand
use Rattle.word_ir.specs.declared.placed.Home.{Home}
use Rattle.m68020_code.specs.declared.instr.Ea.TheVariants.{D, A}
use Rattle.m68020_code.specs.declared.instr.Instr.TheVariants.{MoveL, Moveq, SubL, Trap, Illegal}
use Rattle.m68020_asm.specs.declared.item.Item.{Item}
use Rattle.m68020_asm.specs.declared.item.Item.TheVariants.{Plain}
use Rattle.lap_items.specs.Operands.{source_items, source_of, load_items}

-- where a service has other operands than it takes
abbrev pub no_service : List Item
no_service = Plain Illegal ∷ []

-- the operand in D0
unfoldable pub with_one_items : List Home → ℕ → List Operand → List Item
with_one_items homes number [] = no_service
with_one_items homes number (a ∷ []) =
    Plain (MoveL (D 0) (D 7)) ∷ source_items a ++ Plain (MoveL (source_of homes a) (D 0)) ∷ Plain (Trap number) ∷ Plain (MoveL (D 7) (D 0)) ∷ []
with_one_items homes number (a ∷ b ∷ rest) = no_service

-- the number of a fault in D0, and a fixnum in D1
unfoldable pub fault_items : List Home → List Operand → List Item
fault_items homes [] = no_service
fault_items homes (a ∷ []) = load_items homes a 0 ++ Plain (Trap 3) ∷ []
fault_items homes (a ∷ b ∷ []) = load_items homes b 6 ++ load_items homes a 7 ++ Plain (MoveL (D 6) (D 1)) ∷ Plain (MoveL (D 7) (D 0)) ∷ Plain (Trap 3) ∷ []
fault_items homes (a ∷ b ∷ c ∷ rest) = no_service

abbrev pub is_one : Operand → Bool
is_one (operand.Word n) = n == 1
is_one (operand.Var v) = false
is_one (operand.Static place) = false
is_one (operand.Code block) = false
is_one (operand.Slot bytes) = false

-- the bytes that are left of the heap, or of the stack, in D1; and which of them it is in D2
abbrev pub left_items : Bool → List Item
left_items stack =
    if stack then Plain (MoveL (A 7) (D 1)) ∷ Plain (SubL (A 5) 1) ∷ Plain (Moveq (pos 1) 2) ∷ []
    else Plain (MoveL (A 6) (D 1)) ∷ Plain (SubL (A 4) 1) ∷ Plain (Moveq (pos 0) 2) ∷ []

-- what was asked in D0
unfoldable pub full_items : List Home → List Operand → List Item
full_items homes [] = no_service
full_items homes (a ∷ []) = no_service
full_items homes (a ∷ kind ∷ []) = load_items homes a 0 ++ left_items (is_one kind) ++ Plain (Trap 4) ∷ []
full_items homes (a ∷ b ∷ c ∷ rest) = no_service

unfoldable pub service_items : List Home → ℕ → List Operand → List Item
service_items homes number args =
    if number == 3 then fault_items homes args
    else if number == 4 then full_items homes args
    else with_one_items homes number args
