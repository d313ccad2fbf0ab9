-- Each item but the labels is an instruction of the table, or names a block that is there.
use Rattle.std.proofs.Common.{◌≡◌, ℕ, ◌*◌, ◌<◌, ◌^◌, ◌&&◌, nat_lt, Bool, true, false, ℤ, pos, List, [], ◌∷◌, ◌++◌, length, refl, ap, ◌∙◌, arith}
use Rattle.std.specs.Prelude.{if◌then◌else◌, min}
use Rattle.std.specs.List.{AllByRecursion}
use Rattle.std.proofs.lemmas.Bool.{lt-ltb}
use Rattle.t_base.specs.declared.basics.Var.{Var}
use Rattle.word_ir.specs.declared.operands.Operand.{Operand}
use Rattle.word_ir.specs.declared.operands.Operand.TheVariants as operand
use Rattle.word_ir.specs.declared.placed.Home.{Home}
use Rattle.word_ir.specs.declared.placed.Home.TheVariants as home
use Rattle.word_ir.specs.declared.words.Words.{Words}
use Rattle.word_ir.specs.Storage.{static_at}
use Rattle.word_ir.specs.Whole.{IsOperand}
use Rattle.m68020_code.specs.declared.instr.Ea.{Ea}
use Rattle.m68020_code.specs.declared.instr.Ea.TheVariants.{D, A, Ind, Post, Pre, Disp, Abs, Imm}
use Rattle.m68020_code.specs.declared.instr.Ea.TheVariants as ea
use Rattle.m68020_code.specs.declared.instr.Instr.TheVariants.{MoveL, MoveaL, Lea}
use Rattle.m68020_code.specs.Table.{is_row, is_all, is_data_mode, is_alter_mode}
use Rattle.m68020_asm.specs.declared.item.Item.{Item}
use Rattle.m68020_asm.specs.declared.item.Item.TheVariants.{Plain, Label, Branch, CodeAddr}
use Rattle.m68020_asm.specs.Items.{is_branch}
use Rattle.lap_items.specs.Homes.{home_of, at_home, put_into}
use Rattle.lap_items.specs.Operands.{index_d, index_a, slot_items, source_items, source_of, load_items, settling, settled, settled_items}
use Rattle.lap_items.specs.Storage.{is_near, far_items, from_register}

-- an item that is no label
abbrev pub IsCode : ℕ → Item → Type 0
IsCode blocks (Plain i) = (is_row i ≡ true) × (is_branch i ≡ false)
IsCode blocks (Label n) = ⊥
IsCode blocks (Branch cond n) = n < blocks
IsCode blocks (CodeAddr reg n) = (reg < 8) × (n < blocks)

abbrev pub AreCode : ℕ → List Item → Type 0
AreCode blocks items = AllByRecursion (IsCode blocks) items

pub code_append : (b : ℕ) (xs ys : List Item) → AreCode b xs → AreCode b ys → AreCode b (xs ++ ys)
code_append b [] ys p q = q
code_append b (x ∷ xs) ys p q = (p.0, code_append b xs ys p.1 q)

pub both : (x y : Bool) → x ≡ true → y ≡ true → (x && y) ≡ true
both x y p q = ap (λ t. t && y) p ∙ q

-- ---- homes

-- a register that there is
abbrev pub HasRegister : Home → Type 0
HasRegister (home.D i) = i < 8
HasRegister (home.A i) = i < 8
HasRegister (home.Stack n) = Unit {0}
HasRegister (home.Static place) = Unit {0}

pub all_at_home : (h : Home) → HasRegister h → is_all (at_home h) ≡ true
all_at_home (home.D i) has = lt-ltb i 8 has
all_at_home (home.A i) has = lt-ltb i 8 has
all_at_home (home.Stack n) has = lt-ltb (4 * min n 8191) 32768 (omega arith)
all_at_home (home.Static place) has = lt-ltb (static_at place) (2 ^ 32) (omega arith)

pub put_code : (b : ℕ) (e : Ea) (h : Home) → is_all e ≡ true → HasRegister h → IsCode b (put_into e h)
put_code b e (home.D i) p has = (both _ _ (both _ _ p (lt-ltb i 8 has)) refl, refl)
put_code b e (home.A i) p has = (both _ _ p (lt-ltb i 8 has), refl)
put_code b e (home.Stack n) p has = (both _ _ (both _ _ p (all_at_home (home.Stack n) tt)) refl, refl)
put_code b e (home.Static place) p has = (both _ _ (both _ _ p (all_at_home (home.Static place) tt)) refl, refl)

pub move_code : (b : ℕ) (e : Ea) (to : ℕ) → is_all e ≡ true → to < 8 → IsCode b (Plain (MoveL e (D to)))
move_code b e to p lt = (both _ _ (both _ _ p (lt-ltb to 8 lt)) refl, refl)

-- ---- operands

-- homes of variables are in registers that there are
abbrev pub HaveRegisters : List Home → Type 0
HaveRegisters homes = (v : Var) → HasRegister (home_of homes v)

pub slot_code : (b bytes : ℕ) → bytes < 2 ^ 32 → AreCode b (slot_items bytes)
slot_code b bytes lt = by (nat_lt bytes 32768) refl where
  by : (near : Bool) → nat_lt bytes 32768 ≡ near → AreCode b (if near then Plain (Lea (Disp 7 (pos bytes)) 3) ∷ [] else Plain (MoveaL (Imm bytes) 3) ∷ Plain (Lea (ea.Index 7 (index_a 3) (pos 0)) 3) ∷ [])
  by true e = ((both _ _ (both _ _ e refl) refl, refl), tt)
  by false e = ((both _ _ (lt-ltb bytes (2 ^ 32) lt) refl, refl), ((refl, refl), tt))

pub source_code : (words : Words) (x : Operand) → IsOperand words x → AreCode (length words.blocks.items) (source_items x)
source_code words (operand.Var v) is = tt
source_code words (operand.Word n) is = tt
source_code words (operand.Static place) is = tt
source_code words (operand.Code block) is = ((omega arith, is), tt)
source_code words (operand.Slot bytes) is = slot_code (length words.blocks.items) bytes is

pub source_all : (words : Words) (homes : List Home) (x : Operand) → HaveRegisters homes → IsOperand words x → is_all (source_of homes x) ≡ true
source_all words homes (operand.Var v) have is = all_at_home (home_of homes v) (have v)
source_all words homes (operand.Word n) have is = lt-ltb n (2 ^ 32) is
source_all words homes (operand.Static place) have is = lt-ltb (static_at place) (2 ^ 32) (omega arith)
source_all words homes (operand.Code block) have is = refl
source_all words homes (operand.Slot bytes) have is = refl

pub load_code : (words : Words) (homes : List Home) (x : Operand) (to : ℕ) → HaveRegisters homes → IsOperand words x → to < 8 → AreCode (length words.blocks.items) (load_items homes x to)
load_code words homes x to have is lt =
    code_append (length words.blocks.items) (source_items x) _ (source_code words x is) (move_code (length words.blocks.items) (source_of homes x) to (source_all words homes x have is) lt, tt)

settled_all : (e : Ea) → is_all e ≡ true → is_all (settled e) ≡ true
settled_all (A i) p = refl
settled_all (D i) p = p
settled_all (Ind i) p = p
settled_all (Post i) p = p
settled_all (Pre i) p = p
settled_all (Disp i disp) p = p
settled_all (ea.Index i x disp) p = p
settled_all (Abs at) p = p
settled_all (Imm n) p = p

settled_data : (e : Ea) → is_data_mode (settled e) ≡ true
settled_data (A i) = refl
settled_data (D i) = refl
settled_data (Ind i) = refl
settled_data (Post i) = refl
settled_data (Pre i) = refl
settled_data (Disp i disp) = refl
settled_data (ea.Index i x disp) = refl
settled_data (Abs at) = refl
settled_data (Imm n) = refl

-- as AND, OR and MULS want an operand
pub settled_mode : (e : Ea) → is_all e ≡ true → (is_all (settled e) && is_data_mode (settled e)) ≡ true
settled_mode e p = both _ _ (settled_all e p) (settled_data e)

settling_code : (b : ℕ) (e : Ea) → is_all e ≡ true → AreCode b (settling e)
settling_code b (A i) p = (move_code b (A i) 6 p (omega arith), tt)
settling_code b (D i) p = tt
settling_code b (Ind i) p = tt
settling_code b (Post i) p = tt
settling_code b (Pre i) p = tt
settling_code b (Disp i disp) p = tt
settling_code b (ea.Index i x disp) p = tt
settling_code b (Abs at) p = tt
settling_code b (Imm n) p = tt

pub settled_code : (words : Words) (homes : List Home) (x : Operand) → HaveRegisters homes → IsOperand words x → AreCode (length words.blocks.items) (settled_items homes x)
settled_code words homes x have is =
    code_append (length words.blocks.items) (source_items x) _ (source_code words x is) (settling_code (length words.blocks.items) (source_of homes x) (source_all words homes x have is))

-- ---- storage

pub far_code : (b : ℕ) (z : ℤ) (long : ℕ) → long < 2 ^ 32 → AreCode b (far_items z long)
far_code b z long lt = by (is_near z) where
  by : (near : Bool) → AreCode b (if near then [] else Plain (MoveL (Imm long) (D 6)) ∷ [])
  by true = tt
  by false = (move_code b (Imm long) 6 (lt-ltb long (2 ^ 32) lt) (omega arith), tt)

pub register_all : (base : ℕ) (z : ℤ) → base < 8 → is_all (from_register base z) ≡ true
register_all base z lt = by (is_near z) refl where
  by : (near : Bool) → is_near z ≡ near → is_all (if near then Disp base z else ea.Index base (index_d 6) (pos 0)) ≡ true
  by true e = both _ _ (lt-ltb base 8 lt) e
  by false e = both _ _ (both _ _ (lt-ltb base 8 lt) refl) refl

pub register_alter : (base : ℕ) (z : ℤ) → is_alter_mode (from_register base z) ≡ true
register_alter base z = by (is_near z) where
  by : (near : Bool) → is_alter_mode (if near then Disp base z else ea.Index base (index_d 6) (pos 0)) ≡ true
  by true = refl
  by false = refl
