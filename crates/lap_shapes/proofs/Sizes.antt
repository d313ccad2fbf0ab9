-- How many bytes operands, operations and ends take at most.
use Rattle.std.proofs.Common.{◌≡◌, ℕ, zero, suc, ◌+◌, ◌*◌, ◌/◌, ◌%◌, ◌≤◌, ◌==◌, nat_lt, nat_le, Bool, true, false, ℤ, pos, negsuc, ◌+ℤ◌, List, [], ◌∷◌, ◌++◌, length, refl, ap, arith, inl, inr, length-append}
use Rattle.std.specs.Prelude.{if◌then◌else◌, min}
use Rattle.std.proofs.lemmas.Bool.{leb-true, cases_lt}
use Rattle.word_ir.specs.declared.operands.Operand.{Operand}
use Rattle.word_ir.specs.declared.operands.Operand.TheVariants as operand
use Rattle.word_ir.specs.declared.placed.Home.{Home}
use Rattle.word_ir.specs.declared.placed.Home.TheVariants as home
use Rattle.word_ir.specs.declared.words.Arith.{Arith}
use Rattle.word_ir.specs.declared.words.Arith.TheVariants as arith
use Rattle.word_ir.specs.declared.words.WordOp.{WordOp}
use Rattle.word_ir.specs.declared.words.WordOp.TheVariants as op
use Rattle.m68020_code.specs.declared.instr.Width.TheVariants.{Long}
use Rattle.m68020_code.specs.declared.instr.Ea.{Ea}
use Rattle.m68020_code.specs.declared.instr.Ea.TheVariants.{D, A, Ind, Post, Pre, Disp, Abs, Imm}
use Rattle.m68020_code.specs.declared.instr.Ea.TheVariants as ea
use Rattle.m68020_code.specs.declared.instr.Instr.TheVariants.{MoveL, MoveB, MoveaL, Moveq, Lea, Trap, AddL, SubL, AndL, OrL, CmpL, AddaL, AddiL, MulsL, DivslL}
use Rattle.m68020_code.specs.declared.instr.Cond.TheVariants.{Cs, Vs}
use Rattle.m68020_code.specs.Table.{extension, fits}
use Rattle.m68020_step.specs.Word.{sum_of, unsigned}
use Rattle.m68020_asm.specs.declared.item.Item.{Item}
use Rattle.m68020_asm.specs.declared.item.Item.TheVariants.{Plain, Branch}
use Rattle.m68020_asm.specs.Items.{size_of}
use Rattle.lap_items.specs.Homes.{home_of, at_home, put_into}
use Rattle.lap_items.specs.Operands.{index_d, index_a, slot_items, source_items, source_of, load_items, settling, settled, settled_items}
use Rattle.lap_items.specs.Storage.{is_near, far_items, from_register, base_items, base_of, access_items, access_of, read_items, kept_items, kept_of, write_items, index_items, byte_base_items, byte_of, read_byte_items}
use Rattle.lap_items.specs.Arithmetic.{left_shift, right_shift, repeated, left_items, right_items, shift_items, computing_items, result_in, arith_items}
use Rattle.lap_items.specs.Services.{with_one_items, fault_items, is_one, left_items as room_items, full_items, service_items}
use Rattle.lap_items.specs.Operations.{move_items, take_items, push_items, op_items}
use Rattle.lap_shapes.specs.Sizes.{shift_bytes, arith_bytes, op_bytes}

-- with the widest branches
abbrev pub bytes_in : List Item → ℕ
bytes_in [] = 0
bytes_in (i ∷ items) = size_of i Long + bytes_in items

pub bytes_append : (xs ys : List Item) → bytes_in (xs ++ ys) ≡ bytes_in xs + bytes_in ys
bytes_append [] ys = omega arith
bytes_append (x ∷ xs) ys = omega (arith, bytes_append xs ys)

-- ---- operands of instructions

-- the bytes of an operand behind the first word
abbrev pub behind : Ea → ℕ
behind e = length (extension e)

pub behind_most : (e : Ea) → behind e ≤ 4
behind_most (D i) = omega arith
behind_most (A i) = omega arith
behind_most (Ind i) = omega arith
behind_most (Post i) = omega arith
behind_most (Pre i) = omega arith
behind_most (Disp i disp) = omega arith
behind_most (ea.Index i x disp) = omega arith
behind_most (Abs at) = omega arith
behind_most (Imm n) = omega arith

pub move_bytes : (e t : Ea) → size_of (Plain (MoveL e t)) Long ≡ 2 + behind e + behind t
move_bytes e t = omega (arith, length-append (extension e) (extension t))

pub put_bytes : (e : Ea) (h : Home) → size_of (put_into e h) Long ≤ 6 + behind e
put_bytes e (home.D i) = omega (arith, move_bytes e (D i))
put_bytes e (home.A i) = omega arith
put_bytes e (home.Stack n) = omega (arith, move_bytes e (at_home (home.Stack n)), behind_most (at_home (home.Stack n)))
put_bytes e (home.Static place) = omega (arith, move_bytes e (at_home (home.Static place)), behind_most (at_home (home.Static place)))

-- ---- operands

slot_bytes : (n : ℕ) → bytes_in (slot_items n) ≤ 10
slot_bytes n = by (nat_lt n 32768) where
  by : (near : Bool) → bytes_in (if near then Plain (Lea (Disp 7 (pos n)) 3) ∷ [] else Plain (MoveaL (Imm n) 3) ∷ Plain (Lea (ea.Index 7 (index_a 3) (pos 0)) 3) ∷ []) ≤ 10
  by true = omega arith
  by false = omega arith

pub source_bytes : (homes : List Home) (x : Operand) → bytes_in (source_items x) + behind (source_of homes x) ≤ 10
source_bytes homes (operand.Var v) = omega (arith, behind_most (at_home (home_of homes v)))
source_bytes homes (operand.Word n) = omega arith
source_bytes homes (operand.Static place) = omega arith
source_bytes homes (operand.Code block) = omega arith
source_bytes homes (operand.Slot n) = omega (arith, slot_bytes n)

pub load_bytes : (homes : List Home) (x : Operand) (to : ℕ) → bytes_in (load_items homes x to) ≤ 12
load_bytes homes x to = omega (arith, bytes_append (source_items x) (Plain (MoveL (source_of homes x) (D to)) ∷ []), move_bytes (source_of homes x) (D to), source_bytes homes x)

settling_bytes : (e : Ea) → bytes_in (settling e) + behind (settled e) ≤ 2 + behind e
settling_bytes (A i) = omega arith
settling_bytes (D i) = omega arith
settling_bytes (Ind i) = omega arith
settling_bytes (Post i) = omega arith
settling_bytes (Pre i) = omega arith
settling_bytes (Disp i disp) = omega arith
settling_bytes (ea.Index i x disp) = omega arith
settling_bytes (Abs at) = omega arith
settling_bytes (Imm n) = omega arith

settled_bytes : (homes : List Home) (x : Operand) → bytes_in (settled_items homes x) + behind (settled (source_of homes x)) ≤ 12
settled_bytes homes x = omega (arith, bytes_append (source_items x) (settling (source_of homes x)), source_bytes homes x, settling_bytes (source_of homes x))

-- ---- storage

far_bytes : (z : ℤ) (long : ℕ) → bytes_in (far_items z long) ≤ 6
far_bytes z long = by (is_near z) where
  by : (near : Bool) → bytes_in (if near then [] else Plain (MoveL (Imm long) (D 6)) ∷ []) ≤ 6
  by true = omega arith
  by false = omega arith

register_behind : (base : ℕ) (z : ℤ) → behind (from_register base z) ≤ 2
register_behind base z = by (is_near z) where
  by : (near : Bool) → behind (if near then Disp base z else ea.Index base (index_d 6) (pos 0)) ≤ 2
  by true = omega arith
  by false = omega arith

base_bytes : (h : Home) → bytes_in (base_items h) ≤ 6
base_bytes (home.D i) = omega arith
base_bytes (home.A i) = omega arith
base_bytes (home.Stack n) = omega (arith, behind_most (at_home (home.Stack n)))
base_bytes (home.Static place) = omega (arith, behind_most (at_home (home.Static place)))

access_bytes : (homes : List Home) (x : Operand) (z : ℤ) → bytes_in (access_items homes x z) + behind (access_of homes x z) ≤ 14
unfolding access_items access_of
access_bytes homes (operand.Word n) z = omega arith
access_bytes homes (operand.Static place) z = omega arith
access_bytes homes (operand.Slot n) z = omega (arith, far_bytes (pos n +ℤ z) (sum_of n (unsigned z)), register_behind 7 (pos n +ℤ z))
access_bytes homes (operand.Var v) z =
    omega (arith, bytes_append (base_items (home_of homes v)) (far_items z (unsigned z)), base_bytes (home_of homes v), far_bytes z (unsigned z), register_behind (base_of (home_of homes v)) z)
access_bytes homes (operand.Code block) z = omega (arith, far_bytes z (unsigned z), register_behind 3 z)

kept_bytes : (homes : List Home) (x : Operand) → bytes_in (kept_items homes x) + behind (kept_of homes x) ≤ 12
unfolding kept_items kept_of
kept_bytes homes (operand.Code block) = omega (arith, load_bytes homes (operand.Code block) 7)
kept_bytes homes (operand.Slot n) = omega (arith, load_bytes homes (operand.Slot n) 7)
kept_bytes homes (operand.Var v) = omega (arith, behind_most (source_of homes (operand.Var v)))
kept_bytes homes (operand.Word n) = omega arith
kept_bytes homes (operand.Static place) = omega arith

index_bytes : (z : ℤ) (long : ℕ) → bytes_in (index_items z long) ≤ 6
index_bytes z long = by (fits 128 z) where
  by : (near : Bool) → bytes_in (if near then [] else Plain (AddiL long (D 7)) ∷ []) ≤ 6
  by true = omega arith
  by false = omega arith

byte_base_bytes : (homes : List Home) (x : Operand) (z : ℤ) → bytes_in (byte_base_items homes x z) ≤ 12
unfolding byte_base_items
byte_base_bytes homes (operand.Slot n) z = omega (arith, index_bytes (pos n +ℤ z) (sum_of n (unsigned z)))
byte_base_bytes homes (operand.Var v) z = omega (arith, behind_most (source_of homes (operand.Var v)), index_bytes z (unsigned z))
byte_base_bytes homes (operand.Word n) z = omega (arith, index_bytes z (unsigned z))
byte_base_bytes homes (operand.Static p) z = omega (arith, index_bytes z (unsigned z))
byte_base_bytes homes (operand.Code block) z = omega (arith, index_bytes z (unsigned z))

byte_bytes : (x : Operand) (z : ℤ) → size_of (Plain (MoveB (byte_of x z) (D 6))) Long ≤ 4
unfolding byte_of
byte_bytes (operand.Slot n) z = omega arith
byte_bytes (operand.Var v) z = omega arith
byte_bytes (operand.Word n) z = omega arith
byte_bytes (operand.Static p) z = omega arith
byte_bytes (operand.Code block) z = omega arith

-- ---- arithmetic

repeated_bytes : (items : List Item) (n most : ℕ) → bytes_in items ≤ most → bytes_in (repeated items n) ≤ n * most
repeated_bytes items zero most few = omega arith
repeated_bytes items (suc n) most few = omega (arith, bytes_append (repeated items n) items, repeated_bytes items n most few)

rest_bytes : (items : List Item) (n most : ℕ) → bytes_in items ≤ most → bytes_in (if n == 0 then [] else items) ≤ most
rest_bytes items n most few = by (n == 0) where
  by : (none : Bool) → bytes_in (if none then [] else items) ≤ most
  by true = omega arith
  by false = few

-- at most 8 bits
lefts_small : (over n : ℕ) → n ≤ 8 → bytes_in (left_items over n) ≤ 8
lefts_small over n small = elim (cases_lt n 8) [
  | inl less ↦
      let none : n / 8 ≡ 0 = omega (arith, less) in
      let items : List Item = left_shift over (n % 8) in
      omega (arith, bytes_append (repeated (left_shift over 8) (n / 8)) (if n % 8 == 0 then [] else items), rest_bytes items (n % 8) 8 (omega arith), ap (λ k. bytes_in (repeated (left_shift over 8) k)) none)
  | inr eight ↦
      let is : n ≡ 8 = omega (arith, eight) in
      rw is (omega arith)
]

lefts_bytes : (over n : ℕ) → n ≤ 32 → bytes_in (left_items over n) ≤ 32
lefts_bytes over n few = elim (cases_lt n 32) [
  | inl less ↦
      let items : List Item = left_shift over (n % 8) in
      let eights : n / 8 ≤ 3 = omega (arith, less) in
      omega (arith, bytes_append (repeated (left_shift over 8) (n / 8)) (if n % 8 == 0 then [] else items), repeated_bytes (left_shift over 8) (n / 8) 8 (omega arith), rest_bytes items (n % 8) 8 (omega arith), eights)
  | inr most ↦ let is : n ≡ 32 = omega (arith, most) in rw is (omega arith)
]

rights_bytes : (n : ℕ) → n ≤ 31 → bytes_in (right_items n) ≤ 8
rights_bytes n few =
    let eights : n / 8 ≤ 3 = omega arith in
    omega (arith, bytes_append (repeated (right_shift 8) (n / 8)) (if n % 8 == 0 then [] else right_shift (n % 8)), repeated_bytes (right_shift 8) (n / 8) 2 (omega arith), rest_bytes (right_shift (n % 8)) (n % 8) 2 (omega arith), eights)

shifts_bytes : (over : ℕ) (z : ℤ) → bytes_in (shift_items z over) + 18 ≤ shift_bytes z
shifts_bytes over (pos n) = by (nat_le n 8) refl where
  by : (small : Bool) → nat_le n 8 ≡ small → bytes_in (left_items over (min n 32)) + 18 ≤ (if small then 26 else 50)
  by true e =
      let few : n ≤ 8 = leb-true n 8 e in
      omega (arith, lefts_small over (min n 32) (omega (arith, few)))
  by false e = omega (arith, lefts_bytes over (min n 32) (omega arith))
shifts_bytes over (negsuc n) = omega (arith, rights_bytes (min (n + 1) 31) (omega arith))

computing_bytes : (homes : List Home) (kind : Arith) (x : Operand) (over : ℕ) → bytes_in (computing_items homes kind x over) + 18 ≤ arith_bytes kind
unfolding computing_items
computing_bytes homes arith.Add x over = omega (arith, bytes_append (source_items x) (Plain (AddL (source_of homes x) 7) ∷ Branch Vs over ∷ []), source_bytes homes x)
computing_bytes homes arith.Sub x over = omega (arith, bytes_append (source_items x) (Plain (SubL (source_of homes x) 7) ∷ Branch Vs over ∷ []), source_bytes homes x)
computing_bytes homes arith.Mul x over = omega (arith, bytes_append (settled_items homes x) (Plain (MulsL (settled (source_of homes x)) 7) ∷ Branch Vs over ∷ []), settled_bytes homes x)
computing_bytes homes arith.Quotient x over = omega (arith, bytes_append (load_items homes x 6) (Plain (DivslL (D 6) 7 6) ∷ Branch Vs over ∷ []), load_bytes homes x 6)
computing_bytes homes arith.Remainder x over = omega (arith, bytes_append (load_items homes x 6) (Plain (DivslL (D 6) 7 6) ∷ Branch Vs over ∷ []), load_bytes homes x 6)
computing_bytes homes (arith.Shift z) x over = shifts_bytes over z
computing_bytes homes arith.And x over = omega (arith, bytes_append (settled_items homes x) (Plain (AndL (settled (source_of homes x)) 7) ∷ []), settled_bytes homes x)
computing_bytes homes arith.Or x over = omega (arith, bytes_append (settled_items homes x) (Plain (OrL (settled (source_of homes x)) 7) ∷ []), settled_bytes homes x)

-- ---- services

room_bytes : (stack : Bool) → bytes_in (room_items stack) ≤ 6
room_bytes true = omega arith
room_bytes false = omega arith

with_one_bytes : (homes : List Home) (number : ℕ) (args : List Operand) → bytes_in (with_one_items homes number args) ≤ 30
unfolding with_one_items
with_one_bytes homes number [] = omega arith
with_one_bytes homes number (a ∷ []) =
    omega (arith, bytes_append (source_items a) (Plain (MoveL (source_of homes a) (D 0)) ∷ Plain (Trap number) ∷ Plain (MoveL (D 7) (D 0)) ∷ []), move_bytes (source_of homes a) (D 0), source_bytes homes a)
with_one_bytes homes number (a ∷ b ∷ rest) = omega arith

fault_bytes : (homes : List Home) (args : List Operand) → bytes_in (fault_items homes args) ≤ 30
unfolding fault_items
fault_bytes homes [] = omega arith
fault_bytes homes (a ∷ []) = omega (arith, bytes_append (load_items homes a 0) (Plain (Trap 3) ∷ []), load_bytes homes a 0)
fault_bytes homes (a ∷ b ∷ []) =
    omega (
      arith,
      bytes_append (load_items homes b 6 ++ load_items homes a 7) (Plain (MoveL (D 6) (D 1)) ∷ Plain (MoveL (D 7) (D 0)) ∷ Plain (Trap 3) ∷ []),
      bytes_append (load_items homes b 6) (load_items homes a 7),
      load_bytes homes b 6,
      load_bytes homes a 7,
    )
fault_bytes homes (a ∷ b ∷ c ∷ rest) = omega arith

full_bytes : (homes : List Home) (args : List Operand) → bytes_in (full_items homes args) ≤ 30
unfolding full_items
full_bytes homes [] = omega arith
full_bytes homes (a ∷ []) = omega arith
full_bytes homes (a ∷ kind ∷ []) =
    omega (arith, bytes_append (load_items homes a 0 ++ room_items (is_one kind)) (Plain (Trap 4) ∷ []), bytes_append (load_items homes a 0) (room_items (is_one kind)), load_bytes homes a 0, room_bytes (is_one kind))
full_bytes homes (a ∷ b ∷ c ∷ rest) = omega arith

service_bytes : (homes : List Home) (number : ℕ) (args : List Operand) → bytes_in (service_items homes number args) ≤ 30
unfolding service_items
service_bytes homes number args = by (number == 3) (number == 4) where
  by : (x y : Bool) → bytes_in (if x then fault_items homes args else if y then full_items homes args else with_one_items homes number args) ≤ 30
  by true y = fault_bytes homes args
  by false true = full_bytes homes args
  by false false = with_one_bytes homes number args

-- ---- operations

take_bytes : (homes : List Home) (to : Home) (bytes : Operand) (full : ℕ) → bytes_in (take_items homes to bytes full) ≤ 34
unfolding take_items
take_bytes homes to bytes full =
    omega (
      arith,
      bytes_append (load_items homes bytes 6) (Plain (MoveL (A 6) (D 7)) ∷ Plain (SubL (A 4) 7) ∷ Plain (CmpL (D 6) 7) ∷ Branch Cs full ∷ Plain (MoveL (A 4) (D 7)) ∷ Plain (AddaL (D 6) 4) ∷ put_into (D 7) to ∷ []),
      load_bytes homes bytes 6,
      put_bytes (D 7) to,
    )

pub ops_within : (homes : List Home) (o : WordOp) → bytes_in (op_items homes o) ≤ op_bytes o
unfolding op_items move_items read_items read_byte_items write_items arith_items take_items push_items
ops_within homes (op.Move to from) = omega (arith, bytes_append (source_items from) (put_into (source_of homes from) (home_of homes to) ∷ []), put_bytes (source_of homes from) (home_of homes to), source_bytes homes from)
ops_within homes (op.Load to base offset) =
    omega (arith, bytes_append (access_items homes base offset) (put_into (access_of homes base offset) (home_of homes to) ∷ []), put_bytes (access_of homes base offset) (home_of homes to), access_bytes homes base offset)
ops_within homes (op.LoadByte to base index offset) =
    omega (
      arith,
      bytes_append (load_items homes index 7 ++ byte_base_items homes base offset) (Plain (Moveq (pos 0) 6) ∷ Plain (MoveB (byte_of base offset) (D 6)) ∷ put_into (D 6) (home_of homes to) ∷ []),
      bytes_append (load_items homes index 7) (byte_base_items homes base offset),
      load_bytes homes index 7,
      byte_base_bytes homes base offset,
      byte_bytes base offset,
      put_bytes (D 6) (home_of homes to),
    )
ops_within homes (op.Store base offset from) =
    omega (
      arith,
      bytes_append (kept_items homes from ++ access_items homes base offset) (Plain (MoveL (kept_of homes from) (access_of homes base offset)) ∷ []),
      bytes_append (kept_items homes from) (access_items homes base offset),
      move_bytes (kept_of homes from) (access_of homes base offset),
      kept_bytes homes from,
      access_bytes homes base offset,
    )
ops_within homes (op.Arith to kind a b over) =
    omega (
      arith,
      bytes_append (load_items homes a 7 ++ computing_items homes kind b over) (put_into (D (result_in kind)) (home_of homes to) ∷ []),
      bytes_append (load_items homes a 7) (computing_items homes kind b over),
      load_bytes homes a 7,
      computing_bytes homes kind b over,
      put_bytes (D (result_in kind)) (home_of homes to),
    )
ops_within homes (op.Take to bytes full) = take_bytes homes (home_of homes to) bytes full
ops_within homes (op.Push words full) = omega arith
ops_within homes (op.Pop words) = omega arith
ops_within homes (op.Service number args) = service_bytes homes number args
ops_within homes (op.Reset to) = omega (arith, bytes_append (source_items to) (Plain (MoveaL (source_of homes to) 7) ∷ []), source_bytes homes to)
