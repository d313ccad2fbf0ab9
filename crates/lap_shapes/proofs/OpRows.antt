-- The items of operations are instructions of the table, and branches to blocks that are there.
use Rattle.std.proofs.Common.{◌≡◌, ℕ, ◌+◌, ◌/◌, ◌<◌, ◌≤◌, ◌%◌, ◌^◌, ◌==◌, ◌&&◌, ◌||◌, nat_lt, Bool, true, false, ℤ, pos, negsuc, ◌+ℤ◌, List, [], ◌∷◌, ◌++◌, length, zero, suc, refl, arith}
use Rattle.std.specs.Prelude.{if◌then◌else◌, min}
use Rattle.std.specs.List.{AllByRecursion}
use Rattle.std.proofs.lemmas.Bool.{lt-ltb, ltb-true, le-leb, eqb-true, eqb-false, and_parts}
use Rattle.word_ir.specs.declared.operands.Operand.{Operand}
use Rattle.word_ir.specs.declared.operands.Operand.TheVariants as operand
use Rattle.word_ir.specs.declared.placed.Home.{Home}
use Rattle.word_ir.specs.declared.placed.Home.TheVariants as home
use Rattle.word_ir.specs.declared.words.Arith.{Arith}
use Rattle.word_ir.specs.declared.words.Arith.TheVariants as arith
use Rattle.word_ir.specs.declared.words.WordOp.{WordOp}
use Rattle.word_ir.specs.declared.words.WordOp.TheVariants as op
use Rattle.word_ir.specs.declared.words.Words.{Words}
use Rattle.word_ir.specs.Lines.{op_operands, op_exits}
use Rattle.word_ir.specs.Storage.{static_at}
use Rattle.word_ir.specs.Whole.{IsOperand, is_signed, is_op_sized, is_op_shaped, is_service, is_bit}
use Rattle.m68020_code.specs.declared.instr.Ea.TheVariants.{D, A, Abs, Imm}
use Rattle.m68020_code.specs.declared.instr.Ea.TheVariants as ea
use Rattle.m68020_code.specs.declared.instr.Instr.TheVariants.{MoveB, AddiL}
use Rattle.m68020_code.specs.Table.{is_row, is_all, is_alter_mode, fits, counts}
use Rattle.m68020_step.specs.Word.{sum_of, unsigned}
use Rattle.m68020_asm.specs.declared.item.Item.{Item}
use Rattle.m68020_asm.specs.declared.item.Item.TheVariants.{Plain}
use Rattle.lap_items.specs.Homes.{home_of}
use Rattle.lap_items.specs.Operands.{index_d, source_items, source_of, load_items, settled_items}
use Rattle.lap_items.specs.Storage.{far_items, base_items, base_of, access_items, access_of, read_items, kept_items, kept_of, write_items, index_items, short_of, byte_base_items, byte_of, read_byte_items}
use Rattle.lap_items.specs.Arithmetic.{left_shift, right_shift, repeated, left_items, right_items, shift_items, computing_items, result_in, arith_items}
use Rattle.lap_items.specs.Services.{no_service, with_one_items, fault_items, is_one, left_items as room_items, full_items, service_items}
use Rattle.lap_items.specs.Operations.{move_items, take_items, bytes_of_words, push_items, op_items}
use Rattle.lap_shapes.proofs.Rows.{IsCode, AreCode, code_append, both, HasRegister, HaveRegisters, all_at_home, put_code, move_code, source_code, source_all, load_code, settled_mode, settled_code, far_code, register_all, register_alter}

count : Words → ℕ
count words = length words.blocks.items

pub offset_long : (z : ℤ) → is_signed (2 ^ 31) z ≡ true → unsigned z < 2 ^ 32
offset_long (pos n) e = omega (arith, ltb-true n (2 ^ 31) e)
offset_long (negsuc n) e = omega (arith, ltb-true n (2 ^ 31) e)

-- ---- words of storage

base_lt : (h : Home) → HasRegister h → base_of h < 8
base_lt (home.D i) has = omega arith
base_lt (home.A i) has = has
base_lt (home.Stack n) has = omega arith
base_lt (home.Static place) has = omega arith

base_code : (b : ℕ) (h : Home) → HasRegister h → AreCode b (base_items h)
base_code b (home.D i) has = ((both _ _ (lt-ltb i 8 has) refl, refl), tt)
base_code b (home.A i) has = tt
base_code b (home.Stack n) has = ((both _ _ (all_at_home (home.Stack n) tt) refl, refl), tt)
base_code b (home.Static place) has = ((both _ _ (all_at_home (home.Static place) tt) refl, refl), tt)

access_code : (words : Words) (homes : List Home) (x : Operand) (z : ℤ) → HaveRegisters homes → IsOperand words x → is_signed (2 ^ 31) z ≡ true → AreCode (length words.blocks.items) (access_items homes x z)
unfolding access_items
access_code words homes (operand.Word n) z have is e = tt
access_code words homes (operand.Static place) z have is e = tt
access_code words homes (operand.Slot bytes) z have is e = far_code (length words.blocks.items) (pos bytes +ℤ z) (sum_of bytes (unsigned z)) (omega arith)
access_code words homes (operand.Var v) z have is e =
    code_append (length words.blocks.items) (base_items (home_of homes v)) (far_items z (unsigned z)) (base_code (length words.blocks.items) (home_of homes v) (have v)) (far_code (length words.blocks.items) z (unsigned z) (offset_long z e))
access_code words homes (operand.Code block) z have is e = ((omega arith, is), far_code (length words.blocks.items) z (unsigned z) (offset_long z e))

access_all : (homes : List Home) (x : Operand) (z : ℤ) → HaveRegisters homes → is_all (access_of homes x z) ≡ true
unfolding access_of
access_all homes (operand.Word n) z have = lt-ltb (sum_of n (unsigned z)) (2 ^ 32) (omega arith)
access_all homes (operand.Static place) z have = lt-ltb (sum_of (static_at place) (unsigned z)) (2 ^ 32) (omega arith)
access_all homes (operand.Slot bytes) z have = register_all 7 (pos bytes +ℤ z) (omega arith)
access_all homes (operand.Var v) z have = register_all (base_of (home_of homes v)) z (base_lt (home_of homes v) (have v))
access_all homes (operand.Code block) z have = register_all 3 z (omega arith)

access_alter : (homes : List Home) (x : Operand) (z : ℤ) → is_alter_mode (access_of homes x z) ≡ true
unfolding access_of
access_alter homes (operand.Word n) z = refl
access_alter homes (operand.Static place) z = refl
access_alter homes (operand.Slot bytes) z = register_alter 7 (pos bytes +ℤ z)
access_alter homes (operand.Var v) z = register_alter (base_of (home_of homes v)) z
access_alter homes (operand.Code block) z = register_alter 3 z

kept_code : (words : Words) (homes : List Home) (x : Operand) → HaveRegisters homes → IsOperand words x → AreCode (length words.blocks.items) (kept_items homes x)
unfolding kept_items
kept_code words homes (operand.Code block) have is = load_code words homes (operand.Code block) 7 have is (omega arith)
kept_code words homes (operand.Slot bytes) have is = load_code words homes (operand.Slot bytes) 7 have is (omega arith)
kept_code words homes (operand.Var v) have is = tt
kept_code words homes (operand.Word n) have is = tt
kept_code words homes (operand.Static place) have is = tt

kept_all : (words : Words) (homes : List Home) (x : Operand) → HaveRegisters homes → IsOperand words x → is_all (kept_of homes x) ≡ true
unfolding kept_of
kept_all words homes (operand.Code block) have is = refl
kept_all words homes (operand.Slot bytes) have is = refl
kept_all words homes (operand.Var v) have is = source_all words homes (operand.Var v) have is
kept_all words homes (operand.Word n) have is = source_all words homes (operand.Word n) have is
kept_all words homes (operand.Static place) have is = source_all words homes (operand.Static place) have is

-- ---- bytes of storage

index_code : (b : ℕ) (z : ℤ) (long : ℕ) → long < 2 ^ 32 → AreCode b (index_items z long)
index_code b z long lt = by (fits 128 z) where
  by : (near : Bool) → AreCode b (if near then [] else Plain (AddiL long (D 7)) ∷ [])
  by true = tt
  by false = ((both _ _ (both _ _ (lt-ltb long (2 ^ 32) lt) refl) refl, refl), tt)

byte_base_code : (words : Words) (homes : List Home) (x : Operand) (z : ℤ) → HaveRegisters homes → IsOperand words x → is_signed (2 ^ 31) z ≡ true → AreCode (length words.blocks.items) (byte_base_items homes x z)
unfolding byte_base_items
byte_base_code words homes (operand.Slot bytes) z have is e = index_code (length words.blocks.items) (pos bytes +ℤ z) (sum_of bytes (unsigned z)) (omega arith)
byte_base_code words homes (operand.Var v) z have is e = ((both _ _ (source_all words homes (operand.Var v) have is) refl, refl), index_code (length words.blocks.items) z (unsigned z) (offset_long z e))
byte_base_code words homes (operand.Word n) z have is e = ((both _ _ (source_all words homes (operand.Word n) have is) refl, refl), index_code (length words.blocks.items) z (unsigned z) (offset_long z e))
byte_base_code words homes (operand.Static p) z have is e = ((both _ _ (source_all words homes (operand.Static p) have is) refl, refl), index_code (length words.blocks.items) z (unsigned z) (offset_long z e))
byte_base_code words homes (operand.Code block) z have is e = ((omega arith, is), index_code (length words.blocks.items) z (unsigned z) (offset_long z e))

short_fits : (z : ℤ) → fits 128 (short_of z) ≡ true
short_fits z = by (fits 128 z) refl where
  by : (near : Bool) → fits 128 z ≡ near → fits 128 (if near then z else pos 0) ≡ true
  by true e = e
  by false e = refl

byte_row : (base : ℕ) (z : ℤ) → nat_lt base 8 ≡ true → is_row (MoveB (ea.Index base (index_d 7) (short_of z)) (D 6)) ≡ true
byte_row base z e = both _ _ (both _ _ (both _ _ (both _ _ (both _ _ (both _ _ e refl) (short_fits z)) refl) refl) refl) refl

byte_code : (b : ℕ) (x : Operand) (z : ℤ) → IsCode b (Plain (MoveB (byte_of x z) (D 6)))
unfolding byte_of
byte_code b (operand.Slot bytes) z = (byte_row 7 (pos bytes +ℤ z) refl, refl)
byte_code b (operand.Var v) z = (byte_row 3 z refl, refl)
byte_code b (operand.Word n) z = (byte_row 3 z refl, refl)
byte_code b (operand.Static p) z = (byte_row 3 z refl, refl)
byte_code b (operand.Code block) z = (byte_row 3 z refl, refl)

-- ---- arithmetic

shift_row : (n : ℕ) → 1 ≤ n → n ≤ 8 → counts n ≡ true
shift_row n p q = both _ _ (le-leb 1 n p) (le-leb n 8 q)

left_code : (b over n : ℕ) → over < b → 1 ≤ n → n ≤ 8 → AreCode b (left_shift over n)
left_code b over n lt p q = ((both _ _ (shift_row n p q) refl, refl), (lt, tt))

right_code : (b n : ℕ) → 1 ≤ n → n ≤ 8 → AreCode b (right_shift n)
right_code b n p q = ((both _ _ (shift_row n p q) refl, refl), tt)

repeated_code : (b : ℕ) (items : List Item) (n : ℕ) → AreCode b items → AreCode b (repeated items n)
repeated_code b items zero are = tt
repeated_code b items (suc n) are = code_append b (repeated items n) items (repeated_code b items n are) are

-- what is left of a count, if anything is
left_over : (b : ℕ) (items : List Item) (n : ℕ) → (1 ≤ n → AreCode b items) → AreCode b (if n == 0 then [] else items)
left_over b items n are = by (n == 0) refl where
  by : (none : Bool) → (n == 0) ≡ none → AreCode b (if none then [] else items)
  by true e = tt
  by false e = are (omega (arith, eqb-false n 0 e))

lefts_code : (b over n : ℕ) → over < b → AreCode b (left_items over n)
lefts_code b over n lt =
    code_append b (repeated (left_shift over 8) (n / 8)) _ (repeated_code b (left_shift over 8) (n / 8) (left_code b over 8 lt (omega arith) (omega arith)))
    (left_over b (left_shift over (n % 8)) (n % 8) (λ some. left_code b over (n % 8) lt some (omega arith)))

rights_code : (b n : ℕ) → AreCode b (right_items n)
rights_code b n =
    code_append b (repeated (right_shift 8) (n / 8)) _ (repeated_code b (right_shift 8) (n / 8) (right_code b 8 (omega arith) (omega arith)))
    (left_over b (right_shift (n % 8)) (n % 8) (λ some. right_code b (n % 8) some (omega arith)))

shift_code : (b over : ℕ) (z : ℤ) → over < b → AreCode b (shift_items z over)
shift_code b over (pos n) lt = lefts_code b over (min n 32) lt
shift_code b over (negsuc n) lt = rights_code b (min (n + 1) 31)

computing_code : (words : Words) (homes : List Home) (kind : Arith) (x : Operand) (over : ℕ) → HaveRegisters homes → IsOperand words x → over < length words.blocks.items
    → AreCode (length words.blocks.items) (computing_items homes kind x over)
unfolding computing_items
computing_code words homes arith.Add x over have is lt = code_append (length words.blocks.items) (source_items x) _ (source_code words x is) ((both _ _ (source_all words homes x have is) refl, refl), (lt, tt))
computing_code words homes arith.Sub x over have is lt = code_append (length words.blocks.items) (source_items x) _ (source_code words x is) ((both _ _ (source_all words homes x have is) refl, refl), (lt, tt))
computing_code words homes arith.Mul x over have is lt =
    code_append (length words.blocks.items) (settled_items homes x) _ (settled_code words homes x have is) ((both _ _ (settled_mode (source_of homes x) (source_all words homes x have is)) refl, refl), (lt, tt))
computing_code words homes arith.Quotient x over have is lt = code_append (length words.blocks.items) (load_items homes x 6) _ (load_code words homes x 6 have is (omega arith)) ((refl, refl), (lt, tt))
computing_code words homes arith.Remainder x over have is lt = code_append (length words.blocks.items) (load_items homes x 6) _ (load_code words homes x 6 have is (omega arith)) ((refl, refl), (lt, tt))
computing_code words homes (arith.Shift z) x over have is lt = shift_code (length words.blocks.items) over z lt
computing_code words homes arith.And x over have is lt =
    code_append (length words.blocks.items) (settled_items homes x) _ (settled_code words homes x have is) ((both _ _ (settled_mode (source_of homes x) (source_all words homes x have is)) refl, refl), tt)
computing_code words homes arith.Or x over have is lt =
    code_append (length words.blocks.items) (settled_items homes x) _ (settled_code words homes x have is) ((both _ _ (settled_mode (source_of homes x) (source_all words homes x have is)) refl, refl), tt)

result_all : (kind : Arith) → is_all (D (result_in kind)) ≡ true
result_all arith.Remainder = refl
result_all arith.Add = refl
result_all arith.Sub = refl
result_all arith.Mul = refl
result_all arith.Quotient = refl
result_all (arith.Shift z) = refl
result_all arith.And = refl
result_all arith.Or = refl

-- ---- services

no_service_code : (b : ℕ) → AreCode b no_service
no_service_code b = ((refl, refl), tt)

room_code : (b : ℕ) (stack : Bool) → AreCode b (room_items stack)
room_code b true = ((refl, refl), ((refl, refl), ((refl, refl), tt)))
room_code b false = ((refl, refl), ((refl, refl), ((refl, refl), tt)))

with_one_code : (words : Words) (homes : List Home) (number : ℕ) (args : List Operand) → HaveRegisters homes → AllByRecursion (IsOperand words) args → number < 16 → AreCode (length words.blocks.items) (with_one_items homes number args)
unfolding with_one_items
with_one_code words homes number [] have are lt = no_service_code (length words.blocks.items)
with_one_code words homes number (a ∷ []) have are lt = (
  (refl, refl),
  code_append (length words.blocks.items) (source_items a) _ (source_code words a are.0)
      (move_code (length words.blocks.items) (source_of homes a) 0 (source_all words homes a have are.0) (omega arith), ((lt-ltb number 16 lt, refl), ((refl, refl), tt))),
)
with_one_code words homes number (a ∷ x ∷ rest) have are lt = no_service_code (length words.blocks.items)

fault_code : (words : Words) (homes : List Home) (args : List Operand) → HaveRegisters homes → AllByRecursion (IsOperand words) args → AreCode (length words.blocks.items) (fault_items homes args)
unfolding fault_items
fault_code words homes [] have are = no_service_code (length words.blocks.items)
fault_code words homes (a ∷ []) have are = code_append (length words.blocks.items) (load_items homes a 0) _ (load_code words homes a 0 have are.0 (omega arith)) ((refl, refl), tt)
fault_code words homes (a ∷ x ∷ []) have are =
    code_append (length words.blocks.items) (load_items homes x 6 ++ load_items homes a 7) _
    (code_append (length words.blocks.items) (load_items homes x 6) (load_items homes a 7) (load_code words homes x 6 have are.1.0 (omega arith)) (load_code words homes a 7 have are.0 (omega arith)))
    ((refl, refl), ((refl, refl), ((refl, refl), tt)))
fault_code words homes (a ∷ x ∷ y ∷ rest) have are = no_service_code (length words.blocks.items)

full_code : (words : Words) (homes : List Home) (args : List Operand) → HaveRegisters homes → AllByRecursion (IsOperand words) args → AreCode (length words.blocks.items) (full_items homes args)
unfolding full_items
full_code words homes [] have are = no_service_code (length words.blocks.items)
full_code words homes (a ∷ []) have are = no_service_code (length words.blocks.items)
full_code words homes (a ∷ kind ∷ []) have are =
    code_append (length words.blocks.items) (load_items homes a 0 ++ room_items (is_one kind)) _
    (code_append (length words.blocks.items) (load_items homes a 0) (room_items (is_one kind)) (load_code words homes a 0 have are.0 (omega arith)) (room_code (length words.blocks.items) (is_one kind))) ((refl, refl), tt)
full_code words homes (a ∷ x ∷ y ∷ rest) have are = no_service_code (length words.blocks.items)

service_code : (words : Words) (homes : List Home) (number : ℕ) (args : List Operand) → HaveRegisters homes → AllByRecursion (IsOperand words) args → number < 16 → AreCode (length words.blocks.items) (service_items homes number args)
unfolding service_items
service_code words homes number args have are lt = by (number == 3) (number == 4) where
  by : (x y : Bool) → AreCode (length words.blocks.items) (if x then fault_items homes args else if y then full_items homes args else with_one_items homes number args)
  by true y = fault_code words homes args have are
  by false true = full_code words homes args have are
  by false false = with_one_code words homes number args have are lt

named : (number n : ℕ) (rest : Bool) → n < 16 → (rest ≡ true → number < 16) → (rest || (number == n)) ≡ true → number < 16
named number n true lt other e = other refl
named number n false lt other e = omega (arith, eqb-true number n e)

-- a service has a number that a TRAP has
service_number : (number : ℕ) (args : List Operand) → is_service number args ≡ true → number < 16
service_number number [] shaped = absurd (cc)
service_number number (a ∷ []) shaped =
    named number 5 ((number == 0) || (number == 1) || (number == 2) || (number == 3)) (omega arith)
    (named number 3 ((number == 0) || (number == 1) || (number == 2)) (omega arith) (named number 2 ((number == 0) || (number == 1)) (omega arith) (named number 1 (number == 0) (omega arith) (λ (e : (number == 0) ≡ true). omega (arith, eqb-true number 0 e))))) shaped
service_number number (a ∷ b ∷ []) shaped = by (number == 3) refl shaped where
  by : (x : Bool) → (number == 3) ≡ x → (x || ((number == 4) && is_bit b)) ≡ true → number < 16
  by true e all = omega (arith, eqb-true number 3 e)
  by false e all = omega (arith, eqb-true number 4 (and_parts (number == 4) (is_bit b) all).0)
service_number number (a ∷ b ∷ c ∷ rest) shaped = absurd (cc)

-- ---- operations

words_long : (n : ℕ) → bytes_of_words n < 2 ^ 32
words_long n = omega arith

pub op_code : (words : Words) (homes : List Home) (o : WordOp) → HaveRegisters homes → AllByRecursion (IsOperand words) (op_operands o) → is_op_sized o ≡ true → is_op_shaped o ≡ true
    → AllByRecursion (λ b. b < length words.blocks.items) (op_exits o) → AreCode (length words.blocks.items) (op_items homes o)
unfolding op_items move_items read_items read_byte_items write_items arith_items take_items push_items
op_code words homes (op.Move to from) have are sized shaped exits =
    code_append (length words.blocks.items) (source_items from) _ (source_code words from are.0) (put_code (length words.blocks.items) (source_of homes from) (home_of homes to) (source_all words homes from have are.0) (have to), tt)
op_code words homes (op.Load to base offset) have are sized shaped exits =
    code_append (length words.blocks.items) (access_items homes base offset) _ (access_code words homes base offset have are.0 sized)
    (put_code (length words.blocks.items) (access_of homes base offset) (home_of homes to) (access_all homes base offset have) (have to), tt)
op_code words homes (op.LoadByte to base index offset) have are sized shaped exits =
    code_append (length words.blocks.items) (load_items homes index 7 ++ byte_base_items homes base offset) _
    (code_append (length words.blocks.items) (load_items homes index 7) (byte_base_items homes base offset) (load_code words homes index 7 have are.1.0 (omega arith)) (byte_base_code words homes base offset have are.0 sized))
    ((refl, refl), (byte_code (length words.blocks.items) base offset, (put_code (length words.blocks.items) (D 6) (home_of homes to) refl (have to), tt)))
op_code words homes (op.Store base offset from) have are sized shaped exits =
    code_append (length words.blocks.items) (kept_items homes from ++ access_items homes base offset) _
    (code_append (length words.blocks.items) (kept_items homes from) (access_items homes base offset) (kept_code words homes from have are.1.0) (access_code words homes base offset have are.0 sized))
    ((both _ _ (both _ _ (kept_all words homes from have are.1.0) (access_all homes base offset have)) (access_alter homes base offset), refl), tt)
op_code words homes (op.Arith to kind a x over) have are sized shaped exits =
    code_append (length words.blocks.items) (load_items homes a 7 ++ computing_items homes kind x over) _
    (code_append (length words.blocks.items) (load_items homes a 7) (computing_items homes kind x over) (load_code words homes a 7 have are.0 (omega arith)) (computing_code words homes kind x over have are.1.0 exits.0))
    (put_code (length words.blocks.items) (D (result_in kind)) (home_of homes to) (result_all kind) (have to), tt)
op_code words homes (op.Take to bytes full) have are sized shaped exits =
    code_append (length words.blocks.items) (load_items homes bytes 6) _ (load_code words homes bytes 6 have are.0 (omega arith))
    ((refl, refl), ((refl, refl), ((refl, refl), (exits.0, ((refl, refl), ((refl, refl), (put_code (length words.blocks.items) (D 7) (home_of homes to) refl (have to), tt)))))))
op_code words homes (op.Push n full) have are sized shaped exits =
    ((refl, refl), ((refl, refl), ((both _ _ (both _ _ (lt-ltb (bytes_of_words n) (2 ^ 32) (words_long n)) refl) refl, refl), (exits.0, ((both _ _ (lt-ltb (bytes_of_words n) (2 ^ 32) (words_long n)) refl, refl), tt)))))
op_code words homes (op.Pop n) have are sized shaped exits = ((both _ _ (lt-ltb (bytes_of_words n) (2 ^ 32) (words_long n)) refl, refl), tt)
op_code words homes (op.Service number args) have are sized shaped exits = service_code words homes number args have are (service_number number args shaped)
op_code words homes (op.Reset to) have are sized shaped exits = code_append (length words.blocks.items) (source_items to) _ (source_code words to are.0) ((both _ _ (source_all words homes to have are.0) refl, refl), tt)
