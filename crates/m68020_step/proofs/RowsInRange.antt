-- Each row leaves long words in the registers, and writes bytes where it may.
use Rattle.std.proofs.Common.{◌≡◌, ℕ, ◌+◌, ◌^◌, ◌<◌, Bool, true, false, ltb, eqb, arith}
use Rattle.std.specs.Prelude.{ℤ, pos, negsuc, not, ◌&&◌, ◌==◌, if◌then◌else◌, int_div}
use Rattle.std.specs.Int.Bits.{and_lt}
use Rattle.std.proofs.lemmas.Nat.{or_lt}
use Rattle.std.proofs.lemmas.Bool.{and_parts, ltb-true}
use lib.Signed.{mag}
use Rattle.m68020_code.specs.declared.instr.Ea.{Ea}
use Rattle.m68020_code.specs.declared.instr.Cond.{Cond}
use Rattle.m68020_code.specs.declared.instr.Instr.{Instr}
use Rattle.m68020_code.specs.declared.instr.Instr.TheVariants as instr
use Rattle.m68020_code.specs.Table.{fits, is_all, is_data_mode, is_byte, is_alter_mode, is_changed_mode, is_control_mode, counts, is_row}
use Rattle.m68020_step.specs.declared.registers.Registers.{Registers}
use Rattle.m68020_step.specs.declared.operand.OperandSize.TheVariants.{Byte, Long}
use Rattle.m68020_step.specs.declared.operand.Place.{Place}
use Rattle.m68020_step.specs.declared.operand.Place.TheVariants.{Data, Address, Memory, Value}
use Rattle.m68020_step.specs.Word.{sum_of, signed, unsigned}
use Rattle.m68020_step.specs.Storage.{Regions}
use Rattle.m68020_step.specs.ConditionCodes.{holds}
use Rattle.m68020_step.specs.Operand.{data_at, with_pc, address_of}
use Rattle.m68020_step.specs.Moves.{move_long, move_byte, move_address, move_quick, load_effective_address, clear_long, exchange_data, exchange_addresses, exchange_data_and_address}
use Rattle.m68020_step.specs.Arithmetic.{add_long, subtract_long, compare_long, add_address, subtract_address, compare_address, add_quick_to, add_quick, subtract_quick_from, subtract_quick, add_immediate, compare_immediate, multiply_long, divide_by, divide_long}
use Rattle.m68020_step.specs.Logic.{and_long, or_long, and_immediate, test_long, shift_left, shift_right}
use Rattle.m68020_step.specs.Control.{branch, jump, trap}
use Rattle.m68020_step.specs.Step.{executed}
use Rattle.m68020_step.specs.Ranges.{HasLongs, HasBytes}
use Rattle.m68020_step.proofs.InRange.{wrap_lt, unsigned_lt, fits_small, shifted_lt, remainder_lt, data_fits, address_fits, pc_fits, flags_fit, PlaceFits, located_fits, address_lt, long_operand_fits, byte_operand_fits, Fits, bind_fits, either_outcome, store_long_fits, store_byte_fits, change_long_fits}

-- ---- moves

move_long_fits : (m : Regions) (r : Registers) (from to : Ea) → is_all from ≡ true → is_all to ≡ true → HasBytes m → HasLongs r → Fits m (move_long m r from to)
unfolding move_long
move_long_fits m r from to source destination k h = bind_fits m (2 ^ 32) _ _ (long_operand_fits m r from source k h) (λ x w lt.
    store_long_fits m _ _ x.value _ (located_fits Long x.registers to destination w).registers lt)

move_byte_fits : (m : Regions) (r : Registers) (from to : Ea) → is_all from ≡ true → is_all to ≡ true → HasBytes m → HasLongs r → Fits m (move_byte m r from to)
unfolding move_byte
move_byte_fits m r from to source destination k h = bind_fits m 256 _ _ (byte_operand_fits m r from source k h) (λ x w lt.
    store_byte_fits m _ _ x.value _ (located_fits Byte x.registers to destination w).registers lt)

move_address_fits : (m : Regions) (r : Registers) (from : Ea) (to : ℕ) → is_all from ≡ true → HasBytes m → HasLongs r → Fits m (move_address m r from to)
unfolding move_address
move_address_fits m r from to source k h = bind_fits m (2 ^ 32) _ _ (long_operand_fits m r from source k h) (λ x w lt. (address_fits x.registers to x.value w lt, tt))

move_quick_fits : (m : Regions) (r : Registers) (value : ℤ) (to : ℕ) → fits 128 value ≡ true → HasLongs r → Fits m (move_quick r value to)
unfolding move_quick
move_quick_fits m r value to row h = (flags_fit _ _ (data_fits r to (unsigned value) h (unsigned_lt value (small value row))), tt)
  where
    small : (z : ℤ) → fits 128 z ≡ true → mag z < 2 ^ 31
    small (pos n) e = omega (arith, ltb-true n 128 e)
    small (negsuc n) e = omega (arith, ltb-true n 128 e)

load_effective_address_fits : (m : Regions) (r : Registers) (from : Ea) (to : ℕ) → is_all from ≡ true → HasLongs r → Fits m (load_effective_address r from to)
unfolding load_effective_address
load_effective_address_fits m r from to row h = (address_fits r to (address_of r from) h (address_lt r from row h), tt)

clear_long_fits : (m : Regions) (r : Registers) (to : Ea) → is_all to ≡ true → HasLongs r → Fits m (clear_long m r to)
unfolding clear_long
clear_long_fits m r to row h = store_long_fits m _ _ 0 _ (located_fits Long r to row h).registers (omega arith)

exchange_data_fits : (m : Regions) (r : Registers) (x y : ℕ) → HasLongs r → Fits m (exchange_data r x y)
unfolding exchange_data
exchange_data_fits m r x y h = (data_fits _ y _ (data_fits r x _ h (h.d y)) (h.d x), tt)

exchange_addresses_fits : (m : Regions) (r : Registers) (x y : ℕ) → HasLongs r → Fits m (exchange_addresses r x y)
unfolding exchange_addresses
exchange_addresses_fits m r x y h = (address_fits _ y _ (address_fits r x _ h (h.a y)) (h.a x), tt)

exchange_data_and_address_fits : (m : Regions) (r : Registers) (d a : ℕ) → HasLongs r → Fits m (exchange_data_and_address r d a)
unfolding exchange_data_and_address
exchange_data_and_address_fits m r d a h = (address_fits _ a _ (data_fits r d _ h (h.a a)) (h.d d), tt)

-- ---- arithmetic

add_long_fits : (m : Regions) (r : Registers) (from : Ea) (to : ℕ) → is_all from ≡ true → HasBytes m → HasLongs r → Fits m (add_long m r from to)
unfolding add_long
add_long_fits m r from to row k h = bind_fits m (2 ^ 32) _ _ (long_operand_fits m r from row k h) (λ x w lt. (flags_fit _ _ (data_fits x.registers to _ w (wrap_lt _)), tt))

subtract_long_fits : (m : Regions) (r : Registers) (from : Ea) (to : ℕ) → is_all from ≡ true → HasBytes m → HasLongs r → Fits m (subtract_long m r from to)
unfolding subtract_long
subtract_long_fits m r from to row k h = bind_fits m (2 ^ 32) _ _ (long_operand_fits m r from row k h) (λ x w lt. (flags_fit _ _ (data_fits x.registers to _ w (wrap_lt _)), tt))

compare_long_fits : (m : Regions) (r : Registers) (from : Ea) (to : ℕ) → is_all from ≡ true → HasBytes m → HasLongs r → Fits m (compare_long m r from to)
unfolding compare_long
compare_long_fits m r from to row k h = bind_fits m (2 ^ 32) _ _ (long_operand_fits m r from row k h) (λ x w lt. (flags_fit x.registers _ w, tt))

add_address_fits : (m : Regions) (r : Registers) (from : Ea) (to : ℕ) → is_all from ≡ true → HasBytes m → HasLongs r → Fits m (add_address m r from to)
unfolding add_address
add_address_fits m r from to row k h = bind_fits m (2 ^ 32) _ _ (long_operand_fits m r from row k h) (λ x w lt. (address_fits x.registers to _ w (wrap_lt _), tt))

subtract_address_fits : (m : Regions) (r : Registers) (from : Ea) (to : ℕ) → is_all from ≡ true → HasBytes m → HasLongs r → Fits m (subtract_address m r from to)
unfolding subtract_address
subtract_address_fits m r from to row k h = bind_fits m (2 ^ 32) _ _ (long_operand_fits m r from row k h) (λ x w lt. (address_fits x.registers to _ w (wrap_lt _), tt))

compare_address_fits : (m : Regions) (r : Registers) (from : Ea) (to : ℕ) → is_all from ≡ true → HasBytes m → HasLongs r → Fits m (compare_address m r from to)
unfolding compare_address
compare_address_fits m r from to row k h = bind_fits m (2 ^ 32) _ _ (long_operand_fits m r from row k h) (λ x w lt. (flags_fit x.registers _ w, tt))

add_quick_to_fits : (m : Regions) (r : Registers) (count : ℕ) (p : Place) → HasBytes m → HasLongs r → PlaceFits p → Fits m (add_quick_to m r count p)
unfolding add_quick_to
add_quick_to_fits m r count (Address i) k h fit = (address_fits r i _ h (wrap_lt _), tt)
add_quick_to_fits m r count (Data i) k h fit = change_long_fits m r (Data i) _ _ k h fit (λ v lt. wrap_lt _)
add_quick_to_fits m r count (Memory at) k h fit = change_long_fits m r (Memory at) _ _ k h fit (λ v lt. wrap_lt _)
add_quick_to_fits m r count (Value v) k h fit = change_long_fits m r (Value v) _ _ k h fit (λ v lt. wrap_lt _)

add_quick_fits : (m : Regions) (r : Registers) (count : ℕ) (to : Ea) → is_all to ≡ true → HasBytes m → HasLongs r → Fits m (add_quick m r count to)
add_quick_fits m r count to row k h = let l = located_fits Long r to row h in add_quick_to_fits m _ count _ k l.registers l.place

subtract_quick_from_fits : (m : Regions) (r : Registers) (count : ℕ) (p : Place) → HasBytes m → HasLongs r → PlaceFits p → Fits m (subtract_quick_from m r count p)
unfolding subtract_quick_from
subtract_quick_from_fits m r count (Address i) k h fit = (address_fits r i _ h (wrap_lt _), tt)
subtract_quick_from_fits m r count (Data i) k h fit = change_long_fits m r (Data i) _ _ k h fit (λ v lt. wrap_lt _)
subtract_quick_from_fits m r count (Memory at) k h fit = change_long_fits m r (Memory at) _ _ k h fit (λ v lt. wrap_lt _)
subtract_quick_from_fits m r count (Value v) k h fit = change_long_fits m r (Value v) _ _ k h fit (λ v lt. wrap_lt _)

subtract_quick_fits : (m : Regions) (r : Registers) (count : ℕ) (to : Ea) → is_all to ≡ true → HasBytes m → HasLongs r → Fits m (subtract_quick m r count to)
subtract_quick_fits m r count to row k h = let l = located_fits Long r to row h in subtract_quick_from_fits m _ count _ k l.registers l.place

add_immediate_fits : (m : Regions) (r : Registers) (value : ℕ) (to : Ea) → is_all to ≡ true → HasBytes m → HasLongs r → Fits m (add_immediate m r value to)
unfolding add_immediate
add_immediate_fits m r value to row k h = let l = located_fits Long r to row h in change_long_fits m _ _ _ _ k l.registers l.place (λ v lt. wrap_lt _)

compare_immediate_fits : (m : Regions) (r : Registers) (value : ℕ) (to : Ea) → is_all to ≡ true → HasBytes m → HasLongs r → Fits m (compare_immediate m r value to)
unfolding compare_immediate
compare_immediate_fits m r value to row k h = bind_fits m (2 ^ 32) _ _ (long_operand_fits m r to row k h) (λ x w lt. (flags_fit x.registers _ w, tt))

multiply_long_fits : (m : Regions) (r : Registers) (from : Ea) (to : ℕ) → is_all from ≡ true → HasBytes m → HasLongs r → Fits m (multiply_long m r from to)
unfolding multiply_long
multiply_long_fits m r from to row k h = bind_fits m (2 ^ 32) _ _ (long_operand_fits m r from row k h) (λ x w lt. (flags_fit _ _ (data_fits x.registers to _ w (wrap_lt _)), tt))

divide_by_fits : (m : Regions) (r : Registers) (divisor quotient remainder : ℕ) → HasLongs r → Fits m (divide_by r divisor quotient remainder)
divide_by_fits m r divisor quotient remainder h =
    let whole : ℤ = int_div (signed (data_at r quotient)) (signed divisor) in
    either_outcome m (fits (2 ^ 31) whole) _ _
    (λ e. (flags_fit _ _ (data_fits _ remainder _ (data_fits r quotient (unsigned whole) h (unsigned_lt whole (fits_small whole e))) (remainder_lt (data_at r quotient) divisor (h.d quotient))), tt))
    (flags_fit r _ h, tt)

divide_long_fits : (m : Regions) (r : Registers) (from : Ea) (quotient remainder : ℕ) → is_all from ≡ true → HasBytes m → HasLongs r → Fits m (divide_long m r from quotient remainder)
unfolding divide_long
divide_long_fits m r from quotient remainder row k h = bind_fits m (2 ^ 32) _ _ (long_operand_fits m r from row k h) (λ x w lt.
    either_outcome m (x.value == 0) _ _ (λ e. tt) (divide_by_fits m x.registers x.value quotient remainder w))

-- ---- logic

and_long_fits : (m : Regions) (r : Registers) (from : Ea) (to : ℕ) → is_all from ≡ true → HasBytes m → HasLongs r → Fits m (and_long m r from to)
unfolding and_long
and_long_fits m r from to row k h = bind_fits m (2 ^ 32) _ _ (long_operand_fits m r from row k h) (λ x w lt. (flags_fit _ _ (data_fits x.registers to _ w (and_lt 32 _ _ (w.d to) lt)), tt))

or_long_fits : (m : Regions) (r : Registers) (from : Ea) (to : ℕ) → is_all from ≡ true → HasBytes m → HasLongs r → Fits m (or_long m r from to)
unfolding or_long
or_long_fits m r from to row k h = bind_fits m (2 ^ 32) _ _ (long_operand_fits m r from row k h) (λ x w lt. (flags_fit _ _ (data_fits x.registers to _ w (or_lt 32 _ _ (w.d to) lt)), tt))

and_immediate_fits : (m : Regions) (r : Registers) (value : ℕ) (to : Ea) → value < 2 ^ 32 → is_all to ≡ true → HasBytes m → HasLongs r → Fits m (and_immediate m r value to)
unfolding and_immediate
and_immediate_fits m r value to small row k h = let l = located_fits Long r to row h in change_long_fits m _ _ _ _ k l.registers l.place (λ v lt. and_lt 32 v value lt small)

test_long_fits : (m : Regions) (r : Registers) (to : Ea) → is_all to ≡ true → HasBytes m → HasLongs r → Fits m (test_long m r to)
unfolding test_long
test_long_fits m r to row k h = bind_fits m (2 ^ 32) _ _ (long_operand_fits m r to row k h) (λ x w lt. (flags_fit x.registers _ w, tt))

shift_left_fits : (m : Regions) (r : Registers) (count to : ℕ) → HasLongs r → Fits m (shift_left r count to)
unfolding shift_left
shift_left_fits m r count to h = (flags_fit _ _ (data_fits r to _ h (wrap_lt _)), tt)

shift_right_fits : (m : Regions) (r : Registers) (count to : ℕ) → HasLongs r → Fits m (shift_right r count to)
unfolding shift_right
shift_right_fits m r count to h = (flags_fit _ _ (data_fits r to _ h (shifted_lt (data_at r to) count (h.d to))), tt)

-- ---- control

jump_fits : (m : Regions) (r : Registers) (to : Ea) → is_all to ≡ true → HasLongs r → Fits m (jump r to)
unfolding jump
jump_fits m r to row h = (pc_fits r (address_of r to) h (address_lt r to row h), tt)

branch_fits : (m : Regions) (r : Registers) (at : ℕ) (condition : Cond) (disp : ℤ) → HasLongs r → Fits m (branch r at condition disp)
unfolding branch
branch_fits m r at condition disp h = (by_test (holds condition r.flags), tt)
  where
    by_test : (b : Bool) → HasLongs (if b then with_pc r (sum_of (at + 2) (unsigned disp)) else r)
    by_test true = pc_fits r _ h (wrap_lt _)
    by_test false = h

-- ---- every row

immediate_row : (value : ℕ) (to : Ea) → (ltb value (2 ^ 32) && is_all to && is_alter_mode to) ≡ true → (value < 2 ^ 32) × (is_all to ≡ true)
immediate_row value to row =
    let p = and_parts (ltb value (2 ^ 32)) (is_all to) (and_parts (ltb value (2 ^ 32) && is_all to) (is_alter_mode to) row).0 in
    (ltb-true value (2 ^ 32) p.0, p.1)

pub executed_fits : (m : Regions) (at : ℕ) (r : Registers) (i : Instr) → is_row i ≡ true → HasBytes m → HasLongs r → Fits m (executed m at r i)
unfolding executed trap
executed_fits m at r (instr.MoveL from to) row k h = let p = and_parts (is_all from && is_all to) (is_alter_mode to) row in let q = and_parts (is_all from) (is_all to) p.0 in move_long_fits m r from to q.0 q.1 k h
executed_fits m at r (instr.MoveB from to) row k h = let p = and_parts (is_all from && is_data_mode from && is_byte from && is_all to) (is_alter_mode to) row in let q = and_parts (is_all from && is_data_mode from && is_byte from) (is_all to) p.0 in let s = and_parts (is_all from && is_data_mode from) (is_byte from) q.0 in move_byte_fits m r from to (and_parts (is_all from) (is_data_mode from) s.0).0 q.1 k h
executed_fits m at r (instr.MoveaL from to) row k h = move_address_fits m r from to (and_parts (is_all from) (ltb to 8) row).0 k h
executed_fits m at r (instr.Moveq value to) row k h = move_quick_fits m r value to (and_parts (fits 128 value) (ltb to 8) row).0 h
executed_fits m at r (instr.Lea from to) row k h = load_effective_address_fits m r from to (and_parts (is_all from) (is_control_mode from) (and_parts (is_all from && is_control_mode from) (ltb to 8) row).0).0 h
executed_fits m at r (instr.Jmp to) row k h = jump_fits m r to (and_parts (is_all to) (is_control_mode to) row).0 h
executed_fits m at r (instr.Trap vector) row k h = (h, tt)
executed_fits m at r instr.Nop row k h = (h, tt)
executed_fits m at r instr.Illegal row k h = tt
executed_fits m at r (instr.AddL from to) row k h = add_long_fits m r from to (and_parts (is_all from) (ltb to 8) row).0 k h
executed_fits m at r (instr.SubL from to) row k h = subtract_long_fits m r from to (and_parts (is_all from) (ltb to 8) row).0 k h
executed_fits m at r (instr.AndL from to) row k h = and_long_fits m r from to (and_parts (is_all from) (is_data_mode from) (and_parts (is_all from && is_data_mode from) (ltb to 8) row).0).0 k h
executed_fits m at r (instr.OrL from to) row k h = or_long_fits m r from to (and_parts (is_all from) (is_data_mode from) (and_parts (is_all from && is_data_mode from) (ltb to 8) row).0).0 k h
executed_fits m at r (instr.CmpL from to) row k h = compare_long_fits m r from to (and_parts (is_all from) (ltb to 8) row).0 k h
executed_fits m at r (instr.AddaL from to) row k h = add_address_fits m r from to (and_parts (is_all from) (ltb to 8) row).0 k h
executed_fits m at r (instr.SubaL from to) row k h = subtract_address_fits m r from to (and_parts (is_all from) (ltb to 8) row).0 k h
executed_fits m at r (instr.CmpaL from to) row k h = compare_address_fits m r from to (and_parts (is_all from) (ltb to 8) row).0 k h
executed_fits m at r (instr.AddqL count to) row k h = add_quick_fits m r count to (and_parts (counts count) (is_all to) (and_parts (counts count && is_all to) (is_changed_mode to) row).0).1 k h
executed_fits m at r (instr.SubqL count to) row k h = subtract_quick_fits m r count to (and_parts (counts count) (is_all to) (and_parts (counts count && is_all to) (is_changed_mode to) row).0).1 k h
executed_fits m at r (instr.TstL to) row k h = test_long_fits m r to (and_parts (is_all to) (is_alter_mode to) row).0 k h
executed_fits m at r (instr.ClrL to) row k h = clear_long_fits m r to (and_parts (is_all to) (is_alter_mode to) row).0 h
executed_fits m at r (instr.AddiL value to) row k h = add_immediate_fits m r value to (immediate_row value to row).1 k h
executed_fits m at r (instr.AndiL value to) row k h = let p = immediate_row value to row in and_immediate_fits m r value to p.0 p.1 k h
executed_fits m at r (instr.CmpiL value to) row k h = compare_immediate_fits m r value to (immediate_row value to row).1 k h
executed_fits m at r (instr.ExgD x y) row k h = exchange_data_fits m r x y h
executed_fits m at r (instr.ExgA x y) row k h = exchange_addresses_fits m r x y h
executed_fits m at r (instr.ExgDA d a) row k h = exchange_data_and_address_fits m r d a h
executed_fits m at r (instr.AslL count to) row k h = shift_left_fits m r count to h
executed_fits m at r (instr.AsrL count to) row k h = shift_right_fits m r count to h
executed_fits m at r (instr.MulsL from to) row k h = multiply_long_fits m r from to (and_parts (is_all from) (is_data_mode from) (and_parts (is_all from && is_data_mode from) (ltb to 8) row).0).0 k h
executed_fits m at r (instr.DivslL from quotient remainder) row k h = let p = and_parts (is_all from && is_data_mode from && ltb quotient 8 && ltb remainder 8) (not (eqb quotient remainder)) row in let q = and_parts (is_all from && is_data_mode from && ltb quotient 8) (ltb remainder 8) p.0 in let s = and_parts (is_all from && is_data_mode from) (ltb quotient 8) q.0 in divide_long_fits m r from quotient remainder (and_parts (is_all from) (is_data_mode from) s.0).0 k h
executed_fits m at r (instr.Bcc condition width disp) row k h = branch_fits m r at condition disp h
