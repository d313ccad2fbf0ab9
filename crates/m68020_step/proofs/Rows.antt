-- What single rows come to at operands in registers, statics and the instruction itself.
use Rattle.std.proofs.Common.{◌≡◌, ℕ, ◌+◌, ◌<◌, true, Some, refl, arith}
use Rattle.std.specs.Prelude.{◌≢◌, ℤ, if◌then◌else◌}
use Rattle.std.proofs.lemmas.List.{get_or-set_same, get_or-set_other}
use Rattle.m68020_code.specs.declared.instr.Ea.TheVariants.{D, Abs, Imm}
use Rattle.m68020_code.specs.declared.instr.Cond.{Cond}
use Rattle.m68020_code.specs.declared.instr.Width.{Width}
use Rattle.m68020_code.specs.declared.instr.Instr.TheVariants.{MoveL, Moveq, Trap, AddL, SubL, Bcc}
use Rattle.m68020_step.specs.declared.registers.Registers.{Registers}
use Rattle.m68020_step.specs.declared.registers.Effect.TheVariants.{Nothing, WriteLong, Service}
use Rattle.m68020_step.specs.Storage.{Regions, long_at, can_write}
use Rattle.m68020_step.specs.Word.{sum_of, difference_of, unsigned}
use Rattle.m68020_step.specs.ConditionCodes.{flags_of_result, flags_of_sum, flags_of_difference, holds}
use Rattle.m68020_step.specs.Operand.{next, data_at, with_data, with_flags, with_pc, located, address_of, read_long, store_long, long_operand}
use Rattle.m68020_step.specs.Moves.{move_long, move_quick}
use Rattle.m68020_step.specs.Arithmetic.{add_long, subtract_long}
use Rattle.m68020_step.specs.Control.{branch, trap}
use Rattle.m68020_step.specs.Step.{executed}
use Rattle.m68020_step.specs.Ranges.{HasLongs}

-- a data register that was set is read again
pub data_set : (r : Registers) (n v : ℕ) → HasLongs r → n < 8 → data_at (with_data r n v) n ≡ v
data_set r n v h lt = get_or-set_same r.d n v 0 (omega (arith, h.d_count))

-- the others are as before
pub data_kept : (r : Registers) (n v k : ℕ) → k ≢ n → data_at (with_data r n v) k ≡ data_at r k
data_kept r n v k ne = get_or-set_other r.d n k v 0 ne

-- MOVE.L #v,Dn
pub move_immediate : (m : Regions) (at : ℕ) (r : Registers) (v n : ℕ) → executed m at r (MoveL (Imm v) (D n)) ≡ next (with_flags (with_data r n v) (flags_of_result r.flags v)) Nothing
unfolding executed move_long long_operand located read_long store_long
move_immediate m at r v n = refl

-- MOVE.L Dm,Dn
pub move_register : (m : Regions) (at : ℕ) (r : Registers) (x n : ℕ) → executed m at r (MoveL (D x) (D n)) ≡ next (with_flags (with_data r n (data_at r x)) (flags_of_result r.flags (data_at r x))) Nothing
unfolding executed move_long long_operand located read_long store_long
move_register m at r x n = refl

-- MOVE.L Dn,to.L
pub move_to_storage : (m : Regions) (at : ℕ) (r : Registers) (n to : ℕ) → can_write m to 4 ≡ true
    → executed m at r (MoveL (D n) (Abs to)) ≡ next (with_flags r (flags_of_result r.flags (data_at r n))) (WriteLong to (data_at r n))
unfolding executed move_long long_operand located address_of read_long store_long
move_to_storage m at r n to h = rw h refl

-- MOVE.L #v,to.L
pub move_immediate_to_storage : (m : Regions) (at : ℕ) (r : Registers) (v to : ℕ) → can_write m to 4 ≡ true
    → executed m at r (MoveL (Imm v) (Abs to)) ≡ next (with_flags r (flags_of_result r.flags v)) (WriteLong to v)
unfolding executed move_long long_operand located address_of read_long store_long
move_immediate_to_storage m at r v to h = rw h refl

-- MOVE.L from.L,Dn
pub move_from_storage : (m : Regions) (at : ℕ) (r : Registers) (from v n : ℕ) → long_at m from ≡ Some v
    → executed m at r (MoveL (Abs from) (D n)) ≡ next (with_flags (with_data r n v) (flags_of_result r.flags v)) Nothing
unfolding executed move_long long_operand located address_of read_long store_long
move_from_storage m at r from v n h = rw h refl

-- MOVEQ #v,Dn
pub move_quick_to : (m : Regions) (at : ℕ) (r : Registers) (v : ℤ) (n : ℕ) → executed m at r (Moveq v n) ≡ next (with_flags (with_data r n (unsigned v)) (flags_of_result r.flags (unsigned v))) Nothing
unfolding executed move_quick
move_quick_to m at r v n = refl

-- ADD.L Dx,Dn
pub add_registers : (m : Regions) (at : ℕ) (r : Registers) (x n : ℕ)
    → executed m at r (AddL (D x) n) ≡ next (with_flags (with_data r n (sum_of (data_at r n) (data_at r x))) (flags_of_sum (data_at r n) (data_at r x))) Nothing
unfolding executed add_long long_operand located read_long
add_registers m at r x n = refl

-- SUB.L Dx,Dn
pub subtract_registers : (m : Regions) (at : ℕ) (r : Registers) (x n : ℕ)
    → executed m at r (SubL (D x) n) ≡ next (with_flags (with_data r n (difference_of (data_at r n) (data_at r x))) (flags_of_difference (data_at r n) (data_at r x))) Nothing
unfolding executed subtract_long long_operand located read_long
subtract_registers m at r x n = refl

-- Bcc, where at is the instruction's address
pub branch_by : (m : Regions) (at : ℕ) (r : Registers) (condition : Cond) (width : Width) (disp : ℤ)
    → executed m at r (Bcc condition width disp) ≡ next (if holds condition r.flags then with_pc r (sum_of (at + 2) (unsigned disp)) else r) Nothing
unfolding executed branch
branch_by m at r condition width disp = refl

-- TRAP #v
pub trap_by : (m : Regions) (at : ℕ) (r : Registers) (v : ℕ) → executed m at r (Trap v) ≡ next r (Service v)
unfolding executed trap
trap_by m at r v = refl
