-- The last part of a sum: what was kept is added to what is in D0.
use Rattle.std.proofs.Common.{◌≡◌, ℕ, ◌+◌, ◌^◌, ◌≤◌, ◌<◌, Bool, true, false, List, [], ◌++◌, length, Some, refl, ap, ◌∙◌, arith}
use Rattle.std.specs.Prelude.{ℤ, pos, ◌+ℤ◌, not, if◌then◌else◌}
use Rattle.std.proofs.lemmas.Bool.{lt-ltb}
use Rattle.std.proofs.lemmas.List.{length-append, get_or-set_same, get_or-set_other}
use Rattle.std.proofs.Math.ListN.{length-set}
use Rattle.t_base.specs.declared.faults.Fault.TheVariants.{FixnumOverflow}
use Rattle.m68020_code.specs.declared.instr.Ea.TheVariants.{D, Abs}
use Rattle.m68020_code.specs.declared.instr.Cond.TheVariants.{Vc}
use Rattle.m68020_code.specs.declared.instr.Width.TheVariants.{Byte}
use Rattle.m68020_code.specs.declared.instr.Instr.{Instr}
use Rattle.m68020_code.specs.declared.instr.Instr.TheVariants.{MoveL, Moveq, AddL, Bcc, Trap}
use Rattle.m68020_code.specs.Table.{is_row, spelling}
use Rattle.m68020_step.specs.declared.registers.Registers.{Registers}
use Rattle.m68020_step.specs.declared.registers.Effect.TheVariants.{Nothing}
use Rattle.m68020_step.specs.declared.storage.TheConstants.{CODE_START}
use Rattle.m68020_step.specs.Storage.{long_at}
use Rattle.m68020_step.specs.Word.{sum_of, signed, unsigned, overflows}
use Rattle.m68020_step.specs.ConditionCodes.{flags_of_result, flags_of_sum}
use Rattle.m68020_step.specs.Operand.{next, data_at, with_data, with_flags, with_pc}
use Rattle.m68020_step.specs.Step.{State, executed}
use Rattle.m68020_step.proofs.Executing.{IsAt, past}
use Rattle.m68020_step.proofs.Rows.{move_from_storage, add_registers, branch_by, move_quick_to, trap_by}
use Rattle.machine_services.specs.declared.exit.Exit.TheVariants as exit
use Rattle.machine_services.specs.Services.{Exits, serve, raise_fault}
use Rattle.t_prim.specs.Operands.{in_range}
use Rattle.orbit_build.proofs.Evaluation.{Outcome, Value, Faulted}
use Rattle.orbit_build.specs.Sums.{most_open}
use Rattle.orbit_build.specs.Code.{word, slot, statics_bytes}
use Rattle.orbit_build.proofs.Words.{sum_fits, sum_overflows, sum_word}
use Rattle.orbit_build.proofs.Runs.{Passes, Finishes, with_registers, passes_one, passes_both, finishes_one, finishes_on}

-- eight data registers, and the static words
pub record Fit (s : State) : Type 0 where
  pub registers : length s.registers.d ≡ 8
  pub statics : length s.storage.statics ≡ statics_bytes

-- as many registers and static words, and the first `depth` of the words as they were
pub record Kept (depth : ℕ) (s t : State) : Type 0 where
  pub registers : length t.registers.d ≡ length s.registers.d
  pub statics : length t.storage.statics ≡ length s.storage.statics
  pub slots : (j : ℕ) → j < depth → long_at t.storage (slot j) ≡ long_at s.storage (slot j)

-- from s the machine comes behind the code with v in D0
pub record Gives (s : State) (depth : ℕ) (front rest : List ℕ) (k : ℕ) (v : ℤ) : Type 0 where
  pub state : State
  pub passes : Passes s k state
  pub at : IsAt state front rest
  pub value : data_at state.registers 0 ≡ word v
  pub fixnum : in_range v ≡ true
  pub kept : Kept depth s state

-- what the code comes to within k instructions, by what the form does
abbrev pub Ending : State → ℕ → List ℕ → List ℕ → ℕ → Outcome → Type 0
Ending s depth front rest k (Value v) = Gives s depth front rest k v
Ending s depth front rest k (Faulted fault) = Finishes s k (exit.Fault fault)

abbrev pub fetch : ℕ → Instr
fetch depth = MoveL (Abs (slot depth)) (D 1)

abbrev pub add : Instr
add = AddL (D 1) 0

abbrev pub branch_over : Instr
branch_over = Bcc Vc Byte (pos 4)

abbrev pub load_seven : Instr
load_seven = Moveq (pos 7) 0

abbrev pub raise : Instr
raise = Trap 3

fetch_is_row : (depth : ℕ) → depth < most_open → is_row (fetch depth) ≡ true
fetch_is_row depth lt = rw (lt-ltb (slot depth) (2 ^ 32) (omega arith)) refl

module _ (s : State) (front rest : List ℕ) (depth : ℕ) (x y : ℤ) (fx : in_range x ≡ true) (fy : in_range y ≡ true) (fit : Fit s) (low : depth < most_open)
    (at : IsAt s front (spelling (fetch depth) ++ (spelling add ++ (spelling branch_over ++ (spelling load_seven ++ (spelling raise ++ rest))))))
    (d0 : data_at s.registers 0 ≡ word y) (saved : long_at s.storage (slot depth) ≡ Some (word x)) where
  -- D1 is x
  abbrev r1 : Registers
  r1 = with_flags (with_data (with_pc s.registers (s.registers.pc + length (spelling (fetch depth)))) 1 (word x)) (flags_of_result s.registers.flags (word x))

  abbrev s1 : State
  s1 = with_registers s r1

  go1 : Passes s 1 s1
  go1 = passes_one s front (fetch depth) _ r1 (fetch_is_row depth low) at (move_from_storage s.storage s.registers.pc _ (slot depth) (word x) 1 saved) refl

  at1 : IsAt s1 (front ++ spelling (fetch depth)) (spelling add ++ (spelling branch_over ++ (spelling load_seven ++ (spelling raise ++ rest))))
  at1 = past s s1 front (fetch depth) _ at refl refl

  first_is : data_at r1 0 ≡ word y
  first_is = get_or-set_other s.registers.d 1 0 (word x) 0 (λ e. omega (arith, e)) ∙ d0

  second_is : data_at r1 1 ≡ word x
  second_is = get_or-set_same s.registers.d 1 (word x) 0 (omega (arith, fit.registers))

  -- D0 is the sum
  abbrev total : ℕ
  total = sum_of (data_at r1 0) (data_at r1 1)

  abbrev r2 : Registers
  r2 = with_flags (with_data (with_pc r1 (r1.pc + length (spelling add))) 0 total) (flags_of_sum (data_at r1 0) (data_at r1 1))

  abbrev s2 : State
  s2 = with_registers s1 r2

  go2 : Passes s1 1 s2
  go2 = passes_one s1 _ add _ r2 refl at1 (add_registers s1.storage s1.registers.pc _ 1 0) refl

  at2 : IsAt s2 ((front ++ spelling (fetch depth)) ++ spelling add) (spelling branch_over ++ (spelling load_seven ++ (spelling raise ++ rest)))
  at2 = past s1 s2 _ add _ at1 refl refl

  enough : 0 < length r1.d
  enough = omega (arith, fit.registers, length-set s.registers.d 1 (word x))

  as_many : length r2.d ≡ length s.registers.d
  as_many = length-set r1.d 0 total ∙ length-set s.registers.d 1 (word x)

  total_is : data_at r2 0 ≡ sum_of (word y) (word x)
  total_is = get_or-set_same r1.d 0 total 0 enough ∙ ap (λ (n : ℕ). sum_of n (data_at r1 1)) first_is ∙ ap (sum_of (word y)) second_is

  flag_is : r2.flags.v ≡ overflows (signed (word y) +ℤ signed (word x))
  flag_is = ap (λ (n : ℕ). overflows (signed n +ℤ signed (data_at r1 1))) first_is ∙ ap (λ (n : ℕ). overflows (signed (word y) +ℤ signed n)) second_is

  -- behind the branch, and where it goes
  abbrev behind : Registers
  behind = with_pc r2 (r2.pc + length (spelling branch_over))

  abbrev over : Registers
  over = with_pc behind (sum_of (r2.pc + 2) (unsigned (pos 4)))

  branched : (overflow : Bool) → r2.flags.v ≡ overflow → executed s2.storage s2.registers.pc behind branch_over ≡ next (if not overflow then over else behind) Nothing
  branched overflow e = branch_by s2.storage s2.registers.pc behind Vc Byte (pos 4) ∙ ap (λ (v : Bool). next (if not v then over else behind) Nothing) e

  at3 : IsAt (with_registers s2 behind) (((front ++ spelling (fetch depth)) ++ spelling add) ++ spelling branch_over) (spelling load_seven ++ (spelling raise ++ rest))
  at3 = past s2 (with_registers s2 behind) _ branch_over _ at2 refl refl

  abbrev passed_seven : State
  passed_seven = with_registers s2 (with_pc r2 (behind.pc + length (spelling load_seven)))

  -- the program counter is far from its end
  high : r2.pc ≤ CODE_START + 2 ^ 28
  high = let whole = ap length at2.code ∙ length-append ((front ++ spelling (fetch depth)) ++ spelling add) _ in omega (arith, whole, at2.pc, at2.small)

  at_over : IsAt (with_registers s2 over) (((((front ++ spelling (fetch depth)) ++ spelling add) ++ spelling branch_over) ++ spelling load_seven) ++ spelling raise) rest
  at_over = past passed_seven (with_registers s2 over) _ raise _ (past (with_registers s2 behind) passed_seven _ load_seven _ at3 refl refl) refl (omega (arith, at2.pc, at2.small, high))

  pub sum_given : in_range (x +ℤ y) ≡ true → Gives s depth (((((front ++ spelling (fetch depth)) ++ spelling add) ++ spelling branch_over) ++ spelling load_seven) ++ spelling raise) rest 3 (x +ℤ y)
  sum_given f =
      let fits : r2.flags.v ≡ false = flag_is ∙ sum_fits x y fx fy f in
      let go3 : Passes s2 1 (with_registers s2 over) = passes_one s2 _ branch_over _ over refl at2 (branched false fits) refl in
      record {
        state = with_registers s2 over;
        passes = passes_both s s2 _ 2 1 (passes_both s s1 s2 1 1 go1 go2) go3;
        at = at_over;
        value = total_is ∙ sum_word x y fx fy f;
        fixnum = f;
        kept = record { registers = as_many; statics = refl; slots = λ j lt. refl };
      }

  -- D0 is 7
  abbrev r4 : Registers
  r4 = with_flags (with_data (with_pc behind (behind.pc + length (spelling load_seven))) 0 (unsigned (pos 7))) (flags_of_result behind.flags (unsigned (pos 7)))

  abbrev s3 : State
  s3 = with_registers s2 behind

  abbrev s4 : State
  s4 = with_registers s3 r4

  pub sum_faulted : in_range (x +ℤ y) ≡ false → Finishes s 5 (exit.Fault FixnumOverflow)
  sum_faulted f =
      let spills : r2.flags.v ≡ true = flag_is ∙ sum_overflows x y fx fy f in
      let go3 : Passes s2 1 s3 = passes_one s2 _ branch_over _ behind refl at2 (branched true spills) refl in
      let go4 : Passes s3 1 s4 = passes_one s3 _ load_seven _ r4 refl at3 (move_quick_to s3.storage s3.registers.pc _ (pos 7) 0) refl in
      let at4 = past s3 s4 _ load_seven _ at3 refl refl in
      let r5 : Registers = with_pc r4 (r4.pc + length (spelling raise)) in
      let seven : data_at r5 0 ≡ 7 = get_or-set_same r2.d 0 7 0 (omega (arith, fit.registers, as_many)) in
      let service : serve [] (with_registers s4 r5) 3 ≡ Exits (exit.Fault FixnumOverflow) = ap (λ (n : ℕ). raise_fault n (data_at r5 1)) seven in
      let last : Finishes s4 1 (exit.Fault FixnumOverflow) = finishes_one s4 _ raise rest r5 3 _ refl at4 (trap_by s4.storage s4.registers.pc _ 3) refl service in
      finishes_on s s4 4 1 _ (passes_both s s3 s4 3 1 (passes_both s s2 s3 2 1 (passes_both s s1 s2 1 1 go1 go2) go3) go4) last
