-- One step over an instruction that stands in code.
use Rattle.std.proofs.Common.{◌≡◌, ℕ, ◌+◌, ◌-◌, ◌%◌, ◌^◌, ◌<◌, ◌≤◌, true, List, ◌++◌, length, refl, sym, ap, ◌∙◌, append_assoc, arith}
use Rattle.std.proofs.lemmas.Bool.{lt-ltb, le-leb}
use Rattle.std.proofs.lemmas.List.{length-append}
use Rattle.std.proofs.Math.Seq.{drop-append_seam}
use Rattle.m68020_code.specs.declared.instr.Instr.{Instr}
use Rattle.m68020_code.specs.Table.{is_row, spelling}
use Rattle.m68020_code.proofs.Spellings.{decode_of_spelling}
use Rattle.m68020_code.proofs.Lengths.{spelling_words}
use Rattle.m68020_step.specs.declared.storage.TheConstants.{CODE_START}
use Rattle.m68020_step.specs.Word.{sum_of}
use Rattle.m68020_step.specs.Operand.{with_pc}
use Rattle.m68020_step.specs.Step.{State, is_in_code, code_from, instruction_at, next_of, step_of, executed, after}

-- the instruction whose bytes stand at the program counter is executed
pub step_over : (s : State) (i : Instr) (rest : List ℕ) → is_row i ≡ true → s.registers.pc % 2 ≡ 0 → is_in_code s.storage s.registers.pc ≡ true → code_from s ≡ spelling i ++ rest
    → step_of s ≡ after s (executed s.storage s.registers.pc (with_pc s.registers (sum_of s.registers.pc (length (spelling i)))) i)
unfolding step_of next_of instruction_at
step_over s i rest row even inside here = rw (even, inside, here, decode_of_spelling i rest row) refl

-- Code is so many bytes, with others before and behind them, and the program counter is at them.
pub record IsAt (s : State) (front rest : List ℕ) : Type 0 where
  pub code : s.storage.code ≡ front ++ rest
  pub pc : s.registers.pc ≡ CODE_START + length front
  pub even : length front % 2 ≡ 0
  pub small : length s.storage.code ≤ 2 ^ 28

-- the instruction that stands there is executed, with the program counter behind it
pub step_at : (s : State) (front : List ℕ) (i : Instr) (rest : List ℕ) → is_row i ≡ true → IsAt s front (spelling i ++ rest)
    → step_of s ≡ after s (executed s.storage s.registers.pc (with_pc s.registers (s.registers.pc + length (spelling i))) i)
step_at s front i rest row at =
    let words = spelling_words i in
    let some : 2 ≤ length (spelling i) = omega (arith, words.length, words.some) in
    let whole : length s.storage.code ≡ length front + (length (spelling i) + length rest) = ap length at.code ∙ length-append front (spelling i ++ rest) ∙ ap (λ (n : ℕ). length front + n) (length-append (spelling i) rest) in
    let even : s.registers.pc % 2 ≡ 0 = omega (arith, at.pc, at.even) in
    let low : CODE_START ≤ s.registers.pc = omega (arith, at.pc) in
    let high : s.registers.pc - CODE_START < length s.storage.code = omega (arith, at.pc) in
    let e : s.registers.pc - CODE_START ≡ length front = omega (arith, at.pc) in
    let here : code_from s ≡ spelling i ++ rest = rw (e, at.code) (drop-append_seam front (spelling i ++ rest)) in
    let inside : is_in_code s.storage s.registers.pc ≡ true = rw (le-leb CODE_START s.registers.pc low, lt-ltb (s.registers.pc - CODE_START) (length s.storage.code) high) refl in
    let sum : sum_of s.registers.pc (length (spelling i)) ≡ s.registers.pc + length (spelling i) = omega (arith, at.pc, at.small) in
    rw (← sum) (step_over s i rest row even inside here)

-- and the next instruction is the one behind it
pub past : (s t : State) (front : List ℕ) (i : Instr) (rest : List ℕ) → IsAt s front (spelling i ++ rest) → t.storage.code ≡ s.storage.code → t.registers.pc ≡ s.registers.pc + length (spelling i)
    → IsAt t (front ++ spelling i) rest
past s t front i rest at code pc = record {
  code = code ∙ at.code ∙ sym (append_assoc front (spelling i) rest);
  pc = omega (arith, pc, at.pc, length-append front (spelling i));
  even = omega (arith, at.even, length-append front (spelling i), (spelling_words i).length);
  small = rw code at.small;
}
