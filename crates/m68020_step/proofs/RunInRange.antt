-- Boot is in range, and a step keeps a state in range and its regions as long as they are.
use Rattle.std.proofs.Common.{◌≡◌, ℕ, zero, suc, ◌+◌, ◌-◌, ◌%◌, ◌^◌, ◌<◌, ◌≤◌, Bool, true, false, List, [], ◌∷◌, ◌++◌, length, take, drop, get_or, Option, Some, None, refl, arith, inl, inr}
use Rattle.std.specs.Prelude.{◌&&◌, ◌==◌, not, nat_le, if◌then◌else◌, replicate, Result, Ok, Err, option_map}
use Rattle.std.specs.Int.{w32, to_be_bytes}
use Rattle.std.proofs.lemmas.Bool.{and_parts, leb-true}
use Rattle.std.proofs.lemmas.Bool.Decides.{leb_tells}
use Rattle.m68020_code.specs.declared.instr.Instr.{Instr}
use Rattle.m68020_code.specs.Table.{is_row}
use Rattle.m68020_code.specs.Reading.{instr_at, decode_of}
use Rattle.m68020_code.proofs.Takes.{takes}
use Rattle.m68020_step.specs.declared.machine.Sizes.{Sizes}
use Rattle.m68020_step.specs.declared.registers.Why.{Why}
use Rattle.m68020_step.specs.declared.registers.Effect.{Effect}
use Rattle.m68020_step.specs.declared.registers.Effect.TheVariants.{Nothing, WriteByte, WriteLong, Service}
use Rattle.m68020_step.specs.declared.registers.Next.{Next}
use Rattle.m68020_step.specs.declared.storage.TheConstants.{CODE_START, STATICS_START, HEAP_START, STACK_START}
use Rattle.m68020_step.specs.Storage.{Regions, spliced, with_bytes, SameShape}
use Rattle.m68020_step.specs.Word.{sum_of}
use Rattle.m68020_step.specs.Operand.{◌>>=◌, with_pc}
use Rattle.m68020_step.specs.Boot.{is_size, boot_of}
use Rattle.m68020_step.specs.Step.{State, is_in_code, code_from, or_illegal, instruction_at, executed, next_of, with_effect, after, step_of}
use Rattle.m68020_step.specs.Ranges.{AreBytes, HasBytes, IsInRange, KeepsRange}
use Rattle.m68020_step.proofs.InRange.{wrap_lt, below_append, below_take, below_drop, bytes_of_long, pc_fits, EffectFits, Fits}
use Rattle.m68020_step.proofs.RowsInRange.{executed_fits}
use Rattle.m68020_step.proofs.Memory.{shape_kept}

-- ---- boot

zeros_below : (n bound : ℕ) → 0 < bound → (i : ℕ) → get_or (replicate n 0) i 0 < bound
zeros_below zero bound lt i = lt
zeros_below (suc n) bound lt zero = lt
zeros_below (suc n) bound lt (suc i) = zeros_below n bound lt i

size_small : (n : ℕ) → is_size n ≡ true → n ≤ 2 ^ 28
size_small n h = leb-true n (2 ^ 28) (and_parts ((n % 8 == 0) && nat_le 64 n) (nat_le n (2 ^ 28)) h).1

boot_data : (i : ℕ) → get_or (0 ∷ 0 ∷ 0 ∷ 0 ∷ 0 ∷ 0 ∷ 0 ∷ 0 ∷ []) i 0 < 2 ^ 32
boot_data i = zeros_below 8 (2 ^ 32) (omega arith) i

boot_addresses : (heap stack : ℕ) → heap ≤ 2 ^ 28 → stack ≤ 2 ^ 28 → (i : ℕ) → get_or (0 ∷ 0 ∷ 0 ∷ 0 ∷ HEAP_START ∷ STACK_START ∷ (HEAP_START + heap) ∷ (STACK_START + stack) ∷ []) i 0 < 2 ^ 32
boot_addresses heap stack h k zero = omega arith
boot_addresses heap stack h k (suc zero) = omega arith
boot_addresses heap stack h k (suc (suc zero)) = omega arith
boot_addresses heap stack h k (suc (suc (suc zero))) = omega arith
boot_addresses heap stack h k (suc (suc (suc (suc zero)))) = omega arith
boot_addresses heap stack h k (suc (suc (suc (suc (suc zero))))) = omega arith
boot_addresses heap stack h k (suc (suc (suc (suc (suc (suc zero)))))) = omega arith
boot_addresses heap stack h k (suc (suc (suc (suc (suc (suc (suc zero))))))) = omega arith
boot_addresses heap stack h k (suc (suc (suc (suc (suc (suc (suc (suc i)))))))) = omega arith

pub boot_in_range : (code statics : List ℕ) (entry : ℕ) (sizes : Sizes) → AreBytes code → AreBytes statics → entry < 2 ^ 32 → is_size sizes.heap ≡ true → is_size sizes.stack ≡ true
    → IsInRange (boot_of code statics entry sizes)
boot_in_range code statics entry sizes h k lt heap stack = record {
  registers = record { d_count = refl; a_count = refl; d = boot_data; a = boot_addresses sizes.heap sizes.stack (size_small sizes.heap heap) (size_small sizes.stack stack); pc = lt };
  storage = record { code = h; statics = k; heap = zeros_below sizes.heap 256 (omega arith); stack = zeros_below sizes.stack 256 (omega arith) };
}

-- ---- the effect on storage

bytes_spliced : (bytes : List ℕ) (i : ℕ) (text : List ℕ) → AreBytes bytes → AreBytes text → AreBytes (spliced bytes i text)
bytes_spliced bytes i text h k = below_append 256 (take i bytes ++ text) (drop (i + length text) bytes) (below_append 256 (take i bytes) text (below_take 256 i bytes h) k) (below_drop 256 (i + length text) bytes h)

bytes_kept_in_range : (m : Regions) (at : ℕ) (text : List ℕ) → HasBytes m → AreBytes text → HasBytes (with_bytes m at text)
unfolding with_bytes
bytes_kept_in_range m at text h k = elim (leb_tells (suc at) HEAP_START) [
  | inl p ↦ rw p.0 (record { code = h.code; statics = bytes_spliced m.statics (at - STATICS_START) text h.statics k; heap = h.heap; stack = h.stack })
  | inr p ↦ elim (leb_tells (suc at) STACK_START) [
    | inl q ↦ rw (p.0, q.0) (record { code = h.code; statics = h.statics; heap = bytes_spliced m.heap (at - HEAP_START) text h.heap k; stack = h.stack })
    | inr q ↦ rw (p.0, q.0) (record { code = h.code; statics = h.statics; heap = h.heap; stack = bytes_spliced m.stack (at - STACK_START) text h.stack k })
  ]
]

one_byte : (v : ℕ) → v < 256 → AreBytes (v ∷ [])
one_byte v lt zero = lt
one_byte v lt (suc i) = omega arith

effect_in_range : (m : Regions) (e : Effect) → EffectFits m e → HasBytes m → HasBytes (with_effect m e)
effect_in_range m Nothing fit h = h
effect_in_range m (WriteByte at v) fit h = bytes_kept_in_range m at (v ∷ []) h (one_byte v fit.1)
effect_in_range m (WriteLong at v) fit h = bytes_kept_in_range m at (to_be_bytes w32 v) h (bytes_of_long v)
effect_in_range m (Service v) fit h = h

effect_shape : (m : Regions) (e : Effect) → EffectFits m e → SameShape m (with_effect m e)
effect_shape m Nothing fit = record { code = refl; statics = refl; heap = refl; stack = refl }
effect_shape m (WriteByte at v) fit = shape_kept m at (v ∷ []) fit.0
effect_shape m (WriteLong at v) fit = shape_kept m at (to_be_bytes w32 v) fit
effect_shape m (Service v) fit = record { code = refl; statics = refl; heap = refl; stack = refl }

-- ---- the instruction that is read is a row

abbrev ReadsRow : Result (Instr × ℕ) Why → Type 0
ReadsRow (Ok x) = is_row x.0 ≡ true
ReadsRow (Err why) = Unit {0}

decoded_row : (bytes : List ℕ) → AreBytes bytes → ReadsRow (or_illegal (decode_of bytes))
decoded_row bytes h = by_reading (instr_at bytes) refl
  where
    by_reading : (o : Option (Instr × List ℕ)) → instr_at bytes ≡ o → ReadsRow (or_illegal (option_map (λ x. (x.0, length bytes - length x.1)) o))
    by_reading (Some x) e = (takes bytes x.0 x.1 h e).row
    by_reading None e = tt

either_row : (b : Bool) (x y : Result (Instr × ℕ) Why) → ReadsRow x → ReadsRow y → ReadsRow (if b then x else y)
either_row true x y h k = h
either_row false x y h k = k

reads_row : (s : State) → HasBytes s.storage → ReadsRow (instruction_at s)
unfolding instruction_at
reads_row s h = either_row (s.registers.pc % 2 == 1) _ _ tt (either_row (not (is_in_code s.storage s.registers.pc)) _ _ tt
    (decoded_row (code_from s) (below_drop 256 (s.registers.pc - CODE_START) s.storage.code h.code)))

next_fits : (s : State) → IsInRange s → Fits s.storage (next_of s)
unfolding next_of
next_fits s h = by_instruction (instruction_at s) (reads_row s h.storage)
  where
    by_instruction : (o : Result (Instr × ℕ) Why) → ReadsRow o → Fits s.storage (o >>= λ read. executed s.storage s.registers.pc (with_pc s.registers (sum_of s.registers.pc read.1)) read.0)
    by_instruction (Ok read) row = executed_fits s.storage s.registers.pc _ read.0 row h.storage (pc_fits s.registers _ h.registers (wrap_lt _))
    by_instruction (Err why) row = tt

pub step_keeps_range : (s : State) → IsInRange s → KeepsRange s
unfolding step_of
step_keeps_range s h = let both = by_next (next_of s) (next_fits s h) in record { in_range = both.0; shape = both.1 }
  where
    by_next : (o : Result Next Why) → Fits s.storage o → (IsInRange (after s o).1) × SameShape s.storage (after s o).1.storage
    by_next (Ok x) fit = (record { registers = fit.0; storage = effect_in_range s.storage x.effect fit.1 h.storage }, effect_shape s.storage x.effect fit.1)
    by_next (Err why) fit = (h, record { code = refl; statics = refl; heap = refl; stack = refl })
