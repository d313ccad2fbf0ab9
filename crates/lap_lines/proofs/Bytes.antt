-- Bytes of storage are loaded.
use Rattle.std.proofs.Common.{◌≡◌, ℕ, zero, suc, ◌+◌, ◌-◌, ◌%◌, ◌<◌, ◌≤◌, nat_le, Bool, true, false, List, [], ◌∷◌, length, take, drop, Some, None, inl, inr, refl, ap, sym, ◌∙◌, arith}
use Rattle.std.specs.Prelude.{if◌then◌else◌, slice_index, option_map}
use Rattle.std.specs.Int.{w32, from_be_bytes}
use Rattle.std.proofs.lemmas.Bool.{and_parts, leb-true, le-leb, lt-ltb, le-ltb}
use Rattle.std.proofs.lemmas.Bool.Decides.{leb_tells}
use Rattle.std.proofs.lemmas.List.{length-drop, drop-drop}
use Rattle.word_ir.specs.Word.{byte_of}
use Rattle.m68020_step.specs.declared.storage.TheConstants.{CODE_START, STATICS_START, HEAP_START, STACK_START}
use Rattle.m68020_step.specs.Ranges.{AreBytes, HasBytes}
use Rattle.m68020_step.specs.Storage.{Regions, lies_in, bytes_in, bytes_at, byte_at, long_at}
use Rattle.m68020_step.proofs.InRange.{below_drop}

-- ---- the bytes of a long word of storage

four : (xs : List ℕ) (k : ℕ) → 4 ≤ length xs → AreBytes xs → k < 4 → slice_index (take 1 (drop k xs)) 0 ≡ byte_of (from_be_bytes w32 (take 4 xs)) k
four [] k le h lt = absurd (omega arith)
four (a ∷ []) k le h lt = absurd (omega arith)
four (a ∷ b ∷ []) k le h lt = absurd (omega arith)
four (a ∷ b ∷ c ∷ []) k le h lt = absurd (omega arith)
four (a ∷ b ∷ c ∷ d ∷ xs) zero le h lt = omega (arith, h 0, h 1, h 2, h 3)
four (a ∷ b ∷ c ∷ d ∷ xs) (suc zero) le h lt = omega (arith, h 0, h 1, h 2, h 3)
four (a ∷ b ∷ c ∷ d ∷ xs) (suc (suc zero)) le h lt = omega (arith, h 0, h 1, h 2, h 3)
four (a ∷ b ∷ c ∷ d ∷ xs) (suc (suc (suc zero))) le h lt = omega (arith, h 0, h 1, h 2, h 3)
four (a ∷ b ∷ c ∷ d ∷ xs) (suc (suc (suc (suc k)))) le h lt = absurd (omega arith)

in_region : (start : ℕ) (bytes : List ℕ) (at k n : ℕ) → AreBytes bytes → k < 4 → option_map (λ b. from_be_bytes w32 b) (bytes_in start bytes at 4) ≡ Some n → option_map (λ b. slice_index b 0) (bytes_in start bytes (at + k) 1) ≡ Some (byte_of n k)
in_region start bytes at k n h lt is = by (lies_in start bytes at 4) refl is
  where
    by : (b : Bool) → lies_in start bytes at 4 ≡ b → option_map (λ x. from_be_bytes w32 x) (if b then Some (take 4 (drop (at - start) bytes)) else None) ≡ Some n → option_map (λ x. slice_index x 0) (bytes_in start bytes (at + k) 1) ≡ Some (byte_of n k)
    by false e is = absurd (cc)
    by true e is =
        let p = and_parts (nat_le start at) (nat_le (at - start + 4) (length bytes)) e in
        let low = leb-true start at p.0 in
        let high = leb-true (at - start + 4) (length bytes) p.1 in
        let value : from_be_bytes w32 (take 4 (drop (at - start) bytes)) ≡ n = cc in
        let place : at + k - start ≡ at - start + k = omega (arith, low) in
        rw (le-leb start (at + k) (omega (arith, low)), le-leb (at + k - start + 1) (length bytes) (omega (arith, low, high, lt)))
        (ap Some (ap (λ (i : ℕ). slice_index (take 1 (drop i bytes)) 0) place ∙ ap (λ (l : List ℕ). slice_index (take 1 l) 0) (sym (drop-drop k (at - start) bytes))
        ∙ four (drop (at - start) bytes) k (omega (arith, high, length-drop (at - start) bytes)) (below_drop 256 (at - start) bytes h) lt ∙ ap (λ (x : ℕ). byte_of x k) value))

pub byte_there : (m : Regions) (at k n : ℕ) → HasBytes m → at % 4 ≡ 0 → k < 4 → long_at m at ≡ Some n → byte_at m (at + k) ≡ Some (byte_of n k)
unfolding long_at byte_at bytes_at
byte_there m at k n h whole lt is = elim (leb_tells (suc at) STATICS_START) [
  | inl p ↦ let j = rw p.0 at is in rw (lt-ltb (at + k) STATICS_START (omega (arith, p.1, whole, lt))) (in_region CODE_START m.code at k n h.code lt j)
  | inr p ↦ elim (leb_tells (suc at) HEAP_START) [
    | inl q ↦ let j = rw (p.0, q.0) at is in rw (le-ltb (at + k) STATICS_START (omega (arith, p.1)), lt-ltb (at + k) HEAP_START (omega (arith, q.1, whole, lt))) (in_region STATICS_START m.statics at k n h.statics lt j)
    | inr q ↦ elim (leb_tells (suc at) STACK_START) [
      | inl r ↦ let j = rw (p.0, q.0, r.0) at is in rw (le-ltb (at + k) STATICS_START (omega (arith, p.1)), le-ltb (at + k) HEAP_START (omega (arith, q.1)), lt-ltb (at + k) STACK_START (omega (arith, r.1, whole, lt))) (in_region HEAP_START m.heap at k n h.heap lt j)
      | inr r ↦ let j = rw (p.0, q.0, r.0) at is in rw (le-ltb (at + k) STATICS_START (omega (arith, p.1)), le-ltb (at + k) HEAP_START (omega (arith, q.1)), le-ltb (at + k) STACK_START (omega (arith, r.1))) (in_region STACK_START m.stack at k n h.stack lt j)
    ]
  ]
]
