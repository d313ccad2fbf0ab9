-- Reading names one after the other, as a loop does.
use Rattle.std.proofs.Common.{◌≡◌, ℕ, suc, ◌-◌, ◌+◌, ◌≤◌, ◌<◌, List, [], ◌∷◌, ◌++◌, length, take, drop, Result, Ok, Err, true, false, eqb, refl, sym, ap, subst, ◌∙◌, arith}
use Rattle.image_file.specs.declared.fault.ImageFault.{ImageFault}
use Rattle.image_file.specs.declared.fault.ImageFault.TheVariants as faults
use Rattle.image_file.specs.declared.fault.ImageKind.TheVariants.{Field}
use Rattle.image_file.specs.Reading.{Refusal, ◌>>=◌, has_text, Fails, name_at, one_more, names_at, entry, code_length, static_length, name_count, names_start, with_names, parts_at}
use Rattle.image_file.specs.Grammar.{Parts}
use Rattle.image_file.proofs.Bytes.{guard_ok, ok_is}
use Rattle.image_file.proofs.Whole.{same_parts}
use Rattle.std.proofs.lemmas.Bool.{eqb-true}
use Rattle.std.proofs.lemmas.List.{drop-drop, length-append}

pub goes_on : (count i at : ℕ) (names : List (List ℕ)) (bytes name : List ℕ) (more : List (List ℕ)) (next : ℕ) (total : Result (List (List ℕ)) Refusal) → i < count → name_at at bytes ≡ Ok name → one_more at names name ≡ Ok more → next ≡ at + 2 + length name
    → names_at (count - i) names at bytes ≡ total → names_at (count - (i + 1)) more next (drop (2 + length name) bytes) ≡ total
unfolding names_at
goes_on count i at names bytes name more next total lt h m n so_far =
    let k : count - i ≡ suc (count - (i + 1)) = omega arith in
    let one : names_at (count - i) names at bytes ≡ names_at (count - (i + 1)) more (at + 2 + length name) (drop (2 + length name) bytes) = rw (k, h, m) refl in
    rw n (sym one ∙ so_far)

pub ends_at_name : (e : ImageFault) (count i at : ℕ) (names : List (List ℕ)) (bytes : List ℕ) (total : Result (List (List ℕ)) Refusal) → i < count → Fails e (name_at at bytes) → names_at (count - i) names at bytes ≡ total → Fails e total
unfolding names_at
ends_at_name faults.Memory count i at names bytes total lt h so_far = tt
ends_at_name (faults.Fault kind place) count i at names bytes total lt h so_far =
    let k : count - i ≡ suc (count - (i + 1)) = omega arith in
    let one : names_at (count - i) names at bytes ≡ Err (kind, place) = rw (k, h) refl in
    sym so_far ∙ one

pub ends_at_double : (e : ImageFault) (count i at : ℕ) (names : List (List ℕ)) (bytes name : List ℕ) (total : Result (List (List ℕ)) Refusal) → i < count → name_at at bytes ≡ Ok name → Fails e (one_more at names name) → names_at (count - i) names at bytes ≡ total → Fails e total
unfolding names_at
ends_at_double faults.Memory count i at names bytes name total lt h m so_far = tt
ends_at_double (faults.Fault kind place) count i at names bytes name total lt h m so_far =
    let k : count - i ≡ suc (count - (i + 1)) = omega arith in
    let one : names_at (count - i) names at bytes ≡ Err (kind, place) = rw (k, h, m) refl in
    sym so_far ∙ one

pub is_done : (count i at : ℕ) (names : List (List ℕ)) (bytes : List ℕ) (total : Result (List (List ℕ)) Refusal) → count ≤ i → true ≡ eqb (length bytes) 0 → names_at (count - i) names at bytes ≡ total → total ≡ Ok names
unfolding names_at
is_done count i at names [] total le e so_far =
    let k : count - i ≡ 0 = omega arith in
    sym so_far ∙ rw k refl
is_done count i at names (b ∷ bytes) total le e so_far = absurd (some (length bytes) (eqb-true (suc (length bytes)) 0 (sym e)))
  where
    some : (n : ℕ) → suc n ≡ 0 → ⊥
    some n h = omega arith

pub leaves_bytes : (count i at : ℕ) (names : List (List ℕ)) (bytes : List ℕ) (total : Result (List (List ℕ)) Refusal) → count ≤ i → false ≡ eqb (length bytes) 0 → names_at (count - i) names at bytes ≡ total → total ≡ Err (Field, at)
unfolding names_at
leaves_bytes count i at names [] total le e so_far = absurd cc
leaves_bytes count i at names (b ∷ bytes) total le e so_far =
    let k : count - i ≡ 0 = omega arith in
    sym so_far ∙ rw k refl

pub count_more : (at : ℕ) (names : List (List ℕ)) (name : List ℕ) (more : List (List ℕ)) → one_more at names name ≡ Ok more → length more ≡ length names + 1
count_more at names name more e =
    let g = guard_ok (has_text names name) (Field, at) (Ok (names ++ name ∷ [])) more e in
    ap length (sym (ok_is (names ++ name ∷ []) more g.1)) ∙ length-append names (name ∷ [])

-- ---- the parts, from the bytes cut behind the header, the code and the static words

-- what is cut so
pub record IsCut (bytes : List ℕ) (c s n at : ℕ) : Type 0 where
  pub code : c ≡ code_length bytes
  pub statics : s ≡ static_length bytes
  pub count : n ≡ name_count bytes
  pub start : at ≡ names_start bytes

same_names : (bytes : List ℕ) (c s n start : ℕ) → IsCut bytes c s n start → names_at n [] start (drop s (drop c (drop 32 bytes))) ≡ names_at (name_count bytes) [] (names_start bytes) (drop (names_start bytes) bytes)
same_names bytes c s n start cut =
    let behind_code : drop (code_length bytes) (drop 32 bytes) ≡ drop (32 + code_length bytes) bytes = drop-drop (code_length bytes) 32 bytes in
    let part : drop s (drop c (drop 32 bytes)) ≡ drop (names_start bytes) bytes = rw (cut.statics, cut.code, behind_code) (drop-drop (static_length bytes) (32 + code_length bytes) bytes) in
    rw (part, cut.count, cut.start) refl

pub parts_made : (bytes : List ℕ) (c s e n start : ℕ) (names : List (List ℕ)) → IsCut bytes c s n start → e ≡ entry bytes → names_at n [] start (drop s (drop c (drop 32 bytes))) ≡ Ok names
    → parts_at bytes ≡ Ok (record { code = take c (drop 32 bytes); statics = take s (drop c (drop 32 bytes)); entry = e; names = names })
unfolding parts_at
parts_made bytes c s e n start names cut e-is read =
    let behind_code : drop (code_length bytes) (drop 32 bytes) ≡ drop (32 + code_length bytes) bytes = drop-drop (code_length bytes) 32 bytes in
    let whole = sym (same_names bytes c s n start cut) ∙ read in
    let code : take (code_length bytes) (drop 32 bytes) ≡ take c (drop 32 bytes) = ap (λ (k : ℕ). take k (drop 32 bytes)) (sym cut.code) in
    let statics : take (static_length bytes) (drop (32 + code_length bytes) bytes) ≡ take s (drop c (drop 32 bytes)) = rw (cut.statics, cut.code, behind_code) refl in
    ap (λ (r : Result (List (List ℕ)) Refusal). r >>= λ ns. Ok (with_names bytes ns)) whole ∙ ap (λ (x : Parts). Ok x) (same_parts _ _ _ (record { code = take c (drop 32 bytes); statics = take s (drop c (drop 32 bytes)); entry = e; names = names }) code statics (sym e-is))

fails_first : (e : ImageFault) (bytes : List ℕ) (r : Result (List (List ℕ)) Refusal) → Fails e r → Fails e (r >>= λ ns. Ok (with_names bytes ns))
fails_first faults.Memory bytes r h = tt
fails_first (faults.Fault kind at) bytes r h = ap (λ (x : Result (List (List ℕ)) Refusal). x >>= λ ns. Ok (with_names bytes ns)) h

pub parts_fail : (e : ImageFault) (bytes : List ℕ) (c s n start : ℕ) → IsCut bytes c s n start → Fails e (names_at n [] start (drop s (drop c (drop 32 bytes)))) → Fails e (parts_at bytes)
unfolding parts_at
parts_fail e bytes c s n start cut h = fails_first e bytes _ (subst (Fails e) (same_names bytes c s n start cut) h)
