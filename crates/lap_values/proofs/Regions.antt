-- Bytes that stand behind each other in storage.
use Rattle.std.proofs.Common.{◌≡◌, ℕ, zero, suc, ◌+◌, ◌-◌, ◌<◌, ◌≤◌, nat_le, Bool, true, false, List, [], ◌∷◌, ◌++◌, length, take, drop, Option, Some, None, refl, ap, sym, subst, ◌∙◌, arith}
use Rattle.std.specs.Prelude.{if◌then◌else◌, slice_index, option_map, option_and_then}
use Rattle.std.proofs.lemmas.Bool.{and_parts, leb-true, le-leb}
use Rattle.std.proofs.lemmas.List.{length-drop, drop-drop}
use Rattle.word_ir.specs.Word.{Word}
use Rattle.word_ir.specs.Storage.{byte_at, bytes_at, followed_by}
use Rattle.m68020_step.specs.Storage.{lies_in, bytes_in}

-- these bytes stand in a region from an address on
pub record Within (start : ℕ) (region : List ℕ) (at len : ℕ) (bytes : List ℕ) : Type 0 where
  pub from : start ≤ at
  pub to : at - start + len ≤ length region
  pub are : take len (drop (at - start) region) ≡ bytes

take_one : (xs : List ℕ) → 1 ≤ length xs → take 1 xs ≡ slice_index (take 1 xs) 0 ∷ []
take_one [] le = absurd (omega arith)
take_one (x ∷ xs) le = refl

take_none : (xs : List ℕ) → take 0 xs ≡ []
take_none [] = refl
take_none (x ∷ xs) = refl

take_empty : (n : ℕ) → take {A = ℕ} n [] ≡ []
take_empty zero = refl
take_empty (suc n) = refl

take_more : (n : ℕ) (xs : List ℕ) → take (suc n) xs ≡ take 1 xs ++ take n (drop 1 xs)
take_more n [] = sym (take_empty n)
take_more n (x ∷ xs) = refl

pub one_within : (start : ℕ) (region : List ℕ) (at byte : ℕ) → option_map (λ b. slice_index b 0) (bytes_in start region at 1) ≡ Some byte → Within start region at 1 (byte ∷ [])
one_within start region at byte is = by (lies_in start region at 1) refl is
  where
    by : (b : Bool) → lies_in start region at 1 ≡ b → option_map (λ x. slice_index x 0) (if b then Some (take 1 (drop (at - start) region)) else None) ≡ Some byte → Within start region at 1 (byte ∷ [])
    by false e is = absurd (cc)
    by true e is =
        let p = and_parts (nat_le start at) (nat_le (at - start + 1) (length region)) e in
        let high = leb-true (at - start + 1) (length region) p.1 in
        let value : slice_index (take 1 (drop (at - start) region)) 0 ≡ byte = cc in record {
          from = leb-true start at p.0;
          to = high;
          are = take_one (drop (at - start) region) (omega (arith, high, length-drop (at - start) region)) ∙ ap (λ (x : ℕ). x ∷ []) value;
        }

-- a byte, and others behind it
more_within : (start : ℕ) (region : List ℕ) (at len byte : ℕ) (bytes : List ℕ) → Within start region at 1 (byte ∷ []) → Within start region (suc at) len bytes → Within start region at (suc len) (byte ∷ bytes)
more_within start region at len byte bytes x y =
    let place : suc at - start ≡ 1 + (at - start) = omega (arith, x.from) in record {
      from = x.from;
      to = omega (arith, x.from, y.to);
      are =
          take_more len (drop (at - start) region)
          ∙ ap (λ (l : List ℕ). l ++ take len (drop 1 (drop (at - start) region))) x.are
          ∙ ap (λ (l : List ℕ). byte ∷ take len l) (drop-drop 1 (at - start) region ∙ ap (λ (k : ℕ). drop k region) (omega (arith, place)))
          ∙ ap (λ (l : List ℕ). byte ∷ l) y.are;
    }

pub within_there : (start : ℕ) (region : List ℕ) (at len : ℕ) (bytes : List ℕ) → Within start region at len bytes → bytes_in start region at len ≡ Some bytes
within_there start region at len bytes w = rw (le-leb start at w.from, le-leb (at - start + len) (length region) w.to) (ap Some w.are)

-- Where each byte that is read below a limit stands in a region, with its end below the limit too, bytes behind each other do.
module _ (read : ℕ → Option Word) (start limit : ℕ) (region : List ℕ)
    (each : (at byte : ℕ) → start ≤ at → at < limit → byte_at read at ≡ Some byte → (suc at < limit) × Within start region at 1 (byte ∷ [])) where
  pub all_within : (len at : ℕ) (bytes : List ℕ) → start ≤ at → at < limit → at - start ≤ length region → bytes_at read at len ≡ Some bytes → Within start region at len bytes
  all_within zero at bytes low high inside is =
      let none : [] ≡ bytes = cc in record { from = low; to = omega (arith, inside); are = take_none (drop (at - start) region) ∙ none }
  all_within (suc len) at bytes low high inside is = by (λ xs next there rest. all_within len (suc at) xs next there rest) (byte_at read at) refl is
    where
      behind : (byte : ℕ) (o : Option (List ℕ)) → Within start region at 1 (byte ∷ []) → ((xs : List ℕ) → o ≡ Some xs → Within start region (suc at) len xs) → followed_by o byte ≡ Some bytes → Within start region at (suc len) bytes
      behind byte None w f is = absurd (cc)
      behind byte (Some xs) w f is =
          let same : byte ∷ xs ≡ bytes = cc in
          subst (λ (l : List ℕ). Within start region at (suc len) l) same (more_within start region at len byte xs w (f xs refl))

      by : ((xs : List ℕ) → start ≤ suc at → suc at < limit → suc at - start ≤ length region → bytes_at read (suc at) len ≡ Some xs → Within start region (suc at) len xs) → (o : Option ℕ) → byte_at read at ≡ o → option_and_then (followed_by (bytes_at read (suc at) len)) o ≡ Some bytes → Within start region at (suc len) bytes
      by rest None e is = absurd (cc)
      by rest (Some byte) e is =
          let first = each at byte low high e in
          behind byte (bytes_at read (suc at) len) first.1 (λ xs f. rest xs (omega (arith, low)) first.0 (omega (arith, first.1.to, low)) f) is
