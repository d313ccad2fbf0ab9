-- Items with a label in front of each of several parts, in which no label stands.
use Rattle.std.proofs.Common.{◌≡◌, ℕ, zero, suc, ◌+◌, ◌<◌, ◌≤◌, List, [], ◌∷◌, ◌++◌, length, Some, refl, ap, subst, arith, inl, inr}
use Rattle.std.proofs.lemmas.Bool.{cases_lt}
use Rattle.std.specs.List.{AllByRecursion}
use Rattle.m68020_asm.specs.declared.item.Item.{Item}
use Rattle.m68020_asm.specs.declared.item.Item.TheVariants.{Plain, Label, Branch, CodeAddr}
use Rattle.m68020_asm.specs.Items.{IsLabelAt, label_count}
use Rattle.lap_shapes.proofs.Rows.{AreCode}

abbrev pub chunks : ℕ → List (List Item) → List Item
chunks b [] = []
chunks b (c ∷ parts) = Label b ∷ c ++ chunks (b + 1) parts

-- ---- labels

-- a label isn't among code
behind_code : (b : ℕ) (c rest : List Item) (n k : ℕ) → AreCode b c → IsLabelAt (c ++ rest) n k → (j : ℕ) × (k ≡ length c + j) × IsLabelAt rest n j
behind_code b [] rest n k are at = (k, omega arith, at)
behind_code b (Plain i ∷ c) rest n zero are at = absurd (cc)
behind_code b (Branch cond m ∷ c) rest n zero are at = absurd (cc)
behind_code b (CodeAddr reg m ∷ c) rest n zero are at = absurd (cc)
behind_code b (Label m ∷ c) rest n zero are at = absurd are.0
behind_code b (x ∷ c) rest n (suc k) are at = let later = behind_code b c rest n k are.1 at in (later.0, omega (arith, later.1), later.2)

in_front : (c rest : List Item) (n j : ℕ) → IsLabelAt rest n j → IsLabelAt (c ++ rest) n (length c + j)
in_front [] rest n j at = subst (λ k. IsLabelAt rest n k) (let same : j ≡ 0 + j = omega arith in same) at
in_front (x ∷ c) rest n j at = subst (λ k. IsLabelAt (x ∷ c ++ rest) n k) (let same : suc (length c + j) ≡ suc (length c) + j = omega arith in same) (in_front c rest n j at)

label_of_front : (b n : ℕ) (rest : List Item) → IsLabelAt (Label b ∷ rest) n zero → b ≡ n
label_of_front b n rest at = cc

pub least : (blocks b : ℕ) (parts : List (List Item)) (n k : ℕ) → AllByRecursion (AreCode blocks) parts → IsLabelAt (chunks b parts) n k → b ≤ n
least blocks b [] n k are at = absurd (cc)
least blocks b (c ∷ parts) n zero are at = omega (arith, label_of_front b n (c ++ chunks (b + 1) parts) at)
least blocks b (c ∷ parts) n (suc k) are at =
    let later = behind_code blocks c (chunks (b + 1) parts) n k are.0 at in
    omega (arith, least blocks (b + 1) parts n later.0 are.1 later.2)

pub once : (blocks b : ℕ) (parts : List (List Item)) (n k j : ℕ) → AllByRecursion (AreCode blocks) parts → IsLabelAt (chunks b parts) n k → IsLabelAt (chunks b parts) n j → k ≡ j
once blocks b [] n k j are p q = absurd (cc)
once blocks b (c ∷ parts) n zero zero are p q = refl
once blocks b (c ∷ parts) n zero (suc j) are p q =
    let later = behind_code blocks c (chunks (b + 1) parts) n j are.0 q in
    absurd (omega (arith, label_of_front b n (c ++ chunks (b + 1) parts) p, least blocks (b + 1) parts n later.0 are.1 later.2))
once blocks b (c ∷ parts) n (suc k) zero are p q =
    let later = behind_code blocks c (chunks (b + 1) parts) n k are.0 p in
    absurd (omega (arith, label_of_front b n (c ++ chunks (b + 1) parts) q, least blocks (b + 1) parts n later.0 are.1 later.2))
once blocks b (c ∷ parts) n (suc k) (suc j) are p q =
    let x = behind_code blocks c (chunks (b + 1) parts) n k are.0 p in
    let y = behind_code blocks c (chunks (b + 1) parts) n j are.0 q in
    omega (arith, x.1, y.1, once blocks (b + 1) parts n x.0 y.0 are.1 x.2 y.2)

pub each : (b : ℕ) (parts : List (List Item)) (n : ℕ) → b ≤ n → n < b + length parts → (k : ℕ) × IsLabelAt (chunks b parts) n k
each b [] n p q = absurd (omega arith)
each b (c ∷ parts) n p q = elim (cases_lt b n) [
  | inr small ↦ (0, ap (λ m. Some (Label m)) (let same : b ≡ n = omega (arith, small) in same))
  | inl large ↦ let later = each (b + 1) parts n (omega (arith, large)) (omega arith) in (suc (length c + later.0), in_front c (chunks (b + 1) parts) n later.0 later.1)
]

count_behind : (b : ℕ) (c rest : List Item) → AreCode b c → label_count (c ++ rest) ≡ label_count rest
count_behind b [] rest are = refl
count_behind b (Plain i ∷ c) rest are = count_behind b c rest are.1
count_behind b (Branch cond m ∷ c) rest are = count_behind b c rest are.1
count_behind b (CodeAddr reg m ∷ c) rest are = count_behind b c rest are.1
count_behind b (Label m ∷ c) rest are = absurd are.0

-- no part, no label; else as many as there are parts
pub counted : (blocks b : ℕ) (parts : List (List Item)) → AllByRecursion (AreCode blocks) parts → (length parts ≡ 0 → label_count (chunks b parts) ≡ 0) × (0 < length parts → label_count (chunks b parts) ≡ b + length parts)
counted blocks b [] are = (λ none. refl, λ some. absurd (omega arith))
counted blocks b (c ∷ parts) are =
    let rest = counted blocks (b + 1) parts are.1 in
    let same : label_count (c ++ chunks (b + 1) parts) ≡ label_count (chunks (b + 1) parts) = count_behind blocks c (chunks (b + 1) parts) are.0 in (
      λ none. absurd (omega arith),
      λ some. elim (cases_lt 0 (length parts)) [
        | inr small ↦ omega (arith, same, rest.0 (omega (arith, small)))
        | inl large ↦ omega (arith, same, rest.1 (omega (arith, large)))
      ],
    )
