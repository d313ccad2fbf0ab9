-- The sum of the bytes of a unit's code.
use Rattle.std.proofs.Common.{◌≡◌, ℕ, zero, suc, ◌+◌, ◌*◌, ◌≤◌, ◌<◌, ◌-◌, List, [], ◌∷◌, length, sum_by, ◌⊎◌, inl, inr, refl, ap, arith}
use Rattle.std.proofs.lemmas.Bool.{cases_lt}
use Rattle.std.proofs.lemmas.List.Sums.{sum_by-cons}
use Rattle.cps_ir.specs.Loads.{Bulk}
use Rattle.cps_ir.specs.Bytes.{bytes_of, IsOfNodes, most_code, once, form_bytes, FormsLeaveRoom, BytesAreFew, CodeFits}

-- a number is at most its square
square_above : (m : ℕ) → m ≤ m * m
square_above zero = omega arith
square_above (suc m) = omega arith

-- the square of a number that is so far below another one
square_below : (n m k : ℕ) → n + m ≡ k → n * n + k * m ≡ k * n + m * m
square_below n m k e =
    let by_n : n * (n + m) ≡ n * k = ap (λ x. n * x) e in
    let by_m : m * (n + m) ≡ m * k = ap (λ x. m * x) e in
    omega arith

-- (2 n - 51) (2 n - 52) isn't negative
near_26 : (n : ℕ) → 206 * n ≤ 4 * (n * n) + 2652
near_26 n = by (cases_lt n 26)
  where
    above : (m : ℕ) → n ≡ 26 + m → 206 * n ≤ 4 * (n * n) + 2652
    above m e = let square : n * n ≡ (26 + m) * (26 + m) = ap (λ x. x * x) e in omega arith

    below : (m : ℕ) → n + m ≡ 26 → 206 * n ≤ 4 * (n * n) + 2652
    below m e = omega (arith, square_below n m 26 e, square_above m)

    by : (n < 26) ⊎ (26 ≤ n) → 206 * n ≤ 4 * (n * n) + 2652
    by (inl less) = below (26 - n) (omega arith)
    by (inr more) = above (n - 26) (omega arith)

-- the square of n less 127
near_127 : (n : ℕ) → 254 * n ≤ n * n + 16129
near_127 n = by (cases_lt n 127)
  where
    above : (m : ℕ) → n ≡ 127 + m → 254 * n ≤ n * n + 16129
    above m e = let square : n * n ≡ (127 + m) * (127 + m) = ap (λ x. x * x) e in omega arith

    below : (m : ℕ) → n + m ≡ 127 → 254 * n ≤ n * n + 16129
    below m e = omega (arith, square_below n m 127 e)

    by : (n < 127) ⊎ (127 ≤ n) → 254 * n ≤ n * n + 16129
    by (inl less) = below (127 - n) (omega arith)
    by (inr more) = above (n - 127) (omega arith)

pub forms_leave_room : FormsLeaveRoom
forms_leave_room n = omega (arith, near_26 n)

-- three bytes of weight are left but for 12,865
leaves_three : (n : ℕ) → form_bytes n ≤ 61 * ((n + 8) * (n + 8)) + 12865
leaves_three n = omega (arith, near_127 n)

-- ---- sums

-- what the three bounds come to
bounded : (forms : List ℕ) → 500 * sum_by (λ n. 2 * n + 1) forms + 30 * sum_by (λ n. (2 * n + 1) * (n + 2)) forms + 40 * sum_by (λ n. 2 * n + 2) forms ≡ sum_by form_bytes forms
bounded [] = refl
bounded (n ∷ forms) =
    let rest : 500 * sum_by (λ n. 2 * n + 1) forms + 30 * sum_by (λ n. (2 * n + 1) * (n + 2)) forms + 40 * sum_by (λ n. 2 * n + 2) forms ≡ sum_by form_bytes forms = bounded forms in
    omega (arith, sum_by-cons (λ n. 2 * n + 1) n forms, sum_by-cons (λ n. (2 * n + 1) * (n + 2)) n forms, sum_by-cons (λ n. 2 * n + 2) n forms, sum_by-cons form_bytes n forms)

within : (forms : List ℕ) (b : Bulk) → IsOfNodes forms b → bytes_of b ≤ sum_by form_bytes forms + 600
within forms b x = omega (arith, x.terms, x.room, x.args, bounded forms)

all_leave : (forms : List ℕ) → sum_by form_bytes forms + 804 * length forms ≤ 64 * sum_by (λ n. (n + 8) * (n + 8)) forms
all_leave [] = omega arith
all_leave (n ∷ forms) =
    omega (arith, forms_leave_room n, all_leave forms, sum_by-cons (λ n. (n + 8) * (n + 8)) n forms, sum_by-cons form_bytes n forms)

all_leave_three : (forms : List ℕ) → sum_by form_bytes forms ≤ 61 * sum_by (λ n. (n + 8) * (n + 8)) forms + 12865 * length forms
all_leave_three [] = omega arith
all_leave_three (n ∷ forms) =
    omega (arith, leaves_three n, all_leave_three forms, sum_by-cons (λ n. (n + 8) * (n + 8)) n forms, sum_by-cons form_bytes n forms)

pub bytes_are_few : BytesAreFew
bytes_are_few forms b x = omega (arith, within forms b x, all_leave forms)

pub code_fits : CodeFits
code_fits forms b x small = by (cases_lt (length forms) 900)
  where
    by : (length forms < 900) ⊎ (900 ≤ length forms) → bytes_of b + once ≤ most_code
    by (inl few) = omega (arith, small, within forms b x, all_leave_three forms)
    by (inr many) = omega (arith, small, within forms b x, all_leave forms)
