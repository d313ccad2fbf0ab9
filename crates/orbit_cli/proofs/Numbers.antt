-- The value of digits grows with each digit.
use Rattle.std.proofs.Common.{◌≡◌, ℕ, ◌+◌, ◌-◌, ◌*◌, ◌≤◌, ◌<◌, List, [], ◌∷◌, None, subst, arith, le_trans}
use Rattle.orbit_cli.specs.Words.{digits_value, up_to}

digits_value-above : (v : ℕ) (bs : List ℕ) → v ≤ digits_value v bs
digits_value-above v [] = omega arith
digits_value-above v (b ∷ bs) =
    let here : v ≤ v * 10 + (b - 48) = omega arith in
    le_trans here (digits_value-above (v * 10 + (b - 48)) bs)

-- more digits don't bring a number back under the limit
pub up_to-over : (limit v total : ℕ) (bs : List ℕ) → digits_value v bs ≡ total → limit < v → None ≡ up_to limit total
up_to-over limit v total bs same over =
    let above : v ≤ total = subst (λ (t : ℕ). v ≤ t) same (digits_value-above v bs) in
    grind (arith, above, over)
