-- Names that are bound one after the other.
use Rattle.std.proofs.Common.{◌≡◌, ℕ, zero, suc, ◌+◌, ◌-◌, ◌<◌, ◌≤◌, List, [], ◌∷◌, ◌++◌, length, drop, get_or, refl, sym, ap, ◌∙◌, arith}
use Rattle.std.proofs.lemmas.List.{drop_more}
use Rattle.t_base.specs.declared.basics.Var.{Var}
use Rattle.t_forms.specs.declared.scope.Local.{Local}
use Rattle.t_forms.specs.Held.{without_first}
use Rattle.expansion.specs.Lists.{numbered}

pub drop-without_first : (k : ℕ) (locals all : List Local) → locals ≡ drop k all → without_first locals ≡ drop (k + 1) all
drop-without_first k locals all e = ap without_first e ∙ by k all
  where
    by : (n : ℕ) (xs : List Local) → without_first (drop n xs) ≡ drop (n + 1) xs
    by zero [] = refl
    by zero (x ∷ xs) = refl
    by (suc n) [] = let e : suc n + 1 ≡ suc (n + 1) = omega arith in rw e refl
    by (suc n) (x ∷ xs) = let e : suc n + 1 ≡ suc (n + 1) = omega arith in rw e (by n xs)

pub one_more_name : {A : Type 0} (names : List A) (at : ℕ) (x : A) (olds initial : List A) → 0 < at → at ≤ length names → (d : A) → x ≡ get_or names (at - 1) d
    → olds ≡ drop at names ++ initial → x ∷ olds ≡ drop (at - 1) names ++ initial
one_more_name names at x olds initial pos within d is e =
    let a : (at - 1) + 1 ≡ at = omega arith in
    let b = drop_more names (at - 1) d (omega arith) in
    ap (λ l. x ∷ l) e ∙ ap (λ l. l ++ initial) (sym (b ∙ ap (λ y. y ∷ drop ((at - 1) + 1) names) (sym is) ∙ ap (λ n. x ∷ drop n names) a))

pub one_more_var : (first n at : ℕ) (olds initial : List Var) → 0 < at → at ≤ n → olds ≡ numbered (first + at) (n - at) ++ initial
    → record { 0 = first + (at - 1) } ∷ olds ≡ numbered (first + (at - 1)) (n - (at - 1)) ++ initial
one_more_var first n at olds initial pos within e =
    let a : n - (at - 1) ≡ suc (n - at) = omega arith in
    let b : suc (first + (at - 1)) ≡ first + at = omega arith in
    rw a (rw b (ap (λ l. record { 0 = first + (at - 1) } ∷ l) e))

pub one_more_local : (n at : ℕ) (x : Local) (olds initial : List Local) → 0 < at → at ≤ n → drop (n - at) olds ≡ initial → drop (n - (at - 1)) (x ∷ olds) ≡ initial
one_more_local n at x olds initial pos within e = let a : n - (at - 1) ≡ suc (n - at) = omega arith in rw a e
