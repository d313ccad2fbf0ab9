-- Lists that grow, and variables that are numbered in order.
use Rattle.std.specs.Prelude.{◌≡◌, ℕ, zero, suc, List, [], ◌∷◌, ◌++◌}
use Rattle.t_base.specs.declared.basics.Var.{Var}

-- the second list goes on the first
pub record Adds {A : Type 0} (xs ys : List A) : Type 0 where
  pub more : List A
  pub is : ys ≡ xs ++ more

-- variables with the numbers from a first one on
abbrev pub numbered : ℕ → ℕ → List Var
numbered first zero = []
numbered first (suc n) = record { 0 = first } ∷ numbered (suc first) n
