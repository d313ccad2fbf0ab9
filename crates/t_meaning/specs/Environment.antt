-- Where variables have their locations.
use Rattle.std.specs.Prelude.{ℕ, suc, ◌==◌, if◌then◌else◌, List, [], ◌∷◌, Option, Some, None}
use Rattle.t_base.specs.declared.basics.Var.{Var}

-- each variable in scope by its number, with its location; the innermost binding stands first
abbrev pub Env : Type 0
Env = List (ℕ × ℕ)

abbrev pub location_of : Env → ℕ → Option ℕ
location_of [] x = None
location_of (b ∷ env) x = if b.0 == x then Some b.1 else location_of env x

-- the variables at locations from `next` on
abbrev pub extended : List Var → ℕ → Env → Env
extended [] next env = env
extended (x ∷ xs) next env = extended xs (suc next) ((x.0, next) ∷ env)
