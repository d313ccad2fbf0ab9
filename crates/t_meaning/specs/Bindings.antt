-- How variables are bound: each at a new location.
use Rattle.std.specs.Prelude.{ℕ, suc, List, [], ◌∷◌, length}
use Rattle.t_base.specs.declared.basics.Var.{Var}
use Rattle.t_prim.specs.Values.{Val}
use Rattle.t_meaning.specs.Programs.{Program}
use Rattle.t_meaning.specs.Environment.{Env, extended}
use Rattle.t_meaning.specs.State.{State, with_locations, with_location_at, taking}
use Rattle.t_meaning.specs.Costs.{binding_words}
use Rattle.t_meaning.specs.Outcomes.{Outcome, Context, Doing, with_value, early}

-- goes on with the variables at new locations, which have the values
abbrev pub binding : Program → List Var → List Val → Env → State → (Env → State → Outcome) → Outcome
binding p vars values env s rest = rest (extended vars (length s.locations) env) (taking (binding_words p.unit vars) (with_locations s values))

-- each LAMBDA of a LABELS is evaluated and put into its location, from `l` on
abbrev pub filling : Doing → ℕ → Context → ℕ → List ℕ → State → (State → Outcome) → Outcome
filling part d c l [] s rest = rest s
filling part d c l (k ∷ ks) s rest = with_value (early part d c k s) (λ t v. filling part d c (suc l) ks (with_location_at t l v) rest)
