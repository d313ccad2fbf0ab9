-- Variables whose numbers differ are different ones.
use Rattle.std.proofs.Common.{◌≡◌, ◌≢◌, ℕ, zero, suc, List, [], ◌∷◌, map, length, get_or, refl, sym, ap, ◌∙◌}
use Rattle.std.specs.Prelude.{AllPairs}
use Rattle.t_base.specs.declared.basics.Var.{Var}

number_at : (vs : List Var) (i : ℕ) (d : Var) → get_or (map (λ (v : Var). v.0) vs) i d.0 ≡ (get_or vs i d).0
number_at [] i d = refl
number_at (v ∷ vs) zero d = refl
number_at (v ∷ vs) (suc i) d = number_at vs i d

number_count : (vs : List Var) → length (map (λ (v : Var). v.0) vs) ≡ length vs
number_count [] = refl
number_count (v ∷ vs) = ap suc (number_count vs)

pub distinct_vars : (vs : List Var) → AllPairs (λ a b. a ≢ b) (map (λ (v : Var). v.0) vs) → AllPairs (λ v w. v ≢ w) vs
distinct_vars vs once i j d lt within same =
    once i j d.0 lt (rw (number_count vs) within) (number_at vs i d ∙ ap (λ (v : Var). v.0) same ∙ sym (number_at vs j d))
