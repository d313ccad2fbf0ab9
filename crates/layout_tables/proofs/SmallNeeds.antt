-- What procedures need is small where each list is.
use Rattle.std.specs.List.{AllByRecursion}
use Rattle.std.proofs.Common.{ℕ, zero, suc, ◌≤◌, List, [], ◌∷◌, length, take, subst, arith}
use Rattle.std.proofs.lemmas.List.{length-map, take_all}
use Rattle.t_base.specs.declared.basics.Var.{Var}
use Rattle.layout_tables.specs.Sketches.{vars_at}

pub small_all : (xs : List (List Var)) (n l : ℕ) → AllByRecursion (λ vs. length vs ≤ n) xs → length (vars_at xs l) ≤ n
small_all [] n l h = omega arith
small_all (x ∷ xs) n zero h = let e = length-map x (λ (z : Var). z.0) in let a = h.0 in omega (arith, e, a)
small_all (x ∷ xs) n (suc l) h = small_all xs n l h.1

pub small_taken : (xs : List (List Var)) (i n l : ℕ) → length xs ≤ i → AllByRecursion (λ vs. length vs ≤ n) (take i xs) → length (vars_at xs l) ≤ n
small_taken xs i n l le h = small_all xs n l (subst (AllByRecursion (λ vs. length vs ≤ n)) (take_all i xs le) h)
