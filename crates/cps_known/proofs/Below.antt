-- Counts above variables.
use Rattle.std.specs.Prelude.{All}
use Rattle.std.proofs.Common.{ℕ, ◌+◌, ◌<◌, ◌≤◌, List, [], ◌∷◌, ◌++◌, length, take, get_or, sym, subst, arith}
use Rattle.std.proofs.lemmas.List.{take_more}
use Rattle.t_base.specs.declared.basics.Var.{Var}
use Rattle.cps_ir.specs.declared.terms.Lam.{Lam}
use Rattle.cps_ir.specs.declared.terms.Term.{Term}
use Rattle.cps_ir.proofs.ProperLists.{each_append, each_more, each_of_all}
use Rattle.cps_ir.proofs.Closed.{all_of_each}
use Rattle.cps_known.specs.Binders.{value_binders, AreBelow}

-- one item more, where a greater count serves as well
one_more : {X : Type 0} (P : ℕ → X → Type 0) (xs : List X) (i n m : ℕ) (d : X) → ((x : X) → P n x → P m x) → i < length xs → All (P n) (take i xs) → P m (get_or xs i d) → All (P m) (take (i + 1) xs)
one_more P xs i n m d more lt h k =
    subst (All (P m)) (sym (take_more xs i d lt))
    (all_of_each (P m) (take i xs ++ get_or xs i d ∷ []) (each_append (P m) (take i xs) (get_or xs i d ∷ []) (each_more (P n) (P m) (take i xs) more (each_of_all (P n) (take i xs) h)) (k, tt)))

pub one_var_more : (xs : List Var) (i n m : ℕ) (d : Var) → n ≤ m → i < length xs → All (λ x. x.0 < n) (take i xs) → (get_or xs i d).0 < m → All (λ x. x.0 < m) (take (i + 1) xs)
one_var_more xs i n m d le lt h k = one_more (λ n x. x.0 < n) xs i n m d (λ x q. omega (arith, q, le)) lt h k

pub higher : (xs : List ℕ) (n m : ℕ) → n ≤ m → AreBelow n xs → AreBelow m xs
higher xs n m le h k d lt = let q = h k d lt in omega (arith, q, le)

pub vars_higher : (xs : List Var) (n m : ℕ) → n ≤ m → All (λ x. x.0 < n) xs → All (λ x. x.0 < m) xs
vars_higher xs n m le h k d lt = let q = h k d lt in omega (arith, q, le)

pub one_term_more : (ts : List Term) (i n m : ℕ) (d : Term) → n ≤ m → i < length ts → All (λ t. AreBelow n (value_binders t)) (take i ts) → AreBelow m (value_binders (get_or ts i d)) → All (λ t. AreBelow m (value_binders t)) (take (i + 1) ts)
one_term_more ts i n m d le lt h k = one_more (λ n t. AreBelow n (value_binders t)) ts i n m d (λ t q. higher (value_binders t) n m le q) lt h k

pub terms_higher : (ts : List Term) (n m : ℕ) → n ≤ m → All (λ t. AreBelow n (value_binders t)) ts → All (λ t. AreBelow m (value_binders t)) ts
terms_higher ts n m le h k d lt = higher (value_binders (get_or ts k d)) n m le (h k d lt)

pub one_lam_more : (ls : List Lam) (i n m : ℕ) (d : Lam) → n ≤ m → i < length ls → All (λ lam. All (λ x. x.0 < n) lam.params) (take i ls) → All (λ x. x.0 < m) (get_or ls i d).params → All (λ lam. All (λ x. x.0 < m) lam.params) (take (i + 1) ls)
one_lam_more ls i n m d le lt h k = one_more (λ n lam. All (λ x. x.0 < n) lam.params) ls i n m d (λ lam q. vars_higher lam.params n m le q) lt h k
