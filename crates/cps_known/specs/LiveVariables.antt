-- The variables that are free in each term of a program.
use Rattle.std.specs.Prelude.{◌≡◌, ◌≢◌, ℕ, ◌<◌, Bool, not, ◌&&◌, List, [], ◌∷◌, ◌++◌, length, map, AllPairs, Contains, IsSomeAnd, slice_get}
use Rattle.std.specs.List.{flat_map}
use Rattle.t_base.specs.declared.basics.Var.{Var}
use Rattle.cps_ir.specs.declared.terms.Term.{Term}
use Rattle.cps_ir.specs.declared.terms.Term.TheVariants as Node
use Rattle.cps_ir.specs.declared.terms.Cps.{Cps}
use Rattle.cps_ir.specs.Parts.{walked, reached_terms, reached_lams}
use Rattle.cps_ir.specs.Reaches.{is_in, free_at}
use Rattle.cps_known.specs.declared.liveness.Live.{Live}

-- the k of a Join
abbrev pub join_k : Term → List ℕ
join_k (Node.Join k param body rest) = k.0 ∷ []
join_k _ = []

-- the k of the Joins and the procedures that are reached
abbrev pub continuations : Cps → List ℕ
continuations cps = flat_map join_k (reached_terms cps) ++ map (λ lam. lam.k.0) (reached_lams cps)

-- a variable is free in the term at a place, and is no k
abbrev pub is_live : Cps → ℕ → ℕ → Bool
is_live cps t x = is_in (free_at cps t) x && not (is_in (continuations cps) x)

-- these variables are those that are free in the term at a place but for each k, each once
pub record AreLive (cps : Cps) (t : ℕ) (xs : List Var) : Type 0 where
  pub once : AllPairs (λ x y. x ≢ y) (map (λ x. x.0) xs)
  pub exact : (x : ℕ) → is_in (map (λ x. x.0) xs) x ≡ is_live cps t x

-- there is a list for each term; that of a term that isn't reached is empty
pub record IsLive (cps : Cps) (live : Live) : Type 0 where
  pub counted : length live.at.items ≡ length cps.terms.items
  pub reached : (t : ℕ) → Contains (walked cps) t → IsSomeAnd (slice_get live.at.items t) (AreLive cps t)
  pub unreached : (t : ℕ) → t < length cps.terms.items → ¬ Contains (walked cps) t → IsSomeAnd (slice_get live.at.items t) (λ xs. xs ≡ [])
