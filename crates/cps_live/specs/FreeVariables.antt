-- The variables that are free in each term of a program, each k among them.
use Rattle.std.specs.Prelude.{◌≡◌, ◌≢◌, ℕ, ◌<◌, not, ◌&&◌, List, [], length, map, AllPairs, Contains, IsSomeAnd, slice_get}
use Rattle.t_base.specs.declared.basics.Var.{Var}
use Rattle.cps_ir.specs.declared.terms.Cps.{Cps}
use Rattle.cps_ir.specs.Parts.{walked}
use Rattle.cps_ir.specs.Reaches.{is_in, free_at}
use Rattle.cps_live.specs.declared.lives.Free.{Free}

-- these variables are those that are free in the term at a place but for some, each once
pub record AreLeft (cps : Cps) (but : List ℕ) (t : ℕ) (xs : List Var) : Type 0 where
  pub once : AllPairs (λ x y. x ≢ y) (map (λ x. x.0) xs)
  pub exact : (x : ℕ) → is_in (map (λ x. x.0) xs) x ≡ (is_in (free_at cps t) x && not (is_in but x))

-- there is a list for each term; that of a term that isn't reached is empty
pub record AreLists (cps : Cps) (but : List ℕ) (lists : List (List Var)) : Type 0 where
  pub counted : length lists ≡ length cps.terms.items
  pub reached : (t : ℕ) → Contains (walked cps) t → IsSomeAnd (slice_get lists t) (AreLeft cps but t)
  pub unreached : (t : ℕ) → t < length cps.terms.items → ¬ Contains (walked cps) t → IsSomeAnd (slice_get lists t) (λ xs. xs ≡ [])

-- these variables are those that are free in the term at a place, each once
pub record AreFree (cps : Cps) (t : ℕ) (xs : List Var) : Type 0 where
  pub once : AllPairs (λ x y. x ≢ y) (map (λ x. x.0) xs)
  pub exact : (x : ℕ) → is_in (map (λ x. x.0) xs) x ≡ is_in (free_at cps t) x

pub record IsFree (cps : Cps) (free : Free) : Type 0 where
  pub counted : length free.at.items ≡ length cps.terms.items
  pub reached : (t : ℕ) → Contains (walked cps) t → IsSomeAnd (slice_get free.at.items t) (AreFree cps t)
  pub unreached : (t : ℕ) → t < length cps.terms.items → ¬ Contains (walked cps) t → IsSomeAnd (slice_get free.at.items t) (λ xs. xs ≡ [])
