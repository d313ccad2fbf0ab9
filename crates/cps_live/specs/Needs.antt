-- What a term needs: what is live in it, and with the k of a Join that is free in it what the Join's body needs but for the parameter.
use Rattle.std.specs.Prelude.{◌≡◌, ◌≢◌, ℕ, ◌<◌, ◌==◌, ◌||◌, ◌&&◌, not, true, false, if◌then◌else◌, List, [], ◌∷◌, length, AllPairs, Contains, Some, IsSomeAnd, slice_get}
use Rattle.std.specs.List.{flat_map}
use Rattle.t_base.specs.declared.basics.Var.{Var}
use Rattle.cps_ir.specs.declared.terms.Term.{Term}
use Rattle.cps_ir.specs.declared.terms.Term.TheVariants as Node
use Rattle.cps_ir.specs.declared.terms.Cps.{Cps}
use Rattle.cps_ir.specs.Parts.{walked}
use Rattle.cps_ir.specs.Reaches.{is_in, free_at}
use Rattle.cps_known.specs.LiveVariables.{is_live}
use Rattle.cps_live.specs.declared.needs.Needs.{Needs}
use Rattle.cps_live.specs.Gathered.{numbers, list_at}

-- a Join that is reached
pub record IsJoin (cps : Cps) (k param body : ℕ) : Type 0 where
  pub at : ℕ
  pub var : Var
  pub value : Var
  pub rest : ℕ
  pub reached : is_in (walked cps) at ≡ true
  pub is : slice_get cps.terms.items at ≡ Some (Node.Join var value body rest)
  pub k_is : var.0 ≡ k
  pub param_is : value.0 ≡ param

pub data IsNeeded (cps : Cps) : ℕ → ℕ → Type 0 where
  lives : (t x : ℕ) → is_live cps t x ≡ true → IsNeeded cps t x
  joined : (t x k param body : ℕ) → IsJoin cps k param body → is_in (free_at cps t) k ≡ true → (x == param) ≡ false → IsNeeded cps body x → IsNeeded cps t x

-- these variables are those that the term at a place needs, each once
pub record AreNeeded (cps : Cps) (t : ℕ) (xs : List Var) : Type 0 where
  pub once : AllPairs (λ x y. x ≢ y) (numbers xs)
  pub each : (x : ℕ) → is_in (numbers xs) x ≡ true → IsNeeded cps t x
  pub all : (x : ℕ) → IsNeeded cps t x → is_in (numbers xs) x ≡ true

-- there is a list for each term; that of a term that isn't reached is empty
pub record HasNeeds (cps : Cps) (needs : Needs) : Type 0 where
  pub counted : length needs.at.items ≡ length cps.terms.items
  pub reached : (t : ℕ) → Contains (walked cps) t → IsSomeAnd (slice_get needs.at.items t) (AreNeeded cps t)
  pub unreached : (t : ℕ) → t < length cps.terms.items → ¬ Contains (walked cps) t → IsSomeAnd (slice_get needs.at.items t) (λ xs. xs ≡ [])

-- what a variable of a list of free ones stands for, where the Joins' needs stand under their k
abbrev pub expansion : List ℕ → List ℕ → List (List Var) → ℕ → List ℕ
expansion joins ks lists x = if is_in joins x then list_at lists x else if is_in ks x then [] else x ∷ []

-- what is told of a Join that is met: the numbers under its k, by what is free in its body
pub record MeetsJoin (joins ks before after : List ℕ) (old new free : List (List Var)) (k param body : ℕ) : Type 0 where
  pub met : (m : ℕ) → is_in after m ≡ (is_in before m || k == m)
  pub others : (m : ℕ) → (k == m) ≡ false → list_at new m ≡ list_at old m
  pub here : (m : ℕ) → is_in (list_at new k) m ≡ (is_in (flat_map (expansion joins ks old) (list_at free body)) m && not (param == m))

abbrev pub Meets : List ℕ → List ℕ → List ℕ → List ℕ → List (List Var) → List (List Var) → List (List Var) → Term → Type 0
Meets joins ks before after old new free (Node.Join k param body rest) = MeetsJoin joins ks before after old new free k.0 param.0 body
Meets joins ks before after old new free _ = (after ≡ before) × (new ≡ old)
