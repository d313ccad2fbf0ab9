-- How many variables are live and needed.
use Rattle.std.specs.Prelude.{◌≡◌, ◌≢◌, ℕ, ◌+◌, ◌≤◌, true, false, List, [], ◌∷◌, length, All, AllPairs, Contains, Some, IsSomeAnd, slice_get}
use Rattle.cps_ir.specs.declared.terms.Lam.{Lam}
use Rattle.cps_ir.specs.declared.terms.Term.{Term}
use Rattle.cps_ir.specs.declared.terms.Cps.{Cps}
use Rattle.cps_ir.specs.Parts.{lambda_at, walked, reached_terms, reached_lams, lam_binders}
use Rattle.cps_ir.specs.Reaches.{is_in, free_at, methods_of}
use Rattle.cps_ir.specs.Whole.{IsWhole}
use Rattle.cps_known.specs.declared.liveness.Live.{Live}
use Rattle.cps_known.specs.LiveVariables.{IsLive}
use Rattle.cps_live.specs.declared.needs.Needs.{Needs}
use Rattle.cps_live.specs.Needs.{HasNeeds, IsJoin, IsNeeded}

-- at most two more than the unit's largest form has nodes
abbrev pub FewAreLive : Type 0
FewAreLive = (cps : Cps) (live : Live) → IsWhole cps → IsLive cps live → (t : ℕ) → Contains (walked cps) t → IsSomeAnd (slice_get live.at.items t) (λ xs. length xs ≤ cps.shared.size + 2)

-- of what a term needs too, whatever its Joins need
abbrev pub FewAreNeeded : Type 0
FewAreNeeded = (cps : Cps) (needs : Needs) → IsWhole cps → HasNeeds cps needs → (t : ℕ) → Contains (walked cps) t → IsSomeAnd (slice_get needs.at.items t) (λ xs. length xs ≤ cps.shared.size + 2)

-- of what the body of a LAMBDA needs at most so many variables aren't the LAMBDA's own
abbrev pub NeedsFew : Cps → Lam → Type 0
NeedsFew cps lam = (xs : List ℕ) → AllPairs (λ x y. x ≢ y) xs → ((x : ℕ) → is_in xs x ≡ true → IsNeeded cps lam.body x × (is_in (lam_binders lam) x ≡ false)) → length xs ≤ cps.shared.size

abbrev pub LambdasNeedFew : Type 0
LambdasNeedFew = (cps : Cps) → IsWhole cps → All (NeedsFew cps) (reached_lams cps)

-- a variable that the body of a method needs, which stands at one of these places, and that isn't the method's own
pub record IsMethodNeed (cps : Cps) (methods : List ℕ) (x : ℕ) : Type 0 where
  pub place : ℕ
  pub lam : Lam
  pub among : is_in methods place ≡ true
  pub is : lambda_at cps place ≡ Some lam
  pub needed : IsNeeded cps lam.body x
  pub other : is_in (lam_binders lam) x ≡ false

-- the methods of an object need at most so many variables together
abbrev pub MethodsNeedFew : Cps → Term → Type 0
MethodsNeedFew cps term = (xs : List ℕ) → AllPairs (λ x y. x ≢ y) xs → ((x : ℕ) → is_in xs x ≡ true → IsMethodNeed cps (methods_of term) x) → length xs ≤ cps.shared.size

abbrev pub ObjectsNeedFew : Type 0
ObjectsNeedFew = (cps : Cps) → IsWhole cps → All (MethodsNeedFew cps) (reached_terms cps)

-- Of places in order: where the k of a Join is free in the term at one, the Join stands before it.
abbrev pub JoinsAreBefore : Cps → List ℕ → List ℕ → Type 0
JoinsAreBefore cps before [] = Unit {0}
JoinsAreBefore cps before (t ∷ ts) = ((k param body : ℕ) (j : IsJoin cps k param body) → is_in (free_at cps t) k ≡ true → is_in before j.at ≡ true) × JoinsAreBefore cps (t ∷ before) ts

abbrev pub JoinsComeFirst : Type 0
JoinsComeFirst = (cps : Cps) → IsWhole cps → JoinsAreBefore cps [] (walked cps)
