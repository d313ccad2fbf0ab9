-- What is gathered for a term: the numbers that it uses, and those of its parts' lists that it doesn't bind.
use Rattle.std.specs.Prelude.{◌≡◌, ◌≢◌, ℕ, Bool, not, ◌&&◌, List, [], ◌++◌, map, AllPairs, slice_get}
use Rattle.std.specs.List.{flat_map, filter_map}
use Rattle.std.specs.Option.{option_map_or}
use Rattle.t_base.specs.declared.basics.Var.{Var}
use Rattle.cps_ir.specs.declared.terms.Term.{Term}
use Rattle.cps_ir.specs.declared.terms.Cps.{Cps}
use Rattle.cps_ir.specs.Parts.{Part, lambda_at, parts_of, lam_binders, used_by}
use Rattle.cps_ir.specs.Reaches.{is_in, without, binds_of}
use Rattle.cps_walk.specs.Marked.{is_marked}

-- ---- sets

-- marks that tell which numbers are there, each of which is there once
pub record AreMarked (marks : List Bool) (xs : List ℕ) : Type 0 where
  pub once : AllPairs (λ x y. x ≢ y) xs
  pub marked : (x : ℕ) → is_marked marks x ≡ is_in xs x

-- ---- lists of variables

abbrev pub numbers : List Var → List ℕ
numbers xs = map (λ x. x.0) xs

-- the list at a place
abbrev pub list_at : List (List Var) → ℕ → List ℕ
list_at lists t = option_map_or numbers (slice_get lists t) []

-- what the list at a part's place has and the part doesn't bind
abbrev pub seen_in : List (List Var) → Part → List ℕ
seen_in lists p = without (binds_of p) (list_at lists p.at)

-- what a term uses, and what is seen of its parts
abbrev pub wanted_by : Cps → List (List Var) → Term → List ℕ
wanted_by cps lists term = used_by term ++ flat_map (seen_in lists) (parts_of cps [] term)

-- what is seen of the bodies of LAMBDAs inside a term that binds these names around them
abbrev pub seen_in_lambdas : Cps → List (List Var) → List ℕ → List ℕ → List ℕ
seen_in_lambdas cps lists names lams = flat_map (λ lam. without (lam_binders lam ++ names) (list_at lists lam.body)) (filter_map (lambda_at cps) lams)

-- the k of each LAMBDA among the procedures at these places
abbrev pub lambda_ks : Cps → List ℕ → List ℕ
lambda_ks cps lams = map (λ lam. lam.k.0) (filter_map (lambda_at cps) lams)

-- what was gathered for a term: what is wanted but for these, each once
pub record AreGathered (cps : Cps) (ks : List ℕ) (lists : List (List Var)) (term : Term) (xs : List Var) : Type 0 where
  pub once : AllPairs (λ x y. x ≢ y) (numbers xs)
  pub exact : (x : ℕ) → is_in (numbers xs) x ≡ (is_in (wanted_by cps lists term) x && not (is_in ks x))
