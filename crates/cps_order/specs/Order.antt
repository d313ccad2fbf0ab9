-- Programs whose terms stand in order.
use Rattle.std.specs.Prelude.{◌≡◌, ℕ, ◌+◌, ◌<◌, ◌≤◌, ◌==◌, Bool, nat_lt, not, if◌then◌else◌, List, [], ◌∷◌, ◌++◌, length, map, drop, slice_get, All, Some}
use Rattle.std.specs.List.{flat_map}
use Rattle.t_base.specs.declared.basics.Var.{Var}
use Rattle.cps_ir.specs.declared.terms.Term.{Term}
use Rattle.cps_ir.specs.declared.terms.Cps.{Cps}
use Rattle.cps_ir.specs.Parts.{Part, first_lams, lams_of, own_binders, lam_binders, variable_of}
use Rattle.cps_walk.specs.Marked.{is_marked}
use Rattle.cps_walk.specs.Walks.{part_places, root_places}

abbrev pub one : Bool → ℕ
one b = if b then 1 else 0

-- how often a number stands in a list
abbrev pub tally : List ℕ → ℕ → ℕ
tally [] n = 0
tally (m ∷ ms) n = one (m == n) + tally ms n

-- the places that the terms of a list name
abbrev pub named_by : Cps → List Term → List ℕ
named_by cps terms = flat_map (part_places cps) terms

-- how often a place is named, by the roots of the program and by the terms from a place on
abbrev pub named_from : Cps → ℕ → ℕ → ℕ
named_from cps t n = tally (root_places cps) n + tally (named_by cps (drop t cps.terms.items)) n

-- what is named stands before that
abbrev pub AreBelow : ℕ → List ℕ → Type 0
AreBelow above places = All (λ u. u < above) places

-- a term stands behind the parts of the terms that it names
abbrev pub NamesBelow : Cps → ℕ → Type 0
NamesBelow cps t = (term : Term) → slice_get cps.terms.items t ≡ Some term → AreBelow t (part_places cps term)

-- each term stands behind those that it names, and is named exactly once, by a root or a term
pub record IsOrdered (cps : Cps) : Type 0 where
  pub roots : AreBelow (length cps.terms.items) (root_places cps)
  pub lower : (t : ℕ) → NamesBelow cps t
  pub once : (t : ℕ) → t < length cps.terms.items → named_from cps 0 t ≡ 1

-- ---- procedures and variables

-- the places of procedures that all listed terms name
abbrev pub named_lams : Cps → List ℕ
named_lams cps = flat_map lams_of cps.terms.items

abbrev pub numbers_of : List Var → List ℕ
numbers_of vars = map (λ x. x.0) vars

-- the variables that are bound around parts
abbrev pub bound_by : List Part → List ℕ
bound_by parts = flat_map (λ p. map variable_of p.binds) parts

-- the variables that all listed terms and procedures bind
abbrev pub listed_binders : Cps → List ℕ
listed_binders cps = flat_map own_binders cps.terms.items ++ flat_map lam_binders cps.lams.items

-- The parts of a program stand apart: terms are in order, each procedure is named exactly once, but for those of globals and operations,
-- which no term names, and no variable is bound twice.
pub record StandsApart (cps : Cps) : Type 0 where
  pub ordered : IsOrdered cps
  pub lams_once : (l : ℕ) → l < length cps.lams.items → tally (named_lams cps) l ≡ one (not (nat_lt l (first_lams cps)))
  pub bound_once : (x : ℕ) → tally (listed_binders cps) x ≤ 1

-- ---- marks of what is named

-- places below a bound are marked, none of which was
pub record AreNamed (above : ℕ) (places : List ℕ) (old new : List Bool) : Type 0 where
  pub below : AreBelow above places
  pub counts : (n : ℕ) → one (is_marked new n) ≡ one (is_marked old n) + tally places n

-- The terms from a place on stand in order, and all of them are named; the marks are those of the places that are named so far.
pub record IsOrderedFrom (cps : Cps) (t : ℕ) (marks : List Bool) : Type 0 where
  pub lower : (u : ℕ) → t ≤ u → NamesBelow cps u
  pub counts : (n : ℕ) → one (is_marked marks n) ≡ named_from cps t n
  pub named : (u : ℕ) → t ≤ u → u < length cps.terms.items → one (is_marked marks u) ≡ 1
