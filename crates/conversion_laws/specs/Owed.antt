-- What is owed beside the relation, so that a program which stands for a unit is whole.
use Rattle.std.specs.Prelude.{◌≡◌, ℕ, ◌≤◌, ◌<◌, nat_lt, not, List, ◌++◌, length}
use Rattle.std.specs.List.{flat_map}
use Rattle.cps_ir.specs.declared.terms.Cps.{Cps}
use Rattle.cps_ir.specs.Parts.{first_lams, lams_of, own_binders, lam_binders}
use Rattle.cps_order.specs.Order.{one, tally, IsOrdered}

-- the places of procedures that all listed terms name
abbrev pub named_lams : Cps → List ℕ
named_lams cps = flat_map lams_of cps.terms.items

-- the variables that all listed terms and procedures bind
abbrev pub listed_binders : Cps → List ℕ
listed_binders cps = flat_map own_binders cps.terms.items ++ flat_map lam_binders cps.lams.items

-- The relation tells of what is reached, and not that its parts stand apart. What is owed of all that is listed: each term stands behind
-- those that it names and is named exactly once; each procedure is named exactly once, but for those of globals and operations, which no
-- term names; and no variable is bound twice.
pub record IsOwed (cps : Cps) : Type 0 where
  pub ordered : IsOrdered cps
  pub lams_once : (l : ℕ) → l < length cps.lams.items → tally (named_lams cps) l ≡ one (not (nat_lt l (first_lams cps)))
  pub bound_once : (x : ℕ) → tally (listed_binders cps) x ≤ 1
