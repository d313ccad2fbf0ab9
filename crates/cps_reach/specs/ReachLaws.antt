-- What a procedure reaches by the rule on fitting, and by the escape marks.
use Rattle.std.specs.Prelude.{◌≡◌, ℕ, false, List, map, All}
use Rattle.escape_marks.specs.Subjects.{Subject, Global, is_in}
use Rattle.escape_marks.specs.Inventories.{known_names, reached_from}
use Rattle.cps_ir.specs.declared.terms.Lam.{Lam}
use Rattle.cps_ir.specs.declared.terms.Cps.{Cps}
use Rattle.cps_ir.specs.Parts.{reached_lams}
use Rattle.cps_ir.specs.Reaches as reach
use Rattle.cps_ir.specs.Loads.{HasLoads}
use Rattle.cps_ir.specs.Whole.{IsFormed}
use Rattle.cps_ir.specs.MarkFacts.{variable, inventory_of}

-- the names that the marks take a procedure to reach
abbrev pub marks_reach : Cps → Lam → List Subject
marks_reach cps lam =
    let program = inventory_of cps in reached_from (known_names program.occurrences program.abstractions) program.names (map variable (reach.free_in cps lam))

pub record ReachesSame (cps : Cps) (lam : Lam) : Type 0 where
  pub variables : (x : ℕ) → is_in (marks_reach cps lam) (variable x) ≡ reach.is_in (reach.reached_from cps (reach.free_in cps lam)) x
  pub globals : (g : ℕ) → is_in (marks_reach cps lam) (Global g) ≡ false

abbrev pub ReachesAlike : Type 0
ReachesAlike = (cps : Cps) → IsFormed cps → HasLoads cps → All (ReachesSame cps) (reached_lams cps)
