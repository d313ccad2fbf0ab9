-- Which procedures and variables count as escaping.
use Rattle.std.specs.Prelude.{◌≡◌, ℕ, true, IsTrue, length, Some, slice_get}
use Rattle.cps_ir.specs.declared.terms.Cps.{Cps}
use Rattle.cps_ir.specs.MarkFacts.{marked_lams, marked_vars}
use Rattle.cps_known.specs.declared.marking.Marks.{Marks}

-- What the rules mark is marked, and more may be. There is a mark for each procedure, and one for each variable up to the greatest that
-- stands for a value or a cell.
pub record MarkEnough (cps : Cps) (marks : Marks) : Type 0 where
  pub counted : length marks.lams.items ≡ length cps.lams.items
  pub lams : (l : ℕ) → IsTrue (marked_lams cps l) → slice_get marks.lams.items l ≡ Some true
  pub vars : (x : ℕ) → IsTrue (marked_vars cps x) → slice_get marks.vars.items x ≡ Some true
