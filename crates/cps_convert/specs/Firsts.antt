-- What is made for the LAMBDA that is the root of a form.
use Rattle.std.specs.Prelude.{◌≡◌, ℕ, ◌≤◌, List, [], Bool, Some, slice_get}
use Rattle.t_core.specs.declared.forms.Form.{Form}
use Rattle.t_core.specs.declared.forms.UnitCore.{UnitCore}
use Rattle.t_meaning.specs.State.{Procedure}
use Rattle.t_meaning.specs.Operations.{lambda_of}
use Rattle.cps_ir.specs.declared.terms.Lam.{Lam}
use Rattle.cps_ir.specs.declared.terms.Cps.{Cps}
use Rattle.cps_conversion.specs.Conversion.{Translation, LamAs, ConvertsWithin}
use Rattle.cps_convert.specs.declared.conversion.Conversion.{Conversion}
use Rattle.cps_convert.specs.Growing.{Includes, GrowsTo}
use Rattle.cps_convert.specs.Claims.{Setting, translation}

-- the procedure stands for a LAMBDA at top level
abbrev pub RootClaim : Translation → Procedure → Lam → Type 0
RootClaim x f lam = LamAs x (ConvertsWithin x x.unit.shared.size) f.form [] f.params f.body lam

-- the same in every program that includes what is made, where new variables have numbers from `next` on
pub record RootHolds (unit : UnitCore) (marks : List Bool) (next : ℕ) (b : Conversion) (f : Procedure) (lam : Lam) : Type 0 where
  pub holds : (cps : Cps) (origins : List (ℕ × ℕ)) → Includes (translation unit cps origins) b → (base : ℕ) → Setting unit marks base → base ≤ next → RootClaim (translation unit cps origins) f lam

-- the root of the form at a place is a LAMBDA, for which the procedure stands
pub record RootMade (unit : UnitCore) (marks : List Bool) (a b : Conversion) (at : ℕ) (lam : Lam) : Type 0 where
  pub form : Form
  pub procedure : Procedure
  pub there : slice_get unit.forms.items at ≡ Some form
  pub is : lambda_of at form ≡ Some procedure
  pub grows : GrowsTo a b
  pub holds : RootHolds unit marks a.next b procedure lam
