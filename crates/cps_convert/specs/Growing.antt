-- What stands in a program of what a conversion has made so far.
use Rattle.std.specs.Prelude.{◌≡◌, ℕ, ◌+◌, ◌≤◌, ◌<◌, slice_get, Some}
use Rattle.t_base.specs.declared.basics.Var.{Var}
use Rattle.cps_ir.specs.declared.terms.Term.{Term}
use Rattle.cps_ir.specs.Parts.{first_lams}
use Rattle.cps_conversion.specs.Conversion.{Translation, Stands}
use Rattle.cps_convert.specs.declared.conversion.Procedure.{Procedure}
use Rattle.cps_convert.specs.declared.conversion.Conversion.{Conversion}

-- the procedure at a place, and the LAMBDA that it stands for
pub record StandsAs (x : Translation) (l : ℕ) (p : Procedure) : Type 0 where
  pub lam : slice_get x.cps.lams.items l ≡ Some p.lam
  pub origin : slice_get x.origins l ≡ Some (p.form, p.node)

-- all that is made stands in the program, each thing at its place
pub record Includes (x : Translation) (c : Conversion) : Type 0 where
  pub terms : (t : ℕ) (term : Term) → slice_get c.terms.items t ≡ Some term → Stands x t term
  pub procedures : (l : ℕ) (p : Procedure) → slice_get c.procedures.items l ≡ Some p → StandsAs x (c.first + l) p
  pub first : first_lams x.cps ≡ c.first

-- the conversion goes on: what is made stays where it is, and no number of a variable is taken again
pub record GrowsTo (a b : Conversion) : Type 0 where
  pub includes : (x : Translation) → Includes x b → Includes x a
  pub first : b.first ≡ a.first
  pub next : a.next ≤ b.next

-- a term is made, at this place
pub record AddsTerm (a b : Conversion) (term : Term) (t : ℕ) : Type 0 where
  pub grows : GrowsTo a b
  pub stands : (x : Translation) → Includes x b → Stands x t term
  pub next : b.next ≡ a.next

-- a procedure is made, at this place
pub record AddsProcedure (a b : Conversion) (p : Procedure) (l : ℕ) : Type 0 where
  pub grows : GrowsTo a b
  pub stands : (x : Translation) → Includes x b → StandsAs x l p
  pub behind : (x : Translation) → Includes x b → first_lams x.cps ≤ l
  pub next : b.next ≡ a.next

-- a variable is taken
pub record TakesNew (a b : Conversion) (v : Var) : Type 0 where
  pub grows : GrowsTo a b
  pub is : v.0 ≡ a.next
  pub next : a.next < b.next
