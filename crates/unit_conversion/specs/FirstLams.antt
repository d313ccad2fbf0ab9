-- The procedures of globals and the defaults of operations.
use Rattle.std.specs.Prelude.{◌≡◌, ℕ, suc, ◌⊎◌, ◌++◌, Bool, true, false, List, [], ◌∷◌, map, Some, slice_get}
use Rattle.t_base.specs.declared.shared_parts.OpInfo.{OpInfo}
use Rattle.t_core.specs.declared.forms.FormKind.{FormKind}
use Rattle.t_core.specs.declared.forms.Form.{Form}
use Rattle.t_core.specs.declared.forms.UnitCore.{UnitCore}
use Rattle.t_meaning.specs.State.{Procedure}
use Rattle.t_meaning.specs.Operations.{lambda_of}
use Rattle.cps_ir.specs.declared.terms.Lam.{Lam}
use Rattle.cps_ir.specs.Parts.{is_procedure}
use Rattle.cps_convert.specs.declared.conversion.Conversion.{Conversion}
use Rattle.cps_convert.specs.Growing.{GrowsTo}
use Rattle.cps_convert.specs.Firsts.{RootHolds}

-- a form of the kind stands at the place
pub record HasKind (unit : UnitCore) (kind : FormKind) (at : ℕ) : Type 0 where
  pub form : Form
  pub there : slice_get unit.forms.items at ≡ Some form
  pub is : form.kind ≡ kind

-- a form of the kind has a LAMBDA as its root, for which the procedure stands where all that is made stands
pub record IsFirst (unit : UnitCore) (marks : List Bool) (next : ℕ) (b : Conversion) (kind : FormKind) (lam : Lam) : Type 0 where
  pub at : ℕ
  pub form : Form
  pub procedure : Procedure
  pub there : slice_get unit.forms.items at ≡ Some form
  pub kind_is : form.kind ≡ kind
  pub is : lambda_of at form ≡ Some procedure
  pub holds : RootHolds unit marks next b procedure lam

-- the numbers from `n` on that are picked have one procedure each, in order
abbrev pub EachPicked : (ℕ → Lam → Type 0) → ℕ → List Bool → List Lam → Type 0
EachPicked P n [] lams = lams ≡ []
EachPicked P n (picked ∷ more) lams =
    (picked ≡ false) × EachPicked P (suc n) more lams
    ⊎ (picked ≡ true) × ((lam : Lam) × (rest : List Lam) × (lams ≡ lam ∷ rest) × P n lam × EachPicked P (suc n) more rest)

-- the same, by the kinds of forms that define what is picked
abbrev pub EachFirst : UnitCore → List Bool → (next : ℕ) → Conversion → (ℕ → FormKind) → List Bool → List Lam → Type 0
EachFirst unit marks next b kind picked lams = EachPicked (λ n lam. IsFirst unit marks next b (kind n) lam) 0 picked lams

pub record FirstsMade (unit : UnitCore) (marks : List Bool) (a b : Conversion) (kind : ℕ → FormKind) (picked : List Bool) (lams : List Lam) : Type 0 where
  pub grows : GrowsTo a b
  pub each : EachFirst unit marks a.next b kind picked lams

-- a procedure is put last where it is wanted
pub record FirstAdded (unit : UnitCore) (marks : List Bool) (a b : Conversion) (kind : FormKind) (picked : Bool) (lams more : List Lam) : Type 0 where
  pub grows : GrowsTo a b
  pub adds : (picked ≡ false) × (more ≡ lams) ⊎ (picked ≡ true) × ((lam : Lam) × (more ≡ lams ++ lam ∷ []) × IsFirst unit marks a.next b kind lam)

abbrev pub has_default : OpInfo → Bool
has_default info = info.default

-- which globals a DEFINE of a LAMBDA defines, and which operations have a default
abbrev pub picked_globals : UnitCore → List Bool
picked_globals unit = map is_procedure unit.shared.globals.items

abbrev pub picked_ops : UnitCore → List Bool
picked_ops unit = map has_default unit.shared.ops.items
