-- What a step of a conversion owes.
use Rattle.std.specs.Prelude.{◌≡◌, ℕ, suc, ◌≤◌, ◌<◌, ◌⊎◌, Bool, true, false, List, [], ◌∷◌, Contains, slice_get, Some}
use Rattle.std.specs.Option.{option_map_or}
use Rattle.t_base.specs.declared.basics.Var.{Var}
use Rattle.t_core.specs.declared.forms.Core.{Core}
use Rattle.t_core.specs.declared.forms.UnitCore.{UnitCore}
use Rattle.t_core.specs.Nodes.{binders_of}
use Rattle.t_core.specs.Whole.{IsScopedWithin, IsWhole}
use Rattle.t_meaning.specs.Programs.{node_at}
use Rattle.t_meaning.specs.Costs.{is_assigned}
use Rattle.cps_ir.specs.declared.terms.Cont.{Cont}
use Rattle.cps_ir.specs.declared.terms.Cont.TheVariants as Continuation
use Rattle.cps_ir.specs.declared.terms.Lam.{Lam}
use Rattle.cps_ir.specs.declared.terms.Cps.{Cps}
use Rattle.cps_ir.specs.Reaches.{is_in}
use Rattle.cps_walk.specs.Marked.{is_marked}
use Rattle.cps_conversion.specs.Conversion.{Translation, IsNew, LamAs, ConvertsWithin, adding}
use Rattle.cps_convert.specs.declared.conversion.Conversion.{Conversion}
use Rattle.cps_convert.specs.Growing.{Includes, GrowsTo}

-- ---- the unit

-- the marks are those of the variables that are assigned
abbrev pub HasMarks : UnitCore → List Bool → Type 0
HasMarks unit marks = (v : Var) → is_marked marks v.0 ≡ is_assigned unit v

-- the node at a place binds the variable
pub record IsBinder (unit : UnitCore) (form at v : ℕ) : Type 0 where
  pub node : Core
  pub place : ℕ
  pub var : Var
  pub there : node_at unit form at ≡ Some node
  pub binds : slice_get (binders_of node) place ≡ Some var
  pub number : var.0 ≡ v

-- what is known of the unit: it is whole, and new variables have numbers from `base` on
pub record Setting (unit : UnitCore) (marks : List Bool) (base : ℕ) : Type 0 where
  pub whole : IsWhole unit
  pub marked : HasMarks unit marks
  pub binders : (form at v : ℕ) → IsBinder unit form at v → v < base
  pub assigned : (v : Var) → is_assigned unit v ≡ true → v.0 < base

-- a new variable, or one that is bound in the form at this place or a later one
abbrev pub IsOuter : UnitCore → (base next form least : ℕ) → ℕ → Type 0
IsOuter unit base next form least v = (base ≤ v) × (v < next) ⊎ ((at : ℕ) × (least ≤ at) × IsBinder unit form at v)

abbrev pub AreOuter : UnitCore → (base next form least : ℕ) → List ℕ → Type 0
AreOuter unit base next form least vars = (v : ℕ) → is_in vars v ≡ true → IsOuter unit base next form least v

-- different variables that the node at a place binds
abbrev pub AreOwn : UnitCore → (form at : ℕ) → List Var → Type 0
AreOwn unit form at [] = Unit {0}
AreOwn unit form at (v ∷ vars) = IsBinder unit form at v.0 × (is_in (adding vars []) v.0 ≡ false) × AreOwn unit form at vars

abbrev pub nodes_of : UnitCore → ℕ → List Core
nodes_of unit form = option_map_or (λ f. f.nodes.items) (slice_get unit.forms.items form) []

-- the node stands where these variables are bound
pub record IsScopedIn (unit : UnitCore) (form key : ℕ) (bound : List ℕ) : Type 0 where
  pub depth : ℕ
  pub scope : List Var
  pub tail : Bool
  pub within : IsScopedWithin (nodes_of unit form) depth scope tail key
  pub binds : (v : Var) → Contains scope v → is_in bound v.0 ≡ true

-- ---- a node

-- around the node these variables are bound, and these are held
pub record Spot (x : Translation) (base next form key : ℕ) (bound held : List ℕ) : Type 0 where
  pub base_first : base ≤ next
  pub scoped : IsScopedIn x.unit form key bound
  pub bound_outer : AreOuter x.unit base next form (suc key) bound
  pub held_outer : AreOuter x.unit base next form (suc key) held

-- the parameter of the continuation is new
abbrev pub GoesTo : Translation → (base next form least : ℕ) → List ℕ → Cont → Type 0
GoesTo x base next form least held (Continuation.Var k) = Unit {0}
GoesTo x base next form least held (Continuation.Lam param body) = IsNew x held param × IsOuter x.unit base next form least param.0

-- wherever that holds, the term at `t` stands for the node
abbrev pub NodeClaim : Translation → List Bool → (base next form key : ℕ) → Cont → ℕ → Type 0
NodeClaim x marks base next form key k t =
    Setting x.unit marks base → (bound held : List ℕ) → Spot x base next form key bound held → GoesTo x base next form (suc key) held k → ConvertsWithin x (suc key) form bound held key k t

abbrev pub translation : UnitCore → Cps → List (ℕ × ℕ) → Translation
translation unit cps origins = record { unit = unit; cps = cps; origins = origins }

-- the node is converted, in every program that includes what is made
pub record Converted (unit : UnitCore) (marks : List Bool) (form : ℕ) (a b : Conversion) (above key : ℕ) (k : Cont) (t : ℕ) : Type 0 where
  pub below : key < above
  pub grows : GrowsTo a b
  pub holds : (cps : Cps) (origins : List (ℕ × ℕ)) → Includes (translation unit cps origins) b → (base : ℕ) → NodeClaim (translation unit cps origins) marks base a.next form key k t

-- ---- procedures

-- where these variables are bound around it, and its parameters by the node at `key`, it stands for that LAMBDA
abbrev pub LamClaim : Translation → List Bool → (base next form key : ℕ) → List Var → ℕ → Lam → Type 0
LamClaim x marks base next form key params body lam =
    Setting x.unit marks base → base ≤ next → (bound : List ℕ) → AreOwn x.unit form key params → IsScopedIn x.unit form body (adding params bound) → AreOuter x.unit base next form (suc key) bound
    → LamAs x (ConvertsWithin x key) form bound params body lam

pub record LamConverted (unit : UnitCore) (marks : List Bool) (form : ℕ) (a b : Conversion) (key : ℕ) (params : List Var) (body : ℕ) (lam : Lam) : Type 0 where
  pub grows : GrowsTo a b
  pub holds : (cps : Cps) (origins : List (ℕ × ℕ)) → Includes (translation unit cps origins) b → (base : ℕ) → LamClaim (translation unit cps origins) marks base a.next form key params body lam
