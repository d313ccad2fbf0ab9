-- What a step adds, whatever it means: requests behind those that there are, and new variables, each above the ones before it.
use Rattle.std.specs.Prelude.{◌≡◌, ℕ, suc, ◌<◌, ◌≤◌, List, [], ◌∷◌, ◌++◌, length}
use Rattle.std.specs.List.{AllByRecursion}
use Rattle.frame_ir.specs.declared.forms.FrameOp.{FrameOp}
use Rattle.frame_ir.specs.Parts.{op_binds, arms_of}
use Rattle.layout_relation.specs.Laid.{numbers}
use Rattle.layout_tables.specs.declared.requests.Request.{Request}
use Rattle.layout_tables.specs.declared.requests.Request.TheVariants as For
use Rattle.layout_tables.specs.declared.requests.Work.{Work}
use Rattle.layout_tables.specs.declared.lines.Step.{Step}
use Rattle.layout_tables.specs.declared.lines.Step.TheVariants.{Next, Done}

-- numbers that rise, from one number on and below another
abbrev pub Rises : ℕ → List ℕ → ℕ → Type 0
Rises from [] to = from ≤ to
Rises from (x ∷ xs) to = (from ≤ x) × Rises (suc x) xs to

-- the variables that operations bind
abbrev pub bound_by : List FrameOp → List ℕ
bound_by [] = []
bound_by (op ∷ ops) = numbers (op_binds op) ++ bound_by ops

-- the places of the arms among requests that stand from a place on
abbrev pub arms_from : ℕ → List Request → List ℕ
arms_from n [] = []
arms_from n (For.ArmOf vars site term ∷ requests) = n ∷ arms_from (suc n) requests
arms_from n (request ∷ requests) = arms_from (suc n) requests

-- the arms of the end to which a step comes
abbrev pub arms_by : Step → List ℕ
arms_by (Next t) = []
arms_by (Done last) = arms_of last

-- an arm sees no variable from a number on
abbrev pub SeesBelow : ℕ → Request → Type 0
SeesBelow n (For.ArmOf vars site term) = AllByRecursion (λ p. p.1 < n) vars
SeesBelow n _ = Unit {0}

-- the variables that are bound, and the places of the arms that are asked for
pub record Adds (old new : Work) (binds arms : List ℕ) : Type 0 where
  pub added : List Request
  pub requests : new.requests.items ≡ old.requests.items ++ added
  pub asks : arms_from (length old.requests.items) added ≡ arms
  pub sees : AllByRecursion (SeesBelow new.next) added
  pub rises : Rises old.next binds new.next
