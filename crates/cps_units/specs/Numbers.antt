-- Numbers above those of variables.
use Rattle.std.specs.Prelude.{ℕ, ◌≤◌, ◌<◌, ◌≡◌, true, List, All}
use Rattle.t_base.specs.declared.basics.Var.{Var}
use Rattle.t_core.specs.declared.forms.Core.{Core}
use Rattle.t_core.specs.declared.forms.UnitCore.{UnitCore}
use Rattle.t_core.specs.Nodes.{binders_of}
use Rattle.t_meaning.specs.Costs.{assigns, is_assigned}
use Rattle.cps_convert.specs.Claims.{IsBinder}

-- at least that, and above the variables
pub record IsPast (least n : ℕ) (vars : List Var) : Type 0 where
  pub least_first : least ≤ n
  pub past : All (λ v. v.0 < n) vars

-- above the variables that the node binds, and above the one that it assigns
pub record IsPastNode (n : ℕ) (node : Core) : Type 0 where
  pub binders : All (λ v. v.0 < n) (binders_of node)
  pub assigned : (v : Var) → assigns v node ≡ true → v.0 < n

-- the same of nodes, at least that
pub record ArePastNodes (least n : ℕ) (nodes : List Core) : Type 0 where
  pub least_first : least ≤ n
  pub past : All (IsPastNode n) nodes

-- new variables of the unit have numbers from there on
pub record IsPastUnit (unit : UnitCore) (n : ℕ) : Type 0 where
  pub binders : (form at v : ℕ) → IsBinder unit form at v → v < n
  pub assigned : (v : Var) → is_assigned unit v ≡ true → v.0 < n
