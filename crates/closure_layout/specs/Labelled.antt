-- The closures of a Labels.
use Rattle.std.specs.Prelude.{◌≡◌, ℕ, false, List, [], ◌++◌, length}
use Rattle.std.specs.List.{AllByRecursion}
use Rattle.t_base.specs.declared.basics.Var.{Var}
use Rattle.cps_ir.specs.declared.terms.Cps.{Cps}
use Rattle.frame_ir.specs.declared.forms.FrameOp.{FrameOp}
use Rattle.layout_relation.specs.Contexts.{IsFresh}
use Rattle.layout_relation.specs.Laid.{Labels, numbers}
use Rattle.layout_tables.specs.declared.tables.Tables.{Tables}
use Rattle.layout_tables.specs.declared.requests.Work.{Work}
use Rattle.layout_tables.specs.Around.{Around}
use Rattle.layout_tables.specs.Additions.{Adds, bound_by}
use Rattle.layout_tables.specs.Sketches.{Scoped, Ever, Grows, counted, context_at, is_celled, KnowsFirst}

-- a name may be bound, and so may each of some
abbrev pub MayNameOne : Tables → Scoped → Around → Var → Type 0
MayNameOne w vars a x = IsFresh (context_at w vars a) x.0 × (is_celled w x.0 ≡ false)

abbrev pub MayName : Tables → Scoped → Around → List Var → Type 0
MayName w vars a names = AllByRecursion (MayNameOne w vars a) names

-- the closures of procedures in new variables, behind other operations
pub record MakesAll (w : Tables) (vars : Scoped) (old new : Work) (before after : List FrameOp) (lams : List ℕ) (tos : List Var) : Type 0 where
  pub made : List FrameOp
  pub ops : after ≡ before ++ made
  pub grows : Grows w old new
  pub next : new.next ≡ old.next
  pub adds : Adds old new [] []
  pub binds : length tos ≡ length lams → bound_by made ≡ numbers tos
  pub labels : (cps : Cps) (n : ℕ) → KnowsFirst cps w → numbers tos ≡ counted n (length lams) → Ever w new (λ v. (xs : List Var) → length xs ≡ length lams → Labels cps v vars xs lams made tos)
