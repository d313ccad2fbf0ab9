-- Plans: where the closure of each procedure is kept.
use Rattle.std.specs.Prelude.{◌≡◌, ℕ, ◌<◌, nat_lt, Bool, if◌then◌else◌, [], length, Some, IsSomeAnd, slice_get}
use Rattle.std.specs.List.{flat_map}
use Rattle.cps_ir.specs.declared.terms.Cps.{Cps}
use Rattle.cps_ir.specs.Parts.{first_lams, reached_terms}
use Rattle.cps_ir.specs.Reaches.{is_in, free_in, methods_of}
use Rattle.cps_ir.specs.Whole.{IsWhole}
use Rattle.closure_strategy.specs.declared.plans.Strategy.{Strategy}
use Rattle.closure_strategy.specs.declared.plans.Strategy.TheVariants.{Label, Heap, Static}
use Rattle.closure_strategy.specs.declared.plans.Plan.{Plan}

-- whether the procedure at a place is a method of an object
abbrev pub is_method : Cps → ℕ → Bool
is_method cps l = is_in (flat_map methods_of (reached_terms cps)) l

-- by the count of the procedures of globals and operations, and by which procedures are methods
abbrev pub chosen : ℕ → (ℕ → Bool) → ℕ → Strategy
chosen first method l = if nat_lt l first then Static else if method l then Label else Heap

-- The procedures of globals and the defaults of operations are static: nothing is free in them. A method has no closure of its own. Every
-- other LAMBDA is in the heap.
abbrev pub strategy_of : Cps → ℕ → Strategy
strategy_of cps l = chosen (first_lams cps) (is_method cps) l

-- the strategy of each procedure; each has a template of its own
pub record IsPlan (cps : Cps) (plan : Plan) : Type 0 where
  pub counted : length plan.of.items ≡ length cps.lams.items
  pub strategies : (l : ℕ) → l < length cps.lams.items → slice_get plan.of.items l ≡ Some (strategy_of cps l)
  pub numbered : length plan.template.items ≡ length cps.lams.items
  pub templates : (l : ℕ) → l < length cps.lams.items → slice_get plan.template.items l ≡ Some l

-- ---- what holds of each plan

-- a procedure without free variables
abbrev pub HasNoneFree : Cps → ℕ → Type 0
HasNoneFree cps l = IsSomeAnd (slice_get cps.lams.items l) (λ lam. free_in cps lam ≡ [])

pub record IsSound (cps : Cps) (plan : Plan) : Type 0 where
  -- Static for the procedure of a global or the default of an operation alone, in which nothing is free
  pub first : (l : ℕ) → slice_get plan.of.items l ≡ Some Static → l < first_lams cps
  pub none_free : (l : ℕ) → slice_get plan.of.items l ≡ Some Static → HasNoneFree cps l
  -- one template number among procedures of one strategy alone
  pub apart : (l m : ℕ) → l < length cps.lams.items → m < length cps.lams.items → slice_get plan.template.items l ≡ slice_get plan.template.items m → slice_get plan.of.items l ≡ slice_get plan.of.items m

abbrev pub PlansAreSound : Type 0
PlansAreSound = (cps : Cps) (plan : Plan) → IsWhole cps → IsPlan cps plan → IsSound cps plan
