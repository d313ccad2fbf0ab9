-- What follows where the assigned variables of a program became cells.
use Rattle.std.specs.Prelude.{◌≡◌, ℕ, ◌≤◌, ◌==◌, Bool, true, false, length, filter, All}
use Rattle.std.specs.List.{list_any}
use Rattle.program_runs.specs.Keeps.{Keeps}
use Rattle.cps_ir.specs.declared.args.Arg.{Arg}
use Rattle.cps_ir.specs.declared.args.Arg.TheVariants as Argument
use Rattle.cps_ir.specs.declared.terms.Term.{Term}
use Rattle.cps_ir.specs.declared.terms.Term.TheVariants as Node
use Rattle.cps_ir.specs.declared.terms.Cps.{Cps}
use Rattle.cps_ir.specs.Terms.{args_of}
use Rattle.cps_ir.specs.Parts.{is_assigned, walked, reached_terms, root_lams}
use Rattle.cps_ir.specs.MarkFacts.{marked_lams, marked_vars, run_marked}
use Rattle.cps_ir.specs.States.{Marking}
use Rattle.cps_ir.specs.Running.{run}
use Rattle.cps_ir.specs.Whole.{IsWhole}
use Rattle.cps_ir.specs.Loads.{HasLoads, term_load, lam_load, bulk_of}
use Rattle.assign_convert.specs.AssignedCells.{AreCells}

-- the meaning is kept, step for step, whatever procedures count as escaping
abbrev pub CellsKeep : Type 0
CellsKeep = (a b : Cps) → IsWhole a → HasLoads a → AreCells a b → (escapes : Marking) → Keeps 1 0 (run escapes a) (run escapes b)

-- ---- kinds of terms

abbrev pub is_set : Term → Bool
is_set (Node.Set x value k) = true
is_set _ = false

abbrev pub is_catch : Term → Bool
is_catch (Node.Catch escape body k) = true
is_catch (Node.Uncatch k value) = true
is_catch _ = false

-- a global or an operation among the arguments
abbrev pub is_outer : Arg → Bool
is_outer (Argument.Global g) = true
is_outer (Argument.Op o) = true
is_outer _ = false

abbrev pub has_outer : Term → Bool
has_outer term = list_any is_outer (args_of term)

-- no term passes the test
abbrev pub Without : (Term → Bool) → Cps → Type 0
Without test cps = All (λ term. test term ≡ false) cps.terms.items

-- a new cell of this variable
abbrev pub makes_cell : ℕ → Term → Bool
makes_cell x (Node.Cell y value rest) = y.0 == x
makes_cell x _ = false

-- ---- loads and bulk

-- the same terms are reached, and the loads are the same
pub record HasSameLoads (a b : Cps) : Type 0 where
  pub reached : walked b ≡ walked a
  pub terms : All (λ t. term_load b t ≡ term_load a t) (walked a)
  pub procedures : All (λ lam. lam_load b lam ≡ lam_load a lam) (root_lams a)

pub record HasNoMoreBulk (a b : Cps) : Type 0 where
  pub terms : (bulk_of b).terms ≡ (bulk_of a).terms
  pub args : (bulk_of b).args ≤ (bulk_of a).args
  pub room : (bulk_of b).room ≡ (bulk_of a).room

-- ---- the whole

-- b is a with its assigned variables as cells, and what follows from that
pub record IsCellForm (a b : Cps) : Type 0 where
  pub cells : AreCells a b
  -- the meaning is kept: ends and outputs both ways, words of heap, what waits, and no more moves
  pub keeps : (escapes : Marking) → Keeps 1 0 (run escapes a) (run escapes b)
  -- also with those alone that are marked
  pub keeps_marked : Keeps 1 0 (run_marked a) (run_marked b)
  -- the same LAMBDAs escape, and the same variables but for the assigned ones
  pub lam_marks : (l : ℕ) → marked_lams b l ≡ marked_lams a l
  pub var_marks : (x : ℕ) → is_assigned a x ≡ false → marked_vars b x ≡ marked_vars a x
  -- it is a whole program within the rule on loads
  pub whole : IsWhole b
  pub loads : HasLoads b
  pub same_loads : HasSameLoads a b
  pub bulk : HasNoMoreBulk a b
  -- no variable is assigned any more, and each that was has one cell
  pub no_set : Without is_set b
  pub one_cell : (x : ℕ) → is_assigned a x ≡ true → length (filter (makes_cell x) (reached_terms b)) ≡ 1
  -- what has no Set stays as it is; without catches there are none, nor globals or operations among arguments where there were none
  pub unassigned : Without is_set a → b.terms.items ≡ a.terms.items
  pub catches : Without is_catch a → Without is_catch b
  pub outer : Without has_outer a → Without has_outer b

abbrev pub CellsAreSound : Type 0
CellsAreSound = (a b : Cps) → IsWhole a → HasLoads a → AreCells a b → IsCellForm a b
