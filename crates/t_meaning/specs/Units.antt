-- The meaning of a unit: its forms in order.
use Rattle.std.specs.Prelude.{ℕ, suc, false, if◌then◌else◌, List, [], ◌∷◌, Option, Some, None, slice_get}
use Rattle.program_runs.specs.Runs.{End, Observation, Run}
use Rattle.program_runs.specs.Runs as runs
use Rattle.t_base.specs.declared.shared_parts.Global1.{Global1}
use Rattle.t_core.specs.declared.forms.FormKind.{FormKind}
use Rattle.t_core.specs.declared.forms.FormKind.TheVariants.{Define, Lset, Operation, Plain}
use Rattle.t_core.specs.declared.forms.Form.{Form}
use Rattle.t_core.specs.declared.forms.UnitCore.{UnitCore}
use Rattle.t_core.specs.Whole.{defines_global}
use Rattle.t_prim.specs.Values.{Val, NilV, SymbolV, ClosureV, first_store, shown_of}
use Rattle.t_meaning.specs.Escape.{lambda_escapes}
use Rattle.t_meaning.specs.Programs.{Marking, Program, marked, all_escape}
use Rattle.t_meaning.specs.State.{Procedure, State, with_global_at, working}
use Rattle.t_meaning.specs.Outcomes.{Outcome, Value, Escaping, Faulted, Out, Evaluate, with_value, or_unbound}
use Rattle.t_meaning.specs.Operations.{lambda_of}
use Rattle.t_meaning.specs.Performing.{perform}

-- ---- the start: the quoted pairs, and the closures of all DEFINEs of a LAMBDA, which are numbered in the order of the globals;
-- other globals are Unbound

-- the LAMBDA of a DEFINE
abbrev pub defined_by : FormKind → Option Procedure → Option Procedure
defined_by (Define g) f = f
defined_by _ f = None

-- the LAMBDA that the global is defined as; the forms stand from place `at` on
abbrev pub definition_in : ℕ → ℕ → List Form → Option Procedure
definition_in g at [] = None
definition_in g at (form ∷ forms) = if defines_global g form.kind then defined_by form.kind (lambda_of at form) else definition_in g (suc at) forms

-- of each global from g on
abbrev pub definitions : ℕ → List Global1 → List Form → List (Option Procedure)
definitions g [] forms = []
definitions g (info ∷ globals) forms = definition_in g 0 forms ∷ definitions (suc g) globals forms

abbrev pub definitions_of : UnitCore → List (Option Procedure)
definitions_of unit = definitions 0 unit.shared.globals.items unit.forms.items

-- the closures, and the globals with closures from `next` on
abbrev pub first_closures : List (Option Procedure) → List Procedure
first_closures [] = []
first_closures (None ∷ defined) = first_closures defined
first_closures (Some f ∷ defined) = f ∷ first_closures defined

abbrev pub first_globals : ℕ → List (Option Procedure) → List (Option Val)
first_globals next [] = []
first_globals next (None ∷ defined) = None ∷ first_globals next defined
first_globals next (Some f ∷ defined) = Some (ClosureV next) ∷ first_globals (suc next) defined

abbrev pub start : UnitCore → State
start unit = record {
  store = first_store unit.shared;
  locations = [];
  closures = first_closures (definitions_of unit);
  objects = [];
  globals = first_globals 0 (definitions_of unit);
  live = [];
  catches = 0;
  work = 0;
  deepest = 0;
}

-- ---- a form

-- a defining form gives the symbol of its name
abbrev pub name_of_global : UnitCore → ℕ → State → Outcome
name_of_global unit g s = or_unbound (slice_get unit.shared.globals.items g) s (λ info. Value s (SymbolV info.name.0))

abbrev pub name_of_op : UnitCore → ℕ → State → Outcome
name_of_op unit o s = or_unbound (slice_get unit.shared.ops.items o) s (λ info. Value s (SymbolV info.name.0))

-- the value is stored
abbrev pub storing : UnitCore → ℕ → Outcome → Outcome
storing unit g o = with_value o (λ s v. name_of_global unit g (with_global_at s g v))

-- by the kind of the form, the LAMBDA that is its root, and what evaluating its root gives: a DEFINE of a LAMBDA and a
-- DEFINE-OPERATION are in force from the start
abbrev pub form_gives : UnitCore → FormKind → Option Procedure → (State → Outcome) → State → Outcome
form_gives unit (Define g) (Some f) root s = name_of_global unit g s
form_gives unit (Define g) None root s = storing unit g (root s)
form_gives unit (Lset g) f root s = storing unit g (root s)
form_gives unit (Operation o) f root s = name_of_op unit o s
form_gives unit Plain f root s = root s

-- a root is evaluated at depth 1, in no tail place
abbrev pub run_form : Program → ℕ → ℕ → Form → State → Outcome
run_form p n at form s =
    form_gives p.unit form.kind (lambda_of at form) (λ t. perform p n 1 (Evaluate form.root (record { form = at; tail = false; env = [] })) t) s

-- ---- the unit

-- the forms in order from place `at` on, each one of work; `v` is the value before them
abbrev pub run_forms : Program → ℕ → ℕ → List Form → State → Val → Outcome
run_forms p n at [] s v = Value s v
run_forms p n at (form ∷ forms) s v = with_value (run_form p n at form (working 1 s)) (λ t w. run_forms p n (suc at) forms t w)

-- what the unit gives at a bound; without forms it is Nil
abbrev pub outcome : Program → ℕ → Outcome
outcome p n = run_forms p n 0 p.unit.forms.items (start p.unit) NilV

abbrev pub seen_at : Option End → State → Observation
seen_at end s = record { output = s.store.output; end = end; heap = s.store.heap; waiting = s.deepest; moves = s.work }

-- an escape never leaves a unit, since it is taken only while its CATCH is evaluated
abbrev pub observed : Outcome → Observation
observed (Value s v) = seen_at (Some (runs.Value (shown_of s.store v))) s
observed (Escaping s i v) = seen_at (Some runs.Broken) s
observed (Faulted s fault) = seen_at (Some (runs.Faulted fault)) s
observed (Out s) = seen_at None s

-- the run of a unit whose escaping LAMBDAs are those of the marking
abbrev pub meaning : UnitCore → Marking → Run
meaning unit escapes n = observed (outcome (marked unit escapes) n)

-- the run of a unit
abbrev pub meaning_of : UnitCore → Run
meaning_of unit = meaning unit (lambda_escapes unit)

-- the run with every LAMBDA counted as escaping
abbrev pub meaning_at_most : UnitCore → Run
meaning_at_most unit = meaning unit all_escape
