-- What holds of every state that a whole unit comes to: what is wanted of a variable, a location, a closure, an object or a method is
-- there. Only a global may lack its value.
use Rattle.std.specs.Prelude.{◌≡◌, ◌≢◌, ℕ, ◌<◌, ◌++◌, is_some, Bool, true, List, [], ◌∷◌, length, Contains, Option, Some, None, option_and_then, slice_get}
use Rattle.std.specs.List.{AllByRecursion}
use Rattle.t_base.specs.declared.basics.Var.{Var}
use Rattle.t_base.specs.declared.faults.Fault.TheVariants.{Unbound}
use Rattle.t_base.specs.declared.shared_parts.Global1.{Global1}
use Rattle.t_base.specs.declared.shared_parts.GlobalKind.TheVariants.{Proc}
use Rattle.program_runs.specs.Runs as runs
use Rattle.t_core.specs.declared.forms.Core.{Core}
use Rattle.t_core.specs.declared.forms.Core.TheVariants as Node
use Rattle.t_core.specs.declared.forms.Form.{Form}
use Rattle.t_core.specs.declared.forms.UnitCore.{UnitCore}
use Rattle.t_core.specs.Whole.{IsWhole, IsScopedWithin}
use Rattle.t_prim.specs.Values.{Val}
use Rattle.made_values.specs.Made.{Made, IsLater, IsMade, AreMade, IsMadeStore, is_unbound}
use Rattle.t_meaning.specs.Programs.{Marking, Program, marked, node_at}
use Rattle.t_meaning.specs.Environment.{Env, location_of}
use Rattle.t_meaning.specs.State.{Procedure, Handler, Object, State}
use Rattle.t_meaning.specs.Outcomes.{Outcome, Value, Escaping, Faulted, Out, Task, Evaluate, Apply, Enter}
use Rattle.t_meaning.specs.Performing.{perform}
use Rattle.t_meaning.specs.Units.{definition_in, start, outcome, meaning}

abbrev pub made : State → Made
made s = record { closures = length s.closures; objects = length s.objects; locations = length s.locations }

-- ---- what can be evaluated

-- the node at a place of a form stands under these variables
pub record IsInScope (unit : UnitCore) (form node : ℕ) (scope : List Var) : Type 0 where
  pub nodes : Form
  pub there : slice_get unit.forms.items form ≡ Some nodes
  pub depth : ℕ
  pub tail : Bool
  pub scoped : IsScopedWithin nodes.nodes.items depth scope tail node

-- each variable in scope has a location in the environment
abbrev pub Covers : List Var → Env → Type 0
Covers scope env = (x : Var) → Contains scope x → is_some (location_of env x.0) ≡ true

abbrev pub IsMadeEnv : Made → Env → Type 0
IsMadeEnv w env = AllByRecursion (λ binding. binding.1 < w.locations) env

-- the node can be evaluated under the environment
pub record CanEvaluate (unit : UnitCore) (w : Made) (form node : ℕ) (env : Env) : Type 0 where
  pub scope : List Var
  pub at : IsInScope unit form node scope
  pub covers : Covers scope env
  pub locations : IsMadeEnv w env

-- a procedure can be entered: its body is evaluated with its parameters in front of its environment
pub record CanEnter (unit : UnitCore) (w : Made) (f : Procedure) : Type 0 where
  pub scope : List Var
  pub at : IsInScope unit f.form f.body (f.params ++ scope)
  pub covers : Covers scope f.env
  pub locations : IsMadeEnv w f.env

abbrev pub HandlersCanEnter : UnitCore → Made → List Handler → Type 0
HandlersCanEnter unit w handlers = AllByRecursion (λ h. CanEnter unit w h.procedure) handlers

pub record IsSoundObject (unit : UnitCore) (w : Made) (object : Object) : Type 0 where
  pub procedure : IsMade w object.procedure
  pub handlers : HandlersCanEnter unit w object.handlers

-- ---- states

-- a global that is a procedure has its value, any other may lack it
abbrev pub AreSoundGlobals : Made → List Global1 → List (Option Val) → Type 0
AreSoundGlobals w [] [] = Unit {0}
AreSoundGlobals w [] (value ∷ values) = ⊥
AreSoundGlobals w (g ∷ globals) [] = ⊥
AreSoundGlobals w (g ∷ globals) (None ∷ values) = (g.kind ≢ Proc) × AreSoundGlobals w globals values
AreSoundGlobals w (g ∷ globals) (Some v ∷ values) = IsMade w v × AreSoundGlobals w globals values

-- where so much is made
pub record IsSoundIn (unit : UnitCore) (w : Made) (s : State) : Type 0 where
  pub store : IsMadeStore w s.store
  pub locations : AreMade w s.locations
  pub closures : AllByRecursion (CanEnter unit w) s.closures
  pub objects : AllByRecursion (IsSoundObject unit w) s.objects
  pub globals : AreSoundGlobals w unit.shared.globals.items s.globals

abbrev pub IsSound : UnitCore → State → Type 0
IsSound unit s = IsSoundIn unit (made s) s

-- ---- tasks and what they give

abbrev pub CanDo : UnitCore → Made → Task → Type 0
CanDo unit w (Evaluate node c) = CanEvaluate unit w c.form node c.env
CanDo unit w (Apply f args) = IsMade w f × AreMade w args
CanDo unit w (Enter f args) = CanEnter unit w f × AreMade w args

-- the global that a node reads or assigns
abbrev pub global_used : Core → Option ℕ
global_used (Node.Global g) = Some g
global_used (Node.SetGlobal g value) = Some g
global_used _ = None

-- a node of the unit reads or assigns a global that has no value
pub record LacksGlobal (unit : UnitCore) (s : State) : Type 0 where
  pub form : ℕ
  pub node : ℕ
  pub global : ℕ
  pub used : option_and_then global_used (node_at unit form node) ≡ Some global
  pub lacks : slice_get s.globals global ≡ Some None

-- from where so much was made to a sound state, where no less is, and a value that is there
pub record ComesTo (unit : UnitCore) (before : Made) (t : State) (v : Val) : Type 0 where
  pub later : IsLater before (made t)
  pub sound : IsSound unit t
  pub value : IsMade (made t) v

-- a fault 9 is that of a global without a value
abbrev pub IsSoundOutcome : UnitCore → Made → Outcome → Type 0
IsSoundOutcome unit before (Value t v) = ComesTo unit before t v
IsSoundOutcome unit before (Escaping t i v) = ComesTo unit before t v
IsSoundOutcome unit before (Faulted t fault) = is_unbound fault ≡ true → LacksGlobal unit t
IsSoundOutcome unit before (Out t) = Unit {0}

-- ---- laws

-- the global is defined as a LAMBDA where it is a procedure, and nowhere else
pub record IsDefinedAsKind (unit : UnitCore) (g : ℕ) (info : Global1) : Type 0 where
  pub defined : info.kind ≡ Proc → is_some (definition_in g 0 unit.forms.items) ≡ true
  pub procedure : is_some (definition_in g 0 unit.forms.items) ≡ true → info.kind ≡ Proc

-- so the start has a closure for each global that is a procedure
abbrev pub DefinitionsAreProcedures : Type 0
DefinitionsAreProcedures = (unit : UnitCore) → IsWhole unit → (g : ℕ) (info : Global1) → slice_get unit.shared.globals.items g ≡ Some info → IsDefinedAsKind unit g info

abbrev pub StartIsSound : Type 0
StartIsSound = (unit : UnitCore) → IsWhole unit → IsSound unit (start unit)

abbrev pub TasksKeepSound : Type 0
TasksKeepSound =
    (p : Program) → IsWhole p.unit → (n d : ℕ) (task : Task) (s : State) → IsSound p.unit s → CanDo p.unit (made s) task → IsSoundOutcome p.unit (made s) (perform p n d task s)

abbrev pub UnitKeepsSound : Type 0
UnitKeepsSound = (p : Program) → IsWhole p.unit → (n : ℕ) → IsSoundOutcome p.unit (made (start p.unit)) (outcome p n)

-- it ended in a state in which a global that a node reads or assigns has no value
pub record EndsForGlobal (unit : UnitCore) (escapes : Marking) (n : ℕ) : Type 0 where
  pub state : State
  pub ends : outcome (marked unit escapes) n ≡ Faulted state Unbound
  pub lacks : LacksGlobal unit state

abbrev pub UnboundIsAGlobal : Type 0
UnboundIsAGlobal = (unit : UnitCore) (escapes : Marking) → IsWhole unit → (n : ℕ) → (meaning unit escapes n).end ≡ Some (runs.Faulted Unbound) → EndsForGlobal unit escapes n
