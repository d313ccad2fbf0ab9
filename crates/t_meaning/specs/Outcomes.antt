-- What an evaluation or an application gives, and how a part is evaluated.
use Rattle.std.specs.Prelude.{ℕ, suc, Bool, true, false, if◌then◌else◌, List, [], ◌∷◌, Option, Some, None}
use Rattle.t_base.specs.declared.faults.Fault.{Fault}
use Rattle.t_base.specs.declared.faults.Fault.TheVariants.{Unbound}
use Rattle.t_prim.specs.Values.{Val}
use Rattle.t_prim.specs.Operands.{Row, Gives, Changes, Faults}
use Rattle.t_meaning.specs.Environment.{Env}
use Rattle.t_meaning.specs.State.{Procedure, State, with_store}

-- a value; a value on its way out to a live catch; a fault; or Out, where the bound was too small
pub data Outcome : Type 0 where
  Value : (state : State) (value : Val) → Outcome
  Escaping : (state : State) (catch : ℕ) (value : Val) → Outcome
  Faulted : (state : State) (fault : Fault) → Outcome
  Out : (state : State) → Outcome

-- where a node stands: in a form, in a tail place or not, under an environment
pub record Context : Type 0 where
  pub form : ℕ
  pub tail : Bool
  pub env : Env

abbrev pub under : Env → Context → Context
under env c = record c { env = env }

-- What is to be done: evaluate a node, apply a value to operands, or apply a procedure that is no value, as a method and a
-- default are.
pub data Task : Type 0 where
  Evaluate : (node : ℕ) (context : Context) → Task
  Apply : (operator : Val) (operands : List Val) → Task
  Enter : (procedure : Procedure) (operands : List Val) → Task

-- how tasks are done, each at a depth
abbrev pub Doing : Type 0
Doing = ℕ → Task → State → Outcome

-- ---- going on

-- what isn't a value ends the whole
abbrev pub with_value : Outcome → (State → Val → Outcome) → Outcome
with_value (Value s v) rest = rest s v
with_value (Escaping s i v) rest = Escaping s i v
with_value (Faulted s fault) rest = Faulted s fault
with_value (Out s) rest = Out s

-- where the test fails it is a fault
abbrev pub provided : Bool → Fault → State → (State → Outcome) → Outcome
provided true fault s rest = rest s
provided false fault s rest = Faulted s fault

-- a global without a value is fault 9; so is what no whole unit lacks, as the location of a variable
abbrev pub or_unbound : {X : Type 0} → Option X → State → (X → Outcome) → Outcome
or_unbound None s rest = Faulted s Unbound
or_unbound (Some x) s rest = rest x

-- what a row of the table of builtins gives
abbrev pub after_row : State → Row → Outcome
after_row s (Gives v) = Value s v
after_row s (Changes t v) = Value (with_store s t) v
after_row s (Faults fault) = Faulted s fault

-- ---- parts of a node that is evaluated at depth d

-- a part in a non-tail place, one deeper
abbrev pub early : Doing → ℕ → Context → ℕ → State → Outcome
early part d c k s = part (suc d) (Evaluate k (record c { tail = false })) s

-- a part whose value is the node's: in a tail place, at the same depth, where the node stands in one, and else one deeper
abbrev pub last : Doing → ℕ → Context → ℕ → State → Outcome
last part d c k s = part (if c.tail then d else suc d) (Evaluate k c) s

-- the parts from left to right, and their values
abbrev pub with_values : Doing → ℕ → Context → List ℕ → State → (State → List Val → Outcome) → Outcome
with_values part d c [] s rest = rest s []
with_values part d c (k ∷ ks) s rest = with_value (early part d c k s) (λ t v. with_values part d c ks t (λ u vs. rest u (v ∷ vs)))
