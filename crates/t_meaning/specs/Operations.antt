-- Objects, and operations on them.
use Rattle.std.specs.Prelude.{ℕ, suc, ◌==◌, if◌then◌else◌, List, [], ◌∷◌, map, Option, Some, None, slice_get}
use Rattle.std.specs.Option.{option_map_or}
use Rattle.t_base.specs.declared.faults.Fault.TheVariants.{WrongCount, NotHandled}
use Rattle.t_core.specs.declared.forms.Method.{Method}
use Rattle.t_core.specs.declared.forms.Core.{Core}
use Rattle.t_core.specs.declared.forms.Core.TheVariants as Node
use Rattle.t_core.specs.declared.forms.Form.{Form}
use Rattle.t_core.specs.declared.forms.UnitCore.{UnitCore}
use Rattle.t_core.specs.Whole.{defines_op}
use Rattle.t_prim.specs.Values.{Val, ObjectV}
use Rattle.t_meaning.specs.Programs.{Program}
use Rattle.t_meaning.specs.State.{Procedure, Handler, State, working}
use Rattle.t_meaning.specs.Outcomes.{Outcome, Faulted, Context, Enter, Doing}

-- the methods of an OBJECT, which see what the OBJECT sees
abbrev pub handlers_of : List Method → Context → List Handler
handlers_of methods c = map (λ m. record { op = m.op; procedure = record { params = m.params; form = c.form; body = m.body; env = c.env } }) methods

-- ---- the default of an operation, which is in force from the start

-- the procedure of a LAMBDA at top level
abbrev pub procedure_of : ℕ → Option Core → Option Procedure
procedure_of at (Some (Node.Lambda params body)) = Some (record { params = params; form = at; body = body; env = [] })
procedure_of at _ = None

-- the LAMBDA that the form at a place has as its root, where it has one
abbrev pub lambda_of : ℕ → Form → Option Procedure
lambda_of at form = procedure_of at (slice_get form.nodes.items form.root)

-- the root of the form that defines the operation; the forms stand from place `at` on
abbrev pub default_in : ℕ → ℕ → List Form → Option Procedure
default_in o at [] = None
default_in o at (form ∷ forms) = if defines_op o form.kind then lambda_of at form else default_in o (suc at) forms

abbrev pub default_of : UnitCore → ℕ → Option Procedure
default_of unit o = default_in o 0 unit.forms.items

-- ---- an operation is applied

-- the methods of a value; only an object has any
abbrev pub handlers_at : State → Val → List Handler
handlers_at s (ObjectV i) = option_map_or (λ object. object.handlers) (slice_get s.objects i) []
handlers_at s _ = []

-- how many methods are looked at: up to the first one that fits
abbrev pub looked_at : ℕ → List Handler → ℕ
looked_at o [] = 0
looked_at o (h ∷ hs) = if h.op == o then 1 else suc (looked_at o hs)

-- the first method that fits, and else the default
abbrev pub chosen : ℕ → List Handler → Option Procedure → Option Procedure
chosen o [] default = default
chosen o (h ∷ hs) default = if h.op == o then Some h.procedure else chosen o hs default

-- what was chosen is applied to all operands
abbrev pub handled : Doing → ℕ → Option Procedure → List Val → State → Outcome
handled part d None args s = Faulted s NotHandled
handled part d (Some f) args s = part d (Enter f args) s

-- an operation at operands, by the first of them
abbrev pub operate : Program → Doing → ℕ → ℕ → List Val → State → Outcome
operate p part d o [] s = Faulted s WrongCount
operate p part d o (v ∷ vs) s =
    let handlers = handlers_at s v in handled part d (chosen o handlers (default_of p.unit o)) (v ∷ vs) (working (looked_at o handlers) s)
