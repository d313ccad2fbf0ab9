-- What names mean, as the code finds it.
use Rattle.std.specs.Prelude.{◌≡◌, ℕ, List, Option, Some, None, slice_get}
use Rattle.t_base.specs.declared.basics.Span.{Span}
use Rattle.t_base.specs.declared.basics.Var.{Var}
use Rattle.t_forms.specs.declared.scope.Meant.{Meant}
use Rattle.t_forms.specs.declared.scope.Meant.TheVariants as meant
use Rattle.t_forms.specs.Data.{Datum, atom, builtin, listing}
use Rattle.t_forms.specs.Names.{Meaning, a_local, a_global, an_op, the_builtin, the_operation, the_truth, the_listing, none, Scope}
use Rattle.form_rows.specs.declared.calls.Operator.{Operator}
use Rattle.form_rows.specs.declared.calls.Operator.TheVariants as operator
use Rattle.t_rows.specs.Rows.{builtin_call, list_row, call_node, call_meant, call_row}

abbrev pub MeansAs : List Var → Meant → Meaning → Type 0
MeansAs vars (meant.Local v) m = (i : ℕ) × (m ≡ a_local i) × (slice_get vars i ≡ Some v)
MeansAs vars (meant.Global g assigned) m = m ≡ a_global g assigned
MeansAs vars (meant.Operation o) m = m ≡ an_op o
MeansAs vars (meant.Builtin p) m = m ≡ the_builtin p
MeansAs vars (meant.BuiltinOperation o) m = m ≡ the_operation o
MeansAs vars meant.Truth m = m ≡ the_truth
MeansAs vars meant.Listing m = m ≡ the_listing
MeansAs vars meant.Nothing m = m ≡ none

abbrev pub IsMeantAs : List Var → Option Meant → Option Meaning → Type 0
IsMeantAs vars None m = m ≡ None
IsMeantAs vars (Some x) m = (n : Meaning) × (m ≡ Some n) × MeansAs vars x n

-- the operator that a row makes, whatever its name means
abbrev pub fixed_operator : Datum → Option Operator
fixed_operator (atom s (builtin p)) = Some (operator.Builtin p)
fixed_operator (atom s listing) = Some operator.Listing
fixed_operator _ = None

-- calls by what the operator means
abbrev pub IsOperatorMeant : Operator → Option Meaning → Type 0
IsOperatorMeant (operator.Builtin p) m = (s : Span) (f : Datum) (ds : List Datum) → call_meant s f ds m ≡ builtin_call s f ds p
IsOperatorMeant operator.Listing m = (s : Span) (f : Datum) (ds : List Datum) → call_meant s f ds m ≡ list_row s ds
IsOperatorMeant operator.Other m = (s : Span) (f : Datum) (ds : List Datum) → call_meant s f ds m ≡ call_node f ds

-- calls by their operator
abbrev pub IsOperator : Scope → Operator → Datum → Type 0
IsOperator scope (operator.Builtin p) f = (s : Span) (ds : List Datum) → call_row scope s f ds ≡ builtin_call s f ds p
IsOperator scope operator.Listing f = (s : Span) (ds : List Datum) → call_row scope s f ds ≡ list_row s ds
IsOperator scope operator.Other f = (s : Span) (ds : List Datum) → call_row scope s f ds ≡ call_node f ds
