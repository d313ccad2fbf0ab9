-- The kinds of globals: what a definition gives first, and what the forms make of it.
use Rattle.std.specs.Prelude.{ℕ, zero, suc, Bool, false, if◌then◌else◌, List, [], ◌∷◌, is_some}
use Rattle.t_base.specs.declared.shared_parts.Global1.{Global1}
use Rattle.t_base.specs.declared.shared_parts.GlobalKind.{GlobalKind}
use Rattle.t_base.specs.declared.shared_parts.GlobalKind.TheVariants.{Proc, Value, Variable}
use Rattle.t_core.specs.declared.forms.Core.{Core}
use Rattle.t_core.specs.declared.forms.FormKind.{FormKind}
use Rattle.t_core.specs.declared.forms.FormKind.TheVariants.{Define, Lset, Operation, Plain}
use Rattle.t_core.specs.declared.forms.Form.{Form}
use Rattle.t_core.specs.Whole.{is_lambda_at}
use Rattle.t_rows.specs.Rows.{Definition, define, lset, operation_form}

-- a global that a DEFINE defines is a value until its form is expanded
abbrev pub first_kind : Definition → GlobalKind
first_kind (lset b d) = Variable
first_kind _ = Value

abbrev pub has_default : Definition → Bool
has_default (operation_form b ps d) = is_some d
has_default _ = false

-- a global as a procedure
abbrev pub proc_of : Global1 → Global1
proc_of info = record { name = info.name; kind = Proc }

-- the global at a place is a procedure from now on; where none stands, nothing changes
abbrev pub with_procedure : ℕ → List Global1 → List Global1
with_procedure g [] = []
with_procedure zero (x ∷ xs) = proc_of x ∷ xs
with_procedure (suc g) (x ∷ xs) = x ∷ with_procedure g xs

-- a global becomes a procedure where its DEFINE has a LAMBDA as root
abbrev pub settled : List Global1 → FormKind → List Core → ℕ → List Global1
settled globals (Define g) nodes root = if is_lambda_at nodes root then with_procedure g globals else globals
settled globals (Lset g) nodes root = globals
settled globals (Operation o) nodes root = globals
settled globals Plain nodes root = globals

-- the same by each form in order
abbrev pub all_settled : List Global1 → List Form → List Global1
all_settled globals [] = globals
all_settled globals (form ∷ forms) = all_settled (settled globals form.kind form.nodes.items form.root) forms
