-- Forms by what their cells are.
use Rattle.std.specs.Prelude.{◌≡◌, ℕ, List, []}
use Rattle.t_base.specs.declared.basics.Span.{Span}
use Rattle.t_forms.specs.declared.arena.Form.{Form}
use Rattle.t_forms.specs.declared.arena.Form.TheVariants as form
use Rattle.t_forms.specs.declared.scope.LocalName.TheVariants as key
use Rattle.t_forms.specs.Data.{Datum, cons, span_of, Name}
use Rattle.t_forms.specs.Names.{Scope, meaning}
use Rattle.t_forms.specs.Held.{IsName}
use Rattle.form_rows.specs.declared.table.Sort.{Sort}
use Rattle.form_rows.specs.declared.table.Sort.TheVariants as sort
use Rattle.t_rows.specs.Rows.{row, name_row, no_row, node, constant, builtin_value, op_value}

abbrev pub sort_of : Form → Sort
sort_of (form.Pair i j c) = sort.Pair
sort_of (form.Sym n) = sort.Name (key.Written n)
sort_of (form.Variable v) = sort.Name (key.Made v)
sort_of (form.Word w) = sort.Reserved
sort_of form.Listing = sort.Reserved
sort_of (form.Builtin p) = sort.Builtin p
sort_of (form.Operation o) = sort.Operation o
sort_of _ = sort.Constant

-- the rows of forms of each sort
abbrev pub IsSort : List (List ℕ) → Sort → Datum → Type 0
IsSort names sort.Pair d = (s : Span) × (head : Datum) × (tail : Datum) × (d ≡ cons s head tail)
IsSort names (sort.Name k) d = (n : Name) × ((scope : Scope) → row scope d ≡ name_row (span_of d) (meaning scope n)) × IsName names k n
IsSort names sort.Reserved d = (scope : Scope) → row scope d ≡ no_row (span_of d)
IsSort names (sort.Builtin p) d = (scope : Scope) → row scope d ≡ node (builtin_value p) [] []
IsSort names (sort.Operation o) d = (scope : Scope) → row scope d ≡ node (op_value o) [] []
IsSort names sort.Constant d = (scope : Scope) → row scope d ≡ node (constant d) [] []
