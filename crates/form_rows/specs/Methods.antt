-- The methods of OBJECT, as the code has them.
use Rattle.std.specs.Prelude.{◌≡◌, ℕ, List, ◌∷◌, map, Option, Some, None}
use Rattle.std.specs.List.{AllZip, filter_map, flat_map}
use Rattle.std.specs.Option.{option_and_then}
use Rattle.t_base.specs.declared.basics.Span.{Span}
use Rattle.t_forms.specs.declared.arena.Cell.{Cell}
use Rattle.t_forms.specs.Data.{operation, Datum, atom, items_of, names}
use Rattle.t_forms.specs.Names.{Scope}
use Rattle.t_forms.specs.Held.{Held}
use Rattle.form_rows.specs.declared.object.Method.{Method as CodeMethod}
use Rattle.t_rows.specs.Bindings.{IsBinder}
use Rattle.t_rows.specs.Given.{IsPart}
use Rattle.t_rows.specs.declared.refusal.Refusal.{Refusal}
use Rattle.t_rows.specs.declared.rows.Part.{Part as CodePart}
use Rattle.t_rows.specs.Rows.{Method, Part, method_of_items, method_refusals, operation_of, plain, inside}

abbrev pub method_of : Span → Datum → Option Method
method_of s d = option_and_then (method_of_items s) (items_of d)

abbrev pub IsMethod : List (List ℕ) → List Cell → CodeMethod → Method → Type 0
IsMethod names cells c m = Held names cells c.op m.op × AllZip (IsBinder names) c.params.items m.params × Held names cells c.form m.form

abbrev pub IsMethodIf : List (List ℕ) → List Cell → Option CodeMethod → Option Method → Type 0
IsMethodIf names cells c None = c ≡ None
IsMethodIf names cells c (Some m) = (x : CodeMethod) × (c ≡ Some x) × IsMethod names cells x m

-- the operation that a row means, whatever its name means
abbrev pub fixed_operation : Datum → Option ℕ
fixed_operation (atom s (operation o)) = Some o
fixed_operation _ = None

abbrev pub method_part : Method → Part
method_part m = inside (names m.params) m.form

-- what an object with these methods is made of
pub record IsObject (names : List (List ℕ)) (cells : List Cell) (scope : Scope) (p : Datum) (numbers : List ℕ) (refused : List Refusal) (pieces : List CodePart) (ms : List Method) : Type 0 where
  pub ops : numbers ≡ filter_map (λ m. operation_of scope m.op) ms
  pub refusals : refused ≡ flat_map (method_refusals scope) ms
  pub parts : AllZip (IsPart names cells) pieces (plain p ∷ map method_part ms)
