-- What the code's definition is to the table's.
use Rattle.std.specs.Prelude.{◌≡◌, ℕ, List, Option, Some, None}
use Rattle.std.specs.Global.{Vec}
use Rattle.std.specs.List.{AllZip}
use Rattle.t_forms.specs.declared.arena.Cell.{Cell}
use Rattle.t_forms.specs.Held.{Held}
use Rattle.t_rows.specs.declared.names.Binder.{Binder}
use Rattle.form_rows.specs.declared.definitions.Definition.{Definition as CodeDefinition}
use Rattle.form_rows.specs.declared.definitions.Definition.TheVariants as coded
use Rattle.t_rows.specs.Bindings.{IsBinder}
use Rattle.t_rows.specs.Lists.{IsHeldIf}
use Rattle.t_rows.specs.Rows.{Definition, define, lset, operation_form}

abbrev pub IsDefinition : List (List ℕ) → List Cell → CodeDefinition → Definition → Type 0
IsDefinition names cells c (define b d) = (n : Binder) × (k : ℕ) × (c ≡ coded.Define n k) × IsBinder names n b × Held names cells k d
IsDefinition names cells c (lset b d) = (n : Binder) × (k : ℕ) × (c ≡ coded.Lset n k) × IsBinder names n b × Held names cells k d
IsDefinition names cells c (operation_form b xs d) =
    (n : Binder) × (ps : Vec Binder) × (k : Option ℕ) × (c ≡ coded.Operation n ps k) × IsBinder names n b × AllZip (IsBinder names) ps.items xs × IsHeldIf names cells k d

abbrev pub IsDefinitionIf : List (List ℕ) → List Cell → Option CodeDefinition → Option Definition → Type 0
IsDefinitionIf names cells c None = c ≡ None
IsDefinitionIf names cells c (Some d) = (x : CodeDefinition) × (c ≡ Some x) × IsDefinition names cells x d
