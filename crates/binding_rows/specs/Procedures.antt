-- The procedures of LABELS, as the code has them.
use Rattle.std.specs.Prelude.{◌≡◌, ℕ, List, Option, Some, None}
use Rattle.std.specs.Option.{option_and_then}
use Rattle.t_base.specs.declared.basics.Span.{Span}
use Rattle.t_forms.specs.declared.arena.Cell.{Cell}
use Rattle.t_forms.specs.Data.{Datum, items_of}
use Rattle.t_forms.specs.Held.{Held}
use Rattle.binding_rows.specs.declared.labels.Procedure.{Procedure}
use Rattle.t_rows.specs.Bindings.{IsBinder}
use Rattle.t_rows.specs.Rows.{Binding, labels_item}

abbrev pub IsProcedure : List (List ℕ) → List Cell → Procedure → Binding → Type 0
IsProcedure names cells c b = IsBinder names c.name b.binds × Held names cells c.value b.value

abbrev pub IsProcedureIf : List (List ℕ) → List Cell → Option Procedure → Option Binding → Type 0
IsProcedureIf names cells c None = c ≡ None
IsProcedureIf names cells c (Some b) = (x : Procedure) × (c ≡ Some x) × IsProcedure names cells x b

abbrev pub labels_item_of : Span → Datum → Option Binding
labels_item_of s d = option_and_then (labels_item s) (items_of d)
