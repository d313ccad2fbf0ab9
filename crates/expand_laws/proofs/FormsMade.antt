-- The nodes of a form where each name that the unit defines means a global or an operation, and how many they are at most.
use Rattle.std.proofs.Common.{ℕ, List}
use Rattle.t_rows.specs.declared.refusal.Refusal.{Refusal}
use Rattle.t_forms.specs.Data.{Datum}
use Rattle.t_forms.specs.Names.{Bound}
use Rattle.expansion.specs.Meaning.{top_scope}
use Rattle.expansion.specs.Refusals.{Refused}
use Rattle.expand_laws.proofs.Costs.{cost}
use Rattle.expand_laws.proofs.Forming.{RowsShaped, form_made}
use Rattle.expand_laws.proofs.Made.{Stock, FormMadeWithin, IsRight}
use Rattle.expand_laws.proofs.NameShapes.{DefinesOwn}
use Rattle.expand_laws.proofs.Reached.{Comes}
use Rattle.expand_laws.proofs.ShapesOfRows.{row_shaped}

pub rows_shaped : (defined : List Bound) → DefinesOwn defined → RowsShaped defined
rows_shaped defined own locals d shape parts ops is = row_shaped (record { locals = locals; defined = defined }) d shape parts own ops is

pub form_made_within : (names : List (List ℕ)) (defined : List Bound) (d : Datum) (before : Stock) → DefinesOwn defined → (c : Comes (IsRight names) (top_scope defined) d)
    → ((r : Refusal) → Refused (top_scope defined) d r → ⊥) → FormMadeWithin names defined d before (cost (IsRight names) (top_scope defined) d c)
form_made_within names defined d before own c none = form_made names defined d before (rows_shaped defined own) c none
