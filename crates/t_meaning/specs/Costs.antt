-- Words of heap. A pair and a vector take theirs in the table of the builtins: 2, and 2 and the length rounded up to even. What
-- isn't named there or here takes none.
use Rattle.std.specs.Prelude.{ℕ, ◌+◌, ◌==◌, Bool, false, if◌then◌else◌, List, sum_by}
use Rattle.std.specs.List.{list_any}
use Rattle.t_base.specs.declared.basics.Var.{Var}
use Rattle.t_core.specs.declared.forms.Core.{Core}
use Rattle.t_core.specs.declared.forms.Core.TheVariants as Node
use Rattle.t_core.specs.declared.forms.UnitCore.{UnitCore}
use Rattle.t_meaning.specs.Programs.{Program}

abbrev pub assigns : Var → Core → Bool
assigns x (Node.SetLocal y value) = y.0 == x.0
assigns x _ = false

-- a SET of the variable stands in the unit
abbrev pub is_assigned : UnitCore → Var → Bool
is_assigned unit x = list_any (λ form. list_any (assigns x) form.nodes.items) unit.forms.items

-- a binding of an assigned variable takes two words
abbrev pub binding_words : UnitCore → List Var → ℕ
binding_words unit vars = sum_by (λ x. if is_assigned unit x then 2 else 0) vars

-- four words, and one for each node of the unit's largest form
abbrev pub record_words : UnitCore → ℕ
record_words unit = 4 + unit.shared.size

-- an evaluated LAMBDA that escapes; one that is the value of a DEFINE isn't evaluated
abbrev pub lambda_words : Program → ℕ → ℕ → ℕ
lambda_words p form node = if p.escapes form node then record_words p.unit else 0

-- an evaluated OBJECT
abbrev pub object_words : Program → ℕ
object_words p = record_words p.unit

abbrev pub catch_words : ℕ
catch_words = 4
