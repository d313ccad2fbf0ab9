-- A unit as it is evaluated: its nodes, and which of its LAMBDAs count as escaping.
use Rattle.std.specs.Prelude.{ℕ, Bool, true, Option, slice_get, option_and_then}
use Rattle.t_core.specs.declared.forms.Core.{Core}
use Rattle.t_core.specs.declared.forms.UnitCore.{UnitCore}

-- whether the LAMBDA at a place escapes: the place of its form, and that of its node in the form
abbrev pub Marking : Type 0
Marking = ℕ → ℕ → Bool

-- every LAMBDA counts as escaping
abbrev pub all_escape : Marking
all_escape form node = true

pub record Program : Type 0 where
  pub unit : UnitCore
  pub escapes : Marking

abbrev pub marked : UnitCore → Marking → Program
marked unit escapes = record { unit = unit; escapes = escapes }

abbrev pub node_at : UnitCore → ℕ → ℕ → Option Core
node_at unit form node = option_and_then (λ f. slice_get f.nodes.items node) (slice_get unit.forms.items form)
