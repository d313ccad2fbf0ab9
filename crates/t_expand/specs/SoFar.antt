-- What holds between two forms at top level.
use Rattle.std.specs.Prelude.{◌≡◌, Bool, List, None}
use Rattle.t_base.specs.declared.shared_parts.Shared.{Shared}
use Rattle.t_forms.specs.Names.{Bound}
use Rattle.t_expand.specs.declared.driver_state.Expansion.{Expansion}
use Rattle.t_expand.specs.declared.unit_all.FormList.{FormList}
use Rattle.t_expand.specs.Growth.{IsGrown, Keeps}
use Rattle.unit_tops.specs.Marks.{Marks}
use Rattle.expansion.specs.Meaning.{FormsMean}
use Rattle.expansion.specs.Refusals.{IsFirstOf, RefusedAmong}
use Rattle.expansion.specs.Units.{Top, names_defined}

-- the first forms are expanded
pub record SoFar (start now : Expansion) (marks : List Bool) (list : FormList) (done : List Top) (defined : List Bound) : Type 0 where
  pub keeps : Keeps start now
  pub marked : Marks start.shared.names marks (names_defined done)
  pub first : start.first ≡ None → IsFirstOf (RefusedAmong defined done) now.first
  pub meant : now.first ≡ None → (later : Shared) → IsGrown now.shared later → FormsMean defined later list.forms.items list.spans.items done
