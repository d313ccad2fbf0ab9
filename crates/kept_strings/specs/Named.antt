-- Units that have no string and no quoted pair that nothing names.
use Rattle.std.specs.Prelude.{length}
use Rattle.t_core.specs.declared.forms.UnitCore.{UnitCore}
use Rattle.t_core.specs.Whole.{named_pairs}
use Rattle.expansion.specs.Counting.{EachOnce}
use Rattle.expansion.specs.Strings.{named_strings}

-- each string and each pair is named once, by a node or by a pair
pub record NamesEach (unit : UnitCore) : Type 0 where
  pub strings : EachOnce (length unit.shared.strings.items) (named_strings unit)
  pub pairs : EachOnce (length unit.shared.pairs.items) (named_pairs unit)
