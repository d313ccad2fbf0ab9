use Rattle.kept_strings.proofs.UnitBytes.{unit_few}
use Rattle.kept_strings.proofs.strings_are_few.Goals as goal

pub returns : goal.returns
returns c text trees unit spans whole held core each = unit_few text trees unit spans whole held core each
