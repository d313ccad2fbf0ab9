use Rattle.std.proofs.Common.{rules}
use Rattle.orbit_cli.proofs.Numbers.{up_to-over}
use Rattle.orbit_cli.proofs.words.value_up_to.Goals as goal

pub returns-then-value-limit : goal.returns-then-value-limit
returns-then-value-limit c = search (up_to-over, rules)
