use Rattle.std.proofs.Common.{◌+◌, ◌-◌, ◌*◌, ◌≤◌, length}
use Rattle.t_reader.specs.Build.{weight}
use Rattle.t_reader.proofs.Reading.{IsAt}
use Rattle.t_reader.proofs.reader.read_text.Given as goal

abbrev pub invariant-tokens : goal.invariant-tokens
invariant-tokens l = record {
  light : weight l.build ≤ 3 + 5 * l.from;
  within : l.from ≤ length l.text;
  is_at : IsAt l.text l.from l.build;
}

abbrev pub decreases-tokens : goal.decreases-tokens
decreases-tokens l = length l.text - l.from
