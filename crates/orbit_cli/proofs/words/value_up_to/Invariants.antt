use Rattle.std.proofs.Common.{◌≡◌, ◌≤◌, length}
use Rattle.orbit_cli.specs.Words.{digits_value}
use Rattle.orbit_cli.proofs.words.value_up_to.Given as goal

abbrev pub invariant-digits : goal.invariant-digits
invariant-digits l = record {
  same : digits_value l.value l.rest ≡ digits_value 0 l.digits;
  small : l.value ≤ l.limit;
}

abbrev pub decreases-digits : goal.decreases-digits
decreases-digits l = length l.rest
