use Rattle.std.proofs.Common.{take}
use Rattle.std.specs.List.{flat_map}
use Rattle.cps_units.specs.Numbers.{IsPast}
use Rattle.cps_units.proofs.numbers.past_methods.Given as goal

abbrev pub invariant-methods : goal.invariant-methods
invariant-methods l = IsPast l.least l.past (flat_map (λ m. m.params) (take l.method-index l.methods))
