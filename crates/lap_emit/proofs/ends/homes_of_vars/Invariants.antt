use Rattle.std.proofs.Common.{◌≡◌, take}
use Rattle.std.specs.Prelude.{map}
use Rattle.lap_items.specs.Homes.{home_of}
use Rattle.lap_emit.proofs.ends.homes_of_vars.Given as goal

abbrev pub invariant-vars : goal.invariant-vars
invariant-vars l = l.places.items ≡ map (home_of l.homes) (take l.n l.vars)
