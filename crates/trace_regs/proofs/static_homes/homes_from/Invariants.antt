use Rattle.std.proofs.Common.{◌≡◌, ◌+◌}
use Rattle.trace_regs.specs.Assignment.{HaveHomes}
use Rattle.trace_regs.proofs.static_homes.homes_from.Given as goal

abbrev pub invariant-loop-v : goal.invariant-loop-v
invariant-loop-v l = record { place : l.place ≡ l.low + l.v-index; homes : HaveHomes l.low l.v-index l.vars l.homes.items }
