use Rattle.std.proofs.Common.{◌≡◌, length}
use Rattle.t_ports.specs.Memory.{listed_count}
use Rattle.t_ports.proofs.memory.listed.Given as goal

abbrev pub invariant-entries : goal.invariant-entries
invariant-entries l = listed_count l.rest l.call ≡ listed_count l.fail l.call

abbrev pub decreases-entries : goal.decreases-entries
decreases-entries l = length l.rest
