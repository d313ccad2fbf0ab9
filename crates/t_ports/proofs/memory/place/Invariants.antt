use Rattle.std.proofs.Common.{◌≡◌, take, None}
use Rattle.t_ports.specs.Memory.{lookup}
use Rattle.t_ports.proofs.memory.place.Given as goal

abbrev pub invariant-entries : goal.invariant-entries
invariant-entries l = lookup (take l.i l.entries) l.name ≡ None
