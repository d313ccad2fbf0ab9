use Rattle.std.proofs.Common.{◌≡◌, ◌++◌, take}
use Rattle.orbit_tools.specs.Text.{hex}
use Rattle.orbit_tools.proofs.digits.put_hex.Given as goal

abbrev pub invariant-loop-byte : goal.invariant-loop-byte
invariant-loop-byte l = l.out.items ≡ l.initial.out.items ++ hex (take l.byte-index l.bytes)
