use Rattle.std.proofs.Common.{◌≡◌, take}
use Rattle.std.specs.List.{flat_map}
use Rattle.static_bytes.specs.Bytes.{bytes_of}
use Rattle.static_bytes.proofs.static_bytes.Given as goal

abbrev pub invariant-loop-word : goal.invariant-loop-word
invariant-loop-word l = l.bytes.items ≡ flat_map (bytes_of l.labels) (take l.word-index l.statics)
