use Rattle.std.proofs.Common.{◌≡◌, map, take}
use Rattle.static_names.specs.Named.{fixed_of}
use Rattle.static_tables.specs.Tables.{Adds}
use Rattle.static_tables.proofs.statics.Statics.add_all.Given as goal

abbrev pub invariant-loop-thing : goal.invariant-loop-thing
invariant-loop-thing l = Adds l.frames (map fixed_of (take l.thing-index l.things)) l.fn.self l.self
