use Rattle.std.proofs.Common.{◌≡◌, ◌++◌, map, take}
use Rattle.static_names.specs.declared.things.Thing.TheVariants as thing
use Rattle.static_tables.proofs.parts.push_operations.Given as goal

abbrev pub invariant-loop-o : goal.invariant-loop-o
invariant-loop-o l = l.things.items ≡ l.fn.things.items ++ map thing.Operation (take l.o-index l.ops)
