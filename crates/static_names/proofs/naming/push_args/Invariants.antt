use Rattle.std.proofs.Common.{◌≡◌, ◌++◌, take}
use Rattle.std.specs.List.{flat_map}
use Rattle.static_names.specs.Named.{of_arg}
use Rattle.static_names.proofs.naming.push_args.Given as goal

abbrev pub invariant-loop-arg : goal.invariant-loop-arg
invariant-loop-arg l = l.things.items ≡ l.fn.things.items ++ flat_map of_arg (take l.arg-index l.args)
