use Rattle.std.proofs.Common.{◌≡◌, ◌++◌, take}
use Rattle.std.specs.List.{flat_map}
use Rattle.static_names.specs.Named.{of_block}
use Rattle.static_names.proofs.naming.push_blocks.Given as goal

abbrev pub invariant-loop-block : goal.invariant-loop-block
invariant-loop-block l = l.things.items ≡ l.fn.things.items ++ flat_map of_block (take l.block-index l.blocks)
