use Rattle.std.proofs.Common.{◌≡◌, ◌++◌, take}
use Rattle.std.specs.List.{flat_map}
use Rattle.word_ir.specs.Lines.{op_binds}
use Rattle.trace_regs.proofs.static_homes.add_binders.Given as goal

abbrev pub invariant-loop-op : goal.invariant-loop-op
invariant-loop-op l = l.vars.items ≡ (l.fn.vars.items ++ l.block.params) ++ flat_map op_binds (take l.op-index l.op-items)
