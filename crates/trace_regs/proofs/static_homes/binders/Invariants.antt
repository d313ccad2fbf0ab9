use Rattle.std.proofs.Common.{◌≡◌, take}
use Rattle.std.specs.List.{flat_map}
use Rattle.word_ir.specs.Whole.{binders_in}
use Rattle.trace_regs.proofs.static_homes.binders.Given as goal

abbrev pub invariant-loop-block : goal.invariant-loop-block
invariant-loop-block l = l.vars.items ≡ flat_map binders_in (take l.block-index l.block-items)
