use Rattle.std.proofs.Common.{◌≡◌, ◌++◌, take, ap, ◌∙◌, arith}
use Rattle.std.specs.List.{flat_map}
use Rattle.std.proofs.lemmas.List.{take_all}
use Rattle.word_ir.specs.Lines.{op_binds}
use Rattle.trace_regs.proofs.Homing.{binders_behind}
use Rattle.trace_regs.proofs.static_homes.add_binders.Goals as goal

pub returns : goal.returns
returns c =
    let front = c.args.vars.now.items ++ c.args.block.now.params in
    let ops = c.as_slice-op-items.result.now in
    let all : take c.loop-op.op-index ops ≡ ops = take_all c.loop-op.op-index ops (omega (arith, c.loop-op-test.false)) in
    c.loop-op.invariant ∙ ap (λ l. front ++ flat_map op_binds l) (all ∙ c.as_slice-op-items.ensures.value) ∙ binders_behind c.args.vars.now.items c.args.block.now
