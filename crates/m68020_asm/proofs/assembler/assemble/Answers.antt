use Rattle.std.proofs.Common.{◌≡◌, arith, ◌∙◌}
use Rattle.std.proofs.lemmas.List.{take_at}
use Rattle.m68020_asm.specs.Assembled.{IsSettled}
use Rattle.m68020_asm.proofs.Rounds.{all_done}
use Rattle.m68020_asm.proofs.assembler.assemble.Goals as goal

pub returns : goal.returns
returns c =
    let widths : c.deref.result.now ≡ c.settle.new.widths = c.deref.ensures.value ∙ take_at c.settle.new.widths _ _ (omega (arith, c.settle.auto.widths, c.deref_mut.ensures.len)) in
    let labels : c.deref-3.result.now ≡ c.settle.new.labels = c.deref-3.ensures.value ∙ take_at c.settle.new.labels _ _ (omega (arith, c.settle.auto.labels, c.deref_mut-3.ensures.len)) in
    let settled : IsSettled c.args.items.now c.deref.result.now c.deref-3.result.now = rw (widths, labels) c.settle.ensures.settled in
    rw (← c.deref-3.ensures.value) (all_done c.args.items.now c.deref.result.now c.deref-3.result.now c.in_ok-bytes.bytes.items settled c.in_ok-bytes.ensures)
