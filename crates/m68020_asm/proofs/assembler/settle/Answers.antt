use Rattle.std.proofs.Common.{refl}
use Rattle.m68020_asm.proofs.Rounds.{round_smaller}
use Rattle.m68020_asm.proofs.assembler.settle.Goals as goal

pub loop-smaller : goal.loop-smaller
loop-smaller c = round_smaller c.args.items.now c.loop.widths c.sweep.new.widths c.requires.items (c.loop-test.ensures.longer refl)
