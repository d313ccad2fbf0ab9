use Rattle.m68020_asm.proofs.sweeps.must_widen.Goals as goal

pub bounds-labels-n : goal.bounds-labels-n
bounds-labels-n c = (c.requires.branch c.in-Branch.n c.in-Branch.field-0 c.in-Branch.is).0
