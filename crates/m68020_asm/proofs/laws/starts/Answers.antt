use Rattle.std.proofs.Common.{refl}
use Rattle.m68020_asm.proofs.Runs.{starts}
use Rattle.m68020_asm.proofs.laws.starts.Goals as goal

pub returns-clause-place : goal.returns-clause-place
returns-clause-place c items bytes labels statics entry k sizes h can there = (starts items bytes labels can h statics entry k sizes there).0

pub returns-clause-code : goal.returns-clause-code
returns-clause-code c items bytes labels statics entry sizes h = refl
