use Rattle.std.proofs.Common.{take}
use Rattle.cps_convert.specs.Claims.{HasMarks}
use Rattle.cps_convert.specs.Operands.{AreOperandsAdded}
use Rattle.cps_convert.proofs.operands.operands.Given as goal

abbrev pub invariant-keys : goal.invariant-keys
invariant-keys l = HasMarks l.unit l.marks → AreOperandsAdded l.unit l.form l.initial.made l.made (take l.key-index l.keys) l.args.items l.initial.jobs.items l.jobs.items
