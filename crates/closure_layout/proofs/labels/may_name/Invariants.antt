use Rattle.std.proofs.Common.{take}
use Rattle.closure_layout.specs.Labelled.{MayName}
use Rattle.closure_layout.proofs.labels.may_name.Given as goal

abbrev pub invariant-loop-name : goal.invariant-loop-name
invariant-loop-name l = MayName l.tables l.scope l.site (take l.name-index l.names)
