use Rattle.std.proofs.Common.{take}
use Rattle.std.specs.List.{AllByRecursion}
use Rattle.frame_ir.specs.Whole.{HasParams, IsMethodCount}
use Rattle.closure_layout.proofs.templates.are_codes.Given as goal

abbrev pub invariant-loop-code : goal.invariant-loop-code
invariant-loop-code l = AllByRecursion (HasParams l.frames IsMethodCount) (take l.code-index l.codes)
