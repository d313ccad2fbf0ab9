use Rattle.std.proofs.Common.{take}
use Rattle.std.specs.List.{AllByRecursion}
use Rattle.closure_layout.specs.Blocks.{IsWholeTemplate}
use Rattle.closure_layout.proofs.templates.are_templates.Given as goal

abbrev pub invariant-loop-template : goal.invariant-loop-template
invariant-loop-template l = AllByRecursion (IsWholeTemplate l.frames) (take l.template-index l.frames.templates.items)
