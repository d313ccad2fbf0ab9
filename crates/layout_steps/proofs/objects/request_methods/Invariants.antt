use Rattle.std.proofs.Common.{take}
use Rattle.layout_steps.specs.Steps.{AreMethods}
use Rattle.layout_steps.proofs.objects.request_methods.Given as goal

abbrev pub invariant-loop-lam : goal.invariant-loop-lam
invariant-loop-lam l = AreMethods l.fn.work l.work (take l.lam-index l.methods) l.needs l.codes.items
