use Rattle.std.proofs.Common.{take}
use Rattle.layout_steps.specs.Steps.{IsPrepared}
use Rattle.layout_tables.specs.Sketches.{AreBelow}
use Rattle.layout_steps.proofs.arguments.prepare_all.Given as goal

abbrev pub invariant-loop-arg : goal.invariant-loop-arg
invariant-loop-arg l = record {
  below : AreBelow l.work.next l.scope;
  prepared : IsPrepared l.cps l.tables l.scope l.fn.work l.work (take l.arg-index l.args) l.fn.ops.items l.ops.items l.ready.items;
}
