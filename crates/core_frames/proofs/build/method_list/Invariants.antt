use Rattle.std.proofs.Common.{◌≡◌, true, map, take}
use Rattle.t_core.specs.Nodes.{part}
use Rattle.core_frames.specs.Building.{part_of}
use Rattle.core_frames.proofs.build.method_list.Given as goal

abbrev pub invariant-methods : goal.invariant-methods
invariant-methods l = record {
  ops : map (λ m. m.op) l.methods.items ≡ take l.index l.ops;
  parts : map (λ m. part m.body m.params true) l.methods.items ≡ map part_of (take l.index l.done);
}
