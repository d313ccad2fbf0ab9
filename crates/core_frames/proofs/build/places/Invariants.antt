use Rattle.std.proofs.Common.{◌≡◌, false, map, take}
use Rattle.t_core.specs.Nodes.{part}
use Rattle.core_frames.specs.Building.{variables_of, part_of}
use Rattle.core_frames.proofs.build.places.Given as goal

abbrev pub invariant-parts : goal.invariant-parts
invariant-parts l = map (λ k. part k (variables_of l.vars) false) l.keys.items ≡ map part_of (take l.part-index l.done)
