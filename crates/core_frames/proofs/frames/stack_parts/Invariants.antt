use Rattle.std.proofs.Common.{◌≡◌, ◌++◌, reverse, vec_len}
use Rattle.core_frames.proofs.frames.stack_parts.Given as goal

abbrev pub invariant-parts : goal.invariant-parts
invariant-parts l = l.parts.items ++ reverse l.left.items ≡ l.initial.parts.items ++ reverse l.initial.left.items

abbrev pub decreases-parts : goal.decreases-parts
decreases-parts l = vec_len l.parts
