use Rattle.std.proofs.Common.{◌≡◌, take, map}
use Rattle.t_base.specs.declared.shared_parts.Shared.{Shared}
use Rattle.frame_words.specs.Layouts.{Layout}
use Rattle.prim_holds.specs.Operands.{operand_of}
use Rattle.operand_drafts.specs.Places.{ArePlaces}
use Rattle.operand_drafts.proofs.arguments.operands.Given as goal

abbrev pub invariant-loop-a : goal.invariant-loop-a
invariant-loop-a l = (layout : Layout) (shared : Shared) → ArePlaces layout shared l.places → l.xs.items ≡ map (operand_of layout shared) (take l.a-index l.args)
