-- Laws of the items.
use Rattle.word_ir.specs.declared.placed.Placed.{Placed}
use Rattle.word_ir.specs.WholePlaced.{IsWholePlaced}
use Rattle.lap_items.specs.Program.{CanMove}

-- What a whole program does at once can be done at once.
abbrev pub WholeCanMove : Type 0
WholeCanMove = (placed : Placed) → IsWholePlaced placed → CanMove placed
