-- Where the items of an operation come to.
use Rattle.std.specs.Prelude.{ℕ, List}
use Rattle.word_ir.specs.State.{Setting, State as WordState}
use Rattle.word_ir.specs.Effects.{Effect, Binds, Stores, Takes, SetsTop, Puts, Turns, Enters, Ends}
use Rattle.word_ir.specs.Step.{changed, into}
use Rattle.m68020_step.specs.Step.{State}
use Rattle.m68020_asm.specs.declared.item.Item.{Item}
use Rattle.lap_runs.specs.Represents.{Represents}
use Rattle.lap_paths.specs.Paths.{Assembly, Stands, IsAt, Path}

-- a state stands for one of the words, at the items that follow
abbrev pub Behind : Assembly → Setting → WordState → List Item → State → Type 0
Behind a m s items u = Represents m a.labels s u × Stands a u items

-- it stands for one at the start of a block, at the block's label
abbrev pub Opened : Assembly → Setting → WordState → ℕ → State → Type 0
Opened a m s block u = Represents m a.labels (into block s) u × IsAt a u block

-- What the items come to in at most so many instructions, where an operation has this effect. Of effects that only services and ends of
-- blocks have nothing is said here.
abbrev pub Arrives : Assembly → Setting → WordState → State → List Item → ℕ → Effect → Type 0
Arrives a m s t items n (Binds to x) = Path a n t (Behind a m (changed s (Binds to x)) items)
Arrives a m s t items n (Stores at x) = Path a n t (Behind a m (changed s (Stores at x)) items)
Arrives a m s t items n (Takes to bytes) = Path a n t (Behind a m (changed s (Takes to bytes)) items)
Arrives a m s t items n (SetsTop top) = Path a n t (Behind a m (changed s (SetsTop top)) items)
Arrives a m s t items n (Turns block) = Path a n t (Opened a m s block)
Arrives a m s t items n (Puts bytes) = Unit {0}
Arrives a m s t items n (Enters block env) = Unit {0}
Arrives a m s t items n (Ends e) = Unit {0}
