-- Where the items of a line come to, whatever its effect is.
use Rattle.std.specs.Prelude.{ℕ, List, [], None}
use Rattle.program_runs.specs.Runs.{End, Value, Faulted, Full, Broken}
use Rattle.word_ir.specs.State.{Setting, State as WordState}
use Rattle.word_ir.specs.Effects.{Effect, Binds, Stores, Takes, SetsTop, Puts, Turns, Enters, Ends}
use Rattle.word_ir.specs.Step.{changed}
use Rattle.m68020_step.specs.Step.{State}
use Rattle.m68020_asm.specs.declared.item.Item.{Item}
use Rattle.lap_runs.specs.Represents.{Represents}
use Rattle.lap_paths.specs.Paths.{Assembly, IsAt}
use Rattle.lap_lines.specs.Arrives.{Behind, Opened}
use Rattle.lap_services.specs.Tells.{Tells, EndsSo}

-- the run ends as the words do; a broken run doesn't come up
abbrev pub EndsAlike : Assembly → WordState → State → ℕ → End → Type 0
EndsAlike a s t n (Value shown) = EndsSo a s t n (Value shown)
EndsAlike a s t n (Faulted fault) = EndsSo a s t n (Faulted fault)
EndsAlike a s t n (Full stack asked left) = EndsSo a s t n (Full stack asked left)
EndsAlike a s t n Broken = Unit {0}

-- a state stands for one of the words, at a block's label
abbrev pub Entered : Assembly → Setting → WordState → ℕ → State → Type 0
Entered a m s block u = Represents m a.labels s u × IsAt a u block

-- To a state that stands for the one behind the effect: at the items that follow, or at the label of the block where the words go on. What
-- puts bytes puts the same, and what ends the run ends it alike.
abbrev pub Comes : Assembly → Setting → WordState → State → List Item → ℕ → Effect → Type 0
Comes a m s t items n (Binds to x) = Tells a n t [] None (Behind a m (changed s (Binds to x)) items)
Comes a m s t items n (Stores at x) = Tells a n t [] None (Behind a m (changed s (Stores at x)) items)
Comes a m s t items n (Takes to bytes) = Tells a n t [] None (Behind a m (changed s (Takes to bytes)) items)
Comes a m s t items n (SetsTop top) = Tells a n t [] None (Behind a m (changed s (SetsTop top)) items)
Comes a m s t items n (Puts bytes) = Tells a n t bytes None (Behind a m (changed s (Puts bytes)) items)
Comes a m s t items n (Turns block) = Tells a n t [] None (Opened a m s block)
Comes a m s t items n (Ends e) = EndsAlike a s t n e
Comes a m s t items n (Enters block env) = Tells a n t [] None (Entered a m (changed s (Enters block env)) block)
