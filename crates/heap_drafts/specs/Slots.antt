-- What each operation does to the slots of a frame.
use Rattle.std.specs.Prelude.{◌≡◌, ℕ, zero, suc, ◌+◌, if◌then◌else◌, length}
use Rattle.frame_ir.specs.declared.forms.Place.{Place}
use Rattle.frame_ir.specs.declared.forms.Place.TheVariants as At
use Rattle.frame_ir.specs.declared.forms.FrameOp.{FrameOp}
use Rattle.frame_ir.specs.declared.forms.FrameOp.TheVariants as Op
use Rattle.frame_ir.specs.Values.{even, record_words}
use Rattle.heap_drafts.specs.declared.slots.Change.{Change}
use Rattle.heap_drafts.specs.declared.slots.Change.TheVariants as change
use Rattle.heap_drafts.specs.declared.slots.Count.{Count}

abbrev pub record_at : Place → ℕ → Change
record_at (At.Frame slot) captured = change.Record captured
record_at At.Heap captured = change.Same
record_at At.Static captured = change.Same

abbrev pub change_of : FrameOp → Change
change_of (Op.Closure to code kept at) = record_at at (length kept)
change_of (Op.Push kept back) = change.Opens
change_of (Op.CatchOpen to back) = change.Opens
change_of Op.Pop = change.Shuts
change_of Op.CatchClose = change.Shuts
change_of op = change.Same

-- the slots in the end, where `go` has them for so many frames above and so many slots
abbrev pub by_change : Change → ℕ → ℕ → (ℕ → ℕ → ℕ) → ℕ
by_change change.Same above n go = go above n
by_change (change.Record captured) zero n go = go zero (even n + record_words captured)
by_change (change.Record captured) (suc above) n go = go (suc above) n
by_change change.Opens above n go = go (suc above) n
by_change change.Shuts zero n go = n
by_change change.Shuts (suc above) n go = go above n

-- the count is that behind a change
abbrev pub Counts : Change → ℕ → ℕ → Count → Type 0
Counts c above n count = (go : ℕ → ℕ → ℕ) → by_change c above n go ≡ (if count.open then go count.above count.slots else count.slots)
