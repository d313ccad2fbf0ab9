-- Laws of the start.
use Rattle.std.specs.Prelude.{ℕ, ◌^◌, ◌≤◌, IsTrue}
use Rattle.word_ir.specs.declared.placed.Placed.{Placed}
use Rattle.word_ir.specs.Storage.{Sizes}
use Rattle.word_ir.specs.State.{start}
use Rattle.word_ir.specs.Step.{placed_in}
use Rattle.word_ir.specs.WholePlaced.{IsWholePlaced}
use Rattle.static_bytes.specs.Bytes.{static_bytes}
use Rattle.m68020_step.specs.Boot.{is_size, boot_of}
use Rattle.lap_runs.specs.Represents.{Represents}
use Rattle.lap_paths.specs.Paths.{Assembly}
use Rattle.lap_paths.specs.Housed.{IsHoused}

-- for each assembly, with the static words as bytes at its addresses of labels
abbrev pub StartsRepresented : Type 0
StartsRepresented =
    (placed : Placed) (a : Assembly) (heap stack entry : ℕ) → IsWholePlaced placed → IsTrue (is_size heap) → IsTrue (is_size stack)
    → Represents (placed_in placed (record { heap = heap; stack = stack })) a.labels (start (placed_in placed (record { heap = heap; stack = stack })))
    (boot_of a.bytes (static_bytes placed.words.statics.items a.labels) entry (record { heap = heap; stack = stack }))

abbrev pub HomesServe : Type 0
HomesServe = (placed : Placed) (sizes : Sizes) → IsWholePlaced placed → sizes.heap ≤ 2 ^ 28 → sizes.stack ≤ 2 ^ 28 → IsHoused (placed_in placed sizes)
