-- Laws of the runs of images that are made of items.
use Rattle.std.specs.Prelude.{◌≡◌, ℕ}
use Rattle.program_runs.specs.Runs.{Run}
use Rattle.program_runs.specs.Keeps.{KeepsAlike, KeepsWithin, IsSafe, IsStampOf, Room}
use Rattle.word_ir.specs.declared.words.Words.{Words}
use Rattle.m68020_step.specs.declared.machine.Sizes.{Sizes}
use Rattle.m68020_asm.specs.Items.{CanAssemble}
use Rattle.orbit_monitor.specs.Observed.{observed}
use Rattle.image_runs.specs.Images.{Assembled, image_of, items_run}

-- At each bound the same is seen of the image as of the items, or these have come to where none stands.
abbrev pub ImagesRunAsItems : Type 0
ImagesRunAsItems = (words : Words) (a : Assembled) (sizes : Sizes) → CanAssemble a.items → IsStampOf (items_run words a sizes) (observed (image_of words a.bytes a.labels) sizes)

-- Where the run of the items is safe, the same is seen of the image.
abbrev pub ImagesRunAsSafeItems : Type 0
ImagesRunAsSafeItems =
    (words : Words) (a : Assembled) (sizes : Sizes) → CanAssemble a.items → IsSafe (items_run words a sizes) → (k : ℕ) → observed (image_of words a.bytes a.labels) sizes k ≡ items_run words a sizes k

-- What the items keep the image keeps.
abbrev pub ImagesKeepWithin : Type 0
ImagesKeepWithin =
    (words : Words) (a : Assembled) (sizes : Sizes) → CanAssemble a.items → (room : Room) (f c : ℕ) (x : Run)
    → KeepsWithin room f c x (items_run words a sizes) → KeepsWithin room f c x (observed (image_of words a.bytes a.labels) sizes)

abbrev pub ImagesKeepAlike : Type 0
ImagesKeepAlike =
    (words : Words) (a : Assembled) (sizes : Sizes) → CanAssemble a.items → (f c : ℕ) (x : Run)
    → KeepsAlike f c x (items_run words a sizes) → KeepsAlike f c x (observed (image_of words a.bytes a.labels) sizes)
