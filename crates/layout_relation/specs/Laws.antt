-- What follows where frames lay out a program.
use Rattle.frame_ir.specs.Sizes.{HasSmallFrames, HasSmallRecords, KeepsOnce}
use Rattle.std.specs.Prelude.{ℕ, ◌+◌, ◌*◌}
use Rattle.program_runs.specs.Keeps.{Keeps}
use Rattle.cps_ir.specs.declared.terms.Cps.{Cps}
use Rattle.cps_ir.specs.Running.{run_at_most}
use Rattle.cps_ir.specs.Whole.{IsWhole}
use Rattle.frame_ir.specs.declared.forms.Frames.{Frames}
use Rattle.frame_ir.specs.Running.{run}
use Rattle.layout_relation.specs.Laid.{IsLaidOut}

-- so many moves of the frames for each move of the program
abbrev pub moves_for : Cps → ℕ
moves_for cps = 4 * (cps.shared.size + 8)

-- the frames keep the meaning of the program with every procedure counted as escaping
abbrev pub LaidOutKeeps : Type 0
LaidOutKeeps = (cps : Cps) (p : Frames) → IsWhole cps → IsLaidOut cps p → Keeps (moves_for cps) 0 (run_at_most cps) (run p)

-- no Push makes a frame of more than 8 words and twice the size of the unit, no closure or object has more than 4 and that size, and no
-- frame keeps a variable twice
pub record IsSmall (p : Frames) : Type 0 where
  pub frames : HasSmallFrames p
  pub records : HasSmallRecords p
  pub once : KeepsOnce p

abbrev pub LaidOutIsSmall : Type 0
LaidOutIsSmall = (cps : Cps) (p : Frames) → IsLaidOut cps p → IsSmall p
