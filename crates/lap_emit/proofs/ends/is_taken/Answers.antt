use Rattle.std.proofs.Common.{◌≤◌, ◌∙◌, sym, length, arith}
use Rattle.lap_emit.proofs.MarkLemmas.{marks_tell, past_end}
use Rattle.lap_emit.proofs.ends.is_taken.Goals as goal

pub returns-then-block-marks : goal.returns-then-block-marks
returns-then-block-marks c = marks_tell c.args.marks.now c.args.placed.now.words c.args.block c.requires

pub returns-else-block-marks : goal.returns-else-block-marks
returns-else-block-marks c =
    let out : length c.args.marks.now ≤ c.args.block = omega arith in
    sym (past_end c.args.marks.now c.args.block out) ∙ marks_tell c.args.marks.now c.args.placed.now.words c.args.block c.requires
