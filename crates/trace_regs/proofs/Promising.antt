-- What follows of the program with homes.
use Rattle.std.proofs.Common.{◌≡◌, ◌+◌, ◌≤◌, length, arith}
use Rattle.word_ir.specs.declared.placed.Placed.{Placed}
use Rattle.word_ir.specs.declared.words.Words.{Words}
use Rattle.word_ir.specs.Whole.{IsWhole, most_statics}
use Rattle.word_ir.specs.WholePlaced.{statics_with_homes}
use Rattle.word_ir.proofs.CopiesWeigh.{homes_weigh_nothing}
use Rattle.trace_regs.specs.Assignment.{added, IsAssigned}
use Rattle.trace_regs.specs.Promises.{KeepsRuns, KeepsStampedRuns, KeepsBulk}
use Rattle.trace_regs.proofs.WholeCopies.{statics_count}
use Rattle.trace_regs.proofs.Serving.{assigned_serves}
use Rattle.trace_regs.proofs.Keeping.{homes_keep}
use Rattle.trace_regs.proofs.StampedKeeping.{stamped_homes_keep}

pub keeps_bulk : (words : Words) (placed : Placed) → IsWhole words → statics_with_homes words ≤ most_statics → IsAssigned words placed → KeepsBulk words placed
keeps_bulk words placed whole few is =
    let total : length placed.words.statics.items ≡ length words.statics.items + added words =
    statics_count words placed.words (added words) (record { shared = is.shared; statics = is.statics; blocks = is.blocks; entry = is.entry }) in
    record { blocks = λ w. homes_weigh_nothing words placed w (assigned_serves words placed whole few is).of; statics = omega (arith, total); even = omega (arith, total) }

pub keeps_runs : (words : Words) (placed : Placed) → IsWhole words → statics_with_homes words ≤ most_statics → IsAssigned words placed → KeepsRuns words placed
keeps_runs words placed whole few is sizes in_words safe = homes_keep words placed sizes (assigned_serves words placed whole few is) in_words safe

pub keeps_stamped_runs : (words : Words) (placed : Placed) → IsWhole words → statics_with_homes words ≤ most_statics → IsAssigned words placed → KeepsStampedRuns words placed
keeps_stamped_runs words placed whole few is sizes in_words safe = stamped_homes_keep words placed sizes (assigned_serves words placed whole few is) in_words safe
