-- Frames that lay out a program keep its meaning.
use Rattle.std.proofs.Common.{length, ap, arith}
use Rattle.program_runs.specs.Runs.{IsProper}
use Rattle.program_runs.specs.Follows.{runs}
use Rattle.program_runs.proofs.Follow.{steady_goes_on}
use Rattle.program_runs.proofs.Simulate.{machine_steady, starts_at, simulates_keeps}
use Rattle.cps_ir.specs.States.{all_escape}
use Rattle.cps_ir.specs.Running.{start}
use Rattle.cps_ir.proofs.Proper.{whole_ends_properly}
use Rattle.frame_ir.specs.States.{seen}
use Rattle.frame_ir.specs.Running.{step, start as start_at}
use Rattle.frame_ir.proofs.Growth.{is_machine}
use Rattle.layout_relation.specs.Laws.{LaidOutKeeps}
use Rattle.layout_relation.proofs.Matching.{a, b, R, measure, potential, factor, simulates}
use Rattle.layout_relation.proofs.Starting.{start_related, start_is_bare}

pub laid_out_keeps : LaidOutKeeps
laid_out_keeps cps p whole laid =
    let bare = start_is_bare cps p laid in
    let moves = bare.0 in
    let heap = bare.1 in
    let live = ap length bare.2 in
    simulates_keeps (a cps p laid) (b cps p laid) (R cps p laid) (measure cps p laid) (potential cps p laid) (factor cps p laid) 0 (simulates cps p laid) (start cps) (start_at p)
    (starts_at (a cps p laid) (b cps p laid) (R cps p laid) (potential cps p laid) (factor cps p laid) 0 (start cps) (start_at p) (start_related cps p laid) (omega (arith, moves)) (record { heap = (0, omega (arith, heap)); waiting = (0, omega (arith, live)) }))
    IsProper (steady_goes_on (runs (b cps p laid) (start_at p)) (machine_steady (step p) seen (is_machine p) (start_at p))) (whole_ends_properly cps all_escape whole)
