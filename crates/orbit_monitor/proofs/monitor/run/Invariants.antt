use Rattle.std.proofs.Common.{◌≡◌, ◌+◌, ◌≤◌}
use Rattle.orbit_monitor.specs.Answering.{pieces_within}
use Rattle.orbit_monitor.proofs.Turns.{IsAt}
use Rattle.orbit_monitor.proofs.monitor.run.Given as goal

abbrev pub invariant-loop-done : goal.invariant-loop-done
invariant-loop-done g l = record {
  at : IsAt g.S.Sink.took l.initial.boot l._done l.boot l.initial.out l.out;
  stands : g.S.Sink.faults l.out ≡ g.S.Sink.faults l.initial.out;
  pieces : g.S.Sink.pieces l.out ≤ g.S.Sink.pieces l.initial.out + pieces_within l.initial.boot l._done;
}
