use Rattle.std.proofs.Common.{◌≡◌, ◌-◌, ◌^◌, min, length, take}
use Rattle.t_ports.specs.Pieces.{text_of}
use Rattle.t_ports.proofs.pieces.put_all.Given as goal

-- the pieces so far were taken, and counted
abbrev pub invariant-pieces : goal.invariant-pieces
invariant-pieces g l = record {
  taken : g.S.Sink.took l.initial.sink (text_of (take l.piece-index l.pieces)) l.sink;
  counted : l.done ≡ min (length (text_of (take l.piece-index l.pieces))) (2 ^ 64 - 1);
  same : g.S.Sink.faults l.sink ≡ g.S.Sink.faults l.initial.sink;
}
