use Rattle.std.proofs.Common.{◌-◌, ◌^◌, min, ap, sym, ◌∙◌}
use Rattle.t_ports.specs.Pieces.{text_of}
use Rattle.t_ports.proofs.PutPieces.{took_more, took_count, front, counts_on, length-text_of-more}
use Rattle.t_ports.proofs.pieces.put_all.Goals as goal

counted : goal.returns-in-Err-clause-err
counted g c =
    took_count g.S.Sink.took g.met.S.Sink.took_both _ _ _ c.args.pieces.now c.pieces.piece-index c.in-Err.failed.taken _ _ c.pieces-test.true c.in-Err.ensures.err.0 c.pieces.invariant.taken c.in-Err.ensures.err.1
    (c.saturating_add.ensures ∙ counts_on _ c.in-Err.failed.taken _ c.pieces.invariant.counted)

pub returns-in-Err-clause-err : goal.returns-in-Err-clause-err
returns-in-Err-clause-err g c = counted g c

pub returns-in-Err-clause-part : goal.returns-in-Err-clause-part
returns-in-Err-clause-part g c = front g.S.Sink.took _ _ (text_of c.args.pieces.now) _ (counted g c)

pub pieces-preserved : goal.pieces-preserved
pieces-preserved g c = record {
  taken = took_more g.S.Sink.took g.met.S.Sink.took_both _ _ _ c.args.pieces.now c.pieces.piece-index _ c.pieces-test.true c.pieces.invariant.taken c.in-Ok.ensures.ok;
  counted = c.saturating_add-done.ensures ∙ counts_on _ _ _ c.pieces.invariant.counted ∙ ap (λ n. min n (2 ^ 64 - 1)) (sym (length-text_of-more c.args.pieces.now c.pieces.piece-index _ c.pieces-test.true));
  same = c.in-Ok.ensures.cause.kept ∙ c.pieces.invariant.same;
}
