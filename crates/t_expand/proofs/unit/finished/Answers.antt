use Rattle.std.proofs.Common.{refl}
use Rattle.t_expand.proofs.KeepingLemmas.{grown_same}
use Rattle.t_expand.proofs.unit.finished.Goals as goal

pub returns : goal.returns
returns c =
    let g = grown_same c.args.expansion.shared in
    record {
      size = rw (c.as_slice.ensures.value, c.as_slice-2.ensures.value) at c.in_ok-size.ensures;
      grown = record { names = g.names; strings = g.strings; pairs = g.pairs };
      strings = refl;
      pairs = refl;
      globals = refl;
      ops = refl;
      forms = refl;
      spans_are = refl;
    }
