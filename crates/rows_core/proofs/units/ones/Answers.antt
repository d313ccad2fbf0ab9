use Rattle.std.proofs.Common.{◌+◌, subst, sym, List}
use Rattle.t_base.specs.declared.shared_parts.Const.{Const}
use Rattle.rows_core.specs.Units.{IsOnes}
use Rattle.rows_core.proofs.UnitLemmas.{ones_push, rest_next}
use Rattle.rows_core.proofs.units.ones.Goals as goal

pub loop-k-preserved : goal.loop-k-preserved
loop-k-preserved c =
    let P : List (Const × Const) → Type 0 = λ ps. IsOnes (c.loop-k.k + 1) ps in
    record {
      ones = subst P (sym c.in_ok-push.ensures.items) (ones_push c.loop-k.k c.loop-k.pairs.items c.loop-k.rest c.loop-k.invariant.ones c.loop-k.invariant.rest);
      rest = rest_next c.loop-k.k;
    }
