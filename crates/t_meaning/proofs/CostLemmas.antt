-- What a LAMBDA costs.
use Rattle.std.proofs.Common.{zero, suc, refl, arith}
use Rattle.t_meaning.specs.CostLaws.{UnmarkedTakesNoHeap}

pub unmarked_takes_no_heap : UnmarkedTakesNoHeap
unmarked_takes_no_heap p zero d at c params body s stands unmarked = refl
unmarked_takes_no_heap p (suc n) d at c params body s stands unmarked = rw (stands, unmarked) (omega arith)
