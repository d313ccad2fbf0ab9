use Rattle.t_meaning.proofs.CostLemmas.{unmarked_takes_no_heap}
use Rattle.t_meaning.proofs.laws.unmarked_takes_no_heap.Goals as goal

pub returns : goal.returns
returns c = unmarked_takes_no_heap
