use Rattle.rows_passes.proofs.SumLemmas.{sum_is_whole}
use Rattle.rows_passes.proofs.homes.two_variables_and_a_parameter_have_static_words.Goals as goal

pub assign-requires-clause-whole : goal.assign-requires-clause-whole
assign-requires-clause-whole g c = sum_is_whole c.alloc.result c.in_ok-words.words c.in_ok-words.ensures
