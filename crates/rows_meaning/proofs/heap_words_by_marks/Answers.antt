use Rattle.std.proofs.Common.{refl}
use Rattle.t_core.specs.Counts.{nodes_within, datum_nodes}
use Rattle.t_meaning.specs.EscapeFacts.{free_within}
use Rattle.escape_marks.specs.Rounds.{repeated}
use Rattle.rows_meaning.proofs.heap_words_by_marks.Goals as goal

pub returns-clause-each_of_list : goal.returns-clause-each_of_list
unfolding nodes_within datum_nodes free_within repeated
returns-clause-each_of_list c = λ alloc. refl

pub returns-clause-each_in_tail_place : goal.returns-clause-each_in_tail_place
unfolding nodes_within datum_nodes free_within repeated
returns-clause-each_in_tail_place c = λ alloc. refl

pub returns-clause-upward : goal.returns-clause-upward
unfolding nodes_within datum_nodes free_within repeated
returns-clause-upward c = λ alloc. refl

pub returns-clause-downward : goal.returns-clause-downward
unfolding nodes_within datum_nodes free_within repeated
returns-clause-downward c = λ alloc. refl

pub returns-clause-tail_loop : goal.returns-clause-tail_loop
unfolding nodes_within datum_nodes free_within repeated
returns-clause-tail_loop c = λ alloc. refl

pub returns-clause-deep_calls : goal.returns-clause-deep_calls
unfolding nodes_within datum_nodes free_within repeated
returns-clause-deep_calls c = λ alloc. refl

pub returns-clause-past_a_procedure : goal.returns-clause-past_a_procedure
unfolding nodes_within datum_nodes free_within repeated
returns-clause-past_a_procedure c = λ alloc. refl

pub returns-clause-two_closures : goal.returns-clause-two_closures
unfolding nodes_within datum_nodes free_within repeated
returns-clause-two_closures c = λ alloc. refl

pub returns-clause-assigned_label : goal.returns-clause-assigned_label
unfolding nodes_within datum_nodes free_within repeated
returns-clause-assigned_label c = λ alloc. refl
