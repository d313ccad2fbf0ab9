use Rattle.std.proofs.Common.{refl}
use Rattle.t_core.specs.Counts.{nodes_within, datum_nodes}
use Rattle.rows_meaning.proofs.WholeLemmas.{all_whole}
use Rattle.rows_meaning.proofs.whole.units_are_whole.Goals as goal

pub returns-clause-faults_of_builtins : goal.returns-clause-faults_of_builtins
unfolding nodes_within datum_nodes
returns-clause-faults_of_builtins c = all_whole _ (λ alloc. refl)

pub returns-clause-values_of_builtins : goal.returns-clause-values_of_builtins
unfolding nodes_within datum_nodes
returns-clause-values_of_builtins c = all_whole _ (λ alloc. refl)

pub returns-clause-changed_places : goal.returns-clause-changed_places
unfolding nodes_within datum_nodes
returns-clause-changed_places c = all_whole _ (λ alloc. refl)

pub returns-clause-shown_values : goal.returns-clause-shown_values
unfolding nodes_within datum_nodes
returns-clause-shown_values c = all_whole _ (λ alloc. refl)

pub returns-clause-calls : goal.returns-clause-calls
unfolding nodes_within datum_nodes
returns-clause-calls c = all_whole _ (λ alloc. refl)

pub returns-clause-definitions : goal.returns-clause-definitions
unfolding nodes_within datum_nodes
returns-clause-definitions c = all_whole _ (λ alloc. refl)

pub returns-clause-catches : goal.returns-clause-catches
unfolding nodes_within datum_nodes
returns-clause-catches c = all_whole _ (λ alloc. refl)

pub returns-clause-objects : goal.returns-clause-objects
unfolding nodes_within datum_nodes
returns-clause-objects c = all_whole _ (λ alloc. refl)

pub returns-clause-heap_words : goal.returns-clause-heap_words
unfolding nodes_within datum_nodes
returns-clause-heap_words c = all_whole _ (λ alloc. refl)

pub returns-clause-queens : goal.returns-clause-queens
unfolding nodes_within datum_nodes
returns-clause-queens c = all_whole _ (λ alloc. refl)
