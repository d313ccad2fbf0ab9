-- The laws of the marks of a unit, from those of the marks of any program.
use Rattle.t_meaning.specs.EscapeFacts.{trees_of, inventory_of}
use Rattle.t_meaning.specs.Escape.{node_total, facts_of_unit, EscapingIsClosed, EscapingIsLeast, CalledNamesStay, CalledLambdasStay}
use Rattle.escape_marks.proofs.MarkLaws as any
use Rattle.escape_marks.proofs.Called as any_called
use Rattle.t_meaning.proofs.EscapeBounds.{subjects_within}

pub escaping_is_closed : EscapingIsClosed
escaping_is_closed unit = any.marks_are_closed (facts_of_unit unit) (node_total unit) (subjects_within unit)

pub escaping_is_least : EscapingIsLeast
escaping_is_least unit = any.marks_are_least (facts_of_unit unit) (node_total unit)

pub called_names_stay : CalledNamesStay
called_names_stay unit = any_called.called_names_stay (facts_of_unit unit) (node_total unit)

pub called_lambdas_stay : CalledLambdasStay
called_lambdas_stay unit = any_called.called_lambdas_stay (inventory_of (trees_of unit)) (node_total unit)
