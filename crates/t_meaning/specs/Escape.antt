-- Which LAMBDAs and names of a unit escape, and the laws of these marks.
use Rattle.std.specs.Prelude.{◌≡◌, ℕ, Bool, false, not, List, IsTrue, sum_by}
use Rattle.t_core.specs.declared.forms.UnitCore.{UnitCore}
use Rattle.t_core.specs.Counts.{form_count}
use Rattle.escape_marks.specs.Subjects.{Subject, Lambda, is_in, MarkSet}
use Rattle.escape_marks.specs.Facts.{Facts, stands_as}
use Rattle.escape_marks.specs.Rules.{marks}
use Rattle.escape_marks.specs.Laws.{IsClosed, is_only_called, is_called_there}
use Rattle.t_meaning.specs.EscapeFacts.{trees_of, facts_of}

abbrev pub node_total : UnitCore → ℕ
node_total unit = sum_by (form_count unit.shared.pairs.items) unit.forms.items

abbrev pub facts_of_unit : UnitCore → Facts
facts_of_unit unit = facts_of (trees_of unit)

-- The LAMBDAs and names of the unit that escape. Each round but the last ones marks one more, and there are no more of them than nodes.
abbrev pub escaping : UnitCore → List Subject
escaping unit = marks (node_total unit) (facts_of_unit unit)

-- whether the LAMBDA at that node of that form escapes
abbrev pub lambda_escapes : UnitCore → ℕ → ℕ → Bool
lambda_escapes unit form node = is_in (escaping unit) (Lambda form node)

-- ---- laws

-- the marks of a unit are closed under each rule
abbrev pub EscapingIsClosed : Type 0
EscapingIsClosed = (unit : UnitCore) → IsClosed (facts_of_unit unit) (is_in (escaping unit))

-- what is marked is marked by every marking that is closed
abbrev pub EscapingIsLeast : Type 0
EscapingIsLeast = (unit : UnitCore) (escapes : MarkSet) → IsClosed (facts_of_unit unit) escapes → (s : Subject) → IsTrue (is_in (escaping unit) s) → IsTrue (escapes s)

abbrev pub CalledNamesStay : Type 0
CalledNamesStay = (unit : UnitCore) (name : Subject) → IsTrue (is_only_called (facts_of_unit unit) name) → is_in (escaping unit) name ≡ false

-- a LAMBDA that is called, or bound to a known name that is only called, and stands nowhere else
abbrev pub CalledLambdasStay : Type 0
CalledLambdasStay =
    (unit : UnitCore) (form node : ℕ) → let facts = facts_of_unit unit in
    stands_as facts.occurrences (λ u. not (is_called_there facts u)) (Lambda form node) ≡ false → lambda_escapes unit form node ≡ false
