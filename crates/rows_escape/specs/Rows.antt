-- What escapes in each unit or inventory. A LAMBDA is named by its form and its node there.
use Rattle.std.specs.Prelude.{◌≡◌, ℕ, List}
use Rattle.t_core.specs.declared.forms.UnitCore.{UnitCore}
use Rattle.escape_marks.specs.Subjects.{Subject, Lambda, Local}
use Rattle.escape_marks.specs.Rules.{marks_of}
use Rattle.escape_marks.specs.Inventories.{Inventory, facts_from}
use Rattle.t_meaning.specs.EscapeFacts.{Tree, trees_of}
use Rattle.t_meaning.specs.Escape.{escaping}
use Rattle.rows_escape.specs.Units.{var}

-- in every unit of these forms, this much escapes
abbrev pub Escape : List Tree → List Subject → Type 0
Escape trees marks = (unit : UnitCore) → trees_of unit ≡ trees → escaping unit ≡ marks

abbrev pub lambda : ℕ → ℕ → Subject
lambda form node = Lambda form node

abbrev pub variable : ℕ → Subject
variable n = Local (var n)

-- this much escapes in every program with the inventory
abbrev pub EscapeIn : Inventory → List Subject → Type 0
EscapeIn program subjects = marks_of (facts_from program) ≡ subjects
