-- An inventory as a form of a program in one piece gives it: its LAMBDAs are numbered, and a LAMBDA that is passed is bound to a name first.
use Rattle.std.specs.Prelude.{ℕ, Bool, true, List, [], ◌∷◌}
use Rattle.escape_marks.specs.Subjects.{Subject, Lambda, Local, Global}
use Rattle.escape_marks.specs.Facts.{Role, Operator, Operand, ValueOf, Other, Occurrence, Abstraction}
use Rattle.escape_marks.specs.Inventories.{Inventory}
use Rattle.rows_escape.specs.Units.{var}

abbrev pub at : Subject → Role → Occurrence
at s role = record { subject = s; role = role }

abbrev pub local : ℕ → Subject
local n = Local (var n)

abbrev pub numbered : ℕ → List Subject → Abstraction
numbered place params = record { lambda = Lambda 0 place; params = params; free = [] }

-- (define (each f l) (if (null? l) nil (block (f (car l)) (each f (cdr l)))))
-- (labels (((v x) (set s (+ s x)))) (each v (list 1 2 3))), in a tail place or not
abbrev pub passed_by_name : Bool → Inventory
passed_by_name tail = record {
  abstractions = numbered 0 (local 0 ∷ local 1 ∷ []) ∷ numbered 1 (local 2 ∷ []) ∷ [];
  names = local 0 ∷ local 1 ∷ local 2 ∷ local 3 ∷ Global 0 ∷ [];
  params = var 0 ∷ var 1 ∷ var 2 ∷ [];
  occurrences =
      at (Lambda 0 0) (ValueOf (Global 0))
      ∷ at (local 1) Other
      ∷ at (local 1) Other
      ∷ at (local 0) Operator
      ∷ at (local 1) Other
      ∷ at (Global 0) Operator
      ∷ at (local 0) (Operand (Global 0) 0 true)
      ∷ at (Lambda 0 1) (ValueOf (local 3))
      ∷ at (local 2) Other
      ∷ at (Global 0) Operator
      ∷ at (local 3) (Operand (Global 0) 0 tail)
      ∷ [];
  method_frees = [];
}
