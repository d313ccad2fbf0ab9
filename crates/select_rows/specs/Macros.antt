-- The parts of which the code of a builtin is made, each in front of what comes behind it: the checks of operands, and what is made of a test.
use Rattle.std.specs.Prelude.{ℕ, List, [], ◌∷◌, pos, negsuc}
use Rattle.t_base.specs.declared.basics.Var.{Var}
use Rattle.word_ir.specs.declared.operands.Operand.{Operand}
use Rattle.word_ir.specs.declared.operands.Operand.TheVariants as operand
use Rattle.word_ir.specs.declared.words.Arith.TheVariants as kind
use Rattle.word_ir.specs.declared.words.Test.{Test}
use Rattle.word_ir.specs.declared.words.Test.TheVariants as test
use Rattle.word_ir.specs.declared.words.WordOp.TheVariants as op
use Rattle.word_ir.specs.declared.words.WordEnd.TheVariants as last
use Rattle.word_trees.specs.Trees.{Tree, Do, Or, Ask, Close, Compute}
use Rattle.frame_words.specs.Layouts.{PASS}
use Rattle.frame_words.specs.ValueWords.{NIL, TRUE}

-- ---- operands

abbrev pub var : ℕ → Var
var n = record { 0 = n }

abbrev pub of_var : ℕ → Operand
of_var n = operand.Var (var n)

abbrev pub word : ℕ → Operand
word n = operand.Word n

-- ---- ends

-- the fault with a number
abbrev pub fault : ℕ → Tree
fault number = Do (op.Service 3 (word number ∷ [])) (Close last.Stop)

-- where no run comes
abbrev pub never : Tree
never = Close last.Stop

-- ---- checks; a variable from t on holds what is made on the way

abbrev pub fixnum : Operand → Tree → Tree
fixnum a rest = Ask (test.TagIs 0) a (word 0) rest (fault 3)

abbrev pub pair : Operand → Tree → Tree
pair a rest = Ask (test.TagIs 3) a (word 0) rest (fault 4)

-- an object with a header, else the fault with a number
abbrev pub object : Operand → ℕ → ℕ → ℕ → Tree → Tree
object a header number t rest = Ask (test.TagIs 2) a (word 0) (Do (op.Load (var t) a (negsuc 1)) (Ask test.Eq (of_var t) (word header) rest (fault number))) (fault number)

abbrev pub character : Operand → ℕ → Tree → Tree
character a t rest = Or (Compute (var t) kind.And a (word 255)) never (Ask test.Eq (of_var t) (word 1) rest (fault 12))

-- a fixnum that is the number of an element, where the length is a word
abbrev pub index : Operand → Operand → Tree → Tree
index i length rest = Ask test.Below i length rest (fault 6)

-- ---- results of tests

-- a test leads to one of two trees
abbrev pub Decision : Type 0
Decision = Tree → Tree → Tree

abbrev pub by_test : Test → Operand → Operand → Decision
by_test how a b at_true at_false = Ask how a b at_true at_false

-- the other answer
abbrev pub unless : Decision → Decision
unless decide at_true at_false = decide at_false at_true

-- the first one, or else the second one
abbrev pub either : Decision → Decision → Decision
either first second at_true at_false = first at_true (second at_true at_false)

-- an object with one of some headers
abbrev pub has_header : ℕ → List ℕ → Decision
has_header t [] at_true at_false = at_false
has_header t (h ∷ headers) at_true at_false = Ask test.Eq (of_var t) (word h) at_true (has_header t headers at_true at_false)

abbrev pub is_object : Operand → List ℕ → ℕ → Decision
is_object a headers t at_true at_false = Ask (test.TagIs 2) a (word 0) (Do (op.Load (var t) a (negsuc 1)) (has_header t headers at_true at_false)) at_false

-- Both answers meet in one block, for which the value goes through a static word.
abbrev pub meet : Var → Tree → Tree
meet to rest = Do (op.Load to (operand.Static PASS) (pos 0)) rest

abbrev pub choose : Decision → Var → Tree → Tree
choose decide to rest =
    Do (op.Store (operand.Static PASS) (pos 0) (word NIL))
    (decide (Do (op.Store (operand.Static PASS) (pos 0) (word TRUE)) (Ask test.Eq (word 0) (word 0) (meet to rest) (meet to rest))) (meet to rest))
