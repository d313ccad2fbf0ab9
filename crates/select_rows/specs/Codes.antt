-- The code of each builtin, made of checks and results in the order of the table of builtins.
use Rattle.std.specs.Prelude.{ℕ, ◌+◌, List, [], ◌∷◌, pos, negsuc}
use Rattle.t_base.specs.declared.basics.Var.{Var}
use Rattle.t_base.specs.declared.builtins.Builtin.{Builtin}
use Rattle.t_base.specs.declared.builtins.Builtin.TheVariants as builtin
use Rattle.t_prim.specs.Values.{Val}
use Rattle.t_prim.specs.Table.{row}
use Rattle.word_ir.specs.declared.operands.Operand.{Operand}
use Rattle.word_ir.specs.declared.words.Arith.{Arith}
use Rattle.word_ir.specs.declared.words.Arith.TheVariants as kind
use Rattle.word_ir.specs.declared.words.Test.{Test}
use Rattle.word_ir.specs.declared.words.Test.TheVariants as test
use Rattle.word_ir.specs.declared.words.WordOp.TheVariants as op
use Rattle.word_ir.specs.declared.words.Words.{Words}
use Rattle.word_ir.specs.Storage.{Sizes}
use Rattle.frame_ir.specs.States.{State}
use Rattle.word_trees.specs.Trees.{Tree, Do, Or, Ask, Compute, Take}
use Rattle.word_trees.specs.Cores.{Core}
use Rattle.word_trees.specs.Leads.{Performs}
use Rattle.frame_words.specs.Layouts.{Layout}
use Rattle.frame_words.specs.ValueWords.{NIL}
use Rattle.frame_words.specs.Contents.{Escapes}
use Rattle.frame_words.specs.Holding.{HoldsData}
use Rattle.select_rows.specs.Macros.{var, of_var, word, fault, never, fixnum, pair, object, character, index, by_test, unless, either, is_object, choose}
use Rattle.select_rows.specs.Kept.{Has, Comes}

-- The most moves to the rest, and the code in front of it, by the operands, the first variable that is free for what is made on the way, and
-- the variable for the value
pub data Code : Type 0 where
  of_none : (cost : ℕ) (code : ℕ → Var → Tree → Tree) → Code
  of_one : (cost : ℕ) (code : Operand → ℕ → Var → Tree → Tree) → Code
  of_two : (cost : ℕ) (code : Operand → Operand → ℕ → Var → Tree → Tree) → Code
  of_three : (cost : ℕ) (code : Operand → Operand → Operand → ℕ → Var → Tree → Tree) → Code

-- a number, or the fault where it is none
abbrev pub compute : Arith → Operand → Operand → Var → Tree → Tree
compute how a b to rest = Or (Compute to how a b) (fault 7) rest

-- a number that always fits
abbrev pub make : Arith → Operand → Operand → Var → Tree → Tree
make how a b to rest = Or (Compute to how a b) never rest

abbrev pub arithmetic : Arith → Code
arithmetic how = of_two 11 (λ a b t to rest. fixnum a (fixnum b (compute how a b to rest)))

abbrev pub step_by_one : Arith → Code
step_by_one how = of_one 8 (λ a t to rest. fixnum a (compute how a (word 4) to rest))

abbrev pub unless_zero : Operand → Tree → Tree
unless_zero b rest = Ask test.Eq b (word 0) (fault 8) rest

abbrev pub compare : Test → Code
compare how = of_two 20 (λ a b t to rest. fixnum a (fixnum b (choose (by_test how a b) to rest)))

-- the operands in the other order
abbrev pub compare_turned : Test → Code
compare_turned how = of_two 20 (λ a b t to rest. fixnum a (fixnum b (choose (by_test how b a) to rest)))

abbrev pub compare_zero : Test → Code
compare_zero how = of_one 17 (λ a t to rest. fixnum a (choose (by_test how a (word 0)) to rest))

abbrev pub is_kind : List ℕ → ℕ → Code
is_kind headers cost = of_one cost (λ a t to rest. choose (is_object a headers t) to rest)

abbrev pub compare_chars : Test → Code
compare_chars how = of_two 26 (λ a b t to rest. character a t (character b (t + 1) (choose (by_test how a b) to rest)))

-- goes on with Nil
abbrev pub give_nil : Var → Tree → Tree
give_nil to rest = Do (op.Move to (word NIL)) rest

-- the character 10
abbrev pub newline_word : ℕ
newline_word = 2561

-- the run ends for want of so many bytes of heap
abbrev pub no_heap : Operand → Tree
no_heap bytes = Do (op.Service 4 (bytes ∷ word 0 ∷ [])) never

-- so many bytes of the heap, whose address is bound, else the run ends for want of them
abbrev pub take : ℕ → ℕ → Tree → Tree
take t bytes rest = Or (Take (var t) (word bytes)) (no_heap (word bytes)) rest

-- A vector of so many elements has 2 words more, rounded up to even: 4 n + 12 bytes, rounded down to a multiple of 8. Where 4 n + 12 doesn't fit a
-- number with a sign, no heap has room for it. The elements are 0, as free words of the heap are.
abbrev pub LARGE : ℕ
LARGE = 2147483636

abbrev pub EIGHTS : ℕ
EIGHTS = 4294967288

abbrev pub small_vector : Operand → ℕ → Var → Tree → Tree
small_vector a t to rest =
    make kind.Add a (word 12) (var t)
    (make kind.And (of_var t) (word EIGHTS) (var (t + 1))
    (Or (Take (var (t + 2)) (of_var (t + 1))) (no_heap (of_var (t + 1)))
    (Do (op.Store (of_var (t + 2)) (pos 0) (word 0x11)) (Do (op.Store (of_var (t + 2)) (pos 4) a) (make kind.Add (of_var (t + 2)) (word 2) to rest)))))

-- of the three greatest fixnums
abbrev pub large_vector : Operand → Tree
large_vector a = Ask test.Eq a (word 2147483644) (no_heap (word 2147483656)) (no_heap (word 2147483648))

abbrev pub make_vector : Operand → ℕ → Var → Tree → Tree
make_vector a t to rest = fixnum a (Ask test.Lt a (word 0) (fault 6) (Ask test.Below a (word LARGE) (small_vector a t to rest) (large_vector a)))

abbrev pub code_of : Builtin → Code
code_of builtin.Add = arithmetic kind.Add
code_of builtin.Sub = arithmetic kind.Sub
code_of builtin.Mul = of_two 14 (λ a b t to rest. fixnum a (fixnum b (make (kind.Shift (negsuc 1)) a (word 0) (var t) (compute kind.Mul (of_var t) b to rest))))
code_of builtin.Quotient = of_two 17 (λ a b t to rest. fixnum a (fixnum b (unless_zero b (make kind.Quotient a b (var t) (compute (kind.Shift (pos 2)) (of_var t) (word 0) to rest)))))
code_of builtin.Remainder = of_two 12 (λ a b t to rest. fixnum a (fixnum b (unless_zero b (make kind.Remainder a b to rest))))
code_of builtin.Inc = step_by_one kind.Add
code_of builtin.Dec = step_by_one kind.Sub
code_of builtin.NumEq = compare test.Eq
code_of builtin.NumLt = compare test.Lt
code_of builtin.NumGt = compare_turned test.Lt
code_of builtin.NumLe = compare test.Le
code_of builtin.NumGe = compare_turned test.Le
code_of builtin.IsZero = compare_zero test.Eq
code_of builtin.IsNegative = compare_zero test.Lt
code_of builtin.IsPositive = of_one 17 (λ a t to rest. fixnum a (choose (by_test test.Lt (word 0) a) to rest))
code_of builtin.Eq = of_two 14 (λ a b t to rest. choose (by_test test.Eq a b) to rest)
code_of builtin.Not = of_one 14 (λ a t to rest. choose (by_test test.Eq a (word NIL)) to rest)
code_of builtin.IsNull = of_one 14 (λ a t to rest. choose (by_test test.Eq a (word NIL)) to rest)
code_of builtin.IsPair = of_one 14 (λ a t to rest. choose (by_test (test.TagIs 3) a (word 0)) to rest)
code_of builtin.IsAtom = of_one 14 (λ a t to rest. choose (unless (by_test (test.TagIs 3) a (word 0))) to rest)
code_of builtin.IsList = of_one 17 (λ a t to rest. choose (either (by_test (test.TagIs 3) a (word 0)) (by_test test.Eq a (word NIL))) to rest)
code_of builtin.IsFixnum = of_one 14 (λ a t to rest. choose (by_test (test.TagIs 0) a (word 0)) to rest)
code_of builtin.IsChar = of_one 17 (λ a t to rest. make kind.And a (word 255) (var t) (choose (by_test test.Eq (of_var t) (word 1)) to rest))
code_of builtin.IsString = is_kind (0x15 ∷ []) 19
code_of builtin.IsSymbol = is_kind (0x19 ∷ []) 19
code_of builtin.IsVector = is_kind (0x11 ∷ []) 19
code_of builtin.IsProcedure = is_kind (0x1D ∷ 0x21 ∷ 0x25 ∷ 0x29 ∷ 0x2D ∷ []) 31
code_of builtin.Cons = of_two 11 (λ a b t to rest. take t 8 (Do (op.Store (of_var t) (pos 0) a) (Do (op.Store (of_var t) (pos 4) b) (make kind.Add (of_var t) (word 3) to rest))))
code_of builtin.Car = of_one 5 (λ a t to rest. pair a (Do (op.Load to a (negsuc 2)) rest))
code_of builtin.Cdr = of_one 5 (λ a t to rest. pair a (Do (op.Load to a (pos 1)) rest))
code_of builtin.SetCar = of_two 8 (λ a b t to rest. pair a (Do (op.Store a (negsuc 2) b) (Do (op.Move to b) rest)))
code_of builtin.SetCdr = of_two 8 (λ a b t to rest. pair a (Do (op.Store a (pos 1) b) (Do (op.Move to b) rest)))
code_of builtin.MakeVector = of_one 26 make_vector
code_of builtin.VectorLength = of_one 10 (λ a t to rest. object a 0x11 5 t (Do (op.Load to a (pos 2)) rest))
code_of builtin.Vref =
    of_two 21
    (λ a b t to rest.
    object a 0x11 5 t
    (fixnum b (Do (op.Load (var (t + 1)) a (pos 2)) (index b (of_var (t + 1)) (make kind.Add a b (var (t + 2)) (Do (op.Load to (of_var (t + 2)) (pos 6)) rest))))))
code_of builtin.SetVref =
    of_three 24
    (λ a b v t to rest.
    object a 0x11 5 t
    (fixnum b (Do (op.Load (var (t + 1)) a (pos 2)) (index b (of_var (t + 1)) (make kind.Add a b (var (t + 2)) (Do (op.Store (of_var (t + 2)) (pos 6) v) (Do (op.Move to v) rest)))))))
code_of builtin.StringLength = of_one 10 (λ a t to rest. object a 0x15 13 t (Do (op.Load to a (pos 2)) rest))
code_of builtin.StringElt =
    of_two 28
    (λ a b t to rest.
    object a 0x15 13 t
    (fixnum b (Do (op.Load (var (t + 1)) a (pos 2)) (index b (of_var (t + 1)) (make (kind.Shift (negsuc 1)) b (word 0) (var (t + 2))
    (Do (op.LoadByte (var (t + 3)) a (of_var (t + 2)) (pos 6)) (make (kind.Shift (pos 8)) (of_var (t + 3)) (word 0) (var (t + 4)) (make kind.Add (of_var (t + 4)) (word 1) to rest))))))))
code_of builtin.SymbolToString = of_one 10 (λ a t to rest. object a 0x19 16 t (Do (op.Load to a (pos 6)) rest))
code_of builtin.CharToAscii = of_one 9 (λ a t to rest. character a t (make (kind.Shift (negsuc 5)) a (word 0) to rest))
code_of builtin.AsciiToChar = of_one 12 (λ a t to rest. fixnum a (Ask test.Below a (word 512) (make (kind.Shift (pos 6)) a (word 0) (var t) (make kind.Add (of_var t) (word 1) to rest)) (fault 14)))
code_of builtin.CharEq = compare_chars test.Eq
code_of builtin.CharLt = compare_chars test.Lt
code_of builtin.PutFixnum = of_one 7 (λ a t to rest. fixnum a (Do (op.Service 2 (a ∷ [])) (give_nil to rest)))
code_of builtin.PutChar = of_one 10 (λ a t to rest. character a t (Do (op.Service 1 (a ∷ [])) (give_nil to rest)))
code_of builtin.PutString = of_one 12 (λ a t to rest. object a 0x15 13 t (Do (op.Service 5 (a ∷ [])) (give_nil to rest)))
code_of builtin.Newline = of_none 4 (λ t to rest. Do (op.Service 1 (word newline_word ∷ [])) (give_nil to rest))
code_of builtin.Error = of_one 6 (λ a t to rest. fixnum a (Do (op.Service 3 (word 15 ∷ a ∷ [])) never))

-- ---- what the code does

-- Where storage holds the data and the operands hold the words of values, the code comes to what the row says of the values.
abbrev pub IsCodeOf : Builtin → Code → Type 0
IsCodeOf p (of_none cost code) =
    (words : Words) (sizes : Sizes) (l : Layout) (e : Escapes) (t : ℕ) (s : State) (c : Core) (to : Var) (rest : Tree) → HoldsData sizes l e s c.storage c.next c.output
    → Performs words sizes (Comes words sizes l e t s c to rest (row p [] s.store)) 1 cost (code t to rest) c
IsCodeOf p (of_one cost code) =
    (words : Words) (sizes : Sizes) (l : Layout) (e : Escapes) (t : ℕ) (s : State) (c : Core) (to : Var) (rest : Tree) (a : Operand) (v : Val) → HoldsData sizes l e s c.storage c.next c.output → Has l s t c a v
    → Performs words sizes (Comes words sizes l e t s c to rest (row p (v ∷ []) s.store)) 1 cost (code a t to rest) c
IsCodeOf p (of_two cost code) =
    (words : Words) (sizes : Sizes) (l : Layout) (e : Escapes) (t : ℕ) (s : State) (c : Core) (to : Var) (rest : Tree) (a b : Operand) (v w : Val) → HoldsData sizes l e s c.storage c.next c.output → Has l s t c a v
    → Has l s t c b w → Performs words sizes (Comes words sizes l e t s c to rest (row p (v ∷ w ∷ []) s.store)) 1 cost (code a b t to rest) c
IsCodeOf p (of_three cost code) =
    (words : Words) (sizes : Sizes) (l : Layout) (e : Escapes) (t : ℕ) (s : State) (c : Core) (to : Var) (rest : Tree) (a b d : Operand) (v w x : Val) → HoldsData sizes l e s c.storage c.next c.output → Has l s t c a v
    → Has l s t c b w → Has l s t c d x → Performs words sizes (Comes words sizes l e t s c to rest (row p (v ∷ w ∷ x ∷ []) s.store)) 1 cost (code a b d t to rest) c

abbrev pub RowsArePerformed : Type 0
RowsArePerformed = (p : Builtin) → IsCodeOf p (code_of p)
