-- The entry of a method.
use Rattle.std.specs.Prelude.{◌≡◌, ℕ, ◌+◌, ◌-◌, ◌*◌, List, length, map, slice_get, Some}
use Rattle.t_base.specs.declared.faults.Fault.TheVariants.{WrongCount}
use Rattle.t_prim.specs.Values.{Val}
use Rattle.word_ir.specs.declared.operands.Operand.TheVariants as operand
use Rattle.word_ir.specs.declared.words.Test.TheVariants as test
use Rattle.word_ir.specs.declared.words.WordBlock.{WordBlock}
use Rattle.word_ir.specs.declared.words.WordEnd.TheVariants as last
use Rattle.word_ir.specs.declared.words.Words.{Words}
use Rattle.word_ir.specs.Storage.{Sizes}
use Rattle.frame_ir.specs.Values.{Value, Lasting}
use Rattle.frame_ir.specs.States.{State}
use Rattle.frame_ir.specs.Arguments.{bound}
use Rattle.word_trees.specs.Trees.{Tree, Ask, Close}
use Rattle.word_trees.specs.Cores.{Core}
use Rattle.word_trees.specs.Leads.{Performs}
use Rattle.frame_words.specs.Layouts.{Layout}
use Rattle.frame_words.specs.Contents.{Escapes}
use Rattle.select_rows.specs.Macros.{of_var, word, fault}
use Rattle.frame_stacks.specs.Stacks.{Ways}
use Rattle.frame_stacks.specs.Laws.{AreParameters, Begins}
use Rattle.frame_reads.specs.Laws.{Fails}
use Rattle.frame_calls.specs.Codes.{params_from, load_operands}
use Rattle.frame_calls.specs.Calls.{HoldsCall}

-- of a code with so many operands
abbrev pub method_code : ℕ → ℕ → ℕ → Tree
method_code t count block = Ask test.Eq (of_var t) (word count) (load_operands t 0 (count - 5) (Close (last.Jump block (map operand.Var (params_from (t + 2) count))))) (fault 2)

abbrev pub MethodsAreEntered : Type 0
MethodsAreEntered =
    (words : Words) (sizes : Sizes) (l : Layout) (e : Escapes) (g : Ways) (t : ℕ) (s : State) (f : Value) (args : List Val) (c : Core) (code : ℕ) (target : WordBlock)
    → HoldsCall sizes l e g t s f args c → slice_get words.blocks.items (g.begins code) ≡ Some target → length target.params ≡ length args → AreParameters t target.params
    → Performs words sizes (Begins sizes l e g t s (bound target.params (map Lasting args)) code) 1 (4 + 3 * length args) (method_code t (length args) (g.begins code)) c

abbrev pub WrongCountsFail : Type 0
WrongCountsFail =
    (words : Words) (sizes : Sizes) (l : Layout) (e : Escapes) (g : Ways) (t : ℕ) (s : State) (f : Value) (args : List Val) (c : Core) (count block : ℕ)
    → HoldsCall sizes l e g t s f args c → (length args ≡ count → ⊥) → Performs words sizes (Fails sizes l e s WrongCount) 1 5 (method_code t count block) c
