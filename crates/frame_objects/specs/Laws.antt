-- A call of an object, and of what has no header.
use Rattle.std.specs.Prelude.{◌≡◌, ℕ, ◌+◌, List, ◌∷◌, map, slice_get, Some, pos}
use Rattle.t_base.specs.declared.faults.Fault.TheVariants.{NotProcedure}
use Rattle.t_prim.specs.Values.{Val, ObjectV}
use Rattle.word_ir.specs.declared.operands.Operand.TheVariants as operand
use Rattle.word_ir.specs.declared.words.Test.TheVariants as test
use Rattle.word_ir.specs.declared.words.WordBlock.{WordBlock}
use Rattle.word_ir.specs.declared.words.WordOp.TheVariants as op
use Rattle.word_ir.specs.declared.words.WordEnd.TheVariants as last
use Rattle.word_ir.specs.declared.words.Words.{Words}
use Rattle.word_ir.specs.Storage.{Sizes}
use Rattle.frame_ir.specs.Values.{Lasting, Object}
use Rattle.frame_ir.specs.States.{State}
use Rattle.word_trees.specs.Trees.{Tree, Do, Ask, Close}
use Rattle.word_trees.specs.Cores.{Core}
use Rattle.word_trees.specs.Leads.{Performs}
use Rattle.frame_words.specs.Layouts.{Layout}
use Rattle.frame_words.specs.ValueWords.{tag_of}
use Rattle.frame_words.specs.Contents.{Escapes}
use Rattle.select_rows.specs.Macros.{var, of_var, word}
use Rattle.frame_stacks.specs.Stacks.{Ways}
use Rattle.frame_reads.specs.Laws.{Fails}
use Rattle.frame_calls.specs.Codes.{params_from, call_params, apply_code}
use Rattle.frame_calls.specs.Calls.{HoldsCall, Calls}

-- what an object calls is its third word; `others` is for what has another header
abbrev pub object_code : ℕ → ℕ → Tree → Tree
object_code t apply others =
    Ask test.Eq (of_var (t + 7)) (word 0x21)
    (Do (op.Load (var (t + 9)) (of_var (t + 1)) (pos 6)) (Close (last.Jump apply (of_var t ∷ of_var (t + 9) ∷ map operand.Var (params_from (t + 2) 5))))) others

abbrev pub ObjectsPassOn : Type 0
ObjectsPassOn =
    (words : Words) (sizes : Sizes) (l : Layout) (e : Escapes) (g : Ways) (t : ℕ) (s : State) (i : ℕ) (k : Object) (args : List Val) (c : Core) (apply : ℕ) (block : WordBlock) (others : Tree)
    → HoldsCall sizes l e g t s (Lasting (ObjectV i)) args c → slice_get s.objects i ≡ Some k → slice_get words.blocks.items apply ≡ Some block → block.params ≡ call_params t
    → Performs words sizes (Calls sizes l e g t s (Lasting k.procedure) args apply) 1 21 (apply_code t (object_code t apply others)) c

abbrev pub OthersFail : Type 0
OthersFail =
    (words : Words) (sizes : Sizes) (l : Layout) (e : Escapes) (g : Ways) (t : ℕ) (s : State) (v : Val) (args : List Val) (c : Core) (others : Tree)
    → HoldsCall sizes l e g t s (Lasting v) args c → (tag_of v ≡ 2 → ⊥) → Performs words sizes (Fails sizes l e s NotProcedure) 1 5 (apply_code t others) c
