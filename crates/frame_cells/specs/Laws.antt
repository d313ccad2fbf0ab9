-- The code that gives a cell a value, and what it comes to.
use Rattle.std.specs.Prelude.{◌≡◌, ℕ, slice_get, Some, pos}
use Rattle.t_base.specs.declared.basics.Var.{Var}
use Rattle.t_prim.specs.Values.{Val}
use Rattle.word_ir.specs.declared.operands.Operand.{Operand}
use Rattle.word_ir.specs.declared.operands.Operand.TheVariants as operand
use Rattle.word_ir.specs.declared.words.WordOp.TheVariants as op
use Rattle.word_ir.specs.declared.words.Words.{Words}
use Rattle.word_ir.specs.Storage.{Sizes}
use Rattle.frame_ir.specs.Values.{Lasting, CellAt, Env, value_at}
use Rattle.frame_ir.specs.States.{State, with_cell_at}
use Rattle.word_trees.specs.Trees.{Tree, Do}
use Rattle.word_trees.specs.Cores.{Core}
use Rattle.word_trees.specs.Leads.{Performs}
use Rattle.frame_words.specs.Layouts.{Layout}
use Rattle.frame_words.specs.Contents.{Escapes}
use Rattle.frame_stacks.specs.Stacks.{Ways}
use Rattle.frame_stacks.specs.Frames.{Holds}
use Rattle.frame_stacks.specs.Laws.{GoesOn, HasValue}

abbrev pub cell_set : Var → Operand → Tree → Tree
cell_set cell x rest = Do (op.Store (operand.Var cell) (pos 2) x) rest

abbrev pub CellsAreSet : Type 0
CellsAreSet =
    (words : Words) (sizes : Sizes) (l : Layout) (e : Escapes) (g : Ways) (t : ℕ) (s : State) (env : Env) (c : Core) (cell : Var) (x : Operand) (k : ℕ) (old v : Val) (rest : Tree)
    → Holds sizes l e g t s env c → value_at env cell.0 ≡ Some (CellAt k) → slice_get s.cells k ≡ Some old → HasValue words sizes l g t s c x (Lasting v)
    → Performs words sizes (GoesOn words sizes l e g t (with_cell_at s k v) env rest) 1 3 (cell_set cell x rest) c
