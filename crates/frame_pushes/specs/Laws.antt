-- What a Push comes to where the stack has room.
use Rattle.std.specs.Prelude.{◌≡◌, ℕ, ◌+◌, ◌*◌, ◌≤◌, List, map, length, Some}
use Rattle.t_base.specs.declared.basics.Var.{Var}
use Rattle.word_ir.specs.declared.operands.Operand.TheVariants as operand
use Rattle.word_ir.specs.declared.words.Words.{Words}
use Rattle.word_ir.specs.Storage.{Sizes}
use Rattle.word_ir.specs.Stamps.{Stamped}
use Rattle.frame_ir.specs.Values.{Value, Frame, Env, frame_words}
use Rattle.frame_ir.specs.States.{State, with_frame}
use Rattle.frame_ir.specs.Arguments.{kept_values}
use Rattle.frame_ir.specs.Operations.{pushed_frame}
use Rattle.word_trees.specs.Trees.{Tree}
use Rattle.word_trees.specs.Cores.{Core, stack_left}
use Rattle.word_trees.specs.Leads.{Performs}
use Rattle.frame_words.specs.Layouts.{Layout}
use Rattle.frame_words.specs.Contents.{Escapes}
use Rattle.frame_stacks.specs.Stacks.{Ways, pushed_at}
use Rattle.frame_stacks.specs.Frames.{Holds}
use Rattle.frame_stacks.specs.Codes.{push_frame}
use Rattle.frame_stacks.specs.Laws.{GoesOn}

-- to the rest, with a frame more, which is born by some step
pub record Pushed (words : Words) (sizes : Sizes) (l : Layout) (e : Escapes) (g : Ways) (t : ℕ) (s : State) (env : Env) (f : Frame) (rest : Tree) (x : Stamped) : Type 0 where
  pub step : ℕ
  pub goes : GoesOn words sizes l e (pushed_at g (length s.frames) step) t (with_frame s f) env rest x

-- with the values of some variables in its first slots
abbrev pub PushesArePerformed : Type 0
PushesArePerformed =
    (words : Words) (sizes : Sizes) (l : Layout) (e : Escapes) (g : Ways) (t : ℕ) (s : State) (env : Env) (c : Core) (back size : ℕ) (kept : List Var) (vs : List Value) (rest : Tree)
    → Holds sizes l e g t s env c → kept_values env kept ≡ Some vs → length kept ≤ size → 4 * frame_words (pushed_frame back size vs) ≤ stack_left c
    → Performs words sizes (Pushed words sizes l e g t s env (pushed_frame back size vs) rest) 1 (7 + 3 * length kept)
    (push_frame (g.begins back) (frame_words (pushed_frame back size vs)) (map operand.Var kept) rest) c
