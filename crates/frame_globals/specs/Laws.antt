-- The code that gives a global a value, and what it comes to.
use Rattle.std.specs.Prelude.{◌≡◌, ℕ, ◌+◌, ◌<◌, slice_get, Option, Some, None, pos}
use Rattle.t_base.specs.declared.faults.Fault.TheVariants.{Unbound}
use Rattle.t_prim.specs.Values.{Val}
use Rattle.word_ir.specs.declared.operands.Operand.{Operand}
use Rattle.word_ir.specs.declared.operands.Operand.TheVariants as operand
use Rattle.word_ir.specs.declared.words.Test.TheVariants as test
use Rattle.word_ir.specs.declared.words.WordOp.TheVariants as op
use Rattle.word_ir.specs.declared.words.Words.{Words}
use Rattle.word_ir.specs.Storage.{Sizes}
use Rattle.frame_ir.specs.Values.{Lasting, Env}
use Rattle.frame_ir.specs.States.{State, with_global_at}
use Rattle.word_trees.specs.Trees.{Tree, Do, Ask}
use Rattle.word_trees.specs.Cores.{Core}
use Rattle.word_trees.specs.Leads.{Performs}
use Rattle.frame_words.specs.Layouts.{Layout, GLOBALS}
use Rattle.frame_words.specs.ValueWords.{UNBOUND}
use Rattle.frame_words.specs.Contents.{Escapes}
use Rattle.select_rows.specs.Macros.{var, of_var, word, fault}
use Rattle.frame_stacks.specs.Stacks.{Ways}
use Rattle.frame_stacks.specs.Frames.{Holds}
use Rattle.frame_stacks.specs.Laws.{GoesOn, HasValue}
use Rattle.frame_reads.specs.Laws.{Fails}

abbrev pub global_set : ℕ → Operand → Tree → Tree
global_set global x rest = Do (op.Store (operand.Static (GLOBALS + global)) (pos 0) x) rest

-- only where it has a value
abbrev pub global_change : ℕ → ℕ → Operand → Tree → Tree
global_change t global x rest = Do (op.Load (var t) (operand.Static (GLOBALS + global)) (pos 0)) (Ask test.Eq (of_var t) (word UNBOUND) (fault 9) (global_set global x rest))

abbrev pub GlobalsAreSet : Type 0
GlobalsAreSet =
    (words : Words) (sizes : Sizes) (l : Layout) (e : Escapes) (g : Ways) (t : ℕ) (s : State) (env : Env) (c : Core) (global : ℕ) (x : Operand) (v : Val) (held : Option Val) (rest : Tree)
    → Holds sizes l e g t s env c → HasValue words sizes l g t s c x (Lasting v) → slice_get s.globals global ≡ Some held → global < l.globals
    → Performs words sizes (GoesOn words sizes l e g t (with_global_at s global v) env rest) 1 3 (global_set global x rest) c

abbrev pub GlobalsAreChanged : Type 0
GlobalsAreChanged =
    (words : Words) (sizes : Sizes) (l : Layout) (e : Escapes) (g : Ways) (t : ℕ) (s : State) (env : Env) (c : Core) (global : ℕ) (x : Operand) (v old : Val) (rest : Tree)
    → Holds sizes l e g t s env c → HasValue words sizes l g t s c x (Lasting v) → slice_get s.globals global ≡ Some (Some old) → global < l.globals
    → Performs words sizes (GoesOn words sizes l e g t (with_global_at s global v) env rest) 1 8 (global_change t global x rest) c

abbrev pub UnboundGlobalsStay : Type 0
UnboundGlobalsStay =
    (words : Words) (sizes : Sizes) (l : Layout) (e : Escapes) (g : Ways) (t : ℕ) (s : State) (env : Env) (c : Core) (global : ℕ) (x : Operand) (rest : Tree)
    → Holds sizes l e g t s env c → slice_get s.globals global ≡ Some None → global < l.globals → Performs words sizes (Fails sizes l e s Unbound) 1 7 (global_change t global x rest) c
