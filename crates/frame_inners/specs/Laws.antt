-- What is read by way of a closure in a live frame.
use Rattle.std.specs.Prelude.{◌≡◌, ℕ, ◌<◌, List, ◌∷◌, slice_get, Some, true}
use Rattle.t_base.specs.declared.basics.Var.{Var}
use Rattle.t_prim.specs.Values.{Val}
use Rattle.word_ir.specs.declared.words.WordBlock.{WordBlock}
use Rattle.word_ir.specs.declared.words.Words.{Words}
use Rattle.word_ir.specs.Storage.{Sizes}
use Rattle.frame_ir.specs.Values.{Value, InFrame, Closure, Frame, Env, value_at, closure_in}
use Rattle.frame_ir.specs.States.{State, is_live}
use Rattle.word_trees.specs.Trees.{Tree}
use Rattle.word_trees.specs.Cores.{Core}
use Rattle.word_trees.specs.Leads.{Performs}
use Rattle.frame_words.specs.Layouts.{Layout}
use Rattle.frame_words.specs.Contents.{Escapes}
use Rattle.frame_stacks.specs.Stacks.{Ways}
use Rattle.frame_stacks.specs.Frames.{Holds}
use Rattle.frame_stacks.specs.Laws.{GoesOn}
use Rattle.frame_reads.specs.Codes.{closure_get}
use Rattle.frame_calls.specs.Codes.{call_params, apply_code}
use Rattle.frame_calls.specs.Calls.{HoldsCall, Calls}

abbrev pub InnerClosuresAreRead : Type 0
InnerClosuresAreRead =
    (words : Words) (sizes : Sizes) (l : Layout) (e : Escapes) (g : Ways) (t : ℕ) (s : State) (env : Env) (c : Core) (to from : Var) (birth first slot : ℕ) (f : Frame) (k : Closure) (v : Value) (rest : Tree)
    → Holds sizes l e g t s env c → value_at env from.0 ≡ Some (InFrame birth first) → is_live s birth ≡ true → slice_get s.frames birth ≡ Some f
    → closure_in f.inner first ≡ Some k → slice_get k.captured slot ≡ Some v → to.0 < t
    → Performs words sizes (GoesOn words sizes l e g t s ((to.0, v) ∷ env) rest) 1 2 (closure_get to from slot rest) c

-- the entry has the parameters of calls from some number on
abbrev pub InnerClosuresAreApplied : Type 0
InnerClosuresAreApplied =
    (words : Words) (sizes : Sizes) (l : Layout) (e : Escapes) (g : Ways) (t u : ℕ) (s : State) (birth first : ℕ) (f : Frame) (k : Closure) (args : List Val) (c : Core) (block : WordBlock) (others : Tree)
    → HoldsCall sizes l e g t s (InFrame birth first) args c → is_live s birth ≡ true → slice_get s.frames birth ≡ Some f → closure_in f.inner first ≡ Some k
    → slice_get words.blocks.items (l.closure_entry k.code) ≡ Some block → block.params ≡ call_params u
    → Performs words sizes (Calls sizes l e g u s (InFrame birth first) args (l.closure_entry k.code)) 1 19 (apply_code t others) c
