-- What the end of a CATCH, and calls of escapes, come to.
use Rattle.std.specs.Prelude.{◌≡◌, ℕ, ◌+◌, ◌*◌, ◌==◌, List, [], ◌∷◌, length, slice_get, Some, true, false}
use Rattle.std.specs.List.{list_any}
use Rattle.t_base.specs.declared.faults.Fault.TheVariants.{WrongCount, DeadEscape}
use Rattle.t_prim.specs.Values.{Val, EscapeV}
use Rattle.word_ir.specs.declared.words.WordBlock.{WordBlock}
use Rattle.word_ir.specs.declared.words.Words.{Words}
use Rattle.word_ir.specs.Storage.{Sizes}
use Rattle.frame_ir.specs.Values.{Lasting, Frame, Env}
use Rattle.frame_ir.specs.States.{State, is_live, older_than, with_live}
use Rattle.frame_ir.specs.Arguments.{bound}
use Rattle.word_trees.specs.Trees.{Tree, Spells}
use Rattle.word_trees.specs.Cores.{Core}
use Rattle.word_trees.specs.Leads.{Performs}
use Rattle.frame_words.specs.Layouts.{Layout}
use Rattle.frame_words.specs.Contents.{Escapes}
use Rattle.frame_stacks.specs.Stacks.{Ways}
use Rattle.frame_stacks.specs.Frames.{Holds}
use Rattle.frame_stacks.specs.Laws.{GoesOn, AreParameters, Begins}
use Rattle.frame_reads.specs.Laws.{Fails}
use Rattle.frame_calls.specs.Calls.{HoldsCall}
use Rattle.frame_dispatch.specs.Codes.{kill_params, kill_code, catch_close, apply_block}
use Rattle.frame_escapes.specs.Ended.{kept_escapes, ended_catches, catches}

abbrev pub CatchesAreClosed : Type 0
CatchesAreClosed =
    (words : Words) (sizes : Sizes) (l : Layout) (e : Escapes) (g : Ways) (t : ℕ) (s : State) (env : Env) (c : Core) (birth : ℕ) (older : List ℕ) (f : Frame) (rest : Tree)
    → Holds sizes l e g t s env c → s.live ≡ birth ∷ older → slice_get s.frames birth ≡ Some f → f.catch ≡ true
    → Performs words sizes (GoesOn words sizes l (kept_escapes e older) g t (with_live s older) env rest) 1 11 (catch_close t rest) c

-- To the way back of the CATCH's frame, which is gone with all that are younger. The loop has parameters from some number on, those of the block are below any other.
abbrev pub EscapesAreCalled : Type 0
EscapesAreCalled =
    (words : Words) (sizes : Sizes) (l : Layout) (e : Escapes) (g : Ways) (t u r : ℕ) (s : State) (birth : ℕ) (v : Val) (c : Core) (f : Frame) (apply look kill : ℕ) (block target : WordBlock)
    → HoldsCall sizes l e g t s (Lasting (EscapeV birth)) (v ∷ []) c → is_live s birth ≡ true → slice_get s.frames birth ≡ Some f
    → slice_get words.blocks.items kill ≡ Some block → block.params ≡ kill_params u → Spells words kill 0 (kill_code u kill)
    → slice_get words.blocks.items (g.begins f.back) ≡ Some target → length target.params ≡ 1 → AreParameters r target.params
    → Performs words sizes (Begins sizes l (kept_escapes e (older_than birth s.live)) g r (with_live s (older_than birth s.live)) (bound target.params (Lasting v ∷ [])) f.back) 1
    (41 + 14 * ended_catches s birth s.live) (apply_block t apply look kill) c

abbrev pub DeadEscapesFail : Type 0
DeadEscapesFail =
    (words : Words) (sizes : Sizes) (l : Layout) (e : Escapes) (g : Ways) (t : ℕ) (s : State) (birth : ℕ) (v : Val) (c : Core) (apply look kill : ℕ)
    → HoldsCall sizes l e g t s (Lasting (EscapeV birth)) (v ∷ []) c → is_live s birth ≡ false → Performs words sizes (Fails sizes l e s DeadEscape) 1 30 (apply_block t apply look kill) c

abbrev pub WrongCountsFail : Type 0
WrongCountsFail =
    (words : Words) (sizes : Sizes) (l : Layout) (e : Escapes) (g : Ways) (t : ℕ) (s : State) (birth : ℕ) (args : List Val) (c : Core) (apply look kill : ℕ)
    → HoldsCall sizes l e g t s (Lasting (EscapeV birth)) args c → (length args ≡ 1 → ⊥) → Performs words sizes (Fails sizes l e s WrongCount) 1 25 (apply_block t apply look kill) c

-- those that end, and those that are left
abbrev pub CatchesAreCounted : Type 0
CatchesAreCounted =
    (s : State) (birth : ℕ) (births : List ℕ) → list_any (λ x. x == birth) births ≡ true → ended_catches s birth births + catches s (older_than birth births) ≡ catches s births
