-- What calls and entries come to.
use Rattle.std.specs.Prelude.{◌≡◌, ℕ, suc, ◌+◌, ◌*◌, ◌≤◌, List, ◌∷◌, length, map, slice_get, Some}
use Rattle.t_base.specs.declared.faults.Fault.TheVariants.{WrongCount}
use Rattle.t_prim.specs.Values.{Val, ClosureV}
use Rattle.word_ir.specs.declared.operands.Operand.{Operand}
use Rattle.word_ir.specs.declared.words.WordBlock.{WordBlock}
use Rattle.word_ir.specs.declared.words.Words.{Words}
use Rattle.word_ir.specs.Storage.{Sizes}
use Rattle.frame_ir.specs.Values.{Value, Lasting, Closure, Env}
use Rattle.frame_ir.specs.States.{State}
use Rattle.frame_ir.specs.Arguments.{bound}
use Rattle.word_trees.specs.Trees.{Tree}
use Rattle.word_trees.specs.Cores.{Core}
use Rattle.word_trees.specs.Leads.{Performs}
use Rattle.frame_words.specs.Layouts.{Layout}
use Rattle.frame_words.specs.Contents.{Escapes}
use Rattle.frame_stacks.specs.Stacks.{Ways}
use Rattle.frame_stacks.specs.Frames.{Holds}
use Rattle.frame_stacks.specs.Laws.{HasValue, HaveValues, AreParameters, Begins}
use Rattle.frame_reads.specs.Laws.{Fails}
use Rattle.frame_calls.specs.Codes.{call_params, call_code, entry_code, apply_code}
use Rattle.frame_calls.specs.Calls.{HoldsCall, Calls}

-- to the block that is named, which has the parameters of calls from some number on
abbrev pub CallsArePerformed : Type 0
CallsArePerformed =
    (words : Words) (sizes : Sizes) (l : Layout) (e : Escapes) (g : Ways) (t u : ℕ) (s : State) (env : Env) (c : Core) (target : ℕ) (block : WordBlock) (f : Operand) (v : Value) (args : List Operand) (vs : List Val)
    → Holds sizes l e g t s env c → HasValue words sizes l g t s c f v → HaveValues words sizes l g t s c args (map Lasting vs) → length args ≤ 20
    → slice_get words.blocks.items target ≡ Some block → block.params ≡ call_params u
    → Performs words sizes (Calls sizes l e g u s v vs target) 1 (9 + 3 * length args) (call_code target f args) c

-- with as many operands as the code has
abbrev pub EntriesArePerformed : Type 0
EntriesArePerformed =
    (words : Words) (sizes : Sizes) (l : Layout) (e : Escapes) (g : Ways) (t : ℕ) (s : State) (f : Value) (args : List Val) (c : Core) (code : ℕ) (target : WordBlock)
    → HoldsCall sizes l e g t s f args c → slice_get words.blocks.items (g.begins code) ≡ Some target → length target.params ≡ suc (length args) → AreParameters t target.params
    → Performs words sizes (Begins sizes l e g t s (bound target.params (f ∷ map Lasting args)) code) 1 (5 + 3 * length args) (entry_code t (length args) (g.begins code)) c

abbrev pub WrongCountsFail : Type 0
WrongCountsFail =
    (words : Words) (sizes : Sizes) (l : Layout) (e : Escapes) (g : Ways) (t : ℕ) (s : State) (f : Value) (args : List Val) (c : Core) (count block : ℕ)
    → HoldsCall sizes l e g t s f args c → (length args ≡ count → ⊥) → Performs words sizes (Fails sizes l e s WrongCount) 1 5 (entry_code t count block) c

-- on the heap or in static words; the entry has the parameters of calls from some number on
abbrev pub ClosuresAreApplied : Type 0
ClosuresAreApplied =
    (words : Words) (sizes : Sizes) (l : Layout) (e : Escapes) (g : Ways) (t u : ℕ) (s : State) (i : ℕ) (k : Closure) (args : List Val) (c : Core) (block : WordBlock) (others : Tree)
    → HoldsCall sizes l e g t s (Lasting (ClosureV i)) args c → slice_get s.closures i ≡ Some k → slice_get words.blocks.items (l.closure_entry k.code) ≡ Some block → block.params ≡ call_params u
    → Performs words sizes (Calls sizes l e g u s (Lasting (ClosureV i)) args (l.closure_entry k.code)) 1 19 (apply_code t others) c
