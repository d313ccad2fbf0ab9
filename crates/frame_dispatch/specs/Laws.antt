-- What calls of builtins, and of what is no procedure, come to.
use Rattle.std.specs.Prelude.{◌≡◌, ℕ, List, slice_get, Some, false}
use Rattle.t_base.specs.declared.builtins.Builtin.{Builtin}
use Rattle.t_base.specs.declared.faults.Fault.TheVariants.{NotProcedure}
use Rattle.t_prim.specs.Values.{Val, BuiltinV}
use Rattle.t_prim.specs.Kinds.{is_procedure}
use Rattle.word_ir.specs.declared.words.WordBlock.{WordBlock}
use Rattle.word_ir.specs.declared.words.Words.{Words}
use Rattle.word_ir.specs.Storage.{Sizes}
use Rattle.frame_ir.specs.Values.{Lasting}
use Rattle.frame_ir.specs.States.{State}
use Rattle.word_trees.specs.Cores.{Core}
use Rattle.word_trees.specs.Leads.{Performs}
use Rattle.frame_words.specs.Layouts.{Layout}
use Rattle.frame_words.specs.Contents.{Escapes}
use Rattle.frame_stacks.specs.Stacks.{Ways}
use Rattle.frame_reads.specs.Laws.{Fails}
use Rattle.frame_calls.specs.Codes.{call_params}
use Rattle.frame_calls.specs.Calls.{HoldsCall, Calls}
use Rattle.frame_dispatch.specs.Codes.{apply_block}

-- the entry has the parameters of calls from some number on
abbrev pub BuiltinsAreApplied : Type 0
BuiltinsAreApplied =
    (words : Words) (sizes : Sizes) (l : Layout) (e : Escapes) (g : Ways) (t u : ℕ) (s : State) (p : Builtin) (args : List Val) (c : Core) (apply look kill : ℕ) (block : WordBlock)
    → HoldsCall sizes l e g t s (Lasting (BuiltinV p)) args c → slice_get words.blocks.items (l.builtin_entry p) ≡ Some block → block.params ≡ call_params u
    → Performs words sizes (Calls sizes l e g u s (Lasting (BuiltinV p)) args (l.builtin_entry p)) 1 25 (apply_block t apply look kill) c

abbrev pub NotProceduresFail : Type 0
NotProceduresFail =
    (words : Words) (sizes : Sizes) (l : Layout) (e : Escapes) (g : Ways) (t : ℕ) (s : State) (v : Val) (args : List Val) (c : Core) (apply look kill : ℕ)
    → HoldsCall sizes l e g t s (Lasting v) args c → is_procedure v ≡ false → Performs words sizes (Fails sizes l e s NotProcedure) 1 22 (apply_block t apply look kill) c
