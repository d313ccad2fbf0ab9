-- The entry of a builtin as a value.
use Rattle.std.specs.Prelude.{◌≡◌, ℕ, ◌+◌, ◌⊎◌, List, [], ◌∷◌, length, slice_get, Some}
use Rattle.t_base.specs.declared.basics.Var.{Var}
use Rattle.t_base.specs.declared.builtins.Builtin.{Builtin}
use Rattle.t_base.specs.declared.faults.Fault.{Fault}
use Rattle.t_prim.specs.Values.{Val}
use Rattle.t_prim.specs.Operands.{Row, Gives, Changes, Faults}
use Rattle.t_prim.specs.Table.{row}
use Rattle.word_ir.specs.declared.words.WordBlock.{WordBlock}
use Rattle.word_ir.specs.declared.words.Words.{Words}
use Rattle.word_ir.specs.Storage.{Sizes}
use Rattle.word_ir.specs.Stamps.{Stamped}
use Rattle.frame_ir.specs.Values.{Value, Lasting, Frame}
use Rattle.frame_ir.specs.States.{State, with_store}
use Rattle.frame_ir.specs.Arguments.{bound}
use Rattle.word_trees.specs.Cores.{Core}
use Rattle.word_trees.specs.Leads.{Performs}
use Rattle.frame_words.specs.Layouts.{Layout}
use Rattle.frame_words.specs.Contents.{Escapes}
use Rattle.select_rows.specs.Codes.{code_of}
use Rattle.frame_stacks.specs.Stacks.{Ways}
use Rattle.frame_stacks.specs.Laws.{AreParameters, Begins}
use Rattle.prim_holds.specs.Operands.{cost_of}
use Rattle.prim_holds.specs.Laws.{IsFaulted, IsOutOfRoom}
use Rattle.frame_calls.specs.Calls.{HoldsCall}
use Rattle.frame_dispatch.specs.Codes.{builtin_code}

-- The value is given to the block to which the youngest frame goes back.
abbrev pub BuiltinComes : Sizes → Layout → Escapes → Ways → ℕ → State → List Var → ℕ → Row → Stamped → Type 0
BuiltinComes sizes l e g t s params back (Gives v) x = Begins sizes l e g t s (bound params (Lasting v ∷ [])) back x
BuiltinComes sizes l e g t s params back (Changes store v) x = Begins sizes l e g t (with_store s store) (bound params (Lasting v ∷ [])) back x ⊎ IsOutOfRoom sizes l e s (with_store s store) x
BuiltinComes sizes l e g t s params back (Faults f) x = IsFaulted sizes l e s f x

-- another count of operands than the builtin takes is the fault of its row
abbrev pub BuiltinsAreCalled : Type 0
BuiltinsAreCalled =
    (words : Words) (sizes : Sizes) (l : Layout) (e : Escapes) (g : Ways) (t : ℕ) (s : State) (q : Value) (p : Builtin) (args : List Val) (c : Core) (birth : ℕ) (older : List ℕ) (f : Frame) (target : WordBlock)
    → HoldsCall sizes l e g t s q args c → s.live ≡ birth ∷ older → slice_get s.frames birth ≡ Some f
    → slice_get words.blocks.items (g.begins f.back) ≡ Some target → length target.params ≡ 1 → AreParameters t target.params
    → Performs words sizes (BuiltinComes sizes l e g t s target.params f.back (row p args s.store)) 1 (8 + cost_of (code_of p)) (builtin_code t p) c

-- a fault asks for no frame
abbrev pub FaultsOfBuiltinsEnd : Type 0
FaultsOfBuiltinsEnd =
    (words : Words) (sizes : Sizes) (l : Layout) (e : Escapes) (g : Ways) (t : ℕ) (s : State) (q : Value) (p : Builtin) (args : List Val) (c : Core) (f : Fault)
    → HoldsCall sizes l e g t s q args c → row p args s.store ≡ Faults f → Performs words sizes (IsFaulted sizes l e s f) 1 (8 + cost_of (code_of p)) (builtin_code t p) c
