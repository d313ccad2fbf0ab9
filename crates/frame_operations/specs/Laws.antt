-- What calls of operations come to.
use Rattle.std.specs.Prelude.{◌≡◌, ℕ, ◌==◌, List, [], ◌∷◌, slice_get, Some, None, true, false}
use Rattle.t_base.specs.declared.faults.Fault.TheVariants.{WrongCount, NotHandled}
use Rattle.t_prim.specs.Values.{Val, OperationV}
use Rattle.word_ir.specs.declared.words.WordBlock.{WordBlock}
use Rattle.word_ir.specs.declared.words.Words.{Words}
use Rattle.word_ir.specs.Storage.{Sizes}
use Rattle.frame_ir.specs.Values.{Lasting}
use Rattle.frame_ir.specs.States.{State}
use Rattle.word_trees.specs.Cores.{Core}
use Rattle.word_trees.specs.Leads.{Performs}
use Rattle.frame_words.specs.Layouts.{Layout}
use Rattle.frame_words.specs.Contents.{Escapes}
use Rattle.frame_stacks.specs.Stacks.{Ways}
use Rattle.frame_reads.specs.Laws.{Fails}
use Rattle.frame_calls.specs.Codes.{call_params}
use Rattle.frame_calls.specs.Calls.{HoldsCall, Calls}
use Rattle.frame_dispatch.specs.Codes.{look_params, look_code, apply_block}
use Rattle.frame_operations.specs.Calls.{HoldsLook, Looks, methods_in, HasOperations}

-- at the methods of the first operand; the loop, and each entry, has parameters from some number on
abbrev pub OperationsLook : Type 0
OperationsLook =
    (words : Words) (sizes : Sizes) (l : Layout) (e : Escapes) (g : Ways) (t u : ℕ) (s : State) (o : ℕ) (v : Val) (vs : List Val) (c : Core) (apply look kill : ℕ) (block : WordBlock)
    → HoldsCall sizes l e g t s (Lasting (OperationV o)) (v ∷ vs) c → HasOperations l → slice_get words.blocks.items look ≡ Some block → block.params ≡ look_params u
    → Performs words sizes (Looks sizes l e g u s o (methods_in l s v) (v ∷ vs) look) 1 40 (apply_block t apply look kill) c

abbrev pub OperationsOfNoneFail : Type 0
OperationsOfNoneFail =
    (words : Words) (sizes : Sizes) (l : Layout) (e : Escapes) (g : Ways) (t : ℕ) (s : State) (o : ℕ) (c : Core) (apply look kill : ℕ)
    → HoldsCall sizes l e g t s (Lasting (OperationV o)) [] c → Performs words sizes (Fails sizes l e s WrongCount) 1 22 (apply_block t apply look kill) c

-- the method's entry is called as the object
abbrev pub MethodsAreFound : Type 0
MethodsAreFound =
    (words : Words) (sizes : Sizes) (l : Layout) (e : Escapes) (g : Ways) (t u : ℕ) (s : State) (o : ℕ) (m : ℕ × ℕ) (ms : List (ℕ × ℕ)) (v : Val) (vs : List Val) (c : Core) (look : ℕ) (block : WordBlock)
    → HoldsLook sizes l e g t s o (m ∷ ms) (v ∷ vs) c → (m.0 == o) ≡ true → slice_get words.blocks.items (l.method_entry m.1) ≡ Some block → block.params ≡ call_params u
    → Performs words sizes (Calls sizes l e g u s (Lasting v) (v ∷ vs) (l.method_entry m.1)) 1 16 (look_code t look) c

abbrev pub MethodsArePassed : Type 0
MethodsArePassed =
    (words : Words) (sizes : Sizes) (l : Layout) (e : Escapes) (g : Ways) (t : ℕ) (s : State) (o : ℕ) (m : ℕ × ℕ) (ms : List (ℕ × ℕ)) (args : List Val) (c : Core) (look : ℕ) (block : WordBlock)
    → HoldsLook sizes l e g t s o (m ∷ ms) args c → (m.0 == o) ≡ false → slice_get words.blocks.items look ≡ Some block → block.params ≡ look_params t
    → Performs words sizes (Looks sizes l e g t s o ms args look) 1 20 (look_code t look) c

abbrev pub DefaultsAreTaken : Type 0
DefaultsAreTaken =
    (words : Words) (sizes : Sizes) (l : Layout) (e : Escapes) (g : Ways) (t u : ℕ) (s : State) (o code : ℕ) (args : List Val) (c : Core) (look : ℕ) (block : WordBlock)
    → HoldsLook sizes l e g t s o [] args c → l.default_entry o ≡ Some code → slice_get words.blocks.items code ≡ Some block → block.params ≡ call_params u
    → Performs words sizes (Calls sizes l e g u s (Lasting (OperationV o)) args code) 1 22 (look_code t look) c

abbrev pub UnhandledFail : Type 0
UnhandledFail =
    (words : Words) (sizes : Sizes) (l : Layout) (e : Escapes) (g : Ways) (t : ℕ) (s : State) (o : ℕ) (args : List Val) (c : Core) (look : ℕ)
    → HoldsLook sizes l e g t s o [] args c → l.default_entry o ≡ None → Performs words sizes (Fails sizes l e s NotHandled) 1 15 (look_code t look) c
