-- What the code that makes a cell or an object comes to.
use Rattle.std.specs.Prelude.{◌≡◌, ℕ, ◌+◌, ◌*◌, ◌<◌, List, ◌∷◌, length, Some, true, is_some}
use Rattle.std.specs.List.{list_all}
use Rattle.t_base.specs.declared.basics.Var.{Var}
use Rattle.t_prim.specs.Values.{Val, ObjectV}
use Rattle.word_ir.specs.declared.operands.Operand.{Operand}
use Rattle.word_ir.specs.declared.words.Words.{Words}
use Rattle.word_ir.specs.Storage.{Sizes}
use Rattle.frame_ir.specs.Values.{Value, Lasting, CellAt, Env, is_lasting, record_words, cell_words}
use Rattle.frame_ir.specs.States.{State, taking, with_cell, with_object}
use Rattle.frame_ir.specs.Arguments.{kept_values}
use Rattle.word_trees.specs.Trees.{Tree}
use Rattle.word_trees.specs.Cores.{Core}
use Rattle.word_trees.specs.Leads.{Performs}
use Rattle.frame_words.specs.Layouts.{Layout, TemplateOf, fixed_place}
use Rattle.frame_words.specs.Contents.{Escapes}
use Rattle.frame_stacks.specs.Stacks.{Ways}
use Rattle.frame_stacks.specs.Frames.{Holds}
use Rattle.frame_stacks.specs.Laws.{HasValue}
use Rattle.frame_heap.specs.Laws.{GoesOnOrFull}
use Rattle.frame_things.specs.Codes.{make_cell, make_object}

abbrev pub CellsAreMade : Type 0
CellsAreMade =
    (words : Words) (sizes : Sizes) (l : Layout) (e : Escapes) (g : Ways) (t : ℕ) (s : State) (env : Env) (c : Core) (to : Var) (x : Operand) (v : Val) (rest : Tree)
    → Holds sizes l e g t s env c → HasValue words sizes l g t s c x (Lasting v) → to.0 < t
    → Performs words sizes (GoesOnOrFull words sizes l e g t s (taking cell_words (with_cell s v)) ((to.0, CellAt (length s.cells)) ∷ env) c rest) 1 14 (make_cell t to x rest) c

abbrev pub ObjectsAreMade : Type 0
ObjectsAreMade =
    (words : Words) (sizes : Sizes) (l : Layout) (e : Escapes) (g : Ways) (t : ℕ) (s : State) (env : Env) (c : Core) (to : Var) (template : ℕ) (x : Operand) (f : Val) (kept : List Var) (vs : List Value) (rest : Tree)
    → Holds sizes l e g t s env c → HasValue words sizes l g t s c x (Lasting f) → kept_values env kept ≡ Some vs → list_all is_lasting vs ≡ true → is_some (fixed_place l (TemplateOf template)) ≡ true → to.0 < t
    → Performs words sizes (GoesOnOrFull words sizes l e g t s (taking (record_words (length kept)) (with_object s (record { procedure = f; template = template; captured = vs }))) ((to.0, Lasting (ObjectV (length s.objects))) ∷ env) c rest) 1
    (17 + 3 * length kept) (make_object l t to template x kept rest) c
