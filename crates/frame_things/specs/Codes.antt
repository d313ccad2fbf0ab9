-- The code that makes a cell and an object.
use Rattle.std.specs.Prelude.{ℕ, ◌*◌, List, [], ◌∷◌, length, map}
use Rattle.t_base.specs.declared.basics.Var.{Var}
use Rattle.word_ir.specs.declared.operands.Operand.{Operand}
use Rattle.word_ir.specs.declared.operands.Operand.TheVariants as operand
use Rattle.word_ir.specs.declared.words.Arith.TheVariants as kind
use Rattle.frame_ir.specs.Values.{record_words, cell_words}
use Rattle.word_trees.specs.Trees.{Tree}
use Rattle.frame_words.specs.Layouts.{Layout, TemplateOf, fixed_address}
use Rattle.frame_words.specs.ValueWords.{OBJECT, CELL, or_zero}
use Rattle.select_rows.specs.Macros.{of_var, word}
use Rattle.select_rows.specs.Codes.{make, take}
use Rattle.frame_heap.specs.Codes.{heap_stores}

-- so many words of the heap, the first of which are stored; others stay 0
abbrev pub make_thing : ℕ → ℕ → List Operand → Var → Tree → Tree
make_thing t count xs to rest = take t (4 * count) (heap_stores t 0 xs (make kind.Add (of_var t) (word OBJECT) to rest))

abbrev pub make_cell : ℕ → Var → Operand → Tree → Tree
make_cell t to x rest = make_thing t cell_words (word CELL ∷ x ∷ []) to rest

-- header, methods, what a call of it calls, and what the methods captured
abbrev pub make_object : Layout → ℕ → Var → ℕ → Operand → List Var → Tree → Tree
make_object l t to template x kept rest =
    make_thing t (record_words (length kept)) (word 0x21 ∷ word (or_zero (fixed_address l (TemplateOf template))) ∷ x ∷ map operand.Var kept) to rest
