-- The code of operations that make things on the heap.
use Rattle.std.specs.Prelude.{ℕ, zero, suc, ◌+◌, ◌*◌, List, [], ◌∷◌, length, map, pos}
use Rattle.t_base.specs.declared.basics.Var.{Var}
use Rattle.word_ir.specs.declared.operands.Operand.{Operand}
use Rattle.word_ir.specs.declared.operands.Operand.TheVariants as operand
use Rattle.word_ir.specs.declared.words.Arith.TheVariants as kind
use Rattle.word_ir.specs.declared.words.WordOp.TheVariants as op
use Rattle.frame_ir.specs.declared.forms.Place.{Place}
use Rattle.frame_ir.specs.declared.forms.Place.TheVariants as At
use Rattle.frame_ir.specs.Values.{even, captured_from, record_words}
use Rattle.frame_ir.specs.Groups.{Making}
use Rattle.word_trees.specs.Trees.{Tree, Do}
use Rattle.frame_words.specs.Layouts.{Layout, ClosureOf, fixed_address}
use Rattle.frame_words.specs.ValueWords.{OBJECT, tagged, or_zero}
use Rattle.select_rows.specs.Macros.{of_var, word}
use Rattle.select_rows.specs.Codes.{make, take}
use Rattle.frame_stacks.specs.Codes.{stores}

-- so many words of the heap, if any are wanted, whose address is bound
abbrev pub take_words : ℕ → ℕ → Tree → Tree
take_words t zero rest = rest
take_words t (suc n) rest = take t (4 * suc n) rest

-- words of the heap from one on, behind an address
abbrev pub heap_stores : ℕ → ℕ → List Operand → Tree → Tree
heap_stores t place [] rest = rest
heap_stores t place (x ∷ xs) rest = Do (op.Store (of_var t) (pos (4 * place)) x) (heap_stores t (suc place) xs rest)

-- ---- closures

-- the words of the heap that a closure takes
abbrev pub words_at : Place → ℕ → ℕ
words_at At.Heap captured = record_words captured
words_at (At.Frame slot) captured = 0
words_at At.Static captured = 0

abbrev pub group_words : List Making → ℕ
group_words [] = 0
group_words (m ∷ ms) = words_at m.at (length m.kept) + group_words ms

-- the word of a closure that stands in static words
abbrev pub static_closure : Layout → ℕ → ℕ
static_closure l code = or_zero (tagged OBJECT (fixed_address l (ClosureOf code)))

abbrev pub address_code : Layout → ℕ → ℕ → Var → ℕ → Place → Tree → Tree
address_code l t place to code At.Heap rest = make kind.Add (of_var t) (word (4 * place + 2)) to rest
address_code l t place to code (At.Frame slot) rest = Do (op.Move to (operand.Slot (8 + 4 * even slot + 2))) rest
address_code l t place to code At.Static rest = Do (op.Move to (word (static_closure l code))) rest

-- all addresses
abbrev pub addresses : Layout → ℕ → ℕ → List Making → Tree → Tree
addresses l t place [] rest = rest
addresses l t place (m ∷ ms) rest = address_code l t place m.to m.code m.at (addresses l t (place + words_at m.at (length m.kept)) ms rest)

-- header, code, and what is captured; the word behind the code stays 0
abbrev pub record_code : Layout → ℕ → ℕ → ℕ → List Var → Place → Tree → Tree
record_code l t place code kept At.Heap rest = heap_stores t place (word 0x1D ∷ operand.Code (l.closure_entry code) ∷ []) (heap_stores t (place + 3) (map operand.Var kept) rest)
record_code l t place code kept (At.Frame slot) rest =
    stores (2 + even slot) (word 0x1D ∷ operand.Code (l.closure_entry code) ∷ []) (stores (2 + captured_from slot) (map operand.Var kept) rest)
record_code l t place code kept At.Static rest = rest

-- all records
abbrev pub records : Layout → ℕ → ℕ → List Making → Tree → Tree
records l t place [] rest = rest
records l t place (m ∷ ms) rest = record_code l t place m.code m.kept m.at (records l t (place + words_at m.at (length m.kept)) ms rest)

-- a group of closures: room for all of them, then all addresses, then all records
abbrev pub make_group : Layout → ℕ → List Making → Tree → Tree
make_group l t ms rest = take_words t (group_words ms) (addresses l t 0 ms (records l t 0 ms rest))
