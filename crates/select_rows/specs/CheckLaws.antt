-- What each check of an operand says: where the tree behind it performs the rest of a row, the check and the tree perform the whole.
use Rattle.std.specs.Prelude.{◌≡◌, ℕ, ◌+◌, ◌<◌, ◌≤◌, List, length, slice_get, Some, ℤ, pos}
use Rattle.t_base.specs.declared.basics.Var.{Var}
use Rattle.t_base.specs.declared.faults.Fault.{Fault}
use Rattle.t_base.specs.declared.faults.Fault.TheVariants.{NotPair}
use Rattle.t_prim.specs.Values.{Val, FixV, CharV, PairV}
use Rattle.t_prim.specs.Kinds.{pair_of}
use Rattle.t_prim.specs.Operands.{Row, Faults, or_fault, with_fixnum, with_char, with_element}
use Rattle.word_ir.specs.declared.operands.Operand.{Operand}
use Rattle.word_ir.specs.declared.words.Words.{Words}
use Rattle.word_ir.specs.Word.{Number}
use Rattle.word_ir.specs.Storage.{Sizes}
use Rattle.frame_ir.specs.States.{State}
use Rattle.tagged_words.specs.Tags.{IsFixnum, fixnum_word}
use Rattle.word_trees.specs.Trees.{Tree}
use Rattle.word_trees.specs.Cores.{Core, word_in}
use Rattle.word_trees.specs.Leads.{Performs}
use Rattle.frame_words.specs.Layouts.{Layout}
use Rattle.frame_words.specs.ValueWords.{header_of}
use Rattle.frame_words.specs.Contents.{Escapes}
use Rattle.select_rows.specs.Macros.{fault, fixnum, pair, object, character, index}
use Rattle.select_rows.specs.Kept.{Has, Keeps, Binds, Comes}

abbrev pub FixnumsAreChecked : Type 0
FixnumsAreChecked =
    (words : Words) (sizes : Sizes) (l : Layout) (e : Escapes) (t : ℕ) (s : State) (start : Core) (to : Var) (rest : Tree) (k : ℕ) (c : Core) (a : Operand) (v : Val) (go : ℤ → Row) (tail : Tree)
    → Has l s t c a v → Keeps sizes l e t s s start c → 2 ≤ k → ((x : ℤ) → v ≡ FixV x → Performs words sizes (Comes words sizes l e t s start to rest (go x)) 1 k tail c)
    → Performs words sizes (Comes words sizes l e t s start to rest (with_fixnum v go)) 1 (3 + k) (fixnum a tail) c

abbrev pub PairsAreChecked : Type 0
PairsAreChecked =
    (words : Words) (sizes : Sizes) (l : Layout) (e : Escapes) (t : ℕ) (s : State) (start : Core) (to : Var) (rest : Tree) (k : ℕ) (c : Core) (a : Operand) (v : Val) (go : ℕ → Row) (tail : Tree)
    → Has l s t c a v → Keeps sizes l e t s s start c → 2 ≤ k → ((x : ℕ) → v ≡ PairV x → Performs words sizes (Comes words sizes l e t s start to rest (go x)) 1 k tail c)
    → Performs words sizes (Comes words sizes l e t s start to rest (or_fault (pair_of v) NotPair go)) 1 (3 + k) (pair a tail) c

-- the low byte is bound on the way
abbrev pub CharsAreChecked : Type 0
CharsAreChecked =
    (words : Words) (sizes : Sizes) (l : Layout) (e : Escapes) (t : ℕ) (s : State) (start : Core) (to : Var) (rest : Tree) (u k : ℕ) (c : Core) (a : Operand) (v : Val) (go : ℕ → Row) (tail : Tree)
    → t ≤ u → Has l s t c a v → Keeps sizes l e t s s start c → 2 ≤ k
    → ((d : Core) (x : ℕ) → v ≡ CharV x → Binds t c d → Performs words sizes (Comes words sizes l e t s start to rest (go x)) 1 k tail d)
    → Performs words sizes (Comes words sizes l e t s start to rest (with_char v go)) 1 (3 + (3 + k)) (character a u tail) c

-- The header is bound on the way; the row faults where the value hasn't got it.
abbrev pub ObjectsAreChecked : Type 0
ObjectsAreChecked =
    (words : Words) (sizes : Sizes) (l : Layout) (e : Escapes) (t : ℕ) (s : State) (start : Core) (to : Var) (rest : Tree) (u header number k : ℕ) (f : Fault) (c : Core) (a : Operand) (v : Val) (row : Row) (tail : Tree)
    → t ≤ u → Has l s t c a v → Keeps sizes l e t s s start c → 2 ≤ k
    → ((d : Core) → Keeps sizes l e t s s start d → Performs words sizes (Comes words sizes l e t s start to rest (Faults f)) 1 2 (fault number) d)
    → ((header_of v ≡ Some header → ⊥) → row ≡ Faults f)
    → ((d : Core) → header_of v ≡ Some header → Binds t c d → Performs words sizes (Comes words sizes l e t s start to rest row) 1 k tail d)
    → Performs words sizes (Comes words sizes l e t s start to rest row) 1 (3 + (2 + (3 + k))) (object a header number u tail) c

-- a comparison without signs finds the place
abbrev pub PlacesAreChecked : Type 0
PlacesAreChecked =
    (words : Words) (sizes : Sizes) (l : Layout) (e : Escapes) (t : ℕ) (s : State) (start : Core) (to : Var) (rest : Tree) (x : ℤ) (items : List Val) (k : ℕ) (c : Core) (i size : Operand) (go : ℕ → Val → Row) (tail : Tree)
    → IsFixnum x → word_in c i ≡ Some (Number (fixnum_word x)) → word_in c size ≡ Some (Number (fixnum_word (pos (length items)))) → length items < 536870912 → Keeps sizes l e t s s start c → 2 ≤ k
    → ((place : ℕ) (y : Val) → x ≡ pos place → slice_get items place ≡ Some y → Performs words sizes (Comes words sizes l e t s start to rest (go place y)) 1 k tail c)
    → Performs words sizes (Comes words sizes l e t s start to rest (with_element items x go)) 1 (3 + k) (index i size tail) c
