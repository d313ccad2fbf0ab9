-- Closures at the head of some operations, and what is written for each of a group.
use Rattle.std.specs.Prelude.{◌≡◌, ℕ, ◌+◌, ◌≤◌, Bool, true, false, List, [], ◌∷◌, length, take, drop, map}
use Rattle.t_base.specs.declared.basics.Var.{Var}
use Rattle.word_ir.specs.declared.operands.Operand.TheVariants as operand
use Rattle.frame_ir.specs.declared.forms.FrameOp.{FrameOp}
use Rattle.frame_ir.specs.declared.forms.FrameOp.TheVariants as Op
use Rattle.frame_ir.specs.Groups.{Making, makings, behind}
use Rattle.word_ir.specs.declared.words.Words.{Words}
use Rattle.word_trees.specs.Trees.{Tree}
use Rattle.frame_words.specs.Layouts.{Layout}
use Rattle.frame_heap.specs.Codes.{address_code, record_code, words_at, heap_stores}
use Rattle.frame_stacks.specs.Codes.{stores}
use Rattle.select_rows.specs.Macros.{word}
use Rattle.word_drafts.specs.declared.drafts.Draft.{Draft}
use Rattle.word_drafts.specs.Drafts.{IsProper, Extends, SpellsNext, Writes}

abbrev pub is_closure : FrameOp → Bool
is_closure (Op.Closure to code kept at) = true
is_closure op = false

-- Of some operations the first so many are closures, and the next one isn't.
pub record IsGroup (ops : List FrameOp) (n : ℕ) : Type 0 where
  pub few : n ≤ length ops
  pub group : makings ops ≡ makings (take n ops)
  pub behind : behind ops ≡ drop n ops

-- records, each with its header, the block that enters its code, and what is captured
abbrev pub heap_record : ℕ → ℕ → ℕ → List Var → Tree → Tree
heap_record t place entry kept rest = heap_stores t place (word 0x1D ∷ operand.Code entry ∷ []) (heap_stores t (place + 3) (map operand.Var kept) rest)

abbrev pub frame_record : ℕ → ℕ → List Var → Tree → Tree
frame_record start entry kept rest = stores start (word 0x1D ∷ operand.Code entry ∷ []) (stores (start + 3) (map operand.Var kept) rest)

-- a closure takes the words of the heap from a place to the next one
pub record Advances (op : FrameOp) (place next : ℕ) : Type 0 where
  pub making : Making
  pub is : (ops : List FrameOp) → makings (op ∷ ops) ≡ making ∷ makings ops
  pub adds : next ≡ place + words_at making.at (length making.kept)

-- something is written for a closure, which takes the words from a place to the next one
pub record WritesMaking (write : Making → Tree → Tree) (op : FrameOp) (place next : ℕ) (old new : Draft) : Type 0 where
  pub making : Making
  pub is : (ops : List FrameOp) → makings (op ∷ ops) ≡ making ∷ makings ops
  pub adds : next ≡ place + words_at making.at (length making.kept)
  pub writes : Writes (write making) old new

abbrev pub AddressStep : Layout → ℕ → FrameOp → ℕ → ℕ → Draft → Draft → Type 0
AddressStep l t op place next old new = WritesMaking (λ m. address_code l t place m.to m.code m.at) op place next old new

abbrev pub RecordStep : Layout → ℕ → FrameOp → ℕ → ℕ → Draft → Draft → Type 0
RecordStep l t op place next old new = WritesMaking (λ m. record_code l t place m.code m.kept m.at) op place next old new

-- Where a part is written behind it, the whole is written.
pub record Lacks (whole part : Tree → Tree) (old new : Draft) : Type 0 where
  pub proper : IsProper old → IsProper new
  pub extends : (words : Words) → Extends words new → Extends words old
  pub spells : (words : Words) (rest : Tree) → Extends words new → SpellsNext words new (part rest) → SpellsNext words old (whole rest)
