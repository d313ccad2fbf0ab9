-- What is written so far of a program of words, and what a call writes.
use Rattle.std.specs.Prelude.{◌≡◌, ℕ, ◌<◌, ◌≤◌, ◌⊎◌, List, [], ◌∷◌, ◌++◌, length, slice_get, slice_set, Some}
use Rattle.t_base.specs.declared.basics.Var.{Var}
use Rattle.word_ir.specs.declared.operands.Operand.{Operand}
use Rattle.word_ir.specs.declared.words.Test.{Test}
use Rattle.word_ir.specs.declared.words.WordOp.{WordOp}
use Rattle.word_ir.specs.declared.words.WordEnd.{WordEnd}
use Rattle.word_ir.specs.declared.words.WordBlock.{WordBlock}
use Rattle.word_ir.specs.declared.words.Words.{Words}
use Rattle.word_ir.specs.Lines.{Op, line_at}
use Rattle.word_trees.specs.Trees.{Tree, Ask, Spells}
use Rattle.select_rows.specs.Macros.{never}
use Rattle.word_drafts.specs.declared.drafts.Draft.{Draft}

-- a block that is begun has its number from the first ones, or stands behind those
abbrev pub IsBegun : Draft → ℕ → Type 0
IsBegun d k = (k < d.begun) ⊎ (d.heads ≤ k)

-- the block under way is one that is begun
pub record IsProper (d : Draft) : Type 0 where
  pub there : d.number < length d.blocks.items
  pub begun : IsBegun d d.number
  pub few : d.begun ≤ d.heads
  pub all : d.heads ≤ length d.blocks.items

-- a block that is written to its end
pub record IsDone (d : Draft) (k : ℕ) : Type 0 where
  pub there : k < length d.blocks.items
  pub other : k ≡ d.number → ⊥
  pub begun : IsBegun d k

-- a program that has the blocks which are done, and the operations so far of the one under way, and its parameters where its number is from the first ones
pub record Extends (words : Words) (d : Draft) : Type 0 where
  pub done : (k : ℕ) → IsDone d k → slice_get words.blocks.items k ≡ slice_get d.blocks.items k
  pub lines : (k : ℕ) (o : WordOp) → slice_get d.ops.items k ≡ Some o → line_at words d.number k ≡ Some (Op o)
  pub params : d.number < d.heads → (block : WordBlock) → slice_get words.blocks.items d.number ≡ Some block → block.params ≡ d.params

-- where a tree is spelled from the next line on
abbrev pub SpellsNext : Words → Draft → Tree → Type 0
SpellsNext words d tree = Spells words d.number (length d.ops.items) tree

-- What is written is in front of what will be: wherever a program extends the second draft and spells a tree from there on, it extends the first
-- one and spells the whole.
pub record Writes (front : Tree → Tree) (old new : Draft) : Type 0 where
  pub proper : IsProper old → IsProper new
  pub extends : (words : Words) → Extends words new → Extends words old
  pub spells : (words : Words) (rest : Tree) → Extends words new → SpellsNext words new rest → SpellsNext words old (front rest)

-- One of the first blocks is begun: what is written next is its code, and it has these parameters.
pub record Begins (place : ℕ) (params : List Var) (old new : Draft) : Type 0 where
  pub proper : IsProper new
  pub extends : (words : Words) → Extends words new → Extends words old
  pub spelled : (words : Words) (tree : Tree) → SpellsNext words new tree → Spells words place 0 tree
  pub head : (words : Words) (block : WordBlock) → Extends words new → slice_get words.blocks.items place ≡ Some block → block.params ≡ params

-- a program that has these blocks
abbrev pub Finishes : List WordBlock → Draft → Type 0
Finishes blocks d = (words : Words) → words.blocks.items ≡ blocks → Extends words d

-- The block under way has this end, and an empty one behind all is under way.
pub record Ends (end : WordEnd) (old new : Draft) : Type 0 where
  pub block : WordBlock
  pub empty : WordBlock
  pub ops : block.ops.items ≡ old.ops.items
  pub params : block.params ≡ old.params
  pub last : block.last ≡ end
  pub blocks : new.blocks.items ≡ slice_set old.blocks.items old.number block ++ empty ∷ []
  pub number : new.number ≡ length old.blocks.items
  pub none : new.ops.items ≡ []
  pub heads : new.heads ≡ old.heads
  pub begun : new.begun ≡ old.begun

-- A finished block is added behind all; the one under way stays under way.
pub record Adds (written : List WordOp) (end : WordEnd) (place : ℕ) (old new : Draft) : Type 0 where
  pub block : WordBlock
  pub has : block.ops.items ≡ written
  pub last : block.last ≡ end
  pub is : place ≡ length old.blocks.items
  pub blocks : new.blocks.items ≡ old.blocks.items ++ block ∷ []
  pub number : new.number ≡ old.number
  pub ops : new.ops.items ≡ old.ops.items
  pub params : new.params ≡ old.params
  pub heads : new.heads ≡ old.heads
  pub begun : new.begun ≡ old.begun

-- A tree is written into blocks of its own, and what is under way stays so.
pub record WritesApart (tree : Tree) (place : ℕ) (old new : Draft) : Type 0 where
  pub proper : IsProper new
  pub extends : (words : Words) → Extends words new → Extends words old
  pub spelled : (words : Words) → Extends words new → Spells words place 0 tree
  pub same : (words : Words) (rest : Tree) → SpellsNext words new rest → SpellsNext words old rest

-- What is written is in front of what will be, and of a tree that stands in another block.
pub record WritesBeside (front : Tree → Tree → Tree) (other : ℕ) (old new : Draft) : Type 0 where
  pub proper : IsProper old → IsProper new
  pub extends : (words : Words) → Extends words new → Extends words old
  pub spells : (words : Words) (tree rest : Tree) → Extends words new → Spells words other 0 tree → SpellsNext words new rest → SpellsNext words old (front tree rest)

-- the other tree where a test doesn't hold
abbrev pub unless_true : Test → Operand → Operand → Tree → Tree → Tree
unless_true kind a b other rest = Ask kind a b rest other

-- A test is written into a block of its own, where the two blocks to which it leads have trees.
pub record WritesTestApart (kind : Test) (a b : Operand) (one other place : ℕ) (old new : Draft) : Type 0 where
  pub proper : IsProper new
  pub extends : (words : Words) → Extends words new → Extends words old
  pub spelled : (words : Words) (first second : Tree) → Extends words new → Spells words one 0 first → Spells words other 0 second → Spells words place 0 (Ask kind a b first second)
  pub same : (words : Words) (rest : Tree) → SpellsNext words new rest → SpellsNext words old rest

-- whatever is behind
abbrev pub ends_here : Tree → Tree
ends_here rest = never

-- The tree is written to its end, whatever is written behind it.
pub record Closes (tree : Tree) (old new : Draft) : Type 0 where
  pub proper : IsProper old → IsProper new
  pub extends : (words : Words) → Extends words new → Extends words old
  pub spelled : (words : Words) → Extends words new → SpellsNext words old tree
