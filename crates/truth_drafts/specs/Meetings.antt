-- Two answers that meet in one block.
use Rattle.std.specs.Prelude.{ℕ, pos}
use Rattle.t_base.specs.declared.basics.Var.{Var}
use Rattle.word_ir.specs.declared.operands.Operand.TheVariants as operand
use Rattle.word_ir.specs.declared.words.Test.TheVariants as test
use Rattle.word_ir.specs.declared.words.WordOp.TheVariants as op
use Rattle.word_ir.specs.declared.words.Words.{Words}
use Rattle.word_trees.specs.Trees.{Tree, Do, Ask, Spells}
use Rattle.select_rows.specs.Macros.{word, meet}
use Rattle.word_drafts.specs.declared.drafts.Draft.{Draft}
use Rattle.word_drafts.specs.Drafts.{IsProper, Extends, SpellsNext}

-- the arm of the answer True, in front of the block where both meet
abbrev pub true_arm : Var → Tree → Tree
true_arm to rest = Do (op.Store (operand.Static 1) (pos 0) (word 9)) (Ask test.Eq (word 0) (word 0) (meet to rest) (meet to rest))

-- The arm is written, and so is the block where both meet, which has this number.
pub record Meets (to : Var) (place : ℕ) (old new : Draft) : Type 0 where
  pub proper : IsProper old → IsProper new
  pub extends : (words : Words) → Extends words new → Extends words old
  pub met : (words : Words) (rest : Tree) → Extends words new → SpellsNext words new rest → Spells words place 0 (meet to rest)
  pub arm : (words : Words) (rest : Tree) → Extends words new → SpellsNext words new rest → SpellsNext words old (true_arm to rest)

-- What is written is in front of what will be, and names the blocks of both arms.
pub record WritesFork (front : Tree → Tree → Tree → Tree) (one other : ℕ) (old new : Draft) : Type 0 where
  pub proper : IsProper old → IsProper new
  pub extends : (words : Words) → Extends words new → Extends words old
  pub spells : (words : Words) (first second rest : Tree) → Extends words new → Spells words one 0 first → Spells words other 0 second → SpellsNext words new rest → SpellsNext words old (front first second rest)
