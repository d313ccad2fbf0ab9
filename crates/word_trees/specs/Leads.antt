-- Where a tree leads, wherever it is spelled.
use Rattle.std.specs.Prelude.{◌≡◌, ℕ, suc, ◌+◌, ◌≤◌, true}
use Rattle.program_runs.specs.Runs.{End}
use Rattle.program_runs.specs.Follows.{after}
use Rattle.std.specs.Prelude.{Some}
use Rattle.word_ir.specs.declared.operands.Operand.{Operand}
use Rattle.word_ir.specs.declared.words.Words.{Words}
use Rattle.word_ir.specs.Storage.{Sizes}
use Rattle.word_ir.specs.State.{Setting}
use Rattle.word_ir.specs.Step.{words_in}
use Rattle.word_ir.specs.Stamps.{Stamped, stamped_step, reaches, is_written}
use Rattle.word_trees.specs.Trees.{Tree, Spells}
use Rattle.word_trees.specs.Cores.{Core, at, ended}

-- ---- one step

-- to a place where the tree is spelled
pub record StepsTo (words : Words) (sizes : Sizes) (rest : Tree) (d : Core) (moves steps : ℕ) (t : Stamped) : Type 0 where
  pub block : ℕ
  pub place : ℕ
  pub spelled : Spells words block place rest
  pub step : stamped_step (words_in words sizes) t ≡ at d block place moves steps

-- from a tree and c to a tree and d, with so many moves
abbrev pub Steps : Words → Sizes → ℕ → Tree → Core → Tree → Core → Type 0
Steps words sizes cost tree c rest d =
    (block place moves steps : ℕ) → Spells words block place tree → StepsTo words sizes rest d (moves + cost) (suc steps) (at c block place moves steps)

-- to the end of the run
abbrev pub EndsBy : Words → Sizes → ℕ → Tree → Core → End → Type 0
EndsBy words sizes cost tree c end =
    (block place moves steps : ℕ) → Spells words block place tree → stamped_step (words_in words sizes) (at c block place moves steps) ≡ ended c block place (moves + cost) (suc steps) (Some end)

-- to the start of a block, with nothing bound but its parameters
abbrev pub EntersBlock : Words → Sizes → ℕ → Tree → Core → ℕ → Core → Type 0
EntersBlock words sizes cost tree c target d =
    (block place moves steps : ℕ) → Spells words block place tree → stamped_step (words_in words sizes) (at c block place moves steps) ≡ at d target 0 (moves + cost) (suc steps)

-- ---- any number of steps

-- after so many steps at least, with so many moves at most, the fact holds
pub record Leads (words : Words) (sizes : Sizes) (Q : Stamped → Type 0) (least cost : ℕ) (t : Stamped) : Type 0 where
  pub count : ℕ
  pub enough : least ≤ count
  pub there : Q (after (stamped_step (words_in words sizes)) count t)
  pub moves : (after (stamped_step (words_in words sizes)) count t).state.moves ≤ t.state.moves + cost

-- wherever a tree is spelled, it leads there from c
pub record Performs (words : Words) (sizes : Sizes) (Q : Stamped → Type 0) (least cost : ℕ) (tree : Tree) (c : Core) : Type 0 where
  pub leads : (block place moves steps : ℕ) → Spells words block place tree → Leads words sizes Q least cost (at c block place moves steps)

-- ---- what the stamps allow

-- an address is that of a word which may be read or written by way of the operand
pub record MayReach (m : Setting) (c : Core) (base : Operand) (address : ℕ) : Type 0 where
  pub reached : reaches m (at c 0 0 0 0).state (at c 0 0 0 0).marks base address ≡ true

-- a word that may be read was written
pub record MayRead (m : Setting) (c : Core) (base : Operand) (address : ℕ) : Type 0 where
  pub reached : MayReach m c base address
  pub written : is_written (at c 0 0 0 0).state (at c 0 0 0 0).marks address ≡ true
