-- A step at a line, by what the line does.
use Rattle.std.proofs.Common.{◌≡◌, ℕ, true, List, [], ◌∷◌, Some, refl, map}
use Rattle.std.specs.List.{list_all}
use Rattle.std.proofs.lemmas.Bool.{and_from}
use Rattle.word_ir.specs.declared.operands.Operand.{Operand}
use Rattle.word_ir.specs.declared.operands.Operand.TheVariants as operand
use Rattle.word_ir.specs.declared.words.Words.{Words}
use Rattle.word_ir.specs.Storage.{Sizes}
use Rattle.word_ir.specs.Lines.{Line, line_at, moves_of}
use Rattle.word_ir.specs.State.{Setting}
use Rattle.word_ir.specs.Effects.{Effect, word_of, line_effect}
use Rattle.word_ir.specs.Step.{step, changed, moving, words_in}
use Rattle.word_ir.specs.Stamps.{Stamped, stamped_step, line_may, marked, counted, operand_may, stamp_of, reaches}
use Rattle.word_trees.specs.Cores.{Core, at, word_in, stamp_in}

module _ (words : Words) (sizes : Sizes) (c : Core) (block place moves steps : ℕ) where
  abbrev pub now : Stamped
  now = at c block place moves steps

  abbrev pub within : Setting
  within = words_in words sizes

  line_is : (line : Line) (e : Effect) → line_at words block place ≡ Some line → line_effect within now.state line ≡ e → step within now.state ≡ moving (moves_of line) (changed now.state e)
  unfolding step
  line_is line e here effect = rw (here, effect) refl

  -- a line with its effect, which the stamps allow
  pub line_steps : (line : Line) (e : Effect) → line_at words block place ≡ Some line → line_effect within now.state line ≡ e → line_may within now.state now.marks line ≡ true → stamped_step within now ≡ record { state = moving (moves_of line) (changed now.state e); marks = counted (marked within now.state now.marks line e) }
  unfolding stamped_step
  line_steps line e here effect may = rw (here, may, effect, line_is line e here effect) refl

  -- ---- operands

  pub word_at_core : (x : Operand) → word_of within now.state x ≡ word_in c x
  word_at_core (operand.Var v) = refl
  word_at_core (operand.Word n) = refl
  word_at_core (operand.Static p) = refl
  word_at_core (operand.Code b) = refl
  word_at_core (operand.Slot n) = refl

  pub words_at_core : (xs : List Operand) → map (word_of within now.state) xs ≡ map (word_in c) xs
  words_at_core [] = refl
  words_at_core (x ∷ xs) = rw (word_at_core x, words_at_core xs) refl

  pub stamp_at_core : (x : Operand) → stamp_of within now.state now.marks x ≡ stamp_in within c x
  stamp_at_core (operand.Var v) = refl
  stamp_at_core (operand.Word n) = refl
  stamp_at_core (operand.Static p) = refl
  stamp_at_core (operand.Code b) = refl
  stamp_at_core (operand.Slot n) = refl

  pub stamps_at_core : (xs : List Operand) → map (stamp_of within now.state now.marks) xs ≡ map (stamp_in within c) xs
  stamps_at_core [] = refl
  stamps_at_core (x ∷ xs) = rw (stamp_at_core x, stamps_at_core xs) refl

  pub may_use : (x : Operand) → operand_may within now.state now.marks x ≡ true
  may_use (operand.Var v) = refl
  may_use (operand.Word n) = refl
  may_use (operand.Static p) = refl
  may_use (operand.Code b) = refl
  may_use (operand.Slot n) = refl

  pub may_use_all : (xs : List Operand) → list_all (operand_may within now.state now.marks) xs ≡ true
  may_use_all [] = refl
  may_use_all (x ∷ xs) = and_from (operand_may within now.state now.marks x) (list_all (operand_may within now.state now.marks) xs) (may_use x) (may_use_all xs)

  pub reaches_at_core : (x : Operand) (address : ℕ) → reaches within now.state now.marks x address ≡ reaches within (at c 0 0 0 0).state (at c 0 0 0 0).marks x address
  reaches_at_core (operand.Var v) address = refl
  reaches_at_core (operand.Word n) address = refl
  reaches_at_core (operand.Static p) address = refl
  reaches_at_core (operand.Code b) address = refl
  reaches_at_core (operand.Slot n) address = refl
