-- What the lines from a state on use, and the calls that bring too little.
use Rattle.std.specs.Prelude.{◌≡◌, ℕ, ◌<◌, true, List, [], ◌∷◌, ◌++◌, length, drop, slice_get, Some, None, is_some, All, Contains}
use Rattle.std.specs.Option.{option_map_or}
use Rattle.t_base.specs.declared.basics.Var.{Var}
use Rattle.program_runs.specs.Follows.{after}
use Rattle.word_ir.specs.declared.operands.Operand.{Operand}
use Rattle.word_ir.specs.declared.operands.Operand.TheVariants as operand
use Rattle.word_ir.specs.declared.words.WordEnd.TheVariants as last
use Rattle.word_ir.specs.declared.words.WordBlock.{WordBlock}
use Rattle.word_ir.specs.declared.words.Words.{Words}
use Rattle.word_ir.specs.Word.{Code}
use Rattle.word_ir.specs.Lines.{Line, Last, line_at, lines_from, uses_of, binds_of}
use Rattle.word_ir.specs.State.{Setting, State, start}
use Rattle.word_ir.specs.Effects.{word_of}
use Rattle.word_ir.specs.Step.{step}
use Rattle.word_ir.specs.WholePlaced.{without}

-- ---- what is used

abbrev pub lines_behind : ℕ → WordBlock → List Line
lines_behind place block = lines_from (drop place block.ops.items) block.last

-- the lines of a block from a place on
abbrev pub lines_ahead : Words → ℕ → ℕ → List Line
lines_ahead words block place = option_map_or (lines_behind place) (slice_get words.blocks.items block) []

-- the variables whose words are used in lines, but for what an earlier one of them binds
abbrev pub used_ahead : List Line → List Var
used_ahead [] = []
used_ahead (line ∷ rest) = uses_of line ++ without (binds_of line) (used_ahead rest)

abbrev pub HasWord : Setting → State → Var → Type 0
HasWord m s v = is_some (word_of m s (operand.Var v)) ≡ true

-- each variable that the rest of the present block uses has a word
pub record HasVariables (m : Setting) (s : State) : Type 0 where
  pub ahead : All (HasWord m s) (used_ahead (lines_ahead m.words s.block s.place))

-- ---- what is missing

-- The line that is carried out is an Enter with fewer arguments than the code to which it leads has parameters.
pub record EntersShort (m : Setting) (s : State) : Type 0 where
  pub runs : s.end ≡ None
  pub code : Operand
  pub args : List Operand
  pub block : ℕ
  pub target : WordBlock
  pub line : line_at m.words s.block s.place ≡ Some (Last (last.Enter code args))
  pub leads : word_of m s code ≡ Some (Code block)
  pub there : slice_get m.words.blocks.items block ≡ Some target
  pub fewer : length args < length target.params

-- so it was in one of the first steps
pub record EnteredShort (m : Setting) (n : ℕ) : Type 0 where
  pub before : ℕ
  pub earlier : before < n
  pub short : EntersShort m (after (step m) before (start m))

-- The line that is carried out uses a variable that has no word.
pub record MeetsUnbound (m : Setting) (s : State) : Type 0 where
  pub runs : s.end ≡ None
  pub line : Line
  pub var : Var
  pub stands : line_at m.words s.block s.place ≡ Some line
  pub used : Contains (uses_of line) var
  pub lacks : word_of m s (operand.Var var) ≡ None
