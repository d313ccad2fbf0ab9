-- Where whole programs of words lack a word.
use Rattle.std.specs.Prelude.{ℕ, ◌⊎◌}
use Rattle.program_runs.specs.Follows.{after}
use Rattle.word_ir.specs.declared.placed.Placed.{Placed}
use Rattle.word_ir.specs.declared.words.Words.{Words}
use Rattle.word_ir.specs.Storage.{Sizes}
use Rattle.word_ir.specs.State.{Setting, start}
use Rattle.word_ir.specs.Step.{step, words_in, placed_in}
use Rattle.word_ir.specs.Ranges.{HasWords}
use Rattle.word_ir.specs.Whole.{IsWhole}
use Rattle.word_ir.specs.WholePlaced.{IsWholePlaced}
use Rattle.word_scopes.specs.Ahead.{HasVariables, EnteredShort, MeetsUnbound}

-- a whole program, without homes and with them, in a heap and a stack of some sizes
pub data IsWholeIn : Setting → Type 0 where
  Plain : (words : Words) (sizes : Sizes) → IsWhole words → IsWholeIn (words_in words sizes)
  Homed : (placed : Placed) (sizes : Sizes) → HasWords sizes → IsWholePlaced placed → IsWholeIn (placed_in placed sizes)

-- Behind n steps a call has brought too little, or all is there that is used; so what is carried out lacks no word.
pub record IsServed (m : Setting) (n : ℕ) : Type 0 where
  pub variables : EnteredShort m n ⊎ HasVariables m (after (step m) n (start m))
  pub lacking : MeetsUnbound m (after (step m) n (start m)) → EnteredShort m n

abbrev pub VariablesHaveWords : Type 0
VariablesHaveWords = (m : Setting) → IsWholeIn m → (n : ℕ) → IsServed m n
