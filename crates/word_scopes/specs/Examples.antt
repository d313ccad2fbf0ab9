-- Programs that meet a variable without a word.
use Rattle.std.specs.Prelude.{ℕ, List, [], ◌∷◌, refl}
use Rattle.std.specs.Global.{Global}
use Rattle.program_runs.specs.Follows.{after}
use Rattle.word_ir.specs.declared.placed.Home.{Home}
use Rattle.word_ir.specs.declared.placed.Home.TheVariants.{D, A}
use Rattle.word_ir.specs.declared.words.StaticWord.TheVariants as first
use Rattle.word_ir.specs.declared.words.Words.{Words}
use Rattle.word_ir.specs.Rows.{small, unbound}
use Rattle.word_ir.specs.State.{Setting, start}
use Rattle.word_ir.specs.Step.{step}
use Rattle.word_ir.specs.Writing.{vec_of}
use Rattle.word_scopes.specs.Ahead.{EntersShort, MeetsUnbound}

-- behind so many steps an Enter brings too little, and behind so many a variable without a word is used
pub record MeetsUnboundIn (m : Setting) (entered met : ℕ) : Type 0 where
  pub short : EntersShort m (after (step m) entered (start m))
  pub meets : MeetsUnbound m (after (step m) met (start m))

abbrev pub MeetsUnboundAt : (Global → Words) → List Home → ℕ → ℕ → Type 0
MeetsUnboundAt words homes entered met = (alloc : Global) → MeetsUnboundIn (record { words = words alloc; homes = homes; sizes = small }) entered met

-- the same program with one more static word, since with homes their count is even
abbrev pub unbound_at_home : Global → Words
unbound_at_home alloc = record (unbound alloc) { statics = vec_of alloc (first.Code 1 ∷ first.Word 0 ∷ []) refl }

abbrev pub three_homes : List Home
three_homes = D 0 ∷ A 1 ∷ D 2 ∷ []
