-- The reserved words.
use Rattle.std.specs.Prelude.{ℕ, if◌then◌else◌, List, [], ◌∷◌, Option, Some, None, codes}
use Rattle.std.specs.Str.{bytes_eq}
use Rattle.t_objects.specs.declared.words.Word.{Word}
use Rattle.t_objects.specs.declared.words.Word.TheVariants.{Quote, Lambda, If, Cond, And, Or, Case, Block, Let, LetStar, Labels, Iterate, Do, Set, Lset, Define, Catch, Object, DefineOperation, Locative, Else, Arrow}

-- how each is written
abbrev pub spellings : List (List ℕ × Word)
spellings =
    (codes "quote", Quote) ∷ (codes "lambda", Lambda) ∷ (codes "if", If) ∷ (codes "cond", Cond) ∷ (codes "and", And) ∷ (codes "or", Or)
    ∷ (codes "case", Case) ∷ (codes "block", Block) ∷ (codes "let", Let) ∷ (codes "let*", LetStar) ∷ (codes "labels", Labels)
    ∷ (codes "iterate", Iterate) ∷ (codes "do", Do) ∷ (codes "set", Set) ∷ (codes "lset", Lset) ∷ (codes "define", Define)
    ∷ (codes "catch", Catch) ∷ (codes "object", Object) ∷ (codes "define-operation", DefineOperation) ∷ (codes "locative", Locative)
    ∷ (codes "else", Else) ∷ (codes "=>", Arrow) ∷ []

-- what the text is written for in a list of spellings
abbrev pub spelled : {A : Type 0} → List (List ℕ × A) → List ℕ → Option A
spelled [] text = None
spelled (s ∷ others) text = if bytes_eq text s.0 then Some s.1 else spelled others text

abbrev pub word_named : List ℕ → Option Word
word_named text = spelled spellings text
