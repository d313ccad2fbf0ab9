-- What stands in static words: first what runs change, then, each from an even place on, what a program names.
use Rattle.std.specs.Prelude.{ℕ, ◌+◌, ◌*◌, ◌%◌, ◌==◌, Bool, false, List, [], ◌∷◌, ◌++◌, length, replicate, Option, option_map}
use Rattle.t_base.specs.declared.builtins.Builtin.{Builtin}
use Rattle.t_prim.specs.Values.{Text}
use Rattle.t_prim.specs.Identity.{number_of, is_same_text}
use Rattle.word_ir.specs.Word.{Word, Number}
use Rattle.word_ir.specs.Storage.{STATICS_START}
use Rattle.frame_ir.specs.Values.{even}
use Rattle.frame_words.specs.Segments.{place_of}

-- the closure of a block that captures nothing, a builtin, an operation, a string, a symbol, a quoted pair, the methods of a template
pub data Fixed : Type 0 where
  ClosureOf : (block : ℕ) → Fixed
  BuiltinOf : (builtin : Builtin) → Fixed
  OperationOf : (place : ℕ) → Fixed
  TextOf : (text : Text) → Fixed
  SymbolOf : (name : ℕ) → Fixed
  PairOf : (place : ℕ) → Fixed
  TemplateOf : (place : ℕ) → Fixed

abbrev pub same_fixed : Fixed → Fixed → Bool
same_fixed (ClosureOf a) (ClosureOf b) = a == b
same_fixed (BuiltinOf p) (BuiltinOf q) = number_of p == number_of q
same_fixed (OperationOf a) (OperationOf b) = a == b
same_fixed (TextOf t) (TextOf u) = is_same_text t u
same_fixed (SymbolOf a) (SymbolOf b) = a == b
same_fixed (PairOf a) (PairOf b) = a == b
same_fixed (TemplateOf a) (TemplateOf b) = a == b
same_fixed _ _ = false

-- How many globals there are and what stands behind them, in order; the blocks of words that enter the code of a closure, of a method, of a
-- builtin, and of an operation's default; the place of a name in the image's list; the bytes of a string; the operations and codes of a template.
pub record Layout : Type 0 where
  pub globals : ℕ
  pub fixed : List Fixed
  pub closure_entry : ℕ → ℕ
  pub method_entry : ℕ → ℕ
  pub builtin_entry : Builtin → ℕ
  pub default_entry : ℕ → Option ℕ
  pub listed : ℕ → ℕ
  pub bytes : Text → List ℕ
  pub methods : ℕ → List (ℕ × ℕ)

-- ---- the words that runs change

-- the innermost live escape, or Nil; what two arms leave for the block where they meet; operands 6 to 20 of a call; the globals
abbrev pub INNER : ℕ
INNER = 0

abbrev pub PASS : ℕ
PASS = 1

abbrev pub OPERANDS : ℕ
OPERANDS = 2

abbrev pub GLOBALS : ℕ
GLOBALS = 17

abbrev pub front_words : Layout → ℕ
front_words l = even (GLOBALS + l.globals)

-- ---- how many words each thing has

-- up to an even count
abbrev pub padded : List Word → List Word
padded words = words ++ replicate (length words % 2) (Number 0)

-- four bytes a word, the first one highest, and zeros behind the last
abbrev pub packed : List ℕ → List ℕ
packed [] = []
packed (a ∷ []) = (a * 16777216) ∷ []
packed (a ∷ b ∷ []) = (a * 16777216 + b * 65536) ∷ []
packed (a ∷ b ∷ c ∷ []) = (a * 16777216 + b * 65536 + c * 256) ∷ []
packed (a ∷ b ∷ c ∷ d ∷ rest) = (a * 16777216 + b * 65536 + c * 256 + d) ∷ packed rest

abbrev pub fixed_words : Layout → Fixed → ℕ
fixed_words l (ClosureOf block) = 4
fixed_words l (BuiltinOf p) = 2
fixed_words l (OperationOf o) = 4
fixed_words l (TextOf t) = even (2 + length (packed (l.bytes t)))
fixed_words l (SymbolOf n) = 4
fixed_words l (PairOf k) = 2
fixed_words l (TemplateOf t) = even (2 * length (l.methods t) + 1)

-- the place among what stands behind the globals
abbrev pub fixed_place : Layout → Fixed → Option ℕ
fixed_place l x = place_of same_fixed (fixed_words l) l.fixed x

abbrev pub fixed_address : Layout → Fixed → Option ℕ
fixed_address l x = option_map (λ p. STATICS_START + 4 * (front_words l + p)) (fixed_place l x)
