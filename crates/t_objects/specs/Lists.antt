-- Data as lists, and the names in them.
use Rattle.std.specs.Prelude.{◌≡◌, ℕ, ◌<◌, Bool, true, false, not, ◌&&◌, ◌||◌, is_some, List, slice_get, Option, Some, None}
use Rattle.t_base.specs.declared.basics.Name.{Name}
use Rattle.t_reader.specs.Grammar.{Tree, leaf, pair, nil, symbol}
use Rattle.t_reader.specs.Unit.{Holds}
use Rattle.t_reader.specs.declared.unit.Node.{Node}
use Rattle.t_objects.specs.declared.words.Word.{Word}
use Rattle.t_objects.specs.Words.{word_named}

abbrev pub is_nil : Tree → Bool
is_nil (leaf s nil) = true
is_nil _ = false

abbrev pub symbol_of : Tree → Option (List ℕ)
symbol_of (leaf s (symbol text)) = Some text
symbol_of _ = None

abbrev pub word_in : Option (List ℕ) → Option Word
word_in None = None
word_in (Some text) = word_named text

-- the reserved word that a datum is
abbrev pub word_of : Tree → Option Word
word_of t = word_in (symbol_of t)

abbrev pub unless_reserved : Option Word → Option (List ℕ) → Option (List ℕ)
unless_reserved None text = text
unless_reserved (Some w) text = None

-- the name that a datum is: a symbol that isn't a reserved word
abbrev pub name_of : Tree → Option (List ℕ)
name_of t = unless_reserved (word_of t) (symbol_of t)

-- a list, whose items are names where that is wanted
abbrev pub is_list_of : Bool → Tree → Bool
is_list_of names (leaf s v) = is_nil (leaf s v)
is_list_of names (pair s head tail) = (not names || is_some (name_of head)) && is_list_of names tail

-- ---- what is found among the nodes of a unit

-- the parts of the datum at a place, which stand at lower ones
abbrev pub ArePartsOf : List (List ℕ) → List Node → ℕ → Tree → Option (ℕ × ℕ) → Type 0
ArePartsOf names nodes key (leaf s v) parts = parts ≡ None
ArePartsOf names nodes key (pair s head tail) parts =
    (i : ℕ) × (j : ℕ) × (parts ≡ Some (i, j)) × (i < key) × (j < key) × Holds names nodes i head × Holds names nodes j tail

-- the name is the place of the text
abbrev pub IsPlaceOf : List (List ℕ) → Option (List ℕ) → Option Name → Type 0
IsPlaceOf names None name = name ≡ None
IsPlaceOf names (Some text) name = (n : Name) × (name ≡ Some n) × (slice_get names n.0 ≡ Some text)
