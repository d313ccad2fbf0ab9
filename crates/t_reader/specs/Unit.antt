-- A unit: the data of a text as nodes, and when it is whole.
use Rattle.std.specs.Prelude.{◌≡◌, ◌≢◌, ℕ, ◌+◌, ◌^◌, ◌<◌, ◌≤◌, ◌==◌, max, nat_le, IsTrue, List, [], ◌∷◌, ◌++◌, length, map, fold, codes, slice_get, slice_range, AllPairs, Some, count_by}
use Rattle.std.specs.List.{flat_map, list_all, sum_by}
use Rattle.std.specs.Char.{to_ascii_lowercase}
use Rattle.t_base.specs.Texts.{with_text}
use Rattle.t_base.specs.declared.basics.Span.{Span}
use Rattle.t_base.specs.declared.basics.Name.{Name}
use Rattle.t_reader.specs.declared.unit.Datum.{Datum}
use Rattle.t_reader.specs.declared.unit.Datum.TheVariants.{Fix, Char, Nil, True, Str, Sym, Pair}
use Rattle.t_reader.specs.declared.unit.Node.{Node}
use Rattle.t_reader.specs.declared.unit.Unit.{Unit as TextUnit}
use Rattle.t_reader.specs.declared.token.Atom.TheVariants as atoms
use Rattle.t_reader.specs.declared.token.Word.TheVariants as word
use Rattle.t_reader.specs.declared.token.Word.{Word}
use Rattle.t_reader.specs.declared.token.Token.{Token}
use Rattle.t_reader.specs.Tokens.{IsFixnum, are_ascii, is_name}
use Rattle.t_reader.specs.Grammar.{Value, fix, char, nil, truth, string, symbol, Tree, leaf, pair, trees, Forms, AreForms, written_all}

-- ---- what the nodes stand for

abbrev pub IsValue : List (List ℕ) → Datum → Value → Type 0
IsValue names d (fix z) = d ≡ Fix z
IsValue names d (char c) = d ≡ Char c
IsValue names d nil = d ≡ Nil
IsValue names d truth = d ≡ True
IsValue names d (string bytes) = d ≡ Str bytes
IsValue names d (symbol bytes) = (n : Name) × (d ≡ Sym n) × (slice_get names n.0 ≡ Some bytes)

abbrev pub node : Span → Datum → Node
node s d = record { span = s; datum = d }

-- The node stands for the tree. Children stand before their parent.
abbrev pub Holds : List (List ℕ) → List Node → ℕ → Tree → Type 0
Holds names nodes key (leaf s v) = (d : Datum) × (slice_get nodes key ≡ Some (node s d)) × IsValue names d v
Holds names nodes key (pair s h t) =
    (i : ℕ) × (j : ℕ) × (slice_get nodes key ≡ Some (node s (Pair i j))) × (i < key) × (j < key) × Holds names nodes i h × Holds names nodes j t

-- the nodes stand for the trees, each for one
abbrev pub HoldTrees : List (List ℕ) → List Node → List ℕ → List Tree → Type 0
HoldTrees names nodes keys [] = keys ≡ []
HoldTrees names nodes keys (t ∷ ts) = (key : ℕ) × (others : List ℕ) × (keys ≡ key ∷ others) × Holds names nodes key t × HoldTrees names nodes others ts

-- ---- when a unit is whole

-- how deep a datum nests, as lists and quote marks do in a text
abbrev pub nest : Tree → ℕ
nest (leaf s v) = 0
nest (pair s head tail) = max (nest head + 1) (nest tail)

abbrev pub children : Datum → List ℕ
children (Pair head tail) = head ∷ tail ∷ []
children _ = []

-- the places that the pairs name
abbrev pub named_by : List Node → List ℕ
named_by nodes = flat_map (λ n. children n.datum) nodes

-- how often a place stands among the places
abbrev pub count_of : ℕ → List ℕ → ℕ
count_of k keys = count_by (λ j. j == k) keys

-- the datum at this place: its number, character, string, name or places are in range
abbrev pub IsWholeDatum : List (List ℕ) → ℕ → Datum → Type 0
IsWholeDatum names key (Fix z) = IsFixnum z
IsWholeDatum names key (Char c) = c ≤ 127
IsWholeDatum names key (Str bytes) = IsTrue (are_ascii bytes)
IsWholeDatum names key (Sym n) = n.0 < length names
IsWholeDatum names key (Pair head tail) = (head < key) × (tail < key)
IsWholeDatum names key _ = Unit {0}

-- the names that each unit has
abbrev pub fixed_names : List (List ℕ)
fixed_names = codes "setter" ∷ codes "contents" ∷ codes "set-contents" ∷ []

-- The forms stand for data. Each node is named once, as a form or by one pair.
pub record IsWhole (u : TextUnit) : Type 0 where
  pub data_ : List Tree
  pub held : HoldTrees u.names u.nodes.items u.forms.items data_
  pub shallow : IsTrue (list_all (λ t. nat_le (nest t) 400) data_)
  pub data_whole : (k : ℕ) (n : Node) → slice_get u.nodes.items k ≡ Some n → IsWholeDatum u.names k n.datum
  pub named_once : (k : ℕ) → k < length u.nodes.items → count_of k u.forms.items + count_of k (named_by u.nodes.items) ≡ 1
  pub few : length u.nodes.items ≤ 2 ^ 26
  pub names_whole : IsTrue (list_all is_name u.names)
  pub names_distinct : AllPairs (λ a b. a ≢ b) u.names
  pub names_begin : (others : List (List ℕ)) × (u.names ≡ fixed_names ++ others)

-- ---- the unit of a text

-- the symbol that a token of these bytes is
abbrev pub symbols_by : Word → List ℕ → List (List ℕ)
symbols_by word.Quote bytes = codes "quote" ∷ []
symbols_by (word.Atom atoms.Sym) bytes = map to_ascii_lowercase bytes ∷ []
symbols_by _ bytes = []

abbrev pub symbols_of : List ℕ → Token → List (List ℕ)
symbols_of text t = symbols_by t.word (slice_range text t.span.start t.span.end)

-- the names of a text: the fixed ones, then its other symbols, each where it comes first
abbrev pub names_of : List ℕ → Forms → List (List ℕ)
names_of text fs = fold with_text fixed_names (flat_map (symbols_of text) (written_all fs))

abbrev pub string_length : Datum → ℕ
string_length (Str bytes) = length bytes
string_length _ = 0

-- the bytes of all strings
abbrev pub string_bytes : List Node → ℕ
string_bytes nodes = sum_by (λ n. string_length n.datum) nodes

-- The unit has the data and the names of the text. Names and strings have at most 2 ^ 12 bytes more than the text.
pub record IsUnitOf (text : List ℕ) (u : TextUnit) : Type 0 where
  pub forms : Forms
  pub written : AreForms text forms
  pub held : HoldTrees u.names u.nodes.items u.forms.items (trees text forms)
  pub names_are : u.names ≡ names_of text forms
  pub short : sum_by length u.names + string_bytes u.nodes.items ≤ length text + 2 ^ 12
