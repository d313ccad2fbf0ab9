-- The grammar of a text, and its first fault.
use Rattle.std.specs.Prelude.{◌≡◌, ℕ, ◌-◌, ◌<◌, Bool, true, false, ◌==◌, nat_lt, if◌then◌else◌, List, [], ◌∷◌, ◌++◌, ℤ, length, take, map, slice_range, Option, Some, None, codes}
use Rattle.std.specs.Char.{to_ascii_lowercase}
use Rattle.t_base.specs.declared.basics.Span.{Span}
use Rattle.t_reader.specs.declared.fault.ReadKind.{ReadKind}
use Rattle.t_reader.specs.declared.fault.ReadKind.TheVariants.{Unclosed, ExtraClose, LoneDot, TooDeep}
use Rattle.t_reader.specs.declared.fault.ReadFault.{ReadFault}
use Rattle.t_reader.specs.declared.fault.ReadFault.TheVariants.{Fault}
use Rattle.t_reader.specs.declared.token.Atom.{Atom}
use Rattle.t_reader.specs.declared.token.Atom.TheVariants as atoms
use Rattle.t_reader.specs.declared.token.Word.{Word}
use Rattle.t_reader.specs.declared.token.Word.TheVariants as word
use Rattle.t_reader.specs.declared.token.Token.{Token}
use Rattle.t_reader.specs.Tokens.{token_at}

-- ---- data

pub data Value : Type 0 where
  fix : ℤ → Value
  char : ℕ → Value
  nil : Value
  truth : Value
  string : List ℕ → Value
  symbol : List ℕ → Value

-- a datum with its spans
pub data Tree : Type 0 where
  leaf : Span → Value → Tree
  pair : Span → Tree → Tree → Tree

abbrev pub span_of : Tree → Span
span_of (leaf s v) = s
span_of (pair s head tail) = s

-- ---- how data are written

-- The spans are those of the tokens: of an atom, or of each parenthesis, dot and quote mark.
mutual
  pub data Form : Type 0 where
    single : Atom → Span → Form
    listed : Span → Forms → Span → Form
    dotted : Span → Forms → Form → Span → Form → Span → Form
    quoted : Span → Form → Form

  pub data Forms : Type 0 where
    none : Forms
    more : Forms → Form → Forms

abbrev pub token : Word → Span → Token
token w s = record { word = w; span = s }

-- the tokens of a form
abbrev mutual
  pub written : Form → List Token
  written (single a s) = token (word.Atom a) s ∷ []
  written (listed open_ fs close) = token word.Open open_ ∷ written_all fs ++ token word.Close close ∷ []
  written (dotted open_ fs f dot tail close) =
      token word.Open open_ ∷ (written_all fs ++ written f) ++ token word.Dot dot ∷ written tail ++ token word.Close close ∷ []
  written (quoted mark f) = token word.Quote mark ∷ written f

  pub written_all : Forms → List Token
  written_all none = []
  written_all (more fs f) = written_all fs ++ written f

-- at most n lists and quote marks stand in one another
abbrev mutual
  pub IsWithin : ℕ → Form → Type 0
  IsWithin n (single a s) = Unit {0}
  IsWithin n (listed open_ fs close) = (0 < n) × AllWithin (n - 1) fs
  IsWithin n (dotted open_ fs f dot tail close) = (0 < n) × AllWithin (n - 1) fs × IsWithin (n - 1) f × IsWithin (n - 1) tail
  IsWithin n (quoted mark f) = (0 < n) × IsWithin (n - 1) f

  pub AllWithin : ℕ → Forms → Type 0
  AllWithin n none = Unit {0}
  AllWithin n (more fs f) = AllWithin n fs × IsWithin n f

-- ---- what a form stands for

-- the bytes of a string without the backslashes before quote marks and backslashes
abbrev pub unescaped : Bool → List ℕ → List ℕ
unescaped escaped [] = []
unescaped true (b ∷ bs) = b ∷ unescaped false bs
unescaped false (b ∷ bs) = if b == 92 then unescaped true bs else b ∷ unescaped false bs

-- the bytes between the quote marks of a string
abbrev pub inner : List ℕ → List ℕ
inner [] = []
inner (b ∷ bs) = take (length bs - 1) bs

-- what an atom of these bytes stands for
abbrev pub atom_value : List ℕ → Atom → Value
atom_value bytes (atoms.Fix z) = fix z
atom_value bytes (atoms.Char c) = char c
atom_value bytes atoms.Nil = nil
atom_value bytes atoms.True = truth
atom_value bytes atoms.Str = string (unescaped false (inner bytes))
atom_value bytes atoms.Sym = symbol (map to_ascii_lowercase bytes)

abbrev pub value : List ℕ → Atom → Span → Value
value text a s = atom_value (slice_range text s.start s.end) a

abbrev pub to : Span → Span → Span
to first last = record { start = first.start; end = last.end }

-- (quote d), with the span of the mark at the word
abbrev pub quotation : Span → Tree → Tree
quotation mark d =
    let s = to mark (span_of d) in
    pair s (leaf mark (symbol (codes "quote"))) (pair s d (leaf s nil))

-- Each pair of a list has the span of the list, and so has the Nil behind its last item.
abbrev mutual
  pub tree : List ℕ → Form → Tree
  tree text (single a s) = leaf s (value text a s)
  tree text (listed open_ fs close) = chain text (to open_ close) fs (leaf (to open_ close) nil)
  tree text (dotted open_ fs f dot tail close) =
      chain text (to open_ close) fs (pair (to open_ close) (tree text f) (tree text tail))
  tree text (quoted mark f) = quotation mark (tree text f)

  pub chain : List ℕ → Span → Forms → Tree → Tree
  chain text s none tail = tail
  chain text s (more fs f) tail = chain text s fs (pair s (tree text f) tail)

abbrev pub trees : List ℕ → Forms → List Tree
trees text none = []
trees text (more fs f) = trees text fs ++ tree text f ∷ []

-- ---- the text

-- the tokens from `from` on begin with ts
abbrev pub Begins : List ℕ → ℕ → List Token → Type 0
Begins text from [] = Unit {0}
Begins text from (t ∷ ts) = (t ≡ token_at text from) × Begins text t.span.end ts

-- the forms of the text
pub record AreForms (text : List ℕ) (fs : Forms) : Type 0 where
  pub end_token : Token
  pub at_end : end_token.word ≡ word.End
  pub tokens : Begins text 0 (written_all fs ++ end_token ∷ [])
  pub depth : AllWithin 400 fs

-- the data of the text
pub record Reads (text : List ℕ) (data_ : List Tree) : Type 0 where
  pub forms : Forms
  pub written : AreForms text forms
  pub data_are : data_ ≡ trees text forms

-- ---- what stands before a token that doesn't fit

-- complete forms, with the lists that are open and the quote marks that wait
pub data Before : Type 0 where
  outside : Forms → Before
  in_list : Before → Span → Forms → Before
  after_dot : Before → Span → Forms → Form → Span → Before
  after_tail : Before → Span → Forms → Form → Span → Form → Before
  after_mark : Before → Span → Before

abbrev pub tokens_of : Before → List Token
tokens_of (outside fs) = written_all fs
tokens_of (in_list b open_ fs) = tokens_of b ++ token word.Open open_ ∷ written_all fs
tokens_of (after_dot b open_ fs f dot) = tokens_of b ++ token word.Open open_ ∷ (written_all fs ++ written f) ++ token word.Dot dot ∷ []
tokens_of (after_tail b open_ fs f dot tail) =
    tokens_of b ++ token word.Open open_ ∷ (written_all fs ++ written f) ++ token word.Dot dot ∷ written tail
tokens_of (after_mark b mark) = tokens_of b ++ token word.Quote mark ∷ []

-- how many more lists and quote marks may open
abbrev pub room : Before → ℕ
room (outside fs) = 400
room (in_list b open_ fs) = room b - 1
room (after_dot b open_ fs f dot) = room b - 1
room (after_tail b open_ fs f dot tail) = room b - 1
room (after_mark b mark) = room b - 1

abbrev pub TakesDatum : Before → Type 0
TakesDatum (after_tail b open_ fs f dot tail) = ⊥
TakesDatum _ = Unit {0}

abbrev pub IsSound : Before → Type 0
IsSound (outside fs) = AllWithin 400 fs
IsSound (in_list b open_ fs) = IsSound b × TakesDatum b × (0 < room b) × AllWithin (room b - 1) fs
IsSound (after_dot b open_ fs f dot) = IsSound b × TakesDatum b × (0 < room b) × AllWithin (room b - 1) (more fs f)
IsSound (after_tail b open_ fs f dot tail) =
    IsSound b × TakesDatum b × (0 < room b) × AllWithin (room b - 1) (more fs f) × IsWithin (room b - 1) tail
IsSound (after_mark b mark) = IsSound b × TakesDatum b × (0 < room b)

-- ---- the faults of structure

abbrev pub close_kind : Before → Option ReadKind
close_kind (outside fs) = Some ExtraClose
close_kind (after_mark b mark) = Some ExtraClose
close_kind (after_dot b open_ fs f dot) = Some LoneDot
close_kind _ = None

abbrev pub dot_kind : Before → Option ReadKind
dot_kind (in_list b open_ (more fs f)) = None
dot_kind _ = Some LoneDot

-- of a token that begins a datum
abbrev pub datum_kind : Before → Option ReadKind
datum_kind (after_tail b open_ fs f dot tail) = Some LoneDot
datum_kind _ = None

-- of a parenthesis or quote mark that opens
abbrev pub open_kind : Before → Option ReadKind
open_kind (after_tail b open_ fs f dot tail) = Some LoneDot
open_kind b = if nat_lt 0 (room b) then None else Some TooDeep

-- at the end of the text
abbrev pub end_fault : Before → Option ReadFault
end_fault (outside fs) = None
end_fault (in_list b open_ fs) = Some (Fault Unclosed open_)
end_fault (after_dot b open_ fs f dot) = Some (Fault Unclosed open_)
end_fault (after_tail b open_ fs f dot tail) = Some (Fault Unclosed open_)
end_fault (after_mark b mark) = Some (Fault Unclosed mark)

abbrev pub at : Span → Option ReadKind → Option ReadFault
at s None = None
at s (Some k) = Some (Fault k s)

-- the token's own fault, or what is wrong with it where it stands
abbrev pub fault_of : Before → Word → Span → Option ReadFault
fault_of b word.Open s = at s (open_kind b)
fault_of b word.Close s = at s (close_kind b)
fault_of b word.Quote s = at s (open_kind b)
fault_of b word.Dot s = at s (dot_kind b)
fault_of b (word.Atom a) s = at s (datum_kind b)
fault_of b (word.Bad k) s = Some (Fault k s)
fault_of b word.End s = end_fault b

-- the first fault of the text
pub record FirstFault (text : List ℕ) (f : ReadFault) : Type 0 where
  pub before : Before
  pub sound : IsSound before
  pub bad_token : Token
  pub tokens : Begins text 0 (tokens_of before ++ bad_token ∷ [])
  pub fault : fault_of before bad_token.word bad_token.span ≡ Some f
