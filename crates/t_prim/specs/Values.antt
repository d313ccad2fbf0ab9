-- Values, and the store that the builtins see and change. Closures, objects and escapes are numbers here, so that each form
-- of a program keeps what stands behind them in lists of its own.
use Rattle.std.specs.Prelude.{◌≡◌, ℕ, ◌+◌, ◌%◌, ◌≤◌, ℤ, List, [], ◌∷◌, ◌++◌, length, map, take, replicate, Option, None, Some, slice_get, slice_set}
use Rattle.program_runs.specs.Runs.{IsPrefix, Shown, Fixnum, Character, EmptyList, Truth, Symbol, Kind}
use Rattle.t_base.specs.declared.builtins.Builtin.{Builtin}
use Rattle.t_base.specs.declared.shared_parts.Const.{Const}
use Rattle.t_base.specs.declared.shared_parts.Const.TheVariants as Constant
use Rattle.t_base.specs.declared.shared_parts.Shared.{Shared}

-- a string: the literal at a place, or the print name of a symbol
pub data Text : Type 0 where
  Literal : (place : ℕ) → Text
  PrintName : (name : ℕ) → Text

-- a value; a pair, a vector and a string have a place in the store, a symbol and an operation one in the unit
pub data Val : Type 0 where
  FixV : (number : ℤ) → Val
  CharV : (code : ℕ) → Val
  NilV : Val
  TrueV : Val
  SymbolV : (name : ℕ) → Val
  StringV : (text : Text) → Val
  PairV : (place : ℕ) → Val
  VectorV : (place : ℕ) → Val
  ClosureV : (identity : ℕ) → Val
  ObjectV : (identity : ℕ) → Val
  OperationV : (place : ℕ) → Val
  BuiltinV : (builtin : Builtin) → Val
  EscapeV : (identity : ℕ) → Val

-- what the builtins see and change: the names and the string literals of the unit, which stay, the pairs and the vectors made
-- so far, the bytes put, and the words of heap taken
pub record Store : Type 0 where
  pub names : List (List ℕ)
  pub strings : List (List ℕ)
  pub pairs : List (Val × Val)
  pub vectors : List (List Val)
  pub output : List ℕ
  pub heap : ℕ

-- the value of a constant
abbrev pub val_of : Const → Val
val_of (Constant.Fix x) = FixV x
val_of (Constant.Char c) = CharV c
val_of Constant.Nil = NilV
val_of Constant.True = TrueV
val_of (Constant.Sym n) = SymbolV n.0
val_of (Constant.Str k) = StringV (Literal k)
val_of (Constant.Pair k) = PairV k

-- the store at the start: each quoted pair has its place, and nothing was put or taken
abbrev pub first_store : Shared → Store
first_store shared = record {
  names = shared.names;
  strings = shared.strings.items;
  pairs = map (λ p. (val_of p.0, val_of p.1)) shared.pairs.items;
  vectors = [];
  output = [];
  heap = 0;
}

-- the bytes of a string, where there is one
abbrev pub text_of : Store → Text → Option (List ℕ)
text_of s (Literal k) = slice_get s.strings k
text_of s (PrintName n) = slice_get s.names n

-- ---- changes

-- a new pair takes two words
abbrev pub with_new_pair : Store → Val → Val → Store
with_new_pair s head tail = record s { pairs = s.pairs ++ (head, tail) ∷ []; heap = s.heap + 2 }

-- words of heap of a vector: header, length and elements, rounded up to even
abbrev pub vector_words : ℕ → ℕ
vector_words n = 2 + n + n % 2

-- a new vector of so many equal elements
abbrev pub with_new_vector : Store → ℕ → Val → Store
with_new_vector s n v = record s { vectors = s.vectors ++ replicate n v ∷ []; heap = s.heap + vector_words n }

abbrev pub with_pair_at : Store → ℕ → Val × Val → Store
with_pair_at s k p = record s { pairs = slice_set s.pairs k p }

abbrev pub with_vector_at : Store → ℕ → List Val → Store
with_vector_at s k items = record s { vectors = slice_set s.vectors k items }

abbrev pub with_output : Store → List ℕ → Store
with_output s bytes = record s { output = s.output ++ bytes }

-- the second store has what the first one had, or more of it
pub record Grows (old new : Store) : Type 0 where
  pub names : new.names ≡ old.names
  pub strings : new.strings ≡ old.strings
  pub pairs : length old.pairs ≤ length new.pairs
  pub vectors : length old.vectors ≤ length new.vectors
  pub output : IsPrefix old.output new.output
  pub heap : old.heap ≤ new.heap

-- ---- how a value is shown

-- a symbol by at most so many bytes of its text
abbrev pub shown_bytes : ℕ
shown_bytes = 65535

abbrev pub shown_symbol : Option (List ℕ) → Shown
shown_symbol None = Symbol []
shown_symbol (Some text) = Symbol (take shown_bytes text)

abbrev pub shown_of : Store → Val → Shown
shown_of s (FixV x) = Fixnum x
shown_of s (CharV c) = Character c
shown_of s NilV = EmptyList
shown_of s TrueV = Truth
shown_of s (SymbolV n) = shown_symbol (slice_get s.names n)
shown_of s (StringV t) = Kind 3
shown_of s (PairV k) = Kind 1
shown_of s (VectorV k) = Kind 2
shown_of s (ClosureV i) = Kind 4
shown_of s (ObjectV i) = Kind 5
shown_of s (OperationV o) = Kind 6
shown_of s (BuiltinV p) = Kind 4
shown_of s (EscapeV i) = Kind 4
