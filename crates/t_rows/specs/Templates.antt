-- Forms that rows make, written as a text is: a list of pieces.
use Rattle.std.specs.Prelude.{ℕ, List, [], ◌∷◌, slice_get, Option, Some, None, codes}
use Rattle.t_base.specs.declared.basics.Span.{Span}
use Rattle.t_reader.specs.Grammar.{nil, truth, symbol}
use Rattle.t_objects.specs.declared.words.Word.{Word}
use Rattle.t_objects.specs.declared.words.Word.TheVariants as word
use Rattle.t_forms.specs.Data.{Atom, given, variable, builtin, operation, listing, Datum, atom, listed, a_nil}
use Rattle.t_rows.specs.declared.templates.Piece.{Piece}
use Rattle.t_rows.specs.declared.templates.Piece.TheVariants as piece

-- how a reserved word is written
abbrev pub written_word : Word → List ℕ
written_word word.Quote = codes "quote"
written_word word.Lambda = codes "lambda"
written_word word.If = codes "if"
written_word word.Cond = codes "cond"
written_word word.And = codes "and"
written_word word.Or = codes "or"
written_word word.Case = codes "case"
written_word word.Block = codes "block"
written_word word.Let = codes "let"
written_word word.LetStar = codes "let*"
written_word word.Labels = codes "labels"
written_word word.Iterate = codes "iterate"
written_word word.Do = codes "do"
written_word word.Set = codes "set"
written_word word.Lset = codes "lset"
written_word word.Define = codes "define"
written_word word.Catch = codes "catch"
written_word word.Object = codes "object"
written_word word.DefineOperation = codes "define-operation"
written_word word.Locative = codes "locative"
written_word word.Else = codes "else"
written_word word.Arrow = codes "=>"

abbrev pub or_nil : Span → Option Datum → Datum
or_nil s None = a_nil s
or_nil s (Some d) = d

abbrev pub or_empty : Option (List Datum) → List Datum
or_empty None = []
or_empty (Some ds) = ds

-- the lists that are open, the innermost first, by the items that stand behind the piece
abbrev pub item : Datum → List (List Datum) → List (List Datum)
item d [] = []
item d (t ∷ outer) = (d ∷ t) ∷ outer

abbrev pub opened : Span → List (List Datum) → List (List Datum)
opened s (t ∷ u ∷ outer) = (listed s t ∷ u) ∷ outer
opened s lists = lists

abbrev pub ended : List Datum → List (List Datum) → List (List Datum)
ended ds [] = []
ended ds (t ∷ outer) = ds ∷ outer

-- the atom that a piece is; one that is none counts as Nil
abbrev pub atom_of : Piece → Atom
atom_of (piece.Word w) = given (symbol (written_word w))
atom_of (piece.Variable n) = variable n
atom_of (piece.Builtin p) = builtin p
atom_of (piece.Operation o) = operation o
atom_of piece.Listing = listing
atom_of piece.True = given truth
atom_of _ = given nil

-- the item that a piece is
abbrev pub item_of : Span → List Datum → Piece → Datum
item_of s ds (piece.Given i) = or_nil s (slice_get ds i)
item_of s ds p = atom s (atom_of p)

abbrev pub before : Span → List Datum → List (List Datum) → Piece → List (List Datum) → List (List Datum)
before s ds rests piece.Open lists = opened s lists
before s ds rests piece.Close lists = [] ∷ lists
before s ds rests (piece.Rest i) lists = ended (or_empty (slice_get rests i)) lists
before s ds rests p lists = item (item_of s ds p) lists

abbrev pub lists_from : Span → List Datum → List (List Datum) → List Piece → List (List Datum)
lists_from s ds rests [] = [] ∷ []
lists_from s ds rests (p ∷ pieces) = before s ds rests p (lists_from s ds rests pieces)

abbrev pub innermost : List (List Datum) → List Datum
innermost [] = []
innermost (t ∷ outer) = t

-- the list that the pieces between its parentheses stand for, with these data and these rests of lists
abbrev pub written_list : Span → List Datum → List (List Datum) → List Piece → Datum
written_list s ds rests pieces = listed s (innermost (lists_from s ds rests pieces))
