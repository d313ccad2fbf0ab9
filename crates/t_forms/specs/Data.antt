-- Data as the table of forms reads them: those of the text, with what the rows of the table add.
use Rattle.std.specs.Prelude.{ℕ, ◌+◌, Bool, true, false, ◌==◌, if◌then◌else◌, is_none, pos, List, [], ◌∷◌, map, Option, Some, None}
use Rattle.std.specs.Option.{option_map}
use Rattle.std.specs.Str.{bytes_eq}
use Rattle.t_base.specs.declared.basics.Span.{Span}
use Rattle.t_base.specs.declared.builtins.Builtin.{Builtin}
use Rattle.t_reader.specs.Grammar.{Tree, leaf, pair, Value, fix, nil, truth, symbol}
use Rattle.t_forms.specs.declared.arena.New.{New}
use Rattle.t_forms.specs.declared.arena.New.TheVariants as new
use Rattle.t_objects.specs.declared.words.Word.{Word}
use Rattle.t_objects.specs.Words.{word_named}

-- what an atom is: an atom of the text, a new variable, or a thing that a row means whatever its name means in the unit
pub data Atom : Type 0 where
  given : Value → Atom
  variable : New → Atom
  builtin : Builtin → Atom
  -- one of the builtin operations: setter, contents, set-contents
  operation : ℕ → Atom
  -- the operator LIST
  listing : Atom

-- A datum with spans. What a row makes has the span of the datum to which the row was applied.
pub data Datum : Type 0 where
  atom : Span → Atom → Datum
  cons : Span → Datum → Datum → Datum

abbrev pub datum_of : Tree → Datum
datum_of (leaf s v) = atom s (given v)
datum_of (pair s head tail) = cons s (datum_of head) (datum_of tail)

abbrev pub span_of : Datum → Span
span_of (atom s a) = s
span_of (cons s head tail) = s

-- the items of a list; a dotted list and an atom have none
abbrev pub items_of : Datum → Option (List Datum)
items_of (atom s (given nil)) = Some []
items_of (atom s _) = None
items_of (cons s head tail) = option_map (λ items. head ∷ items) (items_of tail)

-- how many items it has as a list
abbrev pub count_of : Datum → Option ℕ
count_of (atom s (given nil)) = Some 0
count_of (atom s _) = None
count_of (cons s head tail) = option_map (λ n. n + 1) (count_of tail)

-- ---- what a row makes

abbrev pub listed : Span → List Datum → Datum
listed s [] = atom s (given nil)
listed s (d ∷ others) = cons s d (listed s others)

abbrev pub a_nil : Span → Datum
a_nil s = atom s (given nil)

abbrev pub a_true : Span → Datum
a_true s = atom s (given truth)

abbrev pub a_number : Span → ℕ → Datum
a_number s n = atom s (given (fix (pos n)))

abbrev pub a_variable : Span → New → Datum
a_variable s n = atom s (variable n)

abbrev pub a_builtin : Span → Builtin → Datum
a_builtin s p = atom s (builtin p)

abbrev pub an_operation : Span → ℕ → Datum
an_operation s o = atom s (operation o)

-- ---- names

-- what can be bound: a symbol of the text, or a new variable
pub data Name : Type 0 where
  written : List ℕ → Name
  made : New → Name

-- the same new variable
abbrev pub is_same_new : New → New → Bool
is_same_new new.Answer new.Answer = true
is_same_new new.Chosen new.Chosen = true
is_same_new new.Turn new.Turn = true
is_same_new new.Start new.Start = true
is_same_new new.Own new.Own = true
is_same_new new.Content new.Content = true
is_same_new (new.Part i) (new.Part j) = i == j
is_same_new _ _ = false

abbrev pub is_same_name : Name → Name → Bool
is_same_name (written a) (written b) = bytes_eq a b
is_same_name (made a) (made b) = is_same_new a b
is_same_name _ _ = false

abbrev pub unless_reserved : List ℕ → Option Name
unless_reserved text = if is_none (word_named text) then Some (written text) else None

-- the name that the datum is; a reserved word is none
abbrev pub name_of : Datum → Option Name
name_of (atom s (given (symbol text))) = unless_reserved text
name_of (atom s (variable n)) = Some (made n)
name_of _ = None

-- the reserved word that the datum is
abbrev pub word_of : Datum → Option Word
word_of (atom s (given (symbol text))) = word_named text
word_of _ = None

-- a name where it is bound or defined
pub record Binder : Type 0 where
  pub at : Span
  pub name : Name

abbrev pub binder : Span → Name → Binder
binder s n = record { at = s; name = n }

abbrev pub binder_of : Datum → Option Binder
binder_of d = option_map (binder (span_of d)) (name_of d)

-- all of them, if each is there
abbrev pub all_of : {A : Type 0} → List (Option A) → Option (List A)
all_of [] = Some []
all_of (None ∷ others) = None
all_of (Some x ∷ others) = option_map (λ xs. x ∷ xs) (all_of others)

abbrev pub binders_of : List Datum → Option (List Binder)
binders_of ds = all_of (map binder_of ds)

abbrev pub names : List Binder → List Name
names bs = map (λ b. b.name) bs
