-- What cells stand for: data, names and the names around a form.
use Rattle.std.specs.Prelude.{◌≡◌, ℕ, ◌<◌, List, [], ◌∷◌, ◌++◌, map, slice_get, Option, Some, None}
use Rattle.t_base.specs.declared.basics.Name.{Name as NamePlace}
use Rattle.t_base.specs.declared.basics.Span.{Span}
use Rattle.t_base.specs.declared.basics.Var.{Var}
use Rattle.t_reader.specs.Grammar.{fix, char, nil, truth, string, symbol}
use Rattle.t_objects.specs.declared.words.Word.{Word}
use Rattle.t_objects.specs.Words.{word_named}
use Rattle.t_forms.specs.declared.arena.New.{New}
use Rattle.t_forms.specs.declared.arena.Form.{Form}
use Rattle.t_forms.specs.declared.arena.Form.TheVariants as form
use Rattle.t_forms.specs.declared.arena.Cell.{Cell}
use Rattle.t_forms.specs.declared.scope.LocalName.{LocalName}
use Rattle.t_forms.specs.declared.scope.LocalName.TheVariants as key
use Rattle.t_forms.specs.declared.scope.Local.{Local}
use Rattle.t_forms.specs.declared.scope.Defined.{Defined}
use Rattle.t_forms.specs.declared.scope.Defined.TheVariants as kept
use Rattle.t_forms.specs.declared.scope.Meant.{Meant}
use Rattle.t_forms.specs.declared.scope.Meant.TheVariants as meant
use Rattle.t_forms.specs.Data.{Atom, given, variable, builtin, operation, listing, Datum, atom, cons, count_of, Name, written, made}
use Rattle.t_forms.specs.Names.{Meaning, a_local, a_global, an_op, the_builtin, the_operation, the_truth, the_listing, none, Bound, Scope, defined_as}

abbrev pub cell : Span → Form → Cell
cell s f = record { span = s; form = f }

-- ---- data

-- a symbol is a reserved word, or a name that stands among the names
abbrev pub IsSymbol : List (List ℕ) → Form → List ℕ → Option Word → Type 0
IsSymbol names f text (Some w) = f ≡ form.Word w
IsSymbol names f text None = (n : NamePlace) × (f ≡ form.Sym n) × (slice_get names n.0 ≡ Some text)

abbrev pub IsAtom : List (List ℕ) → Form → Atom → Type 0
IsAtom names f (given (fix z)) = f ≡ form.Fix z
IsAtom names f (given (char c)) = f ≡ form.Char c
IsAtom names f (given nil) = f ≡ form.Nil
IsAtom names f (given truth) = f ≡ form.True
IsAtom names f (given (string bytes)) = f ≡ form.Str bytes
IsAtom names f (given (symbol text)) = IsSymbol names f text (word_named text)
IsAtom names f (variable v) = f ≡ form.Variable v
IsAtom names f (builtin p) = f ≡ form.Builtin p
IsAtom names f (operation o) = f ≡ form.Operation o
IsAtom names f listing = f ≡ form.Listing

-- Held: the cell is the datum. Continues: the cell goes on the list that the datum is, or ends it; there spans aren't looked at.
-- The cells of a pair's parts stand before it.
abbrev mutual
  pub Held : List (List ℕ) → List Cell → ℕ → Datum → Type 0
  Held names cells k (atom s a) = (f : Form) × (slice_get cells k ≡ Some (cell s f)) × IsAtom names f a
  Held names cells k (cons s head tail) =
      (i : ℕ) × (j : ℕ) × (slice_get cells k ≡ Some (cell s (form.Pair i j (count_of (cons s head tail))))) × (i < k) × (j < k)
      × Held names cells i head × Continues names cells j tail

  pub Continues : List (List ℕ) → List Cell → ℕ → Datum → Type 0
  Continues names cells k (atom s a) = (u : Span) × (f : Form) × (slice_get cells k ≡ Some (cell u f)) × IsAtom names f a
  Continues names cells k (cons s head tail) =
      (u : Span) × (i : ℕ) × (j : ℕ) × (slice_get cells k ≡ Some (cell u (form.Pair i j (count_of (cons s head tail))))) × (i < k) × (j < k)
      × Held names cells i head × Continues names cells j tail

-- the cells are the data, one for each
abbrev pub AllHeld : List (List ℕ) → List Cell → List ℕ → List Datum → Type 0
AllHeld names cells [] [] = Unit {0}
AllHeld names cells (k ∷ ks) (d ∷ ds) = Held names cells k d × AllHeld names cells ks ds
AllHeld names cells _ _ = ⊥

-- how many items the cell of a list keeps
abbrev pub count_form : Form → Option ℕ
count_form (form.Pair i j n) = n
count_form form.Nil = Some 0
count_form _ = None

-- the second list of cells goes on the first
pub record Extends (cells larger : List Cell) : Type 0 where
  pub more : List Cell
  pub is : larger ≡ cells ++ more

-- ---- names

abbrev pub IsName : List (List ℕ) → LocalName → Name → Type 0
IsName names k (written text) = (n : NamePlace) × (k ≡ key.Written n) × (slice_get names n.0 ≡ Some text)
IsName names k (made v) = k ≡ key.Made v

abbrev pub AreNames : List (List ℕ) → List LocalName → List Name → Type 0
AreNames names [] [] = Unit {0}
AreNames names (k ∷ ks) (n ∷ ns) = IsName names k n × AreNames names ks ns
AreNames names _ _ = ⊥

-- what the unit defines the name as
abbrev pub IsDefined : Option Defined → Option Meaning → Type 0
IsDefined d None = d ≡ None
IsDefined d (Some (a_global g assigned)) = d ≡ Some (kept.Global g assigned)
IsDefined d (Some (an_op o)) = d ≡ Some (kept.Operation o)
IsDefined d (Some _) = ⊥

-- the table says of each name among the names what the unit defines it as; nothing else is defined
pub record IsTable (names : List (List ℕ)) (table : List (Option Defined)) (bounds : List Bound) : Type 0 where
  pub texts : (n : ℕ) (text : List ℕ) → slice_get names n ≡ Some text → (d : Option Defined) × (slice_get table n ≡ Some d) × IsDefined d (defined_as bounds (written text))
  pub others : (v : New) → defined_as bounds (made v) ≡ None

-- what is around a form: the local names with their variables, the innermost first, and the table of the names that the unit defines
pub record Around : Type 0 where
  pub locals : List Local
  pub table : List (Option Defined)

abbrev pub vars_of : Around → List Var
vars_of a = map (λ l. l.var) a.locals

abbrev pub local : LocalName → Var → Local
local name var = record { name = name; var = var }

abbrev pub without_first : List Local → List Local
without_first [] = []
without_first (l ∷ others) = others

pub record IsScope (names : List (List ℕ)) (a : Around) (scope : Scope) : Type 0 where
  pub locals : AreNames names (map (λ l. l.name) a.locals) scope.locals
  pub table : IsTable names a.table scope.defined

-- what a name means, by the variables around
abbrev pub IsMeaning : List Var → Meant → Meaning → Type 0
IsMeaning vars m (a_local i) = (v : Var) × (m ≡ meant.Local v) × (slice_get vars i ≡ Some v)
IsMeaning vars m (a_global g assigned) = m ≡ meant.Global g assigned
IsMeaning vars m (an_op o) = m ≡ meant.Operation o
IsMeaning vars m (the_builtin p) = m ≡ meant.Builtin p
IsMeaning vars m (the_operation o) = m ≡ meant.BuiltinOperation o
IsMeaning vars m the_truth = m ≡ meant.Truth
IsMeaning vars m the_listing = m ≡ meant.Listing
IsMeaning vars m none = m ≡ meant.Nothing
