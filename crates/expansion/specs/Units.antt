-- What a unit defines: its forms at top level, and what the names that they define mean.
use Rattle.std.specs.Prelude.{ℕ, ◌+◌, Bool, true, false, not, if◌then◌else◌, List, [], ◌∷◌, ◌++◌, map, fold, Option, Some, None, codes}
use Rattle.std.specs.List.{list_any, flat_map, filter}
use Rattle.std.specs.Str.{bytes_eq}
use Rattle.t_base.specs.declared.basics.Span.{Span}
use Rattle.t_reader.specs.Grammar.{symbol}
use Rattle.t_objects.specs.declared.words.Word.{Word}
use Rattle.t_objects.specs.declared.words.Word.TheVariants as word
use Rattle.t_forms.specs.Data.{Datum, atom, given, span_of, items_of, word_of, Name, written, made, is_same_name, Binder}
use Rattle.t_forms.specs.Names.{Meaning, Bound, bound, a_global, an_op, defined_as}
use Rattle.t_rows.specs.Rows.{Definition, define, lset, operation_form, definition_of_word}

-- a form at top level: one that defines a name, a defining form that is no row, or an expression
pub data Top : Type 0 where
  defining : Definition → Top
  broken : Span → Top
  expression : Datum → Top

abbrev pub is_defining : Option Word → Bool
is_defining (Some word.Define) = true
is_defining (Some word.Lset) = true
is_defining (Some word.DefineOperation) = true
is_defining _ = false

abbrev pub defining_or_broken : Span → Option Definition → Top
defining_or_broken s None = broken s
defining_or_broken s (Some d) = defining d

abbrev pub defines : Option (List Datum) → Bool
defines (Some (f ∷ ds)) = is_defining (word_of f)
defines _ = false

abbrev pub definition_of_items : Span → Option (List Datum) → Option Definition
definition_of_items s (Some (f ∷ ds)) = definition_of_word s ds (word_of f)
definition_of_items s _ = None

-- what a form at top level defines, where it is a row of a defining word
abbrev pub definition_in : Datum → Option Definition
definition_in d = definition_of_items (span_of d) (items_of d)

abbrev pub top_of : Datum → Top
top_of d = if defines (items_of d) then defining_or_broken (span_of d) (definition_in d) else expression d

-- (herald ..) in front is no form
abbrev pub is_herald_items : Option (List Datum) → Bool
is_herald_items (Some (atom s (given (symbol text)) ∷ ds)) = bytes_eq text (codes "herald")
is_herald_items _ = false

abbrev pub without_herald : List Datum → List Datum
without_herald [] = []
without_herald (d ∷ others) = if is_herald_items (items_of d) then others else d ∷ others

abbrev pub tops_of : List Datum → List Top
tops_of ds = map top_of (without_herald ds)

-- ---- what is defined

-- the name that a definition defines
abbrev pub defined_name : Definition → Binder
defined_name (define b d) = b
defined_name (lset b d) = b
defined_name (operation_form b ps d) = b

abbrev pub names_of : Top → List Name
names_of (defining d) = (defined_name d).name ∷ []
names_of _ = []

-- the names that these forms define, each as often as it is defined
abbrev pub names_defined : List Top → List Name
names_defined tops = flat_map names_of tops

abbrev pub is_global : Definition → Bool
is_global (operation_form b ps d) = false
is_global _ = true

abbrev pub is_assigned : Definition → Bool
is_assigned (lset b d) = true
is_assigned _ = false

-- what counts of a name: its first definition
pub record Entry : Type 0 where
  pub name : Name
  pub by : Definition

abbrev pub entry : Definition → Entry
entry d = record { name = (defined_name d).name; by = d }

abbrev pub has_entry : Name → List Entry → Bool
has_entry n entries = list_any (λ e. is_same_name e.name n) entries

-- the entries with that of a definition put last if its name is new
abbrev pub with_definition : List Entry → Definition → List Entry
with_definition entries d = if has_entry (defined_name d).name entries then entries else entries ++ entry d ∷ []

abbrev pub with_top : List Entry → Top → List Entry
with_top entries (defining d) = with_definition entries d
with_top entries _ = entries

abbrev pub entries_of : List Top → List Entry
entries_of tops = fold with_top [] tops

-- Globals are numbered from g and operations from o, each in the order of their entries.
abbrev pub meanings_from : ℕ → ℕ → List Entry → List Bound
meanings_from g o [] = []
meanings_from g o (e ∷ others) =
    if is_global e.by
    then bound e.name (a_global g (is_assigned e.by)) ∷ meanings_from (g + 1) o others
    else bound e.name (an_op o) ∷ meanings_from g (o + 1) others

-- what the names that the unit defines mean, in the whole unit; the first operations are the builtin ones
abbrev pub definitions_of : List Top → List Bound
definitions_of tops = meanings_from 0 3 (entries_of tops)

-- what the name that a definition defines means
abbrev pub meaning_of : List Bound → Definition → Option Meaning
meaning_of defined d = defined_as defined (defined_name d).name

-- ---- the names that a unit keeps

abbrev pub text_of : Name → List ℕ
text_of (written text) = text
text_of (made n) = []

abbrev pub texts : List Entry → List (List ℕ)
texts entries = map (λ e. text_of e.name) entries

-- of its globals
abbrev pub global_texts : List Top → List (List ℕ)
global_texts tops = texts (filter (λ e. is_global e.by) (entries_of tops))

-- of its operations, the builtin ones first
abbrev pub op_texts : List Top → List (List ℕ)
op_texts tops = codes "setter" ∷ codes "contents" ∷ codes "set-contents" ∷ texts (filter (λ e. not (is_global e.by)) (entries_of tops))
