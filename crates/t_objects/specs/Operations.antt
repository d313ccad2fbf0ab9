-- The operations that a unit defines.
use Rattle.std.specs.Prelude.{◌≡◌, ℕ, ◌<◌, length, Bool, true, false, not, ◌&&◌, List, [], ◌∷◌, ◌++◌, ◌==◌, fold, slice_get, Option, Some, None, if◌then◌else◌}
use Rattle.std.specs.List.{list_any}
use Rattle.t_base.specs.declared.basics.Name.{Name}
use Rattle.t_base.specs.declared.shared_parts.OpInfo.{OpInfo}
use Rattle.t_reader.specs.Grammar.{Tree, leaf, pair}
use Rattle.t_objects.specs.declared.words.Word.{Word}
use Rattle.t_objects.specs.declared.words.Word.TheVariants.{DefineOperation}
use Rattle.t_objects.specs.Lists.{is_nil, word_of, name_of, is_list_of}

-- an operation: its name, and whether it has a default
pub record Operation : Type 0 where
  pub name : List ℕ
  pub default : Bool

abbrev pub operation : Bool → List ℕ → Operation
operation default name = record { name = name; default = default }

abbrev pub is_pair : Tree → Bool
is_pair (pair s head tail) = true
is_pair (leaf s v) = false

-- the operation of this name, where the form that defines it is a row
abbrev pub operation_if : Bool → Bool → Option (List ℕ) → Option Operation
operation_if row default None = None
operation_if true default (Some name) = Some (operation default name)
operation_if false default (Some name) = None

-- what stands behind op in (op self x ..), before a body
abbrev pub is_operation_row : Tree → Tree → Bool
is_operation_row params body = is_pair params && is_list_of true params && is_list_of false body

-- (define-operation (op self x ..) B ..), or (define-operation op)
abbrev pub operation_with : Tree → Tree → Option Operation
operation_with (pair s op params) body = operation_if (is_operation_row params body) (not (is_nil body)) (name_of op)
operation_with (leaf s v) body = operation_if (is_nil body) false (name_of (leaf s v))

abbrev pub operation_behind : Tree → Option Operation
operation_behind (pair s head body) = operation_with head body
operation_behind (leaf s v) = None

abbrev pub defines_operation : Option Word → Bool
defines_operation (Some DefineOperation) = true
defines_operation _ = false

-- the operation that a form defines; a form that is no row defines none
abbrev pub operation_of : Tree → Option Operation
operation_of (pair s operator rest) = if defines_operation (word_of operator) then operation_behind rest else None
operation_of (leaf s v) = None

-- ---- the table

-- the entry is of the operation
abbrev pub IsEntry : List (List ℕ) → Option Operation → Option OpInfo → Type 0
IsEntry names None info = info ≡ None
IsEntry names (Some o) info = (n : Name) × (info ≡ Some (record { name = n; default = o.default })) × (slice_get names n.0 ≡ Some o.name)

abbrev pub AreEntries : List (List ℕ) → List Tree → List (Option OpInfo) → Type 0
AreEntries names [] infos = infos ≡ []
AreEntries names (t ∷ trees) infos =
    (info : Option OpInfo) × (others : List (Option OpInfo)) × (infos ≡ info ∷ others) × IsEntry names (operation_of t) info × AreEntries names trees others

abbrev pub builtin_entry : ℕ → OpInfo
builtin_entry n = record { name = record { 0 = n }; default = false }

abbrev pub builtin_entries : List OpInfo
builtin_entries = builtin_entry 0 ∷ builtin_entry 1 ∷ builtin_entry 2 ∷ []

abbrev pub has_name : ℕ → List OpInfo → Bool
has_name n infos = list_any (λ o. o.name.0 == n) infos

-- with an entry put last, if its name is new
abbrev pub with_one : List OpInfo → OpInfo → List OpInfo
with_one infos o = if has_name o.name.0 infos then infos else infos ++ o ∷ []

abbrev pub with_entry : List OpInfo → Option OpInfo → List OpInfo
with_entry infos None = infos
with_entry infos (Some o) = with_one infos o

-- the first entry of each name
abbrev pub distinct : List (Option OpInfo) → List OpInfo
distinct infos = fold with_entry [] infos

-- the table of a unit with these data: the builtin operations, then the first entry of each name
pub record IsTableOf (names : List (List ℕ)) (trees : List Tree) (ops : List OpInfo) : Type 0 where
  pub infos : List (Option OpInfo)
  pub entries : AreEntries names trees infos
  pub table : ops ≡ builtin_entries ++ distinct infos

-- ---- how the table is made

-- the marks say which names have an entry
abbrev pub Marks : List Bool → List OpInfo → Type 0
Marks found infos = (k : ℕ) → k < length found → slice_get found k ≡ Some (has_name k infos)

-- the operation's name has a mark
abbrev pub IsMarked : List Bool → Option OpInfo → Type 0
IsMarked found None = Unit {0}
IsMarked found (Some o) = o.name.0 < length found

pub record IsAdded (ops : List OpInfo) (found : List Bool) (infos : List OpInfo) : Type 0 where
  pub table : ops ≡ builtin_entries ++ infos
  pub marks : Marks found infos
