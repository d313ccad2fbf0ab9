-- What a name means: its lexical binding, else the unit's definition, else the builtin thing.
use Rattle.std.specs.Prelude.{ℕ, ◌+◌, ◌++◌, Bool, if◌then◌else◌, List, [], ◌∷◌, Option, Some, None, codes}
use Rattle.std.specs.Str.{bytes_eq}
use Rattle.t_base.specs.declared.builtins.Builtin.{Builtin}
use Rattle.t_objects.specs.Words.{spelled}
use Rattle.t_forms.specs.Builtins.{builtin_named}
use Rattle.t_forms.specs.Data.{Name, written, made, is_same_name}

pub data Meaning : Type 0 where
  -- the place of its binding around the form, the innermost one being 0
  a_local : ℕ → Meaning
  -- a global, by its place, and whether an LSET defines it
  a_global : ℕ → Bool → Meaning
  -- an operation, by its place
  an_op : ℕ → Meaning
  the_builtin : Builtin → Meaning
  -- the name of a builtin operation that the unit hides nowhere, by its place
  the_operation : ℕ → Meaning
  -- the name `t`
  the_truth : Meaning
  -- the name `list`, which stands for nothing but as an operator
  the_listing : Meaning
  none : Meaning

pub record Bound : Type 0 where
  pub name : Name
  pub means : Meaning

abbrev pub bound : Name → Meaning → Bound
bound n m = record { name = n; means = m }

-- the names of operations that each unit has
abbrev pub operation_names : List (List ℕ × ℕ)
operation_names = (codes "setter", 0) ∷ (codes "contents", 1) ∷ (codes "set-contents", 2) ∷ []

abbrev pub or_else : {A : Type 0} → (A → Meaning) → Option A → Meaning → Meaning
or_else f None otherwise = otherwise
or_else f (Some x) otherwise = f x

-- what the name means where the unit doesn't define it
abbrev pub builtin_meaning : List ℕ → Meaning
builtin_meaning text =
    or_else the_builtin (builtin_named text)
    (or_else the_operation (spelled operation_names text)
    (if bytes_eq text (codes "t") then the_truth else if bytes_eq text (codes "list") then the_listing else none))

abbrev pub beyond : Name → Meaning
beyond (written text) = builtin_meaning text
beyond (made n) = none

-- the names around a form: those that are bound lexically, the innermost first, and what the names that the unit defines mean
pub record Scope : Type 0 where
  pub locals : List Name
  pub defined : List Bound

-- the first place of the name, counted from a number on
abbrev pub place_from : ℕ → List Name → Name → Option ℕ
place_from i [] n = None
place_from i (m ∷ others) n = if is_same_name m n then Some i else place_from (i + 1) others n

-- the first of them that binds the name
abbrev pub defined_as : List Bound → Name → Option Meaning
defined_as [] n = None
defined_as (b ∷ others) n = if is_same_name b.name n then Some b.means else defined_as others n

abbrev pub meaning : Scope → Name → Meaning
meaning scope n =
    or_else a_local (place_from 0 scope.locals n)
    (or_else (λ m. m) (defined_as scope.defined n) (beyond n))

-- the scope with further names
abbrev pub within : Scope → List Name → Scope
within scope names = record { locals = names ++ scope.locals; defined = scope.defined }
