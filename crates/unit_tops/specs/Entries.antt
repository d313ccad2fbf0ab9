-- What the code keeps of the names that a unit defines.
use Rattle.std.specs.Prelude.{◌≡◌, ℕ, ◌<◌, Bool, true, false, not, List, [], ◌∷◌, ◌++◌, length, map, slice_get, slice_set, Some, is_some, codes}
use Rattle.std.specs.List.{filter}
use Rattle.t_base.specs.declared.basics.Name.{Name as NamePlace}
use Rattle.t_base.specs.declared.shared_parts.GlobalKind.{GlobalKind}
use Rattle.t_base.specs.declared.shared_parts.GlobalKind.TheVariants as kind
use Rattle.t_forms.specs.declared.scope.Defined.TheVariants as kept
use Rattle.t_forms.specs.Held.{IsTable}
use Rattle.form_rows.specs.declared.definitions.Definition.{Definition as CodeDefinition}
use Rattle.form_rows.specs.declared.definitions.Definition.TheVariants as code
use Rattle.unit_tops.specs.declared.entries.Entries.{Entries}
use Rattle.expansion.specs.Settling.{first_kind, has_default}
use Rattle.expansion.specs.Units.{Entry, is_global, meanings_from, texts}

-- the table says what each name means, and the globals and operations have the names of the entries, the kinds that these give first, and
-- their defaults
pub record AreEntries (names : List (List ℕ)) (e : Entries) (entries : List Entry) : Type 0 where
  pub table : IsTable names e.table.items (meanings_from 0 3 entries)
  pub globals : map (λ text. Some text) (texts (filter (λ x. is_global x.by) entries)) ≡ map (λ g. slice_get names g.name.0) e.globals.items
  pub ops : map (λ text. Some text) (codes "setter" ∷ codes "contents" ∷ codes "set-contents" ∷ texts (filter (λ x. not (is_global x.by)) entries))
      ≡ map (λ o. slice_get names o.name.0) e.ops.items
  pub kinds : map (λ g. g.kind) e.globals.items ≡ map (λ x. first_kind x.by) (filter (λ x. is_global x.by) entries)
  pub defaults : map (λ o. o.default) e.ops.items ≡ false ∷ false ∷ false ∷ map (λ x. has_default x.by) (filter (λ x. not (is_global x.by)) entries)

abbrev pub is_variable : GlobalKind → Bool
is_variable kind.Variable = true
is_variable _ = false

-- a global is put last, for the name at a place
pub record IsGlobalAdded (old new : Entries) (name : NamePlace) (k : GlobalKind) : Type 0 where
  pub room : name.0 < length old.table.items
  pub table : new.table.items ≡ slice_set old.table.items name.0 (Some (kept.Global (length old.globals.items) (is_variable k)))
  pub globals : new.globals.items ≡ old.globals.items ++ record { name = name; kind = k } ∷ []
  pub ops : new.ops.items ≡ old.ops.items

-- an operation is put last, for the name at a place
pub record IsOpAdded (old new : Entries) (name : NamePlace) (default : Bool) : Type 0 where
  pub room : name.0 < length old.table.items
  pub table : new.table.items ≡ slice_set old.table.items name.0 (Some (kept.Operation (length old.ops.items)))
  pub globals : new.globals.items ≡ old.globals.items
  pub ops : new.ops.items ≡ old.ops.items ++ record { name = name; default = default } ∷ []

abbrev pub IsPut : Entries → Entries → NamePlace → CodeDefinition → Type 0
IsPut old new name (code.Define n k) = IsGlobalAdded old new name kind.Value
IsPut old new name (code.Lset n k) = IsGlobalAdded old new name kind.Variable
IsPut old new name (code.Operation n ps k) = IsOpAdded old new name (is_some k)
