-- What is refused in a unit, and the first refusal.
use Rattle.std.specs.Prelude.{◌≡◌, ◌⊎◌, ℕ, ◌<◌, ◌≤◌, List, [], ◌∷◌, map, take, slice_get, Contains, Option, Some, None, if◌then◌else◌}
use Rattle.std.specs.List.{list_any}
use Rattle.t_reader.specs.Grammar.{Tree}
use Rattle.t_rows.specs.declared.refusal.Refusal.{Refusal}
use Rattle.t_rows.specs.declared.refusal.SyntaxKind.{SyntaxKind}
use Rattle.t_rows.specs.declared.refusal.SyntaxKind.TheVariants.{BadForm, Twice, ParamTwice, NotOperation, NotSettable, NotTopLevel, ConstantSet, FreeName}
use Rattle.t_forms.specs.Data.{Datum, datum_of, is_same_name, Binder}
use Rattle.t_forms.specs.Names.{Scope, Bound, within}
use Rattle.t_rows.specs.Rows.{stands_for, node, Shape, refusal, Part, row, twice, Definition, define, lset, operation_form}
use Rattle.expansion.specs.Meaning.{top_scope}
use Rattle.expansion.specs.Units.{Top, defining, broken, expression, tops_of, definitions_of, names_defined, defined_name}

-- this refusal stands at the form or in it: at the form by its row, in the form that it stands for, or in a part of its node
pub data Refused : Scope → Datum → Refusal → Type 0 where
  in_form : (scope : Scope) (d e : Datum) (r : Refusal) → row scope d ≡ stands_for e → Refused scope e r → Refused scope d r
  at_form : (scope : Scope) (d : Datum) (r : Refusal) (shape : Shape) (rs : List Refusal) (parts : List Part) → row scope d ≡ node shape rs parts
      → Contains rs r → Refused scope d r
  in_part : (scope : Scope) (d : Datum) (r : Refusal) (shape : Shape) (rs : List Refusal) (parts : List Part) (p : Part)
      → row scope d ≡ node shape rs parts → Contains parts p → Refused (within scope p.binds) p.form r → Refused scope d r

-- in what a definition defines
abbrev pub RefusedDefinition : List Bound → Definition → Refusal → Type 0
RefusedDefinition defined (define b d) r = Refused (top_scope defined) d r
RefusedDefinition defined (lset b d) r = Refused (top_scope defined) d r
RefusedDefinition defined (operation_form b ps (Some d)) r = Refused (top_scope defined) d r
RefusedDefinition defined (operation_form b ps None) r = Contains (twice ps) r

-- of a name that a form before this one defines
abbrev pub twice_defined : List Top → Binder → List Refusal
twice_defined before b = if list_any (is_same_name b.name) (names_defined before) then refusal Twice b.at ∷ [] else []

-- this refusal stands at or in this form, behind those before it
abbrev pub RefusedTop : List Bound → List Top → Top → Refusal → Type 0
RefusedTop defined before (defining d) r = Contains (twice_defined before (defined_name d)) r ⊎ RefusedDefinition defined d r
RefusedTop defined before (broken s) r = r ≡ refusal BadForm s
RefusedTop defined before (expression d) r = Refused (top_scope defined) d r

-- at or in one of these forms
pub record RefusedAmong (defined : List Bound) (tops : List Top) (r : Refusal) : Type 0 where
  pub at : ℕ
  pub top : Top
  pub there : slice_get tops at ≡ Some top
  pub stands : RefusedTop defined (take at tops) top r

abbrev pub RefusedIn : List Top → Refusal → Type 0
RefusedIn tops r = RefusedAmong (definitions_of tops) tops r

abbrev pub number : SyntaxKind → ℕ
number BadForm = 1
number Twice = 2
number ParamTwice = 3
number NotOperation = 4
number NotSettable = 5
number NotTopLevel = 6
number ConstantSet = 7
number FreeName = 8

-- the first stands at a lower place, or at the same place with a number that is no greater
abbrev pub Precedes : Refusal → Refusal → Type 0
Precedes a b = (a.span.start < b.span.start) ⊎ (a.span.start ≡ b.span.start) × (number a.kind ≤ number b.kind)

-- the first of the refusals that stand, or none where none stands
abbrev pub IsFirstOf : (Refusal → Type 0) → Option Refusal → Type 0
IsFirstOf stands None = (r : Refusal) → stands r → ⊥
IsFirstOf stands (Some f) = stands f × ((r : Refusal) → stands r → Precedes f r)

-- the refusal with the least place, and on a tie the least number, in the whole text
pub record IsFirstRefusal (data_ : List Tree) (r : Refusal) : Type 0 where
  pub stands : RefusedIn (tops_of (map datum_of data_)) r
  pub first : (other : Refusal) → RefusedIn (tops_of (map datum_of data_)) other → Precedes r other
