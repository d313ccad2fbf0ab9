-- What the forms at top level are, made one after another.
use Rattle.std.proofs.Common.{◌≡◌, ℕ, ◌+◌, ◌*◌, ◌<◌, ◌≤◌, ◌^◌, ◌++◌, true, false, is_some, List, [], ◌∷◌, length, All, Option, Some, None}
use Rattle.std.specs.List.{flat_map}
use Rattle.t_base.specs.declared.basics.Span.{Span}
use Rattle.t_base.specs.declared.shared_parts.Const.{Const}
use Rattle.t_base.specs.declared.shared_parts.Shared.{Shared}
use Rattle.t_prim.specs.SharedParts.{IsConst, HasLowerParts}
use Rattle.t_core.specs.declared.forms.Core.{Core}
use Rattle.t_core.specs.declared.forms.FormKind.{FormKind}
use Rattle.t_core.specs.declared.forms.FormKind.TheVariants as kind
use Rattle.t_core.specs.declared.forms.Form.{Form}
use Rattle.t_core.specs.Nodes.{binders_of}
use Rattle.t_core.specs.Whole.{NamesAreThere, IsTree, HasPlaces, IsShaped, HasShapes, IsDefault, pair_in, pair_of}
use Rattle.expansion.specs.Strings.{string_in, string_of}
use Rattle.t_forms.specs.Data.{Datum}
use Rattle.t_forms.specs.Names.{Bound, Meaning, a_global, an_op}
use Rattle.t_rows.specs.Rows.{Definition, define, lset, operation_form}
use Rattle.expansion.specs.Meaning.{Nodes, RootMeans, ValueMeans, IsKind, FormsMean}
use Rattle.expansion.specs.Units.{Top, defining, broken, expression, meaning_of}
use Rattle.expand_laws.proofs.Made.{Stock, HasStock, HasDefined, strings_named, pairs_named}
use Rattle.expansion.specs.Counting.{numbers}
use Rattle.expand_laws.proofs.Once.{IsOnce}
use Rattle.expand_laws.proofs.Sizes.{size}

-- ---- one form

abbrev pub default_size : Option Datum → ℕ
default_size None = 1
default_size (Some d) = size d

abbrev pub value_size : Definition → ℕ
value_size (define b d) = size d
value_size (lset b d) = size d
value_size (operation_form b ps d) = default_size d

-- the size of what a form at top level is made of
abbrev pub top_size : Top → ℕ
top_size (defining d) = value_size d
top_size (broken s) = 1
top_size (expression d) = size d

abbrev pub tops_size : List Top → ℕ
tops_size [] = 0
tops_size (t ∷ ts) = top_size t + tops_size ts

-- the root stands for what is to be evaluated
abbrev pub TopStands : List Bound → Shared → Nodes → ℕ → Top → Type 0
TopStands defined shared n root (defining d) = ValueMeans defined shared n d root
TopStands defined shared n root (broken s) = ⊥
TopStands defined shared n root (expression d) = RootMeans defined shared n d root

-- there are nodes, but for an operation without a default
abbrev pub IsFilledBy : Definition → List Core → ℕ → Type 0
IsFilledBy (define b d) nodes root = 0 < length nodes
IsFilledBy (lset b d) nodes root = 0 < length nodes
IsFilledBy (operation_form b ps d) nodes root = IsDefault nodes root (is_some d)

abbrev pub IsFilled : Top → List Core → ℕ → Type 0
IsFilled (defining d) nodes root = IsFilledBy d nodes root
IsFilled (broken s) nodes root = ⊥
IsFilled (expression d) nodes root = 0 < length nodes

pub record TopMade (names : List (List ℕ)) (defined : List Bound) (t : Top) (before after : Stock) : Type 0 where
  pub nodes : List Core
  pub spans : List Span
  pub root : ℕ
  pub new_strings : List (List ℕ)
  pub new_pairs : List (Const × Const)
  pub strings_are : after.strings ≡ before.strings ++ new_strings
  pub pairs_are : after.pairs ≡ before.pairs ++ new_pairs
  pub next : before.next ≤ after.next
  pub spans_are : length spans ≡ length nodes
  pub means : (shared : Shared) → HasStock names after shared → TopStands defined shared (record { nodes = nodes; spans = spans }) root t
  pub tree : 0 < length nodes → IsTree nodes root
  pub filled : IsFilled t nodes root
  pub shaped : (shared : Shared) → HasDefined defined shared → All (IsShaped shared nodes) nodes
  pub named : (shared : Shared) → HasStock names after shared → HasDefined defined shared → All (NamesAreThere shared) nodes
  pub vars_once : IsOnce before.next after.next (numbers (flat_map binders_of nodes))
  pub strings_once : IsOnce (length before.strings) (length after.strings) (strings_named nodes new_pairs)
  pub pairs_once : IsOnce (length before.pairs) (length after.pairs) (pairs_named nodes new_pairs)
  pub ascii : All (λ bytes. All (λ b. b < 128) bytes) new_strings
  pub pairs_right : (shared : Shared) → HasStock names after shared → All (λ p. IsConst shared p.0 × IsConst shared p.1) new_pairs
  pub lower : HasLowerParts before.pairs → HasLowerParts after.pairs
  pub few_nodes : length nodes ≤ 2 ^ 31 * top_size t
  pub few_strings : length new_strings ≤ 2 ^ 31 * top_size t
  pub few_pairs : length new_pairs ≤ 2 ^ 31 * top_size t

-- ---- all forms

abbrev pub kind_meant : Option Meaning → FormKind
kind_meant (Some (a_global g false)) = kind.Define g
kind_meant (Some (a_global g true)) = kind.Lset g
kind_meant (Some (an_op o)) = kind.Operation o
kind_meant _ = kind.Plain

-- what a form at top level is kept as
abbrev pub kind_of : List Bound → Top → FormKind
kind_of defined (defining d) = kind_meant (meaning_of defined d)
kind_of defined _ = kind.Plain

-- each definition is kept as what its name means
abbrev pub HasKind : List Bound → Top → Type 0
HasKind defined (defining d) = IsKind (kind_meant (meaning_of defined d)) d (meaning_of defined d)
HasKind defined _ = Unit {0}

abbrev pub HasKinds : List Bound → List Top → Type 0
HasKinds defined [] = Unit {0}
HasKinds defined (t ∷ ts) = HasKind defined t × HasKinds defined ts

abbrev pub AreFilled : List Bound → List Top → List Form → Type 0
AreFilled defined [] [] = Unit {0}
AreFilled defined (t ∷ ts) (f ∷ fs) = (f.kind ≡ kind_of defined t) × IsFilled t f.nodes.items f.root × AreFilled defined ts fs
AreFilled defined _ _ = ⊥

-- the places that pairs and the nodes of forms name
abbrev pub unit_named : (Const → List ℕ) → (Core → List ℕ) → List Form → List (Const × Const) → List ℕ
unit_named f g forms pairs = flat_map (λ p. f p.0 ++ f p.1) pairs ++ flat_map (λ form. flat_map g form.nodes.items) forms

pub record AllMade (names : List (List ℕ)) (defined : List Bound) (ts : List Top) (before after : Stock) : Type 0 where
  pub forms : List Form
  pub spans : List (List Span)
  pub new_strings : List (List ℕ)
  pub new_pairs : List (Const × Const)
  pub strings_are : after.strings ≡ before.strings ++ new_strings
  pub pairs_are : after.pairs ≡ before.pairs ++ new_pairs
  pub next : before.next ≤ after.next
  pub means : (shared : Shared) → HasStock names after shared → FormsMean defined shared forms spans ts
  pub filled : AreFilled defined ts forms
  pub places : (shared : Shared) → HasStock names after shared → HasDefined defined shared → All (HasPlaces shared) forms
  pub shapes : (shared : Shared) → HasDefined defined shared → All (HasShapes shared) forms
  pub vars_once : IsOnce before.next after.next (numbers (flat_map (λ form. flat_map binders_of form.nodes.items) forms))
  pub strings_once : IsOnce (length before.strings) (length after.strings) (unit_named string_in string_of forms new_pairs)
  pub pairs_once : IsOnce (length before.pairs) (length after.pairs) (unit_named pair_in pair_of forms new_pairs)
  pub ascii : All (λ bytes. All (λ b. b < 128) bytes) new_strings
  pub pairs_right : (shared : Shared) → HasStock names after shared → All (λ p. IsConst shared p.0 × IsConst shared p.1) new_pairs
  pub lower : HasLowerParts before.pairs → HasLowerParts after.pairs
  pub few_forms : length forms ≡ length ts
  pub few_strings : length new_strings ≤ 2 ^ 31 * tops_size ts
  pub few_pairs : length new_pairs ≤ 2 ^ 31 * tops_size ts
