-- What stands in static words because a program names it, or because something else stands there.
use Rattle.std.specs.Prelude.{◌≡◌, ℕ, ◌+◌, ◌<◌, ◌≤◌, ◌&&◌, ◌||◌, ◌⊎◌, true, List, [], ◌∷◌, ◌++◌, length, map, slice_get, Contains, is_some}
use Rattle.std.specs.Option.{option_map_or}
use Rattle.t_prim.specs.Values.{Text, first_store, text_of}
use Rattle.frame_ir.specs.declared.forms.Frames.{Frames}
use Rattle.frame_ir.specs.Arguments.{proc_count, default_count}
use Rattle.frame_ir.specs.Parts.{closure_codes}
use Rattle.frame_words.specs.Layouts.{Fixed, ClosureOf, BuiltinOf, OperationOf, TextOf, SymbolOf, PairOf, TemplateOf}
use Rattle.static_names.specs.declared.things.Thing.{Thing}
use Rattle.static_names.specs.declared.things.Thing.TheVariants as thing
use Rattle.static_names.specs.Named.{fixed_of, of_const, named}
use Rattle.static_tables.specs.declared.statics.Statics.{Statics}
use Rattle.static_tables.specs.Tables.{has, fixed_in, AreStatics}

-- ---- parts

abbrev pub parts_of : Frames → Fixed → List Thing
parts_of p (PairOf k) = option_map_or (λ pair. of_const pair.0 ++ of_const pair.1) (slice_get p.shared.pairs.items k) []
parts_of p (SymbolOf n) = thing.PrintName n ∷ []
parts_of p (TemplateOf t) = option_map_or (λ x. map thing.Operation x.ops) (slice_get p.templates.items t) []
parts_of p (ClosureOf k) = []
parts_of p (BuiltinOf b) = []
parts_of p (OperationOf o) = []
parts_of p (TextOf t) = []

-- where a thing stands there, its parts do
abbrev pub IsClosedAt : Frames → List Fixed → Fixed → Type 0
IsClosedAt p xs x = has xs x ≡ true → (y : Fixed) → has (map fixed_of (parts_of p x)) y ≡ true → has xs y ≡ true

-- the parts of a thing, where it stands there, stand there too, besides what did
pub record AddsParts (p : Frames) (x : Fixed) (old new : Statics) : Type 0 where
  pub statics : AreStatics p new
  pub has : (y : Fixed) → has (fixed_in new) y ≡ ((has (fixed_in old) x && has (map fixed_of (parts_of p x)) y) || has (fixed_in old) y)

-- ---- what is there

-- the codes of closures and of defaults
abbrev pub IsCode : Frames → ℕ → Type 0
IsCode p k = Contains (closure_codes p) k ⊎ (k < proc_count p.shared + default_count p.shared)

-- the program has what a thing stands for
abbrev pub IsGood : Frames → Fixed → Type 0
IsGood p (ClosureOf k) = IsCode p k × (k < length p.blocks.items)
IsGood p (TextOf t) = is_some (text_of (first_store p.shared) t) ≡ true
IsGood p (SymbolOf n) = n < length p.shared.names
IsGood p (PairOf k) = k < length p.shared.pairs.items
IsGood p (BuiltinOf b) = Unit {0}
IsGood p (OperationOf o) = Unit {0}
IsGood p (TemplateOf t) = t < length p.templates.items

-- ---- the whole

-- What is named stands there, and nothing that the program doesn't have; so do the parts of templates below a place, of pairs from a place on, and of
-- symbols below a place.
pub record IsClosing (p : Frames) (templates pairs symbols : ℕ) (s : Statics) : Type 0 where
  pub statics : AreStatics p s
  pub named : (y : Fixed) → has (map fixed_of (named p)) y ≡ true → has (fixed_in s) y ≡ true
  pub good : (y : Fixed) → has (fixed_in s) y ≡ true → IsGood p y
  pub at_templates : (t : ℕ) → t < templates → IsClosedAt p (fixed_in s) (TemplateOf t)
  pub at_pairs : (k : ℕ) → pairs ≤ k → IsClosedAt p (fixed_in s) (PairOf k)
  pub at_symbols : (n : ℕ) → n < symbols → IsClosedAt p (fixed_in s) (SymbolOf n)
