-- What is found when cells are taken apart.
use Rattle.std.specs.Prelude.{◌≡◌, Bool, true, false, ℕ, ◌+◌, ◌<◌, List, [], ◌∷◌, ◌++◌, length, reverse, slice_get, Option, Some, None}
use Rattle.std.specs.List.{AllZip}
use Rattle.t_base.specs.declared.basics.Span.{Span}
use Rattle.t_reader.specs.Grammar.{symbol}
use Rattle.t_forms.specs.declared.arena.Form.TheVariants as form
use Rattle.t_forms.specs.declared.arena.Cell.{Cell}
use Rattle.t_forms.specs.declared.scope.LocalName.{LocalName}
use Rattle.t_forms.specs.Data.{given, variable, Datum, atom, cons, items_of, Name, name_of}
use Rattle.t_forms.specs.Held.{cell, Held, IsName}
use Rattle.t_rows.specs.declared.lists.Few.{Few}
use Rattle.t_rows.specs.declared.lists.Few.TheVariants as few

-- the second list of cells goes on the first
pub record Grows (cells larger : List Cell) : Type 0 where
  pub more : List Cell
  pub is : larger ≡ cells ++ more

-- the cell goes on a list by these data
abbrev pub AreItems : List (List ℕ) → List Cell → ℕ → List Datum → Type 0
AreItems names cells k [] = (u : Span) × (slice_get cells k ≡ Some (cell u form.Nil))
AreItems names cells k (d ∷ ds) =
    (u : Span) × (i : ℕ) × (j : ℕ) × (slice_get cells k ≡ Some (cell u (form.Pair i j (Some (length ds + 1))))) × (i < k) × (j < k)
    × Held names cells i d × AreItems names cells j ds

-- the cells are the data, one for each
abbrev pub AreHeld : List (List ℕ) → List Cell → List ℕ → List Datum → Type 0
AreHeld names cells keys ds = AllZip (Held names cells) keys ds

-- the cells go on the lists by the data, one for each
abbrev pub AreLists : List (List ℕ) → List Cell → List ℕ → List (List Datum) → Type 0
AreLists names cells keys dss = AllZip (AreItems names cells) keys dss

-- the place of the items of a list; a dotted list and an atom have none
abbrev pub AreItemsOf : List (List ℕ) → List Cell → Option ℕ → Datum → Type 0
AreItemsOf names cells None d = items_of d ≡ None
AreItemsOf names cells (Some k) d = (ds : List Datum) × (items_of d ≡ Some ds) × AreItems names cells k ds

-- the first item, and what goes on behind it
abbrev pub IsSplit : List (List ℕ) → List Cell → Option (ℕ × ℕ) → List Datum → Type 0
IsSplit names cells None ds = ds ≡ []
IsSplit names cells (Some p) ds = (d : Datum) × (others : List Datum) × (ds ≡ d ∷ others) × Held names cells p.0 d × AreItems names cells p.1 others

abbrev pub IsShort : List Datum → Type 0
IsShort [] = Unit {0}
IsShort (d ∷ []) = Unit {0}
IsShort (d ∷ e ∷ others) = ⊥

-- the first item, and the items behind it, of which there is at least one
abbrev pub IsWithBody : List (List ℕ) → List Cell → Option (ℕ × ℕ) → List Datum → Type 0
IsWithBody names cells None ds = IsShort ds
IsWithBody names cells (Some p) ds =
    (d : Datum) × (b : Datum) × (bs : List Datum) × (ds ≡ d ∷ b ∷ bs) × Held names cells p.0 d × AreItems names cells p.1 (b ∷ bs)

-- the items of a short list
abbrev pub IsFew : List (List ℕ) → List Cell → Few → List Datum → Type 0
IsFew names cells few.Zero ds = ds ≡ []
IsFew names cells (few.One i) ds = (a : Datum) × (ds ≡ a ∷ []) × Held names cells i a
IsFew names cells (few.Two i j) ds = (a : Datum) × (b : Datum) × (ds ≡ a ∷ b ∷ []) × Held names cells i a × Held names cells j b
IsFew names cells (few.Three i j k) ds =
    (a : Datum) × (b : Datum) × (c : Datum) × (ds ≡ a ∷ b ∷ c ∷ []) × Held names cells i a × Held names cells j b × Held names cells k c
IsFew names cells few.More ds = (a : Datum) × (b : Datum) × (c : Datum) × (d : Datum) × (others : List Datum) × (ds ≡ a ∷ b ∷ c ∷ d ∷ others)

-- the name that the datum is
abbrev pub IsNameOf : List (List ℕ) → Option LocalName → Datum → Type 0
IsNameOf names None d = name_of d ≡ None
IsNameOf names (Some k) d = (n : Name) × (name_of d ≡ Some n) × IsName names k n

-- the lists that are open, the innermost first: its items, and those of the lists around it, the outermost first
abbrev pub AreOpen : List (List ℕ) → List Cell → ℕ → List ℕ → List (List Datum) → Type 0
AreOpen names cells items outer [] = ⊥
AreOpen names cells items outer (t ∷ others) = AreItems names cells items t × AreLists names cells (reverse outer) others

-- the items of a rest; without one there are none
abbrev pub AreRest : List (List ℕ) → List Cell → Option ℕ → List Datum → Type 0
AreRest names cells None ds = ds ≡ []
AreRest names cells (Some k) ds = AreItems names cells k ds

abbrev pub is_new : Datum → Bool
is_new (atom s (variable n)) = true
is_new _ = false

abbrev pub is_pair : Datum → Bool
is_pair (cons s head tail) = true
is_pair _ = false

-- the first part of a pair
abbrev pub IsHeadOf : List (List ℕ) → List Cell → Option ℕ → Datum → Type 0
IsHeadOf names cells None d = is_pair d ≡ false
IsHeadOf names cells (Some i) d = (s : Span) × (head : Datum) × (tail : Datum) × (d ≡ cons s head tail) × Held names cells i head

-- a symbol, or a new variable
abbrev pub is_symbol : Datum → Bool
is_symbol (atom s (given (symbol text))) = true
is_symbol (atom s (variable n)) = true
is_symbol _ = false

-- the form at the place is the datum, where there is one
abbrev pub IsHeldIf : List (List ℕ) → List Cell → Option ℕ → Option Datum → Type 0
IsHeldIf names cells k None = k ≡ None
IsHeldIf names cells k (Some d) = (i : ℕ) × (k ≡ Some i) × Held names cells i d
