-- What the code's forms at top level are to those of the definition.
use Rattle.std.specs.Prelude.{◌≡◌, ℕ, Bool, false, List, [], ◌∷◌, Option, Some, None, codes}
use Rattle.std.specs.Str.{bytes_eq}
use Rattle.t_reader.specs.Grammar.{symbol}
use Rattle.t_forms.specs.declared.arena.Cell.{Cell}
use Rattle.t_forms.specs.Data.{Datum, atom, given}
use Rattle.t_forms.specs.Held.{Held}
use Rattle.form_rows.specs.Definitions.{IsDefinition}
use Rattle.unit_tops.specs.declared.tops.Top.{Top as CodeTop}
use Rattle.unit_tops.specs.declared.tops.Top.TheVariants as code
use Rattle.expansion.specs.Units.{Top, defining, broken, expression}

-- the place of the first of the items, if there is one
abbrev pub IsOperator : List (List ℕ) → List Cell → Option ℕ → Option (List Datum) → Type 0
IsOperator names cells k None = k ≡ None
IsOperator names cells k (Some []) = k ≡ None
IsOperator names cells k (Some (f ∷ ds)) = (i : ℕ) × (k ≡ Some i) × Held names cells i f

abbrev pub is_herald_head : Datum → Bool
is_herald_head (atom s (given (symbol text))) = bytes_eq text (codes "herald")
is_herald_head _ = false

-- a form at top level, over these names and cells
abbrev pub IsTop : List (List ℕ) → List Cell → CodeTop → Top → Type 0
IsTop names cells (code.Defining c) (defining d) = IsDefinition names cells c d
IsTop names cells (code.Broken s) (broken t) = s ≡ t
IsTop names cells (code.Expression k) (expression d) = Held names cells k d
IsTop names cells _ _ = ⊥

abbrev pub AreTops : List (List ℕ) → List Cell → List CodeTop → List Top → Type 0
AreTops names cells [] [] = Unit {0}
AreTops names cells (c ∷ cs) (t ∷ ts) = IsTop names cells c t × AreTops names cells cs ts
AreTops names cells _ _ = ⊥
