-- What is known of the forms of a unit one by one, before they are put together.
use Rattle.std.proofs.Common.{◌≡◌, ◌⊎◌, ℕ, ◌*◌, ◌≤◌, ◌^◌, List, length}
use Rattle.std.specs.List.{AllByRecursion}
use Rattle.t_base.specs.declared.basics.Span.{Span}
use Rattle.t_rows.specs.declared.refusal.Refusal.{Refusal}
use Rattle.t_rows.specs.Rows.{lambda_form}
use Rattle.t_forms.specs.Data.{Datum}
use Rattle.t_forms.specs.Names.{Bound}
use Rattle.expansion.specs.Meaning.{top_scope}
use Rattle.expansion.specs.Refusals.{Refused}
use Rattle.expand_laws.proofs.Made.{IsRight, Stock, FormMade}
use Rattle.expand_laws.proofs.Reached.{IsPure}
use Rattle.expand_laws.proofs.Sizes.{size}

-- the LAMBDA that a definition makes of its parameters and its body
pub record IsProcedure (names : List (List ℕ)) (d : Datum) : Type 0 where
  pub span : Span
  pub params : Datum
  pub body : List Datum
  pub is : d ≡ lambda_form span params body
  pub params_pure : IsPure (IsRight names) params
  pub body_pure : AllByRecursion (IsPure (IsRight names)) body

-- a form of the text, or one that a definition makes
abbrev pub IsFormOf : List (List ℕ) → Datum → Type 0
IsFormOf names d = IsPure (IsRight names) d ⊎ IsProcedure names d

-- The form is made. What it adds is no more than some multiple of its size: the lists of the code hold no more than 2 ^ 63 items.
pub record Makes (names : List (List ℕ)) (defined : List Bound) (d : Datum) (before : Stock) : Type 0 where
  pub after : Stock
  pub made : FormMade names defined d before after
  pub few_nodes : length made.nodes ≤ 2 ^ 31 * size d
  pub few_strings : length made.new_strings ≤ 2 ^ 31 * size d
  pub few_pairs : length made.new_pairs ≤ 2 ^ 31 * size d

-- each form that is no larger than a whole text unit, and in which nothing is refused, is made, from whatever stands before it
abbrev pub MakesForms : List (List ℕ) → List Bound → Type 0
MakesForms names defined =
    (d : Datum) (before : Stock) → IsFormOf names d → size d ≤ 2 ^ 26 → ((r : Refusal) → Refused (top_scope defined) d r → ⊥) → Makes names defined d before
