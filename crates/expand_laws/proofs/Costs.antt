-- How much a form makes, by what the table reaches from it: one for each node, and of a constant its atoms and pairs.
use Rattle.std.specs.Prelude.{ℕ, ◌+◌}
use Rattle.t_reader.specs.Grammar.{Value}
use Rattle.t_forms.specs.Data.{Datum}
use Rattle.t_forms.specs.Names.{Scope}
use Rattle.t_rows.specs.Rows.{Shape, constant, Part}
use Rattle.std.specs.Prelude.{List}
use Rattle.expand_laws.proofs.Reached.{Comes, to_form, to_node, AllCome, no_parts, one_part}
use Rattle.expand_laws.proofs.Sizes.{size}

abbrev pub shape_cost : Shape → ℕ
shape_cost (constant d) = size d
shape_cost _ = 1

abbrev mutual
  pub cost : (right : Value → Type 0) (scope : Scope) (d : Datum) → Comes right scope d → ℕ
  cost right scope d (to_form sc dd e at c) = cost right sc e c
  cost right scope d (to_node sc dd shape refusals parts at ops is all) = shape_cost shape + all_cost right sc parts all

  pub all_cost : (right : Value → Type 0) (scope : Scope) (ps : List Part) → AllCome right scope ps → ℕ
  all_cost right scope ps (no_parts sc) = 0
  all_cost right scope ps (one_part sc p pps c all) = cost right _ p.form c + all_cost right sc pps all
