use Rattle.std.proofs.Common.{refl, ap, ◌∙◌, List, ℕ}
use Rattle.t_base.specs.Texts.{with_text}
use Rattle.rows_core.specs.CallUnit.{setter}
use Rattle.rows_core.proofs.units.shared_of.Goals as goal

pub returns : goal.returns
returns c = record {
  names = c.names.view_is ∙ c.in_ok-intern.ensures.names ∙ ap (λ (n : List (List ℕ)). with_text n setter) c.new-names.ensures;
  strings = c.new.ensures.items;
  pairs_are = refl;
  globals = c.new-2.ensures.items;
  ops = c.in_ok-from_slice.ensures.items;
  size_is = refl;
}
