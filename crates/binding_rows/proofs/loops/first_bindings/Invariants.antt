use Rattle.std.proofs.Common.{ℕ, List, [], ◌∷◌, take, map}
use Rattle.std.specs.List.{AllZip}
use Rattle.t_forms.specs.Data.{listed}
use Rattle.t_forms.specs.Held.{Held}
use Rattle.t_rows.specs.Lists.{Grows}
use Rattle.t_rows.specs.Rows.{Step}
use Rattle.binding_rows.specs.Steps.{IsStep}
use Rattle.binding_rows.proofs.loops.first_bindings.Given as goal

abbrev pub invariant-steps : goal.invariant-steps
invariant-steps l = record {
  grown : Grows l.fn.forms l.forms;
  made : (names : List (List ℕ)) (xs : List Step) → AllZip (IsStep names l.fn.forms) (take l.step-index l.steps) xs
      → AllZip (Held names l.forms) l.bindings.items (map (λ x. listed l.span (x.name ∷ x.first ∷ [])) xs);
}
