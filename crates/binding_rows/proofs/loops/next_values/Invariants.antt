use Rattle.std.proofs.Common.{ℕ, List, take, map}
use Rattle.std.specs.List.{AllZip}
use Rattle.t_forms.specs.declared.arena.Cell.{Cell}
use Rattle.t_forms.specs.Held.{Held}
use Rattle.t_rows.specs.Rows.{Step}
use Rattle.binding_rows.specs.Steps.{IsStep}
use Rattle.binding_rows.proofs.loops.next_values.Given as goal

abbrev pub invariant-steps : goal.invariant-steps
invariant-steps l =
    (names : List (List ℕ)) (cells : List Cell) (xs : List Step) → AllZip (IsStep names cells) (take l.step-index l.steps) xs
    → AllZip (Held names cells) l.keys.items (map (λ x. x.next) xs)
