use Rattle.std.proofs.Common.{ℕ, List, map, take}
use Rattle.std.specs.List.{AllZip}
use Rattle.t_rows.specs.Bindings.{IsBinding}
use Rattle.t_rows.specs.Given.{IsPart}
use Rattle.t_rows.specs.Rows.{Binding, plain}
use Rattle.binding_rows.proofs.bindings.value_parts.Given as goal

abbrev pub invariant-bindings : goal.invariant-bindings
invariant-bindings l =
    (names : List (List ℕ)) (xs : List Binding) → AllZip (IsBinding names l.forms) (take l.binding-index l.bindings) xs
    → AllZip (IsPart names l.forms) l.parts.items (map (λ x. plain x.value) xs)
