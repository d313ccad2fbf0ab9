use Rattle.std.proofs.Common.{ℕ, List, map, take}
use Rattle.std.specs.List.{AllZip}
use Rattle.t_forms.specs.declared.arena.Cell.{Cell}
use Rattle.t_forms.specs.Held.{Held}
use Rattle.t_rows.specs.Bindings.{IsBinding}
use Rattle.t_rows.specs.Rows.{Binding}
use Rattle.binding_rows.proofs.bindings.values_of.Given as goal

abbrev pub invariant-bindings : goal.invariant-bindings
invariant-bindings l =
    (names : List (List ℕ)) (cells : List Cell) (xs : List Binding) → AllZip (IsBinding names cells) (take l.binding-index l.bindings) xs
    → AllZip (Held names cells) l.keys.items (map (λ x. x.value) xs)
