use Rattle.std.proofs.Common.{ℕ, List, take, map}
use Rattle.std.specs.List.{AllZip}
use Rattle.t_forms.specs.declared.arena.Cell.{Cell}
use Rattle.t_rows.specs.Bindings.{IsBinder}
use Rattle.binding_rows.specs.Procedures.{IsProcedure}
use Rattle.t_rows.specs.Rows.{Binding}
use Rattle.binding_rows.proofs.labels.bound_in.Given as goal

abbrev pub invariant-procedures : goal.invariant-procedures
invariant-procedures l =
    (texts : List (List ℕ)) (cells : List Cell) (xs : List Binding) → AllZip (IsProcedure texts cells) (take l.procedure-index l.procedures) xs
    → AllZip (IsBinder texts) l.names.items (map (λ b. b.binds) xs)
