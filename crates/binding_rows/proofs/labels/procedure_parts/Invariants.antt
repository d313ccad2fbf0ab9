use Rattle.std.proofs.Common.{[], ℕ, List, take, map}
use Rattle.std.specs.List.{AllZip}
use Rattle.t_forms.specs.declared.arena.Cell.{Cell}
use Rattle.t_forms.specs.Data.{Binder, names}
use Rattle.t_rows.specs.Bindings.{IsBinder}
use Rattle.t_rows.specs.Given.{AreParts}
use Rattle.binding_rows.specs.Procedures.{IsProcedure}
use Rattle.t_rows.specs.Rows.{Binding, inside}
use Rattle.binding_rows.proofs.labels.procedure_parts.Given as goal

abbrev pub invariant-procedures : goal.invariant-procedures
invariant-procedures l =
    (texts : List (List ℕ)) (cells : List Cell) (bs : List Binder) (xs : List Binding) → AllZip (IsBinder texts) l.binders bs
    → AllZip (IsProcedure texts cells) (take l.procedure-index l.procedures) xs → AreParts texts cells [] l.parts.items (map (λ x. inside (names bs) x.value) xs)
