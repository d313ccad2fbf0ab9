use Rattle.std.proofs.Common.{ℕ, List, take, map}
use Rattle.std.specs.List.{AllZip}
use Rattle.t_forms.specs.declared.arena.Cell.{Cell}
use Rattle.t_rows.specs.Bindings.{IsBinder, IsBinding}
use Rattle.t_rows.specs.Rows.{Binding}
use Rattle.t_rows.proofs.names.bound_in.Given as goal

abbrev pub invariant-bindings : goal.invariant-bindings
invariant-bindings l =
    (texts : List (List ℕ)) (cells : List Cell) (bs : List Binding) → AllZip (IsBinding texts cells) (take l.binding-index l.bindings) bs
    → AllZip (IsBinder texts) l.names.items (map (λ b. b.binds) bs)
