use Rattle.std.proofs.Common.{ℕ, List, take, map}
use Rattle.std.specs.List.{AllZip}
use Rattle.t_forms.specs.Data.{Binder}
use Rattle.t_forms.specs.Held.{IsName}
use Rattle.t_rows.specs.Bindings.{IsBinder}
use Rattle.t_rows.proofs.names.names_of.Given as goal

abbrev pub invariant-binders : goal.invariant-binders
invariant-binders l =
    (texts : List (List ℕ)) (bs : List Binder) → AllZip (IsBinder texts) (take l.binder-index l.binders) bs → AllZip (IsName texts) l.names.items (map (λ b. b.name) bs)
