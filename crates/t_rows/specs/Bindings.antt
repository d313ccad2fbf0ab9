-- Names and bindings, as the code has them.
use Rattle.std.specs.Prelude.{◌≡◌, ℕ, List, Option, Some, None}
use Rattle.std.specs.Global.{Vec}
use Rattle.std.specs.List.{AllZip}
use Rattle.std.specs.Option.{option_and_then}
use Rattle.t_forms.specs.Data.{Datum, Binder, binder_of, binders_of, items_of}
use Rattle.t_forms.specs.Held.{Held, IsName}
use Rattle.t_forms.specs.declared.arena.Cell.{Cell}
use Rattle.t_rows.specs.declared.names.Binder.{Binder as CodeBinder}
use Rattle.t_rows.specs.declared.names.Binding.{Binding as CodeBinding}
use Rattle.t_rows.specs.Rows.{Binding, binding_of, name_datum}

abbrev pub IsBinder : List (List ℕ) → CodeBinder → Binder → Type 0
IsBinder names c b = (c.at ≡ b.at) × IsName names c.name b.name

abbrev pub IsBinderOf : List (List ℕ) → Option CodeBinder → Datum → Type 0
IsBinderOf names None d = binder_of d ≡ None
IsBinderOf names (Some c) d = (b : Binder) × (binder_of d ≡ Some b) × IsBinder names c b

-- all of them, if each is there
abbrev pub IsAllOf : {A B : Type 0} → (A → B → Type 0) → Option (Vec A) → Option (List B) → Type 0
IsAllOf R None xs = xs ≡ None
IsAllOf {B = B} R (Some v) xs = (ys : List B) × (xs ≡ Some ys) × AllZip R v.items ys

-- the names in a list
abbrev pub params_of : Datum → Option (List Binder)
params_of d = option_and_then binders_of (items_of d)

-- (x e), with the place of x
abbrev pub IsBinding : List (List ℕ) → List Cell → CodeBinding → Binding → Type 0
IsBinding names cells c b = IsBinder names c.name b.binds × Held names cells c.value b.value × Held names cells c.place (name_datum b.binds)

abbrev pub IsBindingOf : List (List ℕ) → List Cell → Option CodeBinding → Datum → Type 0
IsBindingOf names cells None d = binding_of d ≡ None
IsBindingOf names cells (Some c) d = (b : Binding) × (binding_of d ≡ Some b) × IsBinding names cells c b
