-- The bindings of DO.
use Rattle.std.proofs.Common.{◌≡◌, ℕ, List, [], ◌∷◌, Some, refl}
use Rattle.std.specs.List.{AllZip}
use Rattle.t_forms.specs.declared.arena.Cell.{Cell}
use Rattle.t_forms.specs.Data.{Datum, items_of}
use Rattle.binding_rows.specs.declared.loops.Step.{Step as CodeStep}
use Rattle.t_rows.specs.Lists.{Grows}
use Rattle.t_rows.specs.Rows.{Step}
use Rattle.binding_rows.specs.Steps.{IsStep, step_of}
use Rattle.t_rows.proofs.Growth.{held_grows}
use Rattle.t_rows.proofs.ZipLemmas.{zip_weaker}

pub step_two : (d x e : Datum) (ds : List Datum) → items_of d ≡ Some ds → ds ≡ x ∷ e ∷ [] → step_of d ≡ Some (record { name = x; first = e; next = x })
step_two d x e ds p q = rw (p, q) refl

pub step_three : (d x e t : Datum) (ds : List Datum) → items_of d ≡ Some ds → ds ≡ x ∷ e ∷ t ∷ [] → step_of d ≡ Some (record { name = x; first = e; next = t })
step_three d x e t ds p q = rw (p, q) refl

pub steps_grow : {a b : List Cell} → Grows a b → (names : List (List ℕ)) (cs : List CodeStep) (xs : List Step) → AllZip (IsStep names a) cs xs → AllZip (IsStep names b) cs xs
steps_grow {a = a} {b = b} g names cs xs h =
    zip_weaker (IsStep names a) (IsStep names b)
    (λ c x r. (held_grows g names c.name x.name r.0, held_grows g names c.first x.first r.1, held_grows g names c.next x.next r.2)) cs xs h
