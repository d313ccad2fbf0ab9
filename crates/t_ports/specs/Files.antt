-- What a folder tells of its content.
use Rattle.std.specs.Prelude.{◌≡◌, ◌≢◌, ℕ, ◌<◌, List, Option, Some, None, length}
use Rattle.t_ports.specs.Causes.{Rose}
use Rattle.t_ports.specs.declared.ports.FetchFault.{FetchFault}
use Rattle.t_ports.specs.declared.ports.FetchFault.TheVariants as fetch
use Rattle.t_ports.specs.declared.ports.KeepFault.{KeepFault}
use Rattle.t_ports.specs.declared.ports.KeepFault.TheVariants as keep

-- the bytes under each name
abbrev pub Files : Type 0
Files = List ℕ → Option (List ℕ)

-- a fact of the content, where it is told
abbrev pub IfTold : Option Files → (Files → Type 0) → Type 0
IfTold None P = Unit {0}
IfTold (Some files) P = P files

-- a fact of the content before and after: it is told at both times or at none
abbrev pub IfBothTold : Option Files → Option Files → (Files → Files → Type 0) → Type 0
IfBothTold None None P = Unit {0}
IfBothTold (Some old) (Some new) P = P old new
IfBothTold None (Some new) P = ⊥
IfBothTold (Some old) None P = ⊥

abbrev pub IsSame : Files → Files → Type 0
IsSame old new = (name : List ℕ) → new name ≡ old name

pub record Puts (name bytes : List ℕ) (old new : Files) : Type 0 where
  pub here : new name ≡ Some bytes
  pub others : (other : List ℕ) → other ≢ name → new other ≡ old other

-- why a fetch failed
abbrev pub FetchCause : ℕ → ℕ → FetchFault → Type 0
FetchCause before now fetch.Failed = Rose before now
FetchCause before now (fetch.Long read) = Unit {0}
FetchCause before now fetch.Memory = Unit {0}

abbrev pub KeepCause : ℕ → ℕ → KeepFault → Type 0
KeepCause before now keep.Failed = Rose before now
KeepCause before now keep.Memory = Unit {0}

-- there are more bytes than the cap
abbrev pub IsLong : Option Files → List ℕ → ℕ → ℕ → Type 0
IsLong told name cap read = (cap < read) × IfTold told (λ files. (bytes : List ℕ) × (files name ≡ Some bytes) × (cap < length bytes))

abbrev pub FetchFails : Option Files → List ℕ → ℕ → FetchFault → Type 0
FetchFails told name cap fetch.Failed = Unit {0}
FetchFails told name cap (fetch.Long read) = IsLong told name cap read
FetchFails told name cap fetch.Memory = Unit {0}
