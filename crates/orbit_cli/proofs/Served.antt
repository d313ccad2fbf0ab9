-- At which statuses no fetch, keep or put failed.
use Rattle.std.proofs.Common.{◌≡◌, sym, subst, ◌∙◌}
use Rattle.t_ports.specs.declared.ports.Folder.{Ghosts as FolderOf}
use Rattle.orbit_cli.specs.declared.status.Status.{Status}
use Rattle.orbit_cli.specs.declared.status.Status.TheVariants as status
use Rattle.orbit_cli.specs.declared.refusal.Refusal.{Refusal}
use Rattle.orbit_cli.specs.declared.refusal.Refusal.TheVariants as refusal
use Rattle.orbit_cli.specs.Changes.{change, HasServed}
use Rattle.orbit_cli.specs.Outcome.{IfServed}
use Rattle.orbit_cli.specs.Parts.{refusal_status}

-- what holds holds at each of them
pub if_served : (s : Status) (P : Type 0) → P → IfServed s P
if_served status.Done P p = p
if_served status.Usage P p = tt
if_served status.SourceRefused P p = tt
if_served status.SourceFault P p = p
if_served status.HeapFull P p = p
if_served status.StackFull P p = p
if_served status.StepLimit P p = p
if_served status.BadImage P p = tt
if_served status.FetchFault P p = tt
if_served status.WriteFault P p = tt
if_served status.Memory P p = tt
if_served status.Limit P p = tt
if_served status.MachineStop P p = p
if_served status.LongFile P p = tt
if_served status.Unbuilt P p = tt

pub served_map : (s : Status) (P Q : Type 0) → (P → Q) → IfServed s P → IfServed s Q
served_map status.Done P Q leads p = leads p
served_map status.Usage P Q leads p = tt
served_map status.SourceRefused P Q leads p = tt
served_map status.SourceFault P Q leads p = leads p
served_map status.HeapFull P Q leads p = leads p
served_map status.StackFull P Q leads p = leads p
served_map status.StepLimit P Q leads p = leads p
served_map status.BadImage P Q leads p = tt
served_map status.FetchFault P Q leads p = tt
served_map status.WriteFault P Q leads p = tt
served_map status.Memory P Q leads p = tt
served_map status.Limit P Q leads p = tt
served_map status.MachineStop P Q leads p = leads p
served_map status.LongFile P Q leads p = tt
served_map status.Unbuilt P Q leads p = tt

pub served_and : (s : Status) (P Q : Type 0) → IfServed s P → IfServed s Q → IfServed s (P × Q)
served_and status.Done P Q p q = (p, q)
served_and status.Usage P Q p q = tt
served_and status.SourceRefused P Q p q = tt
served_and status.SourceFault P Q p q = (p, q)
served_and status.HeapFull P Q p q = (p, q)
served_and status.StackFull P Q p q = (p, q)
served_and status.StepLimit P Q p q = (p, q)
served_and status.BadImage P Q p q = tt
served_and status.FetchFault P Q p q = tt
served_and status.WriteFault P Q p q = tt
served_and status.Memory P Q p q = tt
served_and status.Limit P Q p q = tt
served_and status.MachineStop P Q p q = (p, q)
served_and status.LongFile P Q p q = tt
served_and status.Unbuilt P Q p q = tt

-- a refusal is none of them
refusal_serves : (r : Refusal) (P : Type 0) → IfServed (refusal_status r) P
refusal_serves refusal.Unread P = tt
refusal_serves refusal.Long P = tt
refusal_serves (refusal.Source kind line column) P = tt
refusal_serves (refusal.Over fault) P = tt
refusal_serves (refusal.Bad kind at) P = tt
refusal_serves refusal.Unbuilt P = tt
refusal_serves refusal.Unkept P = tt
refusal_serves refusal.Memory P = tt

pub refused_serves : (r : Refusal) (s : Status) (P : Type 0) → s ≡ refusal_status r → IfServed s P
refused_serves r s P is = subst (λ (ended : Status). IfServed ended P) (sym is) (refusal_serves r P)

pub other_serves : (s t : Status) (P : Type 0) → s ≡ t → IfServed t P → IfServed s P
other_serves s t P is p = subst (λ (ended : Status). IfServed ended P) (sym is) p

-- a fetch served, and then a keep
pub serves_both : {F : Type 0} (f : FolderOf F) (old mid new : F) → HasServed f (change old mid) → HasServed f (change mid new) → HasServed f (change old new)
serves_both f old mid new first second = record { fetches = second.fetches ∙ first.fetches; keeps = second.keeps ∙ first.keeps }
