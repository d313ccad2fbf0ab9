-- What a call does to a folder and to a sink.
use Rattle.std.specs.Prelude.{◌≡◌, ℕ, ◌<◌, ◌≤◌, List, length, Some, Result, OnOk, OnErr}
use Rattle.t_ports.specs.declared.ports.Folder.{Ghosts as FolderOf}
use Rattle.t_ports.specs.declared.ports.Sink.{Ghosts as SinkOf}
use Rattle.t_ports.specs.Causes.{Rose, HasCause}
use Rattle.t_ports.specs.Files.{IfTold, IfBothTold, IsSame, Puts}
use Rattle.t_ports.specs.Pieces.{TookFront}

-- a thing as it is before a call, and as it is after it
pub record Change (T : Type 0) : Type 0 where
  pub old : T
  pub new : T

abbrev pub change : {T : Type 0} → T → T → Change T
change old new = record { old = old; new = new }

-- it was not touched
abbrev pub IsIdle : {T : Type 0} → Change T → Type 0
IsIdle c = c.new ≡ c.old

-- ---- sinks

-- a put to the sink failed
abbrev pub PutFailed : {S : Type 0} → SinkOf S → Change S → Type 0
PutFailed o out = Rose (o.faults out.old) (o.faults out.new)

-- the sink took a front of the text and nothing else, and all of it where no put to it failed
pub record Says {S : Type 0} (o : SinkOf S) (out : Change S) (text : List ℕ) : Type 0 where
  pub whole : (PutFailed o out → ⊥) → o.took out.old text out.new
  pub front : TookFront o.took out.old text out.new

-- A text was put: the sink took it whole, or a front of it where the answer says that a put failed. Its count of faults rose then
-- and only then.
pub record IsPut {S T D : Type 0} (o : SinkOf S) (out : Change S) (text : List ℕ) (result : Result T D) : Type 0 where
  pub whole : OnOk result (o.took out.old text out.new)
  pub part : OnErr result (TookFront o.took out.old text out.new)
  pub cause : HasCause (o.faults out.old) (o.faults out.new) result

-- no put to it failed
abbrev pub HasTakenAll : {S : Type 0} → SinkOf S → Change S → Type 0
HasTakenAll o out = o.faults out.new ≡ o.faults out.old

-- a put to it failed, behind a front of what was due
pub record IsCut {S : Type 0} (o : SinkOf S) (out : Change S) (due : List ℕ) : Type 0 where
  pub failed : PutFailed o out
  pub front : TookFront o.took out.old due out.new

-- ---- folders

module _ {F : Type 0} (f : FolderOf F) (folder : Change F) where
  abbrev pub FetchFailed : Type 0
  FetchFailed = Rose (f.fetch_faults folder.old) (f.fetch_faults folder.new)

  abbrev pub KeepFailed : Type 0
  KeepFailed = Rose (f.keep_faults folder.old) (f.keep_faults folder.new)

  -- no fetch and no keep failed
  pub record HasServed : Type 0 where
    pub fetches : f.fetch_faults folder.new ≡ f.fetch_faults folder.old
    pub keeps : f.keep_faults folder.new ≡ f.keep_faults folder.old

  -- exactly these names were fetched, in this order
  abbrev pub AsksFor : List (List ℕ) → Type 0
  AsksFor names = f.fetched folder.old names folder.new

  -- nothing was kept
  abbrev pub IsUnchanged : Type 0
  IsUnchanged = IfBothTold (f.files folder.old) (f.files folder.new) IsSame

  -- the bytes were kept under the name, and no other name was touched
  abbrev pub Keeps : List ℕ → List ℕ → Type 0
  Keeps name bytes = IfBothTold (f.files folder.old) (f.files folder.new) (Puts name bytes)

  -- it gave the bytes that it had under the name, at most so many
  pub record Gives (most : ℕ) (name bytes : List ℕ) : Type 0 where
    pub told : IfTold (f.files folder.old) (λ files. files name ≡ Some bytes)
    pub short : length bytes ≤ most

  -- it had more bytes than that under the name
  abbrev pub HasMore : ℕ → List ℕ → Type 0
  HasMore most name = IfTold (f.files folder.old) (λ files. (bytes : List ℕ) × (files name ≡ Some bytes) × (most < length bytes))

  -- the bytes that it gave are so
  abbrev pub GivesSuch : ℕ → List ℕ → (List ℕ → Type 0) → Type 0
  GivesSuch most name IsSo = (bytes : List ℕ) × Gives most name bytes × IsSo bytes
