-- What a command comes to: by its status, what stands on the sinks, what the folder holds, and why.
use Rattle.std.specs.Prelude.{◌≡◌, ℕ, ◌^◌, ◌⊎◌, Bool, true, false, List, Option, Some, None, Ok, Err}
use Rattle.t_ports.specs.declared.ports.Folder.{Ghosts as FolderOf}
use Rattle.t_ports.specs.declared.ports.Sink.{Ghosts as SinkOf}
use Rattle.t_base.specs.declared.basics.Span.{Span}
use Rattle.t_base.specs.Lines.{line_of, column_of}
use Rattle.t_reader.specs.declared.fault.ReadFault.TheVariants as faults
use Rattle.t_reader.specs.Grammar.{FirstFault}
use Rattle.t_core.specs.declared.forms.UnitCore.{UnitCore}
use Rattle.t_core.specs.declared.limiting.LimitFault.{LimitFault}
use Rattle.t_core.specs.Limits.{limit_of}
use Rattle.image_file.specs.declared.fault.ImageKind.{ImageKind}
use Rattle.image_file.specs.Grammar.{Parts, IsImageOf}
use Rattle.image_file.specs.Reading.{image_at}
use Rattle.orbit_build.specs.Faithful.{HasCore, HasRefusal, IsOver, IsUnbuilt, IsBuilt, Faithful}
use Rattle.orbit_build.specs.Full.{IsFullFor}
use Rattle.orbit_cli.specs.declared.refusal.SourceKind.{SourceKind}
use Rattle.orbit_cli.specs.declared.refusal.SourceKind.TheVariants as source
use Rattle.orbit_cli.specs.declared.words.Bounds.{Bounds}
use Rattle.orbit_cli.specs.declared.status.Status.{Status}
use Rattle.orbit_cli.specs.declared.status.Status.TheVariants as status
use Rattle.orbit_cli.specs.Words.{Command, Compile, Run, Go, Check, Listing, command_of, names_fetched}
use Rattle.orbit_cli.specs.Lines.{usage_line, source_line, over_line, bad_image_line, unread_line, long_line, write_line, memory_line, unbuilt_line}
use Rattle.orbit_cli.specs.Changes.{Change, IsIdle, Says, IsCut, HasTakenAll, HasServed, AsksFor, FetchFailed, KeepFailed, IsUnchanged, Keeps, Gives, HasMore, GivesSuch}
use Rattle.orbit_cli.specs.Answer.{Answer, answer, listing_answer, counts_answer}

-- most bytes of a text, and of an image
abbrev pub most_text : ℕ
most_text = 2 ^ 20

abbrev pub most_image : ℕ
most_image = 2 ^ 29

-- ---- texts

-- this is the first fault of the text, or the text has no fault and this is the first refusal of its forms
abbrev pub IsFirst : List ℕ → SourceKind → Span → Type 0
IsFirst text (source.Read kind) span = FirstFault text (faults.Fault kind span)
IsFirst text (source.Syntax kind) span = HasRefusal text kind span

-- that stands at this line and column
pub record HasFault (kind : SourceKind) (line column : ℕ) (text : List ℕ) : Type 0 where
  pub span : Span
  pub first : IsFirst text kind span
  pub line_is : line ≡ line_of text span.start
  pub column_is : column ≡ column_of text span.start

abbrev pub HasImage : List ℕ → Type 0
HasImage text = (bytes : List ℕ) × IsBuilt text × Faithful text bytes

-- the bytes are an image of the text that the folder has under the one name, and were kept under the other
pub record IsCompiled {F : Type 0} (f : FolderOf F) (folder : Change F) (src img bytes : List ℕ) : Type 0 where
  pub text : List ℕ
  pub given : Gives f folder most_text src text
  pub built : IsBuilt text
  pub faithful : Faithful text bytes
  pub kept : Keeps f folder img bytes

-- ---- what a command does to the folder and to err

-- Of a status at which all was done, or a run has ended or was cut off by its bound, a fact.
abbrev pub IfServed : Status → Type 0 → Type 0
IfServed status.Done p = p
IfServed status.SourceFault p = p
IfServed status.HeapFull p = p
IfServed status.StackFull p = p
IfServed status.StepLimit p = p
IfServed status.MachineStop p = p
IfServed _ p = Unit {0}

module _ {F E : Type 0} (f : FolderOf F) (e : SinkOf E) (folder : Change F) (err : Change E) where
  -- nothing was kept, err took the line, and this is why
  pub record IsRefused (line : List ℕ) (cause : Type 0) : Type 0 where
    pub unchanged : IsUnchanged f folder
    pub noted : Says e err line
    pub why : cause

  -- by the status, why a text came to nothing
  abbrev pub TextRefused : List ℕ → Status → Type 0
  TextRefused src status.FetchFault = IsRefused (unread_line src) (FetchFailed f folder)
  TextRefused src status.LongFile = IsRefused (long_line src) (HasMore f folder most_text src)
  TextRefused src status.SourceRefused =
      (kind : SourceKind) × (line : ℕ) × (column : ℕ) × IsRefused (source_line src line column kind) (GivesSuch f folder most_text src (HasFault kind line column))
  TextRefused src status.Limit = (fault : LimitFault) × IsRefused (over_line src fault) (GivesSuch f folder most_text src (λ text. IsOver text fault))
  TextRefused src status.Memory = IsRefused memory_line (Unit {0})
  TextRefused src _ = ⊥

  -- by the status, why an image came to nothing
  abbrev pub ImageRefused : List ℕ → Status → Type 0
  ImageRefused img status.FetchFault = IsRefused (unread_line img) (FetchFailed f folder)
  ImageRefused img status.LongFile = IsRefused (long_line img) (HasMore f folder most_image img)
  ImageRefused img status.BadImage =
      (kind : ImageKind) × (at : ℕ) × IsRefused (bad_image_line img kind at) (GivesSuch f folder most_image img (λ bytes. image_at bytes ≡ Err (kind, at)))
  ImageRefused img status.Memory = IsRefused memory_line (Unit {0})
  ImageRefused img _ = ⊥

  -- of `compile`, which puts nothing to out. Some texts that aren't refused are not built yet.
  abbrev pub CompileOutcome : List ℕ → List ℕ → Status → Type 0
  CompileOutcome src img status.Done = IsIdle err × ((bytes : List ℕ) × IsCompiled f folder src img bytes)
  CompileOutcome src img status.WriteFault = IsRefused write_line (KeepFailed f folder × GivesSuch f folder most_text src HasImage)
  CompileOutcome src img status.Unbuilt = IsRefused unbuilt_line (GivesSuch f folder most_text src IsUnbuilt)
  CompileOutcome src img ended = TextRefused src ended

-- ---- what it does to out

module _ {S E : Type 0} (o : SinkOf S) (e : SinkOf E) (out : Change S) (err : Change E) (a : Answer) where
  -- out, err and the status are the answer's; err wasn't touched where all is done
  pub record IsAnswered (ended : Status) : Type 0 where
    pub printed : o.took out.old a.out out.new
    pub noted : Says e err a.err
    pub silent : ended ≡ status.Done → IsIdle err
    pub status_is : a.status ≡ ended

  -- a put to out failed, behind a front of the answer's text
  pub record IsUnwritten : Type 0 where
    pub cut : IsCut o out a.out
    pub noted : Says e err write_line

module _ {F S E : Type 0} (f : FolderOf F) (o : SinkOf S) (e : SinkOf E) (folder : Change F) (out : Change S) (err : Change E) where
  -- the folder has a text under the name, whose core is within the limits, and of the core such an answer is due
  pub record OfCore (src : List ℕ) (IsDue : UnitCore → Type 0) : Type 0 where
    pub text : List ℕ
    pub unit : UnitCore
    pub given : Gives f folder most_text src text
    pub core : HasCore text unit
    pub within : limit_of unit ≡ Ok tt
    pub unchanged : IsUnchanged f folder
    pub due : IsDue unit

  -- of `check`
  abbrev pub CheckOutcome : List ℕ → Status → Type 0
  CheckOutcome src status.Done = OfCore src (λ unit. IsAnswered o e out err (counts_answer unit) status.Done)
  CheckOutcome src status.WriteFault = OfCore src (λ unit. IsUnwritten o e out err (counts_answer unit))
  CheckOutcome src ended = IsIdle out × TextRefused f e folder err src ended

  -- the folder has an image under the name, of which such an answer is due
  pub record OfImage (img : List ℕ) (IsDue : Parts → Type 0) : Type 0 where
    pub bytes : List ℕ
    pub image : Parts
    pub given : Gives f folder most_image img bytes
    pub spelled : IsImageOf bytes image
    pub unchanged : IsUnchanged f folder
    pub due : IsDue image

  -- the image was run, and this is the answer of its run
  abbrev pub IsRun : List ℕ → Bounds → Status → Type 0
  IsRun img bounds ended = OfImage img (λ image. IsAnswered o e out err (answer image bounds.sizes bounds.steps) ended)

  -- of `run`
  abbrev pub RunOutcome : List ℕ → Bounds → Status → Type 0
  RunOutcome img bounds status.Done = IsRun img bounds status.Done
  RunOutcome img bounds status.SourceFault = IsRun img bounds status.SourceFault
  RunOutcome img bounds status.HeapFull = IsRun img bounds status.HeapFull
  RunOutcome img bounds status.StackFull = IsRun img bounds status.StackFull
  RunOutcome img bounds status.StepLimit = IsRun img bounds status.StepLimit
  RunOutcome img bounds status.MachineStop = IsRun img bounds status.MachineStop
  RunOutcome img bounds status.WriteFault = OfImage img (λ image. IsUnwritten o e out err (answer image bounds.sizes bounds.steps))
  RunOutcome img bounds ended = IsIdle out × ImageRefused f e folder err img ended

  -- of `list`
  abbrev pub ListOutcome : List ℕ → Status → Type 0
  ListOutcome img status.Done = OfImage img (λ image. IsAnswered o e out err (listing_answer image) status.Done)
  ListOutcome img status.WriteFault = OfImage img (λ image. IsUnwritten o e out err (listing_answer image))
  ListOutcome img ended = IsIdle out × ImageRefused f e folder err img ended

  -- bytes are an image of the text and were kept, and of the image that they spell such an answer is due
  pub record OfText (src img : List ℕ) (IsDue : Parts → Type 0) : Type 0 where
    pub bytes : List ℕ
    pub image : Parts
    pub compiled : IsCompiled f folder src img bytes
    pub spelled : IsImageOf bytes image
    pub due : IsDue image

  -- the very bytes that were kept were run, and this is the answer of their run
  abbrev pub IsKeptAndRun : List ℕ → List ℕ → Bounds → Status → Type 0
  IsKeptAndRun src img bounds ended = OfText src img (λ image. IsAnswered o e out err (answer image bounds.sizes bounds.steps) ended)

  -- so it was, and its run has filled the heap or the stack, at the cost of the text's unit
  pub record IsKeptAndFull (src img : List ℕ) (bounds : Bounds) (stack : Bool) (ended : Status) : Type 0 where
    pub ran : IsKeptAndRun src img bounds ended
    pub full : IsFullFor ran.compiled.text ran.image bounds.sizes bounds.steps stack

  -- Of `go`: its run never stops the machine, and fills the heap or the stack only where the text's own cost is greater than the size. Where
  -- there is no run, all is as with `compile`.
  abbrev pub GoOutcome : List ℕ → List ℕ → Bounds → Status → Type 0
  GoOutcome src img bounds status.Done = IsKeptAndRun src img bounds status.Done
  GoOutcome src img bounds status.SourceFault = IsKeptAndRun src img bounds status.SourceFault
  GoOutcome src img bounds status.HeapFull = IsKeptAndFull src img bounds false status.HeapFull
  GoOutcome src img bounds status.StackFull = IsKeptAndFull src img bounds true status.StackFull
  GoOutcome src img bounds status.StepLimit = IsKeptAndRun src img bounds status.StepLimit
  GoOutcome src img bounds status.MachineStop = ⊥
  GoOutcome src img bounds status.WriteFault =
      OfText src img (λ image. IsUnwritten o e out err (answer image bounds.sizes bounds.steps)) ⊎ (IsIdle out × CompileOutcome f e folder err src img status.WriteFault)
  GoOutcome src img bounds ended = IsIdle out × CompileOutcome f e folder err src img ended

  -- of words that are no command
  pub record IsMisused (ended : Status) : Type 0 where
    pub usage : ended ≡ status.Usage
    pub idle : IsIdle out
    pub untouched : IsIdle folder
    pub noted : Says e err usage_line

  -- of a command
  abbrev pub CommandOutcome : Option Command → Status → Type 0
  CommandOutcome (Some (Compile src img)) ended = IsIdle out × CompileOutcome f e folder err src img ended
  CommandOutcome (Some (Run img bounds)) ended = RunOutcome img bounds ended
  CommandOutcome (Some (Go src img bounds)) ended = GoOutcome src img bounds ended
  CommandOutcome (Some (Check src)) ended = CheckOutcome src ended
  CommandOutcome (Some (Listing img)) ended = ListOutcome img ended
  CommandOutcome None ended = IsMisused ended

  -- Of the program on some words. It fetches what they name and nothing else; where all was done or a run reported, no fetch, keep or
  -- put to out failed.
  pub record Outcome (words : List (List ℕ)) (ended : Status) : Type 0 where
    pub comes : CommandOutcome (command_of words) ended
    pub served : IfServed ended (HasServed f folder × HasTakenAll o out)
    pub asked : AsksFor f folder (names_fetched (command_of words))
