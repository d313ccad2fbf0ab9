-- What the parts of a command come to.
use Rattle.std.specs.Prelude.{◌≡◌, ℕ, ◌⊎◌, List, Ok, Err}
use Rattle.t_base.specs.Lines.{line_of, column_of}
use Rattle.t_core.specs.declared.forms.UnitCore.{UnitCore}
use Rattle.t_core.specs.Counts.{weight_of}
use Rattle.t_core.specs.Limits.{limit_of}
use Rattle.t_ports.specs.declared.ports.Folder.{Ghosts as FolderOf}
use Rattle.t_ports.specs.declared.ports.Sink.{Ghosts as SinkOf}
use Rattle.m68020_step.specs.declared.machine.Sizes.{Sizes}
use Rattle.image_file.specs.Grammar.{Parts, IsImageOf}
use Rattle.image_file.specs.Reading.{image_at}
use Rattle.orbit_build.specs.declared.fault.BuildFault.{BuildFault}
use Rattle.orbit_build.specs.declared.fault.BuildFault.TheVariants as build_fault
use Rattle.orbit_build.specs.Faithful.{HasCore, IsOver, IsUnbuilt, IsBuilt, Faithful}
use Rattle.orbit_monitor.specs.Answering.{Loaded, fresh}
use Rattle.orbit_tools.specs.Listing.{listing_of}
use Rattle.orbit_cli.specs.declared.status.Status.{Status}
use Rattle.orbit_cli.specs.declared.status.Status.TheVariants as status
use Rattle.orbit_cli.specs.declared.prepare.Counts.{Counts}
use Rattle.orbit_cli.specs.declared.refusal.SourceKind.TheVariants as source
use Rattle.orbit_cli.specs.declared.refusal.Refusal.{Refusal}
use Rattle.orbit_cli.specs.declared.refusal.Refusal.TheVariants as refusal
use Rattle.orbit_cli.specs.Lines.{source_line, over_line, bad_image_line, unread_line, long_line, memory_line, unbuilt_line, write_line}
use Rattle.orbit_cli.specs.Changes.{Change, FetchFailed, KeepFailed, Gives, HasMore, GivesSuch}
use Rattle.orbit_cli.specs.Answer.{Answer, most_nodes}
use Rattle.orbit_cli.specs.Outcome.{most_text, most_image, HasFault, HasImage, IsAnswered, IsUnwritten}

-- ---- refusals

abbrev pub refusal_line : List ℕ → Refusal → List ℕ
refusal_line name refusal.Unread = unread_line name
refusal_line name refusal.Long = long_line name
refusal_line name (refusal.Source kind line column) = source_line name line column kind
refusal_line name (refusal.Over fault) = over_line name fault
refusal_line name (refusal.Bad kind at) = bad_image_line name kind at
refusal_line name refusal.Unbuilt = unbuilt_line
refusal_line name refusal.Unkept = write_line
refusal_line name refusal.Memory = memory_line

abbrev pub refusal_status : Refusal → Status
refusal_status refusal.Unread = status.FetchFault
refusal_status refusal.Long = status.LongFile
refusal_status (refusal.Source kind line column) = status.SourceRefused
refusal_status (refusal.Over fault) = status.Limit
refusal_status (refusal.Bad kind at) = status.BadImage
refusal_status refusal.Unbuilt = status.Unbuilt
refusal_status refusal.Unkept = status.WriteFault
refusal_status refusal.Memory = status.Memory

-- the refusal that a fault of a build is
abbrev pub refusal_of : List ℕ → BuildFault → Refusal
refusal_of text (build_fault.Read kind span) = refusal.Source (source.Read kind) (line_of text span.start) (column_of text span.start)
refusal_of text (build_fault.Syntax kind span) = refusal.Source (source.Syntax kind) (line_of text span.start) (column_of text span.start)
refusal_of text (build_fault.Limit fault) = refusal.Over fault
refusal_of text build_fault.Unbuilt = refusal.Unbuilt
refusal_of text build_fault.Memory = refusal.Memory

-- why a text that may be such is refused
abbrev pub TextCause : (List ℕ → Type 0) → List ℕ → Refusal → Type 0
TextCause IsSuch text (refusal.Source kind line column) = HasFault kind line column text
TextCause IsSuch text (refusal.Over fault) = IsOver text fault
TextCause IsSuch text refusal.Unbuilt = IsSuch text
TextCause IsSuch text refusal.Memory = Unit {0}
TextCause IsSuch text _ = ⊥

-- no text
abbrev pub NoText : List ℕ → Type 0
NoText text = ⊥

-- the text has a core within the limits, and these are its counts
pub record IsCounted (text : List ℕ) (counts : Counts) : Type 0 where
  pub unit : UnitCore
  pub core : HasCore text unit
  pub within : limit_of unit ≡ Ok tt
  pub nodes_are : counts.nodes ≡ most_nodes unit
  pub weight_is : counts.weight ≡ weight_of unit

module _ {F : Type 0} (f : FolderOf F) (folder : Change F) where
  -- why the text of this name is refused, or its image isn't kept
  abbrev pub SourceCause : (List ℕ → Type 0) → Type 0 → List ℕ → Refusal → Type 0
  SourceCause IsSuch unkept src refusal.Unread = FetchFailed f folder
  SourceCause IsSuch unkept src refusal.Long = HasMore f folder most_text src
  SourceCause IsSuch unkept src (refusal.Source kind line column) = GivesSuch f folder most_text src (HasFault kind line column)
  SourceCause IsSuch unkept src (refusal.Over fault) = GivesSuch f folder most_text src (λ text. IsOver text fault)
  SourceCause IsSuch unkept src (refusal.Bad kind at) = ⊥
  SourceCause IsSuch unkept src refusal.Unbuilt = GivesSuch f folder most_text src IsSuch
  SourceCause IsSuch unkept src refusal.Unkept = unkept
  SourceCause IsSuch unkept src refusal.Memory = Unit {0}

  abbrev pub CompileCause : List ℕ → Refusal → Type 0
  CompileCause src r = SourceCause IsUnbuilt (KeepFailed f folder × GivesSuch f folder most_text src HasImage) src r

  abbrev pub CheckCause : List ℕ → Refusal → Type 0
  CheckCause src r = SourceCause NoText ⊥ src r

  -- why the image of this name is refused
  abbrev pub ImageCause : List ℕ → Refusal → Type 0
  ImageCause img refusal.Unread = FetchFailed f folder
  ImageCause img refusal.Long = HasMore f folder most_image img
  ImageCause img (refusal.Bad kind at) = GivesSuch f folder most_image img (λ bytes. image_at bytes ≡ Err (kind, at))
  ImageCause img refusal.Memory = Unit {0}
  ImageCause img _ = ⊥

  -- why bytes weren't kept
  abbrev pub KeepCause : Refusal → Type 0
  KeepCause refusal.Unkept = KeepFailed f folder
  KeepCause refusal.Memory = Unit {0}
  KeepCause _ = ⊥

  -- ---- images

  -- the bytes are an image of the text of this name
  pub record IsTranslated (src bytes : List ℕ) : Type 0 where
    pub text : List ℕ
    pub given : Gives f folder most_text src text
    pub built : IsBuilt text
    pub faithful : Faithful text bytes

  -- the text of this name has these counts
  pub record IsFetchedCounts (src : List ℕ) (counts : Counts) : Type 0 where
    pub text : List ℕ
    pub given : Gives f folder most_text src text
    pub counted : IsCounted text counts

  -- the folder has this image under the name
  pub record IsFetched (img : List ℕ) (image : Parts) : Type 0 where
    pub bytes : List ℕ
    pub given : Gives f folder most_image img bytes
    pub spelled : IsImageOf bytes image

  -- its program is loaded
  pub record IsFetchedProgram (img : List ℕ) (sizes : Sizes) (loaded : Loaded) : Type 0 where
    pub image : Parts
    pub fetched : IsFetched img image
    pub fresh_is : loaded ≡ fresh image sizes

  -- the text is its listing
  pub record IsFetchedListing (img text : List ℕ) : Type 0 where
    pub image : Parts
    pub fetched : IsFetched img image
    pub listed : text ≡ listing_of image.code

-- the program of an image that is spelled so is loaded
pub record IsProgram (bytes : List ℕ) (sizes : Sizes) (loaded : Loaded) : Type 0 where
  pub image : Parts
  pub spelled : IsImageOf bytes image
  pub fresh_is : loaded ≡ fresh image sizes

-- ---- what is put

module _ {S E : Type 0} (o : SinkOf S) (e : SinkOf E) (out : Change S) (err : Change E) where
  -- out, err and the status are the answer's, or a put to out failed
  abbrev pub Reports : Answer → Status → Type 0
  Reports a ended = IsAnswered o e out err a ended ⊎ (IsUnwritten o e out err a × (ended ≡ status.WriteFault))
