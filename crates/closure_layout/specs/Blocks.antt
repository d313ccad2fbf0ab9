-- What a block and the whole of them owe: lines of terms, codes, what is fetched, and a block for each request.
use Rattle.std.specs.Prelude.{◌≡◌, ℕ, ◌+◌, ◌<◌, ◌≤◌, false, List, [], ◌∷◌, ◌++◌, length, slice_get, IsSomeAnd, Option, Some, None}
use Rattle.std.specs.List.{AllByRecursion}
use Rattle.t_base.specs.declared.basics.Var.{Var}
use Rattle.cps_ir.specs.declared.terms.Term.{Term}
use Rattle.cps_ir.specs.declared.terms.Cps.{Cps}
use Rattle.cps_ir.specs.Reaches.{is_in}
use Rattle.frame_ir.specs.declared.forms.FrameOp.{FrameOp}
use Rattle.frame_ir.specs.declared.forms.FrameOp.TheVariants as Op
use Rattle.frame_ir.specs.declared.forms.FrameEnd.{FrameEnd}
use Rattle.layout_tables.specs.declared.requests.Request.TheVariants as For
use Rattle.layout_relation.specs.Contexts.{paired, Purpose}
use Rattle.layout_relation.specs.Laid.{numbers, AreDistinct, Lays, GoesOn, most_needs, BlockFits, Fetches}
use Rattle.frame_ir.specs.declared.forms.Block.{Block}
use Rattle.layout_tables.specs.declared.requests.Request.{Request}
use Rattle.layout_tables.specs.declared.tables.Tables.{Tables}
use Rattle.layout_tables.specs.declared.requests.Work.{Work}
use Rattle.layout_tables.specs.declared.lines.Line.{Line}
use Rattle.layout_tables.specs.declared.lines.Step.{Step}
use Rattle.layout_tables.specs.Sketches.{Scoped, AreBelow, Ever, Grows, lam_needs, context_of, is_celled, purpose_of, purposes_of, counted}
use Rattle.closure_layout.specs.declared.blocks.OpenScope.{OpenScope}
use Rattle.layout_steps.specs.Steps.{IsLaid}
use Rattle.layout_tables.specs.Additions.{Adds, bound_by}
use Rattle.frame_ir.specs.Parts.{arms_of}
use Rattle.frame_ir.specs.declared.forms.Frames.{Frames}
use Rattle.frame_ir.specs.declared.forms.Template.{Template}
use Rattle.frame_ir.specs.Whole.{HasParams, IsMethodCount}
use Rattle.layout_relation.specs.Laid.{IsLaidOut}
use Rattle.layout_laws.specs.Wholeness.{IsOwed}

-- ---- lines

-- the term at a place is laid out by more operations, and by what the step leads to
pub record IsStep (cps : Cps) (w : Tables) (old new : Work) (before after : Line) (t : ℕ) (step : Step) : Type 0 where
  pub term : Term
  pub is : slice_get cps.terms.items t ≡ Some term
  pub laid : IsLaid cps w old new before after t term step

-- a block goes on so that it lays out a term
pub record IsLaidFrom (cps : Cps) (w : Tables) (old new : Work) (before after : Line) (t : ℕ) (last : FrameEnd) : Type 0 where
  pub made : List FrameOp
  pub ops : after.ops.items ≡ before.ops.items ++ made
  pub grows : Grows w old new
  pub adds : Adds old new (bound_by made) (arms_of last)
  pub lays : Ever w new (λ v. Lays cps v (context_of w before) t made last)

-- a block goes on so that it lays out a term, or that another block does which it goes to
pub record IsGoneFrom (cps : Cps) (w : Tables) (old new : Work) (before after : Line) (t : ℕ) (last : FrameEnd) : Type 0 where
  pub made : List FrameOp
  pub ops : after.ops.items ≡ before.ops.items ++ made
  pub grows : Grows w old new
  pub adds : Adds old new (bound_by made) (arms_of last)
  pub goes : Ever w new (λ v. GoesOn cps v (context_of w before) t made last)

-- what a block binds, and what blocks bind and test
abbrev pub binds_of : Block → List ℕ
binds_of b = numbers b.params ++ bound_by b.ops.items

abbrev pub bound_in : List Block → List ℕ
bound_in [] = []
bound_in (b ∷ blocks) = binds_of b ++ bound_in blocks

abbrev pub arms_in : List Block → List ℕ
arms_in [] = []
arms_in (b ∷ blocks) = arms_of b.last ++ arms_in blocks

-- a block for what was asked for
pub record IsBlockFor (cps : Cps) (w : Tables) (old new : Work) (request : Request) (block : Block) : Type 0 where
  pub grows : Grows w old new
  pub adds : Adds old new (binds_of block) (arms_of block.last)
  pub fits : Ever w new (λ v. BlockFits cps v (purpose_of w request) block)

-- ---- fetching

-- how a value is fetched: from the closure or object, or from the youngest frame
abbrev pub get_of : Option Var → Var → ℕ → FrameOp
get_of None to slot = Op.FrameGet to slot
get_of (Some from) to slot = Op.ClosureGet to from slot

pub record IsFetched (old new : Work) (vars held : Scoped) (before after : List FrameOp) (needs : List Var) (from : Option Var) : Type 0 where
  pub made : List FrameOp
  pub ops : after ≡ before ++ made
  pub count : length made ≡ length needs
  pub below : AreBelow new.next held
  pub requests : new.requests ≡ old.requests
  pub templates : new.templates ≡ old.templates
  pub next : old.next ≤ new.next
  pub adds : Adds old new (bound_by made) []
  pub fetches : (apart : ℕ) → apart < old.next → Fetches (get_of from) apart (numbers needs) vars held made

-- new parameters, and variables that are held in them
pub record IsOpened (old new : Work) (vars : List Var) (opened : OpenScope) : Type 0 where
  pub scope : opened.scope ≡ paired (numbers vars) opened.params
  pub params : numbers opened.params ≡ counted old.next (length vars)
  pub next : new.next ≡ old.next + length vars
  pub requests : new.requests ≡ old.requests
  pub templates : new.templates ≡ old.templates

-- ---- codes

abbrev pub AreApart : Tables → List Var → List Var → Type 0
AreApart w params needs = AllByRecursion (λ x. (is_in (numbers needs) x ≡ false) × (is_celled w x ≡ false)) (numbers params)

pub record IsCallable (cps : Cps) (w : Tables) (params needs : List Var) : Type 0 where
  pub count : length params ≤ 20
  pub distinct : AreDistinct (numbers params)
  pub apart : AreApart w params needs
  pub few : length needs ≤ most_needs cps

-- ---- the whole

-- a block for each request
pub record AreLaid (cps : Cps) (w : Tables) (old new : Work) (blocks : List Block) : Type 0 where
  pub grows : Grows w old new
  pub adds : Adds old new (bound_in blocks) (arms_in blocks)
  -- an arm stands behind the block that ends in it
  pub later : (k : ℕ) (b : Block) → slice_get blocks k ≡ Some b → AllByRecursion (λ arm. k < arm) (arms_of b.last)
  pub count : length new.requests.items ≡ length blocks
  pub fits : (k : ℕ) (purpose : Purpose) → slice_get (purposes_of w new.requests.items) k ≡ Some purpose → IsSomeAnd (slice_get blocks k) (λ b. Ever w new (λ v. BlockFits cps v purpose b))

-- the codes of the procedures that stand first
abbrev pub StandFirst : Tables → ℕ → List Request → Type 0
StandFirst w n requests = (length requests ≡ n) × ((l : ℕ) → l < n → (slice_get requests l ≡ Some (For.CodeOf l)) × (lam_needs w l ≡ []))

-- ---- templates

abbrev pub IsOpIn : Frames → ℕ → Type 0
IsOpIn p o = o < length p.shared.ops.items

-- what a template names is there, and operations and codes go together
pub record IsWholeTemplate (p : Frames) (t : Template) : Type 0 where
  pub together : length t.ops ≡ length t.codes
  pub ops : AllByRecursion (IsOpIn p) t.ops
  pub codes : AllByRecursion (HasParams p IsMethodCount) t.codes

-- frames that lay out a program, and what else makes them whole
pub record IsLayout (cps : Cps) (p : Frames) : Type 0 where
  pub laid : IsLaidOut cps p
  pub owed : IsOwed cps p laid
