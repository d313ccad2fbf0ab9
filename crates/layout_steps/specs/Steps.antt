-- What the parts of a block owe to the whole: closures, arguments, frames and jumps.
use Rattle.std.specs.Prelude.{◌≡◌, ℕ, ◌<◌, ◌≤◌, nat_lt, Bool, true, false, List, [], ◌∷◌, ◌++◌, length, slice_get, Option, Some, None}
use Rattle.std.specs.List.{AllByRecursion}
use Rattle.t_base.specs.declared.basics.Var.{Var}
use Rattle.t_base.specs.declared.shared_parts.Shared.{Shared}
use Rattle.cps_ir.specs.declared.args.Arg.{Arg}
use Rattle.cps_ir.specs.declared.terms.Cont.{Cont}
use Rattle.cps_ir.specs.declared.terms.Cont.TheVariants as Continuation
use Rattle.cps_ir.specs.declared.terms.Term.{Term}
use Rattle.cps_ir.specs.declared.terms.Cps.{Cps}
use Rattle.frame_ir.specs.declared.forms.Place.TheVariants as At
use Rattle.frame_ir.specs.declared.forms.FrameOp.{FrameOp}
use Rattle.frame_ir.specs.declared.forms.FrameOp.TheVariants as Op
use Rattle.frame_ir.specs.declared.forms.FrameEnd.{FrameEnd}
use Rattle.frame_ir.specs.declared.forms.FrameEnd.TheVariants as Last
use Rattle.layout_tables.specs.declared.requests.Request.TheVariants as For
use Rattle.frame_ir.specs.declared.forms.Template.{Template}
use Rattle.frame_ir.specs.Arguments.{code_of_global}
use Rattle.layout_relation.specs.Links.{Zipped}
use Rattle.layout_relation.specs.Contexts.{Return, Leaves, exit_of, CodeOf, MethodOf, Resumes, Begins, ArmOf, Start, IsUnneeded, IsFresh, Purpose}
use Rattle.layout_relation.specs.Laid.{Sketch, IsFor, numbers, AreDistinct, AreHeld, SameArg, Prepares, Awaits, Gives, LaysTerm, made_by, most_needs, variables}
use Rattle.layout_tables.specs.declared.tables.Tables.{Tables}
use Rattle.layout_tables.specs.declared.requests.Work.{Work}
use Rattle.layout_tables.specs.declared.lines.Line.{Line}
use Rattle.layout_tables.specs.declared.lines.Step.{Step}
use Rattle.layout_steps.specs.declared.frames.Waiting.{Waiting}
use Rattle.layout_tables.specs.Around.{Around}
use Rattle.layout_tables.specs.Additions.{Adds, bound_by}
use Rattle.frame_ir.specs.Parts.{arms_of}
use Rattle.layout_tables.specs.Sketches.{Scoped, Ever, Grows, Leads, lam_needs, sketch_of, context_at, context_of, exits_at, catches_of, needs_behind, is_celled, rank_of}

-- ---- closures and arguments

-- a new closure of a procedure
pub record MakesNew (w : Tables) (vars : Scoped) (old new : Work) (l : ℕ) (to : Var) (op : FrameOp) : Type 0 where
  pub code : ℕ
  pub kept : List Var
  pub is : op ≡ Op.Closure to code kept At.Heap
  pub lambda : nat_lt l w.first ≡ false
  pub holds : AreHeld vars (lam_needs w l) kept
  pub runs : Ever w new (λ v. IsFor v code (CodeOf l))
  pub grows : Grows w old new
  pub next : new.next ≡ old.next
  pub adds : Adds old new [] []

-- a global is there, and is a procedure or isn't
abbrev pub HasCode : Shared → ℕ → Bool → Type 0
HasCode shared g true = (code : ℕ) × (code_of_global shared g ≡ Some code)
HasCode shared g false = code_of_global shared g ≡ None

pub record IsGlobalKind (shared : Shared) (g : ℕ) (procedure : Bool) : Type 0 where
  pub there : g < length shared.globals.items
  pub code : HasCode shared g procedure

-- an argument that needs no operation, in every sketch
abbrev pub IsSameArg : Cps → Tables → Scoped → Arg → Arg → Type 0
IsSameArg cps w vars a b = (purposes : List Purpose) (templates : List Template) → SameArg cps (sketch_of w purposes templates) vars a b

-- arguments are made ready by operations behind others
pub record IsPrepared (cps : Cps) (w : Tables) (vars : Scoped) (old new : Work) (args : List Arg) (before after : List FrameOp) (bs : List Arg) : Type 0 where
  pub made : List FrameOp
  pub ops : after ≡ before ++ made
  pub grows : Grows w old new
  pub adds : Adds old new (bound_by made) []
  pub from : AllByRecursion (λ y. old.next ≤ y) (made_by made)
  pub below : AllByRecursion (λ y. y < new.next) (made_by made)
  pub prepares : Ever w new (λ v. Prepares cps v vars args made bs)

-- the codes of methods of an object that keeps these variables
pub record AreMethods (old new : Work) (methods : List ℕ) (needs : List Var) (codes : List ℕ) : Type 0 where
  pub grows : (w : Tables) → Grows w old new
  pub adds : Adds old new [] []
  pub next : new.next ≡ old.next
  pub run : (w : Tables) → Ever w new (λ v. Zipped (λ l code. IsFor v code (MethodOf l (numbers needs))) methods codes)

-- ---- frames

-- a continuation that leads out of the procedure where no CATCH is open
pub record IsTail (a : Around) (k : Cont) (j : Var) : Type 0 where
  pub is : k ≡ Continuation.Var j
  pub leaves : (w : Tables) → exit_of (exits_at w a) j.0 ≡ Leaves
  pub catches : a.catches ≡ []

-- the frame of a continuation with this parameter and body
abbrev pub return_of : Tables → Around → Var → ℕ → Return
return_of w a param body = record { kept = needs_behind w param body; param = param.0; body = body; exits = exits_at w a; catches = catches_of a }

pub record IsFrame (w : Tables) (vars : Scoped) (a : Around) (old new : Work) (param : Var) (body : ℕ) (frame : Waiting) : Type 0 where
  pub runs : Ever w new (λ v. IsFor v frame.back (Resumes (return_of w a param body)))
  pub holds : AreHeld vars (needs_behind w param body) frame.kept
  pub once : AreDistinct (numbers frame.kept)
  pub grows : Grows w old new
  pub next : new.next ≡ old.next
  pub adds : Adds old new [] []

-- the frame of a continuation that waits
pub record IsAwaited (w : Tables) (vars : Scoped) (a : Around) (old new : Work) (k : Cont) (frame : Waiting) : Type 0 where
  pub return : Return
  pub awaits : Awaits (context_at w vars a) k return
  pub runs : Ever w new (λ v. IsFor v frame.back (Resumes return))
  pub holds : AreHeld vars return.kept frame.kept
  pub once : AreDistinct (numbers frame.kept)
  pub grows : Grows w old new
  pub next : new.next ≡ old.next
  pub adds : Adds old new [] []

-- ---- what goes on

pub record Ends (w : Tables) (old new : Work) (last : FrameEnd) (P : Sketch → Type 0) : Type 0 where
  pub grows : Grows w old new
  pub next : new.next ≡ old.next
  pub adds : Adds old new [] (arms_of last)
  pub ever : Ever w new P

-- where the variables are held that are needed behind a continuation, which is known at a site
pub record Arrives (cps : Cps) (w : Tables) (vars : Scoped) (a : Around) (param : Var) (body : ℕ) (ats : List Var) : Type 0 where
  pub held : AreHeld vars (needs_behind w param body) ats
  pub plain : is_celled w param.0 ≡ false
  pub unneeded : IsUnneeded (exits_at w a) param.0
  pub few : length ats ≤ most_needs cps

abbrev pub IsAskedFor : Work → ℕ → List Var → Around → ℕ → Type 0
IsAskedFor k block vars a term = slice_get k.requests.items block ≡ Some (For.Begins vars a term)

-- the block that begins behind a continuation
abbrev pub start_of : Tables → Around → Var → ℕ → Start
start_of w a param body = record { vars = param.0 ∷ needs_behind w param body; exits = exits_at w a; catches = catches_of a; term = body }

pub record IsJumpTo (cps : Cps) (w : Tables) (k : Work) (vars : Scoped) (a : Around) (block : ℕ) (param : Var) (body : ℕ) (value : Arg) (last : FrameEnd) : Type 0 where
  pub ats : List Var
  pub is : last ≡ Last.Jump block (value ∷ variables ats)
  pub arrives : Arrives cps w vars a param body ats
  pub begins : Ever w k (λ v. IsFor v block (Begins (start_of w a param body)))

pub record IsNewJump (cps : Cps) (w : Tables) (old new : Work) (vars : Scoped) (a : Around) (param : Var) (body : ℕ) (value : Arg) (last : FrameEnd) : Type 0 where
  pub block : ℕ
  pub jumps : IsJumpTo cps w new vars a block param body value last
  pub grows : Grows w old new
  pub next : new.next ≡ old.next
  pub adds : Adds old new [] []

pub record IsGiven (cps : Cps) (w : Tables) (k : Work) (vars : Scoped) (a : Around) (j : Var) (value : Arg) (last : FrameEnd) : Type 0 where
  pub ever : Ever w k (λ v. (t : ℕ) → Gives cps v (context_at w vars a) t (Continuation.Var j) value [] last)
  pub tests_nothing : arms_of last ≡ []

abbrev pub held_also : Var → Option Var → Scoped → Scoped
held_also param None vars = vars
held_also param (Some at) vars = (param.0, at.0) ∷ vars

pub record MayGoOn (w : Tables) (line : Line) (t : ℕ) (param : Var) (body : ℕ) : Type 0 where
  pub fresh : IsFresh (context_of w line) param.0
  pub plain : is_celled w param.0 ≡ false
  pub lower : rank_of w body < rank_of w t

-- a term is laid out by more operations, and by what the step leads to
pub record IsLaid (cps : Cps) (w : Tables) (old new : Work) (before after : Line) (t : ℕ) (term : Term) (step : Step) : Type 0 where
  pub made : List FrameOp
  pub ops : after.ops.items ≡ before.ops.items ++ made
  pub leads : Leads w cps old new (bound_by made) after (λ v ops last. LaysTerm cps v (context_of w before) t term (made ++ ops) last) step

-- an arm of an If
abbrev pub IsArm : Work → Work → Scoped → Around → ℕ → ℕ → Type 0
IsArm old new vars a t block = Adds old new [] (block ∷ []) × ((w : Tables) → (Grows w old new × (new.next ≡ old.next)) × Ever w new (λ v. IsFor v block (ArmOf (context_at w vars a) t)))
