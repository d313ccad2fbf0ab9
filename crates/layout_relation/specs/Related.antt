-- Where a run of a program and a run of its frames stand alike: things by identity and address, records that never change, and what waits
-- against the live frames.
use Rattle.std.specs.Prelude.{◌<◌, true, None, ◌≡◌, ℕ, ◌≤◌, false, List, [], ◌∷◌, length, map, Option, Some, slice_get}
use Rattle.std.specs.Option.{option_map}
use Rattle.std.specs.List.{AllZip}
use Rattle.program_runs.specs.Runs.{End}
use Rattle.t_prim.specs.Values.{Val, ClosureV, ObjectV, Store}
use Rattle.cps_ir.specs.declared.terms.Cps.{Cps}
use Rattle.cps_ir.specs.States.{Live, Meant, Bound, Joined, Begun, Scope, Closure, Handler, Object, Pending, Waiting, Back, Control, At, Calling, Looking, Entering, Ended, State}
use Rattle.cps_ir.specs.Giving.{meant_by}
use Rattle.frame_ir.specs.declared.forms.FrameOp.{FrameOp}
use Rattle.frame_ir.specs.declared.forms.FrameEnd.{FrameEnd}
use Rattle.frame_ir.specs.Values.{Value, Lasting, Frame, Env, value_at, Closure as FrameClosure, Object as FrameObject}
use Rattle.frame_ir.specs.States.{Doing, Running, Calling as CallingAt, Looking as LookingAt, Entering as EnteringAt, end_of, State as FrameState}
use Rattle.frame_ir.specs.Arguments.{code_of_global}
use Rattle.frame_ir.specs.Calls.{methods_of}
use Rattle.layout_relation.specs.Links.{IsIn, Zipped, SameOption, IsTied, Links, AreOneToOne, SameVal, SameMeant, SameStore}
use Rattle.layout_relation.specs.Contexts.{Bare, Framed, PassesOn, Meeting, Exits, NoExit, OwnExit, JoinExit, IsUnneeded, Context, Catching, Return, CodeOf, MethodOf, Resumes}
use Rattle.layout_relation.specs.Laid.{Sketch, IsFor, Lays}

-- ---- scopes

-- the continuations of the scope are those that are known, and what is bound behind a Join isn't needed there
pub data Leads : Scope → Exits → Type 0 where
  leads_none : (scope : Scope) → Leads scope NoExit
  leads_own : (k : ℕ) (scope : Scope) → Leads (Begun k ∷ scope) (OwnExit k)
  leads_join : (m : Meeting) (scope : Scope) (rest : Exits) → Leads scope rest → Leads (Joined m.k m.param m.body ∷ scope) (JoinExit m rest)
  leads_bound : (x : ℕ) (meant : Meant) (scope : Scope) (exits : Exits) → IsUnneeded exits x → Leads scope exits → Leads (Bound x meant ∷ scope) exits

-- a variable, and that of the frames that holds what it stands for
pub record Holds (w : Sketch) (links : Links) (scope : Scope) (env : Env) (x y : ℕ) : Type 0 where
  pub meant : Meant
  pub value : Value
  pub is : meant_by scope x ≡ Some meant
  pub at : value_at env y ≡ Some value
  pub same : SameMeant links (w.celled x) meant value

abbrev pub HoldAll : Sketch → Links → Scope → Env → List (ℕ × ℕ) → Type 0
HoldAll w links scope env vars = (x y : ℕ) → IsIn (x, y) vars → Holds w links scope env x y

-- a variable, and a value that was captured or kept of it
pub record IsCaptured (w : Sketch) (links : Links) (scope : Scope) (x : ℕ) (v : Value) : Type 0 where
  pub meant : Meant
  pub is : meant_by scope x ≡ Some meant
  pub same : SameMeant links (w.celled x) meant v

abbrev pub AreCaptured : Sketch → Links → Scope → List ℕ → List Value → Type 0
AreCaptured w links scope xs vs = Zipped (IsCaptured w links scope) xs vs

-- ---- records

-- a closure, and the record at its address: the code of its procedure, and what this needs
pub record SameClosure (w : Sketch) (links : Links) (c : Closure) (r : FrameClosure) : Type 0 where
  pub runs : IsFor w r.code (CodeOf c.lam)
  pub captured : AreCaptured w links c.scope (w.needs c.lam) r.captured

pub record ClosuresAt (w : Sketch) (links : Links) (cs : List Closure) (rs : List FrameClosure) (i j : ℕ) : Type 0 where
  pub left : Closure
  pub right : FrameClosure
  pub is : slice_get cs i ≡ Some left
  pub at : slice_get rs j ≡ Some right
  pub same : SameClosure w links left right

-- ---- what waits

-- a continuation, and the frame that keeps what it needs
pub record SameFrame (w : Sketch) (links : Links) (frames : List Frame) (pending : Pending) (birth : ℕ) (r : Return) : Type 0 where
  pub frame : Frame
  pub is : slice_get frames birth ≡ Some frame
  pub push : frame.catch ≡ false
  pub back : IsFor w frame.back (Resumes r)
  pub param : pending.param ≡ r.param
  pub body : pending.body ≡ r.body
  pub leads : Leads pending.scope r.exits
  pub kept : AreCaptured w links pending.scope r.kept frame.kept

-- a catch, and its frame, which leads to this block
pub record SameCatch (links : Links) (frames : List Frame) (catch birth back : ℕ) : Type 0 where
  pub frame : Frame
  pub is : slice_get frames birth ≡ Some frame
  pub opened : frame.catch ≡ true
  pub back_is : frame.back ≡ back
  pub tied : IsTied links.escapes catch birth

-- under the open CATCHes of the running procedure, item by item
pub data Waits (w : Sketch) (links : Links) (frames : List Frame) : List Catching → List Waiting → List ℕ → Type 0 where
  waits_none : Waits w links frames [] [] []
  waits_back : (pending : Pending) (waiting : List Waiting) (birth : ℕ) (older : List ℕ) (r : Return) → SameFrame w links frames pending birth r → Waits w links frames r.catches waiting older
      → Waits w links frames [] (Back pending ∷ waiting) (birth ∷ older)
  waits_bare : (catch : ℕ) (waiting : List Waiting) (birth : ℕ) (older : List ℕ) (back : ℕ) → SameCatch links frames catch birth back → IsFor w back PassesOn → Waits w links frames [] waiting older
      → Waits w links frames (Bare ∷ []) (Live catch None ∷ waiting) (birth ∷ older)
  waits_framed : (catch : ℕ) (pending : Pending) (waiting : List Waiting) (birth push : ℕ) (older : List ℕ) (r : Return) (f : SameFrame w links frames pending push r) → SameCatch links frames catch birth f.frame.back → Waits w links frames r.catches waiting older
      → Waits w links frames (Framed ∷ r.catches) (Live catch (Some pending) ∷ waiting) (birth ∷ push ∷ older)

-- ---- objects

-- a method, and its code in the template
pub record SameHandler (w : Sketch) (links : Links) (captured : List Value) (kept : List ℕ) (h : Handler) (m : ℕ × ℕ) : Type 0 where
  pub op : h.op ≡ m.0
  pub runs : IsFor w m.1 (MethodOf h.closure.lam kept)
  pub holds : AreCaptured w links h.closure.scope kept captured

pub record SameObject (w : Sketch) (links : Links) (x : Object) (y : FrameObject) : Type 0 where
  pub procedure : SameVal links x.procedure y.procedure
  pub kept : List ℕ
  pub methods : List (ℕ × ℕ)
  pub template : option_map (λ t. methods_of t.ops t.codes) (slice_get w.templates y.template) ≡ Some methods
  pub handlers : Zipped (SameHandler w links y.captured kept) x.handlers methods

-- ---- states

-- what was made so far
pub record Parts : Type 0 where
  pub store : Store
  pub closures : List Closure
  pub globals : List (Option Val)
  pub locations : List Val
  pub objects : List Object
  pub catches : ℕ

abbrev pub parts_of : State → Parts
parts_of s = record { store = s.store; closures = s.closures; globals = s.globals; locations = s.locations; objects = s.objects; catches = s.catches }

pub record FrameParts : Type 0 where
  pub store : Store
  pub closures : List FrameClosure
  pub globals : List (Option Val)
  pub cells : List Val
  pub objects : List FrameObject
  pub frames : List Frame

abbrev pub parts_at : FrameState → FrameParts
parts_at t = record { store = t.store; closures = t.closures; globals = t.globals; cells = t.cells; objects = t.objects; frames = t.frames }

-- an escape, and the frame of its CATCH
pub record EscapeAt (catches : ℕ) (frames : List Frame) (i j : ℕ) : Type 0 where
  pub made : i < catches
  pub frame : Frame
  pub is : slice_get frames j ≡ Some frame
  pub opened : frame.catch ≡ true

pub record SameParts (cps : Cps) (w : Sketch) (links : Links) (s : Parts) (t : FrameParts) : Type 0 where
  pub one : AreOneToOne links
  pub store : SameStore links s.store t.store
  pub closures : (i j : ℕ) → IsTied links.closures i j → ClosuresAt w links s.closures t.closures i j
  pub globals : AllZip (SameOption (SameVal links)) s.globals t.globals
  pub count : length s.globals ≡ length cps.shared.globals.items
  -- the procedures of globals stay
  pub procedures : (g code : ℕ) → code_of_global cps.shared g ≡ Some code → (slice_get s.globals g ≡ Some (Some (ClosureV code))) × IsTied links.closures code code
  pub cells : AllZip (SameVal links) s.locations t.cells
  pub objects : AllZip (SameObject w links) s.objects t.objects
  pub located : links.cells ≤ length s.locations
  pub objected : links.objects ≤ length s.objects
  pub escapes : (i j : ℕ) → IsTied links.escapes i j → EscapeAt s.catches t.frames i j

abbrev pub SameMade : Cps → Sketch → Links → State → FrameState → Type 0
SameMade cps w links s t = SameParts cps w links (parts_of s) (parts_at t)

-- the first of some values is an object that captured these
pub record IsObjectFirst (objects : List FrameObject) (vs : List Val) (captured : List Value) : Type 0 where
  pub object : ℕ
  pub others : List Val
  pub found : FrameObject
  pub are : vs ≡ ObjectV object ∷ others
  pub is : slice_get objects object ≡ Some found
  pub holds : found.captured ≡ captured

-- methods are looked at of an object that comes first
pub data Handles (objects : List FrameObject) (vs : List Val) (captured : List Value) : List Handler → Type 0 where
  handles_none : Handles objects vs captured []
  handles : (hs : List Handler) → IsObjectFirst objects vs captured → Handles objects vs captured hs

-- what is done next
pub data SameDoing (cps : Cps) (w : Sketch) (links : Links) (frames : List Frame) (objects : List FrameObject) (waiting : List Waiting) (live : List ℕ) : Control → Doing → Type 0 where
  same_term : (c : Context) (t : ℕ) (scope : Scope) (ops : List FrameOp) (last : FrameEnd) (env : Env) → Lays cps w c t ops last → HoldAll w links scope env c.vars → Leads scope c.exits
      → Waits w links frames c.catches waiting live → SameDoing cps w links frames objects waiting live (At t scope) (Running ops last env)
  same_call : (f g : Val) (xs ys : List Val) → SameVal links f g → Zipped (SameVal links) xs ys → Waits w links frames [] waiting live
      → SameDoing cps w links frames objects waiting live (Calling f xs) (CallingAt (Lasting g) ys)
  same_look : (o : ℕ) (hs : List Handler) (ms : List (ℕ × ℕ)) (captured : List Value) (kept : List ℕ) (xs ys : List Val) → Zipped (SameHandler w links captured kept) hs ms → Handles objects ys captured hs → Zipped (SameVal links) xs ys → Waits w links frames [] waiting live
      → SameDoing cps w links frames objects waiting live (Looking o hs xs) (LookingAt o ms ys)
  same_entry : (c : Closure) (code : ℕ) (self : Val) (xs ys : List Val) → IsFor w code (CodeOf c.lam) → w.needs c.lam ≡ [] → Zipped (SameVal links) xs ys → Waits w links frames [] waiting live
      → SameDoing cps w links frames objects waiting live (Entering c xs) (EnteringAt code (Lasting self ∷ map Lasting ys))
  same_method : (c : Closure) (code : ℕ) (captured : List Value) (kept : List ℕ) (xs ys : List Val) → IsFor w code (MethodOf c.lam kept) → AreCaptured w links c.scope kept captured → IsObjectFirst objects ys captured → Zipped (SameVal links) xs ys
      → Waits w links frames [] waiting live → SameDoing cps w links frames objects waiting live (Entering c xs) (EnteringAt code (map Lasting ys))
  same_end : (e : End) (doing : Doing) → end_of doing ≡ Some e → SameDoing cps w links frames objects waiting live (Ended e) doing

pub record Related (cps : Cps) (w : Sketch) (s : State) (t : FrameState) : Type 0 where
  pub links : Links
  pub made : SameMade cps w links s t
  pub doing : SameDoing cps w links t.frames t.objects s.waiting t.live s.control t.doing
