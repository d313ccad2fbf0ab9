-- Requests for blocks as purposes of blocks, and what holds however many more requests come.
use Rattle.std.specs.Prelude.{◌≡◌, ℕ, zero, suc, ◌+◌, ◌<◌, ◌≤◌, ◌==◌, Bool, false, not, List, [], ◌∷◌, length, map, filter, drop, Option, Some, None, slice_get, if◌then◌else◌}
use Rattle.std.specs.Option.{option_map_or}
use Rattle.std.specs.List.{AllByRecursion}
use Rattle.t_base.specs.declared.basics.Var.{Var}
use Rattle.cps_ir.specs.declared.terms.Cps.{Cps}
use Rattle.cps_ir.specs.Parts.{first_lams}
use Rattle.frame_ir.specs.declared.forms.FrameOp.{FrameOp}
use Rattle.frame_ir.specs.declared.forms.FrameEnd.{FrameEnd}
use Rattle.frame_ir.specs.declared.forms.Template.{Template}
use Rattle.cps_walk.specs.Marked.{is_marked}
use Rattle.layout_relation.specs.Contexts.{Catching, Bare, Framed, Meeting, Exits, NoExit, OwnExit, JoinExit, Leaves, Meets, exit_of, Context, Purpose, CodeOf, MethodOf, Begins, ArmOf, PassesOn, Resumes}
use Rattle.layout_relation.specs.Laid.{Sketch, numbers, Lays}
use Rattle.layout_tables.specs.declared.tables.Tables.{Tables}
use Rattle.layout_tables.specs.declared.sites.Join.{Join}
use Rattle.layout_tables.specs.declared.sites.Opened.{Opened}
use Rattle.layout_tables.specs.declared.sites.Opened.TheVariants as Catch
use Rattle.layout_tables.specs.declared.sites.Way.{Way}
use Rattle.layout_tables.specs.declared.sites.Way.TheVariants as To
use Rattle.layout_tables.specs.declared.requests.Request.{Request}
use Rattle.layout_tables.specs.declared.requests.Request.TheVariants as For
use Rattle.layout_tables.specs.declared.requests.Work.{Work}
use Rattle.layout_tables.specs.declared.lines.Line.{Line}
use Rattle.layout_tables.specs.declared.lines.Step.{Step}
use Rattle.layout_tables.specs.declared.lines.Step.TheVariants.{Next, Done}
use Rattle.layout_tables.specs.Around.{Around}
use Rattle.layout_tables.specs.Additions.{Adds, arms_by}

-- ---- tables

abbrev pub vars_at : List (List Var) → ℕ → List ℕ
vars_at table k = option_map_or numbers (slice_get table k) []

-- what a procedure needs of the scope of its closure
abbrev pub lam_needs : Tables → ℕ → List ℕ
lam_needs w l = vars_at w.lams.items l

-- what the term at a place needs, and what is needed behind a parameter that is bound to a value
abbrev pub term_needs : Tables → ℕ → List ℕ
term_needs w t = vars_at w.needs.items t

abbrev pub needs_behind : Tables → Var → ℕ → List ℕ
needs_behind w param body = filter (λ x. not (x == param.0)) (term_needs w body)

abbrev pub rank_of : Tables → ℕ → ℕ
rank_of w t = option_map_or (λ n. n) (slice_get w.ranks.items t) 0

abbrev pub is_celled : Tables → ℕ → Bool
is_celled w x = is_marked w.cells.items x

-- ---- continuations and CATCHes

abbrev pub meeting_of : Tables → Join → Meeting
meeting_of w j = record { k = j.k.0; param = j.param.0; body = j.body; block = j.block; needs = needs_behind w j.param j.body }

abbrev pub outermost : Option Var → Exits
outermost None = NoExit
outermost (Some k) = OwnExit k.0

abbrev pub exits_of : Tables → List Join → Option Var → Exits
exits_of w [] own = outermost own
exits_of w (j ∷ joins) own = JoinExit (meeting_of w j) (exits_of w joins own)

abbrev pub catching_of : Opened → Catching
catching_of Catch.Bare = Bare
catching_of Catch.Framed = Framed

abbrev pub catches_of : Around → List Catching
catches_of a = map catching_of a.catches

abbrev pub exits_at : Tables → Around → Exits
exits_at w a = exits_of w a.joins a.own

-- where a continuation leads
abbrev pub IsWay : Tables → Around → Var → Way → Type 0
IsWay w a k To.Leaves = exit_of (exits_at w a) k.0 ≡ Leaves
IsWay w a k (To.Meets join place) = exit_of (exits_at w a) k.0 ≡ Meets (meeting_of w join) (exits_of w (drop (place + 1) a.joins) a.own)
IsWay w a k To.Nowhere = Unit {0}

abbrev pub IsPlaced : Around → Way → Type 0
IsPlaced a (To.Meets join place) = place < length a.joins
IsPlaced a _ = Unit {0}

abbrev pub way_out : Option Var → Var → Way
way_out None k = To.Nowhere
way_out (Some own) k = if own.0 == k.0 then To.Leaves else To.Nowhere

-- ---- what is held

abbrev pub Scoped : Type 0
Scoped = List (ℕ × ℕ)

abbrev pub IsNotHeld : Scoped → ℕ → Type 0
IsNotHeld vars x = AllByRecursion (λ p. (p.0 == x) ≡ false) vars

-- each variable of the frames that is used so far is below a number
abbrev pub AreBelow : ℕ → Scoped → Type 0
AreBelow n vars = AllByRecursion (λ p. p.1 < n) vars

abbrev pub context_at : Tables → Scoped → Around → Context
context_at w vars a = record { vars = vars; exits = exits_at w a; catches = catches_of a }

abbrev pub context_of : Tables → Line → Context
context_of w line = context_at w line.scope line.site

-- so many numbers from one on
abbrev pub counted : ℕ → ℕ → List ℕ
counted n zero = []
counted n (suc k) = n ∷ counted (suc n) k

-- ---- requests

abbrev pub purpose_of : Tables → Request → Purpose
purpose_of w (For.CodeOf l) = CodeOf l
purpose_of w (For.MethodOf l kept) = MethodOf l (numbers kept)
purpose_of w (For.Begins vars site term) = Begins (record { vars = numbers vars; exits = exits_at w site; catches = catches_of site; term = term })
purpose_of w (For.ArmOf vars site term) = ArmOf (context_at w vars site) term
purpose_of w For.PassesOn = PassesOn
purpose_of w (For.Resumes param body site join) = Resumes (record { kept = needs_behind w param body; param = param.0; body = body; exits = exits_at w site; catches = catches_of site })

abbrev pub purposes_of : Tables → List Request → List Purpose
purposes_of w requests = map (purpose_of w) requests

abbrev pub sketch_of : Tables → List Purpose → List Template → Sketch
sketch_of w purposes templates = record { purposes = purposes; needs = lam_needs w; celled = is_celled w; rank = rank_of w; templates = templates }

-- what is there stays there
abbrev pub IsFront : {X : Type 0} → List X → List X → Type 0
IsFront {X} xs ys = (k : ℕ) (x : X) → slice_get xs k ≡ Some x → slice_get ys k ≡ Some x

-- what holds of every sketch with these requests and templates, and maybe more
abbrev pub Ever : Tables → Work → (Sketch → Type 0) → Type 0
Ever w k P = (purposes : List Purpose) (templates : List Template) → IsFront (purposes_of w k.requests.items) purposes → IsFront k.templates.items templates → P (sketch_of w purposes templates)

-- more is requested
pub record Grows (w : Tables) (old new : Work) : Type 0 where
  pub requests : IsFront (purposes_of w old.requests.items) (purposes_of w new.requests.items)
  pub templates : IsFront old.templates.items new.templates.items
  pub next : old.next ≤ new.next

-- ---- steps

-- A line of operations that goes on with a term, or is done: whatever lays out that term there, `P` holds of the operations behind it.
abbrev pub Reaches : Tables → Cps → Work → Line → (Sketch → List FrameOp → FrameEnd → Type 0) → Step → Type 0
Reaches w cps k line P (Next t) = Ever w k (λ v. (ops : List FrameOp) (last : FrameEnd) → Lays cps v (context_of w line) t ops last → P v ops last)
Reaches w cps k line P (Done last) = Ever w k (λ v. P v [] last)

-- `binds` are the variables that are bound on the way
pub record Leads (w : Tables) (cps : Cps) (old new : Work) (binds : List ℕ) (line : Line) (P : Sketch → List FrameOp → FrameEnd → Type 0) (step : Step) : Type 0 where
  pub grows : Grows w old new
  pub adds : Adds old new binds (arms_by step)
  pub below : AreBelow new.next line.scope
  pub reaches : Reaches w cps new line P step

-- which procedures stand first is known
abbrev pub KnowsFirst : Cps → Tables → Type 0
KnowsFirst cps w = w.first ≡ first_lams cps

abbrev pub NeedsAreSmall : Cps → Tables → Type 0
NeedsAreSmall cps w = (l : ℕ) → length (lam_needs w l) ≤ cps.shared.size
