-- How the form under way stands in the form that is expanded, what is made of it, and what is still to be looked at.
use Rattle.std.specs.Prelude.{◌≡◌, ◌≢◌, ◌⊎◌, ℕ, Bool, false, List, [], ◌∷◌, ◌++◌, map, length, drop, AllPairs, Contains, Option, Some, None}
use Rattle.t_forms.specs.declared.arena.Cell.{Cell}
use Rattle.t_forms.specs.Data.{Datum, Name, span_of}
use Rattle.t_forms.specs.Names.{Scope, within}
use Rattle.t_forms.specs.Held.{Held, Around, vars_of, IsScope}
use Rattle.t_rows.specs.declared.refusal.Refusal.{Refusal}
use Rattle.t_rows.specs.declared.rows.Row.TheVariants as coded
use Rattle.t_rows.specs.Rows.{Shape, Part, row, node}
use Rattle.t_rows.specs.Given.{IsRow, IsShape, AreParts}
use Rattle.expansion.specs.Meaning.{Means, AllMean, Fits, Nodes}
use Rattle.expansion.specs.Strings.{string_of}
use Rattle.expansion.specs.Refusals.{Refused}
use Rattle.core_frames.specs.Building.{part_of, variables_of}
use Rattle.t_expand.specs.Expanding.{Grows, IsCovered, IsFirst}
use Rattle.t_base.specs.declared.basics.Var.{Var}
use Rattle.t_base.specs.declared.shared_parts.Shared.{Shared}
use Rattle.t_core.specs.declared.forms.Core.{Core}
use Rattle.t_core.specs.Nodes.{parts_of, places_of, binders_of}
use Rattle.t_core.specs.Whole.{pair_of}
use Rattle.t_expand.specs.Tallies.{AreNamed, places_done, variables_around, fresh_done}
use Rattle.core_frames.specs.declared.build.Done.{Done}
use Rattle.core_frames.specs.declared.build.Fresh.{Fresh}
use Rattle.core_frames.specs.declared.frames.NodeState.{NodeState}
use Rattle.t_expand.specs.declared.driver_state.Expansion.{Expansion}
use Rattle.core_frames.specs.Frames.{Frame}
use Rattle.t_expand.specs.declared.driver.NodeRow.{NodeRow}

-- both stand for the same, and the same is refused in them
pub record SameForm (around : Scope) (d e : Datum) : Type 0 where
  pub means : (shared : Shared) (n : Nodes) (vars : List Var) (tail : Bool) (k : ℕ) → Means shared n vars around e tail k → Means shared n vars around d tail k
  pub into : (r : Refusal) → Refused around d r → Refused around e r
  pub back : (r : Refusal) → Refused around e r → Refused around d r

-- the form that is expanded, what is around it, and the first refusal before it
pub record Root : Type 0 where
  pub at : Around
  pub around : Scope
  pub form : Datum
  pub first : Option Refusal

-- a form that stands for a node, what is around it, and the parts of the node: those that are there before the rest, and the names that
-- are bound around the last of them
pub record Open : Type 0 where
  pub at : Around
  pub around : Scope
  pub form : Datum
  pub shape : Shape
  pub refusals : List Refusal
  pub before : List Part
  pub last : List Name
  pub after : List Part

-- the frame is the open form's, but for the parts that are left
pub record IsOpen (e : Expansion) (f : Frame) (o : Open) : Type 0 where
  pub scope : IsScope e.shared.names o.at o.around
  pub row_is : row o.around o.form ≡ node o.shape o.refusals (o.before ++ o.after)
  pub span : f.state.span ≡ span_of o.form
  pub shape : IsShape e.shared.names e.forms (vars_of o.at) f.state.shape o.shape
  pub refused : e.first ≡ None → o.refusals ≡ []
  pub made : e.first ≡ None → AllMean e.shared e.nodes (vars_of o.at) o.around o.before (map part_of f.done)

-- without the innermost bindings
abbrev pub without : ℕ → Around → Around
without count at = record { locals = drop count at.locals; table = at.table }

-- a place around which these names are bound to these variables, `outer` and `around` being what is around them
pub record Inside (names : List (List ℕ)) (at outer : Around) (around : Scope) (bound : List Name) (fresh : Fresh) : Type 0 where
  pub scope : IsScope names at (within around bound)
  pub vars : vars_of at ≡ variables_of fresh ++ vars_of outer
  pub count : length bound ≡ length (variables_of fresh)
  pub outside : without fresh.count at ≡ outer

-- the open form waits for its next part, which the inner form stands for; the parts that are left are those behind it
pub record WaitsFor (e : Expansion) (w : Frame) (o inner : Open) (tail : Bool) : Type 0 where
  pub now : Part
  pub rest : List Part
  pub after : o.after ≡ now ∷ rest
  pub left : AreParts e.shared.names e.forms now.binds w.left rest
  pub around : inner.around ≡ within o.around now.binds
  pub vars : vars_of inner.at ≡ variables_of w.state.bound ++ vars_of o.at
  pub count : length now.binds ≡ length (variables_of w.state.bound)
  pub outer : without w.state.bound.count inner.at ≡ o.at
  pub same : SameForm inner.around now.form inner.form
  pub tail_is : tail ≡ w.state.part_tail

-- the inner form stands in the root by the open forms that wait, the innermost first
abbrev pub Stacked : Expansion → Root → List Frame → Open → Bool → List Open → Type 0
Stacked e root [] inner tail [] = (inner.around ≡ root.around) × (inner.at ≡ root.at) × SameForm root.around root.form inner.form × (tail ≡ false)
Stacked e root (w ∷ waiting) inner tail (o ∷ others) = IsOpen e w o × WaitsFor e w o inner tail × Stacked e root waiting o w.state.tail others
Stacked e root _ inner tail _ = ⊥

-- ---- what is refused

-- it is refused in one of the parts
pub record Among (around : Scope) (parts : List Part) (r : Refusal) : Type 0 where
  pub part : Part
  pub has : Contains parts part
  pub refused : Refused (within around part.binds) part.form r

-- it is refused in a part behind those that are waited for
abbrev pub Behind : List Open → Refusal → Type 0
Behind [] r = ⊥
Behind (o ∷ others) r = Among o.around (drop 1 o.after) r ⊎ Behind others r

-- What is refused in the root stands in what is still to be looked at, or else the first refusal so far comes no later.
pub record Tracks (root : Root) (now : Option Refusal) (left : Refusal → Type 0) : Type 0 where
  pub known : (r : Refusal) → now ≡ Some r → (root.first ≡ Some r) ⊎ Refused root.around root.form r
  pub least : (r : Refusal) → Refused root.around root.form r → IsCovered now r ⊎ left r
  pub kept : (r : Refusal) → root.first ≡ Some r → IsCovered now r
  pub stands : (r : Refusal) → left r → Refused root.around root.form r

-- ---- states

abbrev pub left_under : Open → List Open → Refusal → Type 0
left_under top below r = Among top.around top.after r ⊎ Behind below r

-- the innermost frame is under way in the root, and others wait
pub record IsUnder (root : Root) (e : Expansion) (f : Frame) (waiting : List Frame) : Type 0 where
  pub top : Open
  pub below : List Open
  pub opened : IsOpen e f top
  pub left : AreParts e.shared.names e.forms top.last f.left top.after
  pub inside : Inside e.shared.names e.scope top.at top.around top.last f.state.bound
  pub stacked : Stacked e root waiting top f.state.tail below
  pub tracks : Tracks root e.first (left_under top below)

-- at least one frame is under way in the root, the innermost first
abbrev pub AreUnder : Root → Expansion → List Frame → Type 0
AreUnder root e [] = ⊥
AreUnder root e (f ∷ waiting) = IsUnder root e f waiting

-- the form that is waited for is looked at, and its node is at a place if nothing was refused
pub record IsBack (root : Root) (e : Expansion) (waiting : List Frame) (key : ℕ) : Type 0 where
  pub top : Open
  pub tail : Bool
  pub below : List Open
  pub scope : e.scope ≡ top.at
  pub around : IsScope e.shared.names top.at top.around
  pub made : e.first ≡ None → Means e.shared e.nodes (vars_of top.at) top.around top.form tail key
  pub stacked : Stacked e root waiting top tail below
  pub tracks : Tracks root e.first (Behind below)

-- the root is looked at
pub record IsEnd (root : Root) (e : Expansion) (key : ℕ) : Type 0 where
  pub scope : e.scope ≡ root.at
  pub made : e.first ≡ None → Means e.shared e.nodes (vars_of root.at) root.around root.form false key
  pub known : (r : Refusal) → e.first ≡ Some r → (root.first ≡ Some r) ⊎ Refused root.around root.form r
  pub least : (r : Refusal) → Refused root.around root.form r → IsCovered e.first r
  pub kept : (r : Refusal) → root.first ≡ Some r → IsCovered e.first r

-- frames are under way, or the root is at a place
abbrev pub IsNext : Root → Expansion → List Frame → Option ℕ → Type 0
IsNext root e frames None = AreUnder root e frames
IsNext root e frames (Some key) = IsEnd root e key

-- the node is the row of a form for which a form stands, and has its span
pub record Finds (names : List (List ℕ)) (cells : List Cell) (at : Around) (around : Scope) (d : Datum) (found : NodeRow) : Type 0 where
  pub form : Datum
  pub same : SameForm around d form
  pub span : found.span ≡ span_of form
  pub is : IsRow names cells (vars_of at) (coded.Node found.shape found.refusals found.parts) (row around form)

-- a form becomes a frame, its own refusals being noted
pub record Opens (old new : Expansion) (around : Scope) (d : Datum) (f : Frame) : Type 0 where
  pub top : Open
  pub opened : IsOpen new f top
  pub at : top.at ≡ old.scope
  pub around_is : top.around ≡ around
  pub before : top.before ≡ []
  pub last : top.last ≡ []
  pub left : AreParts new.shared.names new.forms [] f.left top.after
  pub bound : f.state.bound.count ≡ 0
  pub same : SameForm around d top.form
  pub first : IsFirst old.first top.refusals new.first

-- the form at a place becomes the innermost frame, in a tail place or not
pub record IsOpened (old new : Expansion) (before after : List Frame) (key : ℕ) (tail : Bool) : Type 0 where
  pub frame : Frame
  pub put : after ≡ frame ∷ before
  pub tail_is : frame.state.tail ≡ tail
  pub none_done : frame.done ≡ []
  pub opens : (d : Datum) (around : Scope) → AllPairs (λ a b. a ≢ b) old.shared.names → Held old.shared.names old.forms key d → IsScope old.shared.names old.scope around
      → Opens old new around d frame

-- a node is made at a place, of what is known of it and of the parts that are done
pub record NodeMade (old new : Expansion) (state : NodeState) (done : List Done) (key : ℕ) : Type 0 where
  pub core : Core
  pub nodes : new.nodes.nodes ≡ old.nodes.nodes ++ core ∷ []
  pub spans : new.nodes.spans ≡ old.nodes.spans ++ state.span ∷ []
  pub at : key ≡ length old.nodes.nodes
  pub span_at : key ≡ length old.nodes.spans
  pub parts : parts_of core state.tail ≡ map part_of done
  pub fits : (vars : List Var) (s : Shape) → IsShape old.shared.names old.forms vars state.shape s → Fits new.shared vars state.tail s core
  pub places : places_of core ≡ places_done done
  pub binders : binders_of core ≡ variables_around state.shape (fresh_done done)
  pub named : (strings pairs : List ℕ) → AreNamed strings pairs old.shared → AreNamed (strings ++ string_of core) (pairs ++ pair_of core) new.shared

-- the names around the parts are no longer bound, and the node is made if nothing was refused
pub record IsMade (old new : Expansion) (state : NodeState) (done : List Done) (key : ℕ) : Type 0 where
  pub scope : new.scope ≡ without state.bound.count old.scope
  pub first : new.first ≡ old.first
  pub next : new.next ≡ old.next
  pub grows : Grows old new
  pub node : new.first ≡ None → NodeMade old new state done key
