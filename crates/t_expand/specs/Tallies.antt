-- How often things are named in what is made so far: each node, string and quoted pair once, and each variable is bound once at most.
use Rattle.std.specs.Prelude.{◌≡◌, ℕ, ◌+◌, ◌<◌, Bool, true, false, List, [], ◌∷◌, ◌++◌, map, length, All, Option, Some, None}
use Rattle.std.specs.List.{flat_map}
use Rattle.t_base.specs.declared.basics.Var.{Var}
use Rattle.t_base.specs.declared.shared_parts.Const.{Const}
use Rattle.t_base.specs.declared.shared_parts.Shared.{Shared}
use Rattle.t_prim.specs.SharedParts.{HasLowerParts}
use Rattle.t_core.specs.declared.forms.Core.{Core}
use Rattle.t_core.specs.declared.forms.Form.{Form}
use Rattle.t_core.specs.Nodes.{binders_of}
use Rattle.t_core.specs.Whole.{IsTree, pair_in, pair_of}
use Rattle.t_rows.specs.declared.rows.Shape.{Shape}
use Rattle.t_rows.specs.declared.rows.Shape.TheVariants as shape
use Rattle.expansion.specs.Counting.{Once, EachOnce, numbers}
use Rattle.expansion.specs.Lists.{numbered}
use Rattle.expansion.specs.Strings.{string_in, string_of}
use Rattle.expansion.specs.Trees.{Grown}
use Rattle.core_frames.specs.declared.build.Done.{Done}
use Rattle.core_frames.specs.declared.build.Fresh.{Fresh}
use Rattle.t_expand.specs.declared.driver_state.Expansion.{Expansion}
use Rattle.t_expand.specs.declared.quoted.Half.{Half}
use Rattle.t_expand.specs.declared.quoted.Half.TheVariants as half
use Rattle.t_expand.specs.declared.quoted.Quoting.{Quoting}
use Rattle.t_expand.specs.declared.quoted.Quoting.TheVariants as quoting
use Rattle.t_expand.specs.declared.unit_top.Rooted.{Rooted}
use Rattle.core_frames.specs.Building.{variables_of}
use Rattle.core_frames.specs.Frames.{Frame}

-- ---- strings and pairs

-- the places that the parts of pairs name
abbrev pub named_by_pairs : (Const → List ℕ) → List (Const × Const) → List ℕ
named_by_pairs at pairs = flat_map (λ p. at p.0 ++ at p.1) pairs

-- each string and each pair is named once, by these and by pairs, and pairs name only pairs below them
pub record AreNamed (strings pairs : List ℕ) (shared : Shared) : Type 0 where
  pub strings_once : EachOnce (length shared.strings.items) (strings ++ named_by_pairs string_in shared.pairs.items)
  pub pairs_once : EachOnce (length shared.pairs.items) (pairs ++ named_by_pairs pair_in shared.pairs.items)
  pub lower : HasLowerParts shared.pairs.items

-- ---- the constant under way

-- what a half of a pair names, and what is next
abbrev pub named_by_half : (Const → List ℕ) → Half → List ℕ
named_by_half at (half.Tail k) = []
named_by_half at (half.Head c) = at c

abbrev pub named_by_next : (Const → List ℕ) → Quoting → List ℕ
named_by_next at (quoting.Datum k) = []
named_by_next at (quoting.Made c) = at c

abbrev pub named_so_far : (Const → List ℕ) → List Half → Quoting → List ℕ
named_so_far at halves next = flat_map (named_by_half at) halves ++ named_by_next at next

-- each is named once, by these, by the constants that are made of a datum, and by pairs
abbrev pub AreNamedSoFar : List ℕ → List ℕ → List Half → Quoting → Shared → Type 0
AreNamedSoFar strings pairs halves next shared =
    AreNamed (strings ++ named_so_far string_in halves next) (pairs ++ named_so_far pair_in halves next) shared

-- ---- the form under way

-- the places of the parts that are done
abbrev pub places_done : List Done → List ℕ
places_done done = map (λ d. d.at) done

-- the variables around parts; those around the parts of LABELS are the same ones
abbrev pub variables_around : Shape → List Fresh → List Var
variables_around shape.Labels [] = []
variables_around shape.Labels (v ∷ vs) = variables_of v
variables_around _ vs = flat_map variables_of vs

abbrev pub fresh_done : List Done → List Fresh
fresh_done done = map (λ d. d.vars) done

-- LABELS binds the same variables around each part
abbrev pub binds_again : Shape → List Fresh → Bool
binds_again shape.Labels [] = false
binds_again shape.Labels (v ∷ vs) = true
binds_again _ vs = false

-- around a part behind these the variables are bound that are taken from the next one on, if any is taken
pub record Takes (old new : ℕ) (s : Shape) (done : List Fresh) (v : Fresh) : Type 0 where
  pub taken : ℕ
  pub next : new ≡ old + taken
  pub around : variables_around s (done ++ v ∷ []) ≡ variables_around s done ++ numbered old taken

-- the nodes that no node names yet, of the nodes under way
abbrev pub roots_of : List Frame → List ℕ
roots_of frames = flat_map (λ f. places_done f.done) frames

-- the same where the node at a place is what they wait for
abbrev pub roots_back : List Frame → ℕ → List ℕ
roots_back waiting key = roots_of waiting ++ key ∷ []

-- the variables that are bound around parts of nodes that wait, and by no node yet
abbrev pub variables_waiting : List Frame → List Var
variables_waiting waiting = flat_map (λ w. variables_around w.state.shape (fresh_done w.done ++ w.state.bound ∷ [])) waiting

-- the same of the innermost node and those that wait
abbrev pub reserved : List Frame → List Var
reserved [] = []
reserved (f ∷ waiting) = variables_waiting waiting ++ variables_around f.state.shape (fresh_done f.done)

-- what the forms before this one bind and name
pub record Before : Type 0 where
  pub variables : List ℕ
  pub strings : List ℕ
  pub pairs : List ℕ

-- the nodes make trees with these roots; each variable is bound once, or reserved, below the next one; strings and pairs are named once
pub record IsTallied (before : Before) (e : Expansion) (roots : List ℕ) (held : List Var) : Type 0 where
  pub trees : Grown 0 e.nodes.nodes roots
  pub variables : Once 0 e.next (before.variables ++ numbers (flat_map binders_of e.nodes.nodes ++ held))
  pub named : AreNamed (before.strings ++ flat_map string_of e.nodes.nodes) (before.pairs ++ flat_map pair_of e.nodes.nodes) e.shared

-- the same, where nothing is refused
abbrev pub Tallied : Before → Expansion → List ℕ → List Var → Type 0
Tallied before e roots held = e.first ≡ None → IsTallied before e roots held

-- frames are under way, or the root is at a place
abbrev pub TalliedNext : Before → Expansion → List Frame → Option ℕ → Type 0
TalliedNext before e frames None = Tallied before e (roots_of frames) (reserved frames)
TalliedNext before e frames (Some root) = Tallied before e (root ∷ []) []

-- nothing is counted in between
pub record KeepsTally (old new : Expansion) : Type 0 where
  pub nodes : new.nodes ≡ old.nodes
  pub shared : new.shared ≡ old.shared
  pub next : new.next ≡ old.next
  pub first : new.first ≡ None → old.first ≡ None

-- ---- the forms of a unit

-- what the nodes of forms bind, or name
abbrev pub bound_by : List Form → List ℕ
bound_by forms = numbers (flat_map (λ form. flat_map binders_of form.nodes.items) forms)

abbrev pub named_by : (Core → List ℕ) → List Form → List ℕ
named_by of forms = flat_map (λ form. flat_map of form.nodes.items) forms

-- the nodes of each form make a tree; each variable is bound once, below the next one; strings and pairs are named once
pub record AreTallied (forms : List Form) (e : Expansion) : Type 0 where
  pub trees : All (λ (form : Form). 0 < length form.nodes.items → IsTree form.nodes.items form.root) forms
  pub variables : Once 0 e.next (bound_by forms)
  pub named : AreNamed (named_by string_of forms) (named_by pair_of forms) e.shared

-- the same of these forms and the nodes of one more, which isn't a form yet
pub record RootTallied (forms : List Form) (x : Rooted) (e : Expansion) : Type 0 where
  pub tree : 0 < length x.nodes.items → IsTree x.nodes.items x.root
  pub variables : Once 0 e.next (bound_by forms ++ numbers (flat_map binders_of x.nodes.items))
  pub named : AreNamed (named_by string_of forms ++ flat_map string_of x.nodes.items) (named_by pair_of forms ++ flat_map pair_of x.nodes.items) e.shared
