-- The nodes of a text that is read, and what they stand for.
use Rattle.std.specs.Prelude.{◌≡◌, ◌≢◌, ℕ, ◌+◌, ◌*◌, ◌-◌, nat_lt, if◌then◌else◌, IsTrue, List, [], ◌∷◌, ◌++◌, length, take, fold, vec_len, Option, Some, None, Result, Ok, Err, slice_get, codes, AllPairs}
use Rattle.std.specs.List.{flat_map, list_all, list_any, sum_by}
use Rattle.std.specs.Str.{bytes_eq}
use Rattle.t_base.specs.Texts.{with_text}
use Rattle.t_reader.specs.declared.fault.ReadKind.{ReadKind}
use Rattle.t_reader.specs.declared.fault.ReadKind.TheVariants.{LoneDot, ExtraClose}
use Rattle.t_reader.specs.declared.fault.ReadFault.{ReadFault}
use Rattle.t_reader.specs.declared.fault.ReadFault.TheVariants as faults
use Rattle.t_base.specs.declared.basics.Span.{Span}
use Rattle.t_reader.specs.declared.build.Build.{Build}
use Rattle.t_reader.specs.declared.build.Frame.{Frame}
use Rattle.t_reader.specs.declared.build.Frame.TheVariants as frame
use Rattle.t_reader.specs.declared.build.Tail.{Tail}
use Rattle.t_reader.specs.declared.build.Tail.TheVariants as tails
use Rattle.t_reader.specs.declared.unit.Datum.{Datum}
use Rattle.t_reader.specs.declared.unit.Node.{Node}
use Rattle.t_reader.specs.Grammar.{nil, symbol, Tree, leaf, pair, Form, Forms, none, more, tree, chain, Before, outside, in_list, after_dot, after_tail, after_mark, TakesDatum, IsSound, span_of}
use Rattle.t_reader.specs.Steps.{put}
use Rattle.t_reader.specs.Tokens.{is_name}
use Rattle.t_reader.specs.Unit.{node, Holds, IsWholeDatum, named_by, count_of, string_bytes, symbols_by}
use Rattle.t_reader.specs.declared.token.Atom.{Atom}
use Rattle.t_reader.specs.declared.token.Word.TheVariants as word

-- A token adds at most 5 to it.
abbrev pub weight : Build → ℕ
weight b = length b.names + vec_len b.nodes + 2 * vec_len b.items + 3 * vec_len b.frames

-- ---- what stands before a token

-- the nodes stand for the forms, one after another
abbrev pub HoldAll : List ℕ → List (List ℕ) → List Node → List ℕ → Forms → Type 0
HoldAll text names nodes keys none = keys ≡ []
HoldAll text names nodes keys (more fs f) =
    (front : List ℕ) × (key : ℕ) × (keys ≡ front ++ key ∷ []) × HoldAll text names nodes front fs × Holds names nodes key (tree text f)

-- the last frame is a list: its items come after those of what stands before it
pub record InList (outer : List ℕ → List Frame → Type 0) (own : List ℕ → Type 0) (open_ : Span) (t : Tail) (items : List ℕ) (frames : List Frame) : Type 0 where
  pub below : List ℕ
  pub mine : List ℕ
  pub lower : List Frame
  pub items_are : items ≡ below ++ mine
  pub frames_are : frames ≡ lower ++ frame.List open_ (length below) t ∷ []
  pub outer_stands : outer below lower
  pub own_stand : own mine

-- the last frame is a quote mark
pub record Waits (outer : List Frame → Type 0) (word_stands : ℕ → Type 0) (mark : Span) (frames : List Frame) : Type 0 where
  pub lower : List Frame
  pub word_node : ℕ
  pub frames_are : frames ≡ lower ++ frame.Quote mark word_node ∷ []
  pub outer_stands : outer lower
  pub word_is : word_stands word_node

-- the items and the frames are those of what stands before a place
abbrev pub Stands : List ℕ → List (List ℕ) → List Node → Before → List ℕ → List Frame → Type 0
Stands text names nodes (outside fs) items frames = (frames ≡ []) × HoldAll text names nodes items fs
Stands text names nodes (in_list b open_ fs) items frames =
    InList (Stands text names nodes b) (λ own. HoldAll text names nodes own fs) open_ tails.Nothing items frames
Stands text names nodes (after_dot b open_ fs f dot) items frames =
    InList (Stands text names nodes b) (λ own. HoldAll text names nodes own (more fs f)) open_ tails.Dot items frames
Stands text names nodes (after_tail b open_ fs f dot t) items frames =
    InList (Stands text names nodes b) (λ own. HoldAll text names nodes own (more (more fs f) t)) open_ tails.Datum items frames
Stands text names nodes (after_mark b mark) items frames =
    Waits (Stands text names nodes b items) (λ key. Holds names nodes key (leaf mark (symbol (codes "quote")))) mark frames

-- what was there is there
pub record Grows (old new : Build) : Type 0 where
  pub names_stay : (k : ℕ) (bytes : List ℕ) → slice_get old.names k ≡ Some bytes → slice_get new.names k ≡ Some bytes
  pub nodes_stay : (k : ℕ) (n : Node) → slice_get old.nodes.items k ≡ Some n → slice_get new.nodes.items k ≡ Some n

abbrev pub Reached : List ℕ → Before → Build → Type 0
Reached text b build = Stands text build.names build.nodes.items b build.items.items build.frames.items

abbrev pub HasTree : Build → ℕ → Tree → Type 0
HasTree build key t = Holds build.names build.nodes.items key t

-- all but the nodes stays
pub record KeepsRest (old new : Build) : Type 0 where
  pub names_same : new.names ≡ old.names
  pub items_same : new.items.items ≡ old.items.items
  pub frames_same : new.frames.items ≡ old.frames.items

-- (w t), with one span
abbrev pub quoted_as : Span → Tree → Tree → Tree
quoted_as s w t = pair s w (pair s t (leaf s nil))

-- a node of the datum was added, and nothing else
pub record AddsNode (old new : Build) (key : ℕ) (s : Span) (d : Datum) : Type 0 where
  pub place : key ≡ length old.nodes.items
  pub nodes_are : new.nodes.items ≡ old.nodes.items ++ node s d ∷ []
  pub rest_same : KeepsRest old new

-- all but the names stays
pub record KeepsNodes (old new : Build) : Type 0 where
  pub nodes_same : new.nodes.items ≡ old.nodes.items
  pub items_same : new.items.items ≡ old.items.items
  pub frames_same : new.frames.items ≡ old.frames.items

abbrev pub last_frame : List Frame → Option Frame
last_frame fs = slice_get fs (length fs - 1)

-- a dot's datum has come, where the last frame is a list behind its dot
abbrev pub ended : Option Frame → List Frame → List Frame
ended (Some (frame.List open_ first tails.Dot)) fs = take (length fs - 1) fs ++ frame.List open_ first tails.Datum ∷ []
ended _ fs = fs

abbrev pub tail_ended : List Frame → List Frame
tail_ended fs = ended (last_frame fs) fs

-- all but the frames stays
pub record KeepsBelow (old new : Build) : Type 0 where
  pub names_same : new.names ≡ old.names
  pub nodes_same : new.nodes.items ≡ old.nodes.items
  pub items_same : new.items.items ≡ old.items.items

-- the node is a datum that has ended, which leads to the target
pub record Delivers (text : List ℕ) (target : Before) (build : Build) (key end : ℕ) : Type 0 where
  pub before : Before
  pub form : Form
  pub reached : Reached text before build
  pub takes : TakesDatum before
  pub sound : IsSound before
  pub held : HasTree build key (tree text form)
  pub end_is : (span_of (tree text form)).end ≡ end
  pub leads : put before form ≡ target

-- the items behind `below`, with what stands behind them, make the tree t
pub record Chains (text : List ℕ) (s : Span) (below : List ℕ) (first : ℕ) (t : Tree) (build : Build) (key : ℕ) : Type 0 where
  pub mine : List ℕ
  pub forms : Forms
  pub last : Tree
  pub first_is : length below ≡ first
  pub items_are : build.items.items ≡ below ++ mine
  pub items_hold : HoldAll text build.names build.nodes.items mine forms
  pub last_held : HasTree build key last
  pub tree_is : chain text s forms last ≡ t

-- what a token that begins a datum breaks behind the last frame
abbrev pub datum_fault_of : Option Frame → Option ReadKind
datum_fault_of (Some (frame.List open_ first tails.Datum)) = Some LoneDot
datum_fault_of _ = None

-- what a closing parenthesis breaks behind the last frame
abbrev pub close_fault_of : Option Frame → Option ReadKind
close_fault_of (Some (frame.List open_ first tails.Dot)) = Some LoneDot
close_fault_of (Some (frame.List open_ first t)) = None
close_fault_of _ = Some ExtraClose

-- Ok where there is no fault, and else that fault, unless memory ran out
abbrev pub Answers : {A : Type 0} → Option ReadFault → Type 0 → Result A ReadFault → Type 0
Answers f P (Ok x) = (f ≡ None) × P
Answers f P (Err faults.Memory) = Unit {0}
Answers f P (Err (faults.Fault k s)) = f ≡ Some (faults.Fault k s)

-- ---- what keeps the unit whole

abbrev pub word_of : Frame → List ℕ
word_of (frame.Quote mark word) = word ∷ []
word_of _ = []

-- 1 for a place that there is
abbrev pub present : ℕ → ℕ → ℕ
present k count = if nat_lt k count then 1 else 0

-- Each node is named once: by `hand`, which no field has yet, as an item, by a quote mark or by a pair.
pub record IsWell (hand : List ℕ) (b : Build) : Type 0 where
  pub once : (k : ℕ) → count_of k hand + (count_of k b.items.items + (count_of k (flat_map word_of b.frames.items) + count_of k (named_by b.nodes.items))) ≡ present k (length b.nodes.items)
  pub data_whole : (k : ℕ) (n : Node) → slice_get b.nodes.items k ≡ Some n → IsWholeDatum b.names k n.datum
  pub names_whole : IsTrue (list_all is_name b.names)
  pub names_distinct : AllPairs (λ x y. x ≢ y) b.names

-- what the symbol of a quote mark would add
abbrev pub spare : List (List ℕ) → ℕ
spare names = if list_any (bytes_eq (codes "quote")) names then 0 else 5

-- the bytes of names and strings
abbrev pub bulk : Build → ℕ
bulk b = sum_by length b.names + spare b.names + string_bytes b.nodes.items

-- the names with the symbol of an atom
abbrev pub names_with : List (List ℕ) → Atom → List ℕ → List (List ℕ)
names_with names a bytes = fold with_text names (symbols_by (word.Atom a) bytes)
